-- A polynomial kept by fewer residues.
use Rattle.std.specs.Prelude.{ℕ, Bool, if◌then◌else◌, [], ◌++◌, take, drop}
use Rattle.residue_rows.specs.Kept.{Residues}

-- the rows of the first moduli of the chain, and those of the special moduli or none
abbrev pub restricted : Residues → ℕ → Bool → Residues
restricted a chain_rows special = record {
  tables = a.tables;
  chain_rows = chain_rows;
  special = special;
  rows = take chain_rows a.rows ++ (if special then drop a.chain_rows a.rows else []);
}
