-- The moduli of a setting with their inverses, those of the chain and the special ones apart.
use Rattle.std.specs.Prelude.{ℕ, ◌++◌, length, map, take, drop}
use Rattle.mixed_radix.specs.Basis.{Basis}
use Rattle.moduli_table.specs.Chain.{Chain}
use Rattle.residue_rows.specs.Kept.{RingSetting}

-- the moduli of the chain, each with the inverses modulo it of those before it
abbrev pub chain_basis : RingSetting → Basis
chain_basis t = record {
  moduli = map (λ r. r.q) t.moduli.chain;
  inverse = take (length t.moduli.chain) t.moduli.inverse;
}

-- the special moduli, each with the inverses modulo it of the special ones before it
abbrev pub special_basis : RingSetting → Basis
special_basis t = record {
  moduli = map (λ r. r.q) t.moduli.special;
  inverse = map (drop (length t.moduli.chain)) (drop (length t.moduli.chain) t.moduli.inverse);
}

-- so many moduli from the first given, each with the inverses modulo it of those of them before it
abbrev pub basis_from : Chain → ℕ → ℕ → Basis
basis_from c first count = record {
  moduli = map (λ r. r.q) (take count (drop first (c.chain ++ c.special)));
  inverse = map (drop first) (take count (drop first c.inverse));
}
