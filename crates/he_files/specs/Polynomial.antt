-- Polynomials in files: their values at the units, modulus by modulus.
use Rattle.std.specs.Prelude.{ℕ, nat_lt, false, List, map}
use Rattle.std.specs.Int.{w64}
use Rattle.cyclotomic.specs.Cyclotomic.{degree}
use Rattle.residue_rows.specs.Kept.{RingSetting, rows_kept, values_each, interpolated_each}
use Rattle.he_files.specs.Form.{Form, number, several, each, written_as}

-- a number of eight bytes below the modulus
abbrev pub residue : ℕ → Form ℕ
residue q = number w64 (λ x. nat_lt x q)

-- n residues for each modulus
abbrev pub residue_rows : ℕ → List ℕ → Form (List (List ℕ))
residue_rows n qs = each (λ q. several n (residue q)) qs

-- a polynomial, seen as its residues and written by its values: for each of the first moduli of the chain in order, for each
-- unit j in ascending order, the value at omega^j
abbrev pub polynomial : RingSetting → ℕ → Form (List (List ℕ))
polynomial t count =
    let m = t.moduli.m in
    let moduli = rows_kept t count false in
    written_as (values_each m moduli) (interpolated_each m moduli) (residue_rows (degree m) (map (λ r. r.q) moduli))
