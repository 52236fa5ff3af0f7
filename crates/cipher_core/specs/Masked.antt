-- What encryption and decryption make of parts of keys and ciphertexts.
use Rattle.std.specs.Prelude.{ℕ, List, ℤ, pos}
use Rattle.residue_rows.specs.Rows.{multiple_each}
use Rattle.residue_rows.specs.Kept.{RingSetting}
use Rattle.scheme_laws.specs.Scheme.{top, moduli_at, ring_at, rows_at}

-- part * r + p * e at the top level
abbrev pub masked : RingSetting → List (List ℕ) → List (List ℕ) → List ℤ → List (List ℕ)
masked t part r e =
    let o = ring_at t (top t) in
    o.add (o.mul part r) (multiple_each (moduli_at t (top t)) (pos t.moduli.p) (rows_at t (top t) e))

-- c0 + c1*s at a level
abbrev pub opened_parts : RingSetting → ℕ → List (List ℕ) → List (List ℕ) → List ℤ → List (List ℕ)
opened_parts t level c0 c1 s = let o = ring_at t level in o.add c0 (o.mul c1 (rows_at t level s))
