-- The lines of the moduli that are kept, and the moduli of the chain and the special ones apart.
use Rattle.std.proofs.Common.{◌≡◌, refl, ℕ, ◌+◌, ◌-◌, ◌<◌, ◌≤◌, Bool, true, false, if◌then◌else◌, List, [], ◌++◌, length, map, take, drop, get_or, arith, ap, ap₂, sym, ◌∙◌}
use Rattle.std.proofs.lemmas.List.{length-take, length-drop, length-append, get_or-map, get_or-take, get_or_append_left, get_or-append_right, map-id}
use Rattle.std.proofs.Math.Seq.{take-append_seam, drop-append_seam, take-length}
use Rattle.bluestein.specs.Plan.{Roots}
use Rattle.mixed_radix.specs.Basis.{Basis}
use Rattle.moduli_table.specs.declared.rows.ModRow.{ModRow}
use Rattle.moduli_table.specs.Chain.{IsShaped, no_row}
use Rattle.residue_rows.specs.Kept.{RingSetting}
use Rattle.double_crt.specs.Bases.{basis_from, chain_basis, special_basis}
use Rattle.double_crt.specs.Roots.{roots_of_row}

module _ (chain special : List ModRow) (n : ℕ) (fits : n ≤ length chain) where
  abbrev kept : Bool → List ModRow
  kept more = take n chain ++ (if more then special else [])

  first_long : length (take n chain) ≡ n
  first_long = omega (arith, length-take n chain)

  pub first_kept : (more : Bool) (i : ℕ) → i < n → get_or (kept more) i no_row ≡ get_or (chain ++ special) i no_row
  first_kept more i l = get_or_append_left (take n chain) (if more then special else []) no_row i (omega (arith, first_long)) ∙ get_or-take n chain i no_row l ∙ sym (get_or_append_left chain special no_row i (omega arith))

  kept_long : (more : Bool) → length (kept more) ≡ n + (if more then length special else 0)
  kept_long true = omega (arith, length-append (take n chain) special, first_long)
  kept_long false = omega (arith, length-append (take n chain) [], first_long)

  pub later_kept : (more : Bool) (i : ℕ) → n ≤ i → i < length (kept more) → (i - n < length special) × (get_or (kept more) i no_row ≡ get_or (chain ++ special) (i - n + length chain) no_row)
  later_kept false i h l = absurd (omega (arith, kept_long false))
  later_kept true i h l = (omega (arith, kept_long true), get_or-append_right (take n chain) special n i no_row first_long h ∙ sym (get_or-append_right chain special (length chain) (i - n + length chain) no_row refl (omega arith) ∙ ap (λ z. get_or special z no_row) (let e : i - n + length chain - length chain ≡ i - n = omega arith in e)))

-- the line at a place
pub line_is : (m : ℕ) (lines : List Roots) (rows : List ModRow) (place : ℕ) (r : Roots) → lines ≡ map (roots_of_row m) rows → place < length rows → r ≡ get_or lines place r → r ≡ roots_of_row m (get_or rows place no_row)
line_is m lines rows place r e l h = h ∙ ap (λ z. get_or z place r) e ∙ get_or-map (roots_of_row m) rows place no_row r l

-- the bases of the chain and of the special moduli
pub chain_basis_is : (t : RingSetting) → IsShaped t.moduli → basis_from t.moduli 0 (length t.moduli.chain) ≡ chain_basis t
chain_basis_is t S = ap₂ both (ap (map (λ (r : ModRow). r.q)) (take-append_seam t.moduli.chain t.moduli.special)) (map-id (take (length t.moduli.chain) t.moduli.inverse))
  where
    both : List ℕ → List (List ℕ) → Basis
    both ms es = record { moduli = ms; inverse = es }

pub special_basis_is : (t : RingSetting) → IsShaped t.moduli → basis_from t.moduli (length t.moduli.chain) (length t.moduli.special) ≡ special_basis t
special_basis_is t S = ap₂ both (ap (map (λ (r : ModRow). r.q)) (ap (take (length t.moduli.special)) (drop-append_seam t.moduli.chain t.moduli.special) ∙ take-length t.moduli.special)) (ap (map (drop (length t.moduli.chain))) (ap (λ n. take n rest) (let e : length t.moduli.special ≡ length rest = omega (arith, length-drop (length t.moduli.chain) t.moduli.inverse, S.lists) in e) ∙ take-length rest))
  where
    both : List ℕ → List (List ℕ) → Basis
    both ms es = record { moduli = ms; inverse = es }

    rest : List (List ℕ)
    rest = drop (length t.moduli.chain) t.moduli.inverse
