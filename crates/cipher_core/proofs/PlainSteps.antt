-- A whole number from its digits, modulo p, and the row of all coefficients.
use Rattle.std.proofs.Common.{◌≡◌, ℕ, ◌+◌, ◌*◌, ◌%◌, ◌<◌, ◌≤◌, List, [], ◌∷◌, ◌++◌, map, length, get_or, take, drop, refl, sym, ap, ap₂, ◌∙◌, append-nil, subst, subst₂, arith}
use Rattle.std.specs.Prelude.{ℤ, pos, false, nat_abs, ◌+ℤ◌, ◌*ℤ◌, cond, leb, ◌-ℤ◌}
use Rattle.std.specs.List.{AllZip}
use Rattle.std.proofs.Math.Nat.{mod-eq_of_lt}
use Rattle.std.proofs.lemmas.List.{get_or-map, get_or-take, length-take-le, length-map, take-map, take_more, take_all}
use Rattle.algebra.specs.Divisor.{HasInverse}
use Rattle.algebra.specs.Whole.{AreInvertible, balanced, product_of, residue}
use Rattle.algebra.proofs.WholeResidues.{residue_lt}
use Rattle.cyclotomic.specs.Cyclotomic.{degree}
use Rattle.moduli_table.specs.declared.rows.ModRow.{ModRow}
use Rattle.mixed_radix.specs.Basis.{Basis, IsBasis}
use Rattle.mixed_radix.specs.Mixed.{mixed, AreDigits}
use Rattle.mixed_radix.proofs.Sums.{digits_value, basis_invertible}
use Rattle.residue_rows.specs.Rows.{AreRows, rows_of}
use Rattle.residue_rows.specs.Whole.{residues_at, whole}
use Rattle.residue_rows.specs.RowLaws.{WholeIs}
use Rattle.residue_rows.specs.Kept.{RingSetting, IsSetting, moduli_kept}
use Rattle.residue_rows.proofs.ModuliKept.{moduli_are}
use Rattle.residue_rows.proofs.WholeRows.{whole_law}
use Rattle.slot_laws.specs.Slots.{balanced_row}
use Rattle.cipher_core.proofs.Columns.{column_below, column_of}

-- digits past the last are 0
mixed_front : (qs : List ℕ) (vs : List ℤ) → mixed qs vs ≡ mixed (take (length vs) qs) vs
mixed_front [] [] = refl
mixed_front [] (v ∷ vs) = refl
mixed_front (q ∷ qs) [] = refl
mixed_front (q ∷ qs) (v ∷ vs) = ap (λ z. v +ℤ pos q *ℤ z) (mixed_front qs vs)

invertible_front : (qs : List ℕ) (n : ℕ) → n ≤ length qs → AreInvertible qs → AreInvertible (take n qs)
invertible_front qs n l h i j d before inside =
    let long : length (take n qs) ≡ n = length-take-le n qs l in
    let jn : j < n = omega (arith, inside, long) in
    let at : (k : ℕ) → k < n → get_or (take n qs) k d ≡ get_or qs k d = λ k l. get_or-take n qs k d l in
    let in_qs : j < length qs = omega arith in
    subst₂ (λ q r. HasInverse r q) (sym (at i (omega arith))) (sym (at j jn)) (h i j d before in_qs)

residue_again : (n : ℕ) → 0 < n → (z : ℤ) → residue n z % n ≡ residue n z
residue_again n positive z = mod-eq_of_lt (residue_lt n positive z)

balanced_again : (n : ℕ) → 0 < n → (z : ℤ) → balanced n (pos (residue n z)) ≡ balanced n z
balanced_again n positive z = ap (λ r. cond (leb (2 * r) n) (pos r) (pos r -ℤ pos n)) (residue_again n positive z)

-- what the digits of a number give
pub plain_is : (p : ℕ) (b : Basis) → IsBasis b → (residues : List ℕ) (digits : List ℤ) (r : ℕ) (v : ℤ) → 0 < p → length residues ≤ length b.moduli → length digits ≡ length residues
    → AreDigits (take (length residues) b.moduli) residues digits → r ≡ residue p (mixed (drop 0 b.moduli) digits) → v ≡ balanced p (pos r)
    → (x : ℤ) → AllZip (λ q r. residue q x ≡ r) (take (length residues) b.moduli) residues → 2 * nat_abs x < product_of (take (length residues) b.moduli) → v ≡ balanced p x
plain_is p b B residues digits r v positive fits long D r_is v_is x zip small =
    let qs = take (length residues) b.moduli in
    let value : mixed (drop 0 b.moduli) digits ≡ x =
    mixed_front b.moduli digits ∙ ap (λ n. mixed (take n b.moduli) digits) long
    ∙ digits_value qs residues digits x (invertible_front b.moduli (length residues) fits (basis_invertible b B)) D zip small in
    v_is ∙ ap (λ n. balanced p (pos n)) (r_is ∙ ap (residue p) value) ∙ balanced_again p positive x

abbrev modulus : ModRow → ℕ
modulus r = r.q

module _ (t : RingSetting) (S : IsSetting t) (k : ℕ) (fits : k ≤ length t.moduli.chain) (rows : List (List ℕ)) (R : AreRows t.moduli.m (moduli_kept t k false) rows) where
  abbrev qs : List ℕ
  qs = moduli_kept t k false

  -- the first moduli of the chain
  pub front_is : take k (map modulus t.moduli.chain) ≡ qs
  front_is = take-map modulus k t.moduli.chain ∙ ap (map modulus) (sym (append-nil (take k t.moduli.chain)))

  abbrev polynomial : List ℤ
  polynomial = whole t.moduli.m qs rows

  is : WholeIs t.moduli.m qs rows
  is =
      let M = moduli_are t S k false fits in
      whole_law t.moduli.m qs rows (omega (arith, S.accepted.shaped.m_low)) M.invertible M.odd R

  pub polynomial_long : length polynomial ≡ degree t.moduli.m
  polynomial_long = is.is.long

  -- what is found from the residues of a coefficient
  pub coefficient_is : (place p : ℕ) (v : ℤ) (moduli column : List ℕ) → place < degree t.moduli.m → moduli ≡ map modulus t.moduli.chain → length column ≡ k → column ≡ residues_at place rows
      → ((x : ℤ) → AllZip (λ q r. residue q x ≡ r) (take (length column) moduli) column → 2 * nat_abs x < product_of (take (length column) moduli) → v ≡ balanced p x)
      → v ≡ balanced p (get_or polynomial place (pos 0))
  coefficient_is place p v moduli column inside moduli_is long column_is found =
      let x = get_or polynomial place (pos 0) in
      let here : place < length polynomial = omega (arith, inside, polynomial_long) in
      let front : qs ≡ take (length column) moduli = sym front_is ∙ ap₂ take (sym long) (sym moduli_is) in
      let column_same : residues_at place (rows_of qs polynomial) ≡ column = ap (residues_at place) is.is.residues ∙ sym column_is in
      let zip : AllZip (λ q r. residue q x ≡ r) qs column = subst (AllZip (λ q r. residue q x ≡ r) qs) column_same (column_of qs polynomial place here) in
      let small : 2 * nat_abs x < product_of qs = is.is.small place (pos 0) here in
      found x (subst (λ qs. AllZip (λ q r. residue q x ≡ r) qs column) front zip) (subst (λ qs. 2 * nat_abs x < product_of qs) front small)

  pub column_in : (place : ℕ) (moduli column : List ℕ) → place < degree t.moduli.m → moduli ≡ map modulus t.moduli.chain → length column ≡ k → column ≡ residues_at place rows → AllZip (λ q r. r < q) (take (length column) moduli) column
  column_in place moduli column inside moduli_is long column_is =
      let front : qs ≡ take (length column) moduli = sym front_is ∙ ap₂ take (sym long) (sym moduli_is) in
      subst₂ (λ qs c. AllZip (λ q r. r < q) qs c) front (sym column_is) (column_below t.moduli.m qs rows place R inside)

  -- the row of all of them
  pub row_more : (p place : ℕ) (list : List ℤ) (v : ℤ) → place < degree t.moduli.m → list ≡ take place (balanced_row p polynomial) → v ≡ balanced p (get_or polynomial place (pos 0)) → list ++ v ∷ [] ≡ take (place + 1) (balanced_row p polynomial)
  row_more p place list v inside so_far value =
      let here : place < length polynomial = omega (arith, inside, polynomial_long) in
      let there : place < length (balanced_row p polynomial) = omega (arith, here, length-map polynomial (balanced p)) in
      ap (λ l. l ++ v ∷ []) so_far ∙ ap (λ x. take place (balanced_row p polynomial) ++ x ∷ []) (value ∙ sym (get_or-map (balanced p) polynomial place (pos 0) (pos 0) here))
      ∙ sym (take_more (balanced_row p polynomial) place (pos 0) there)

  pub row_all : (p place : ℕ) (list : List ℤ) → degree t.moduli.m ≤ place → list ≡ take place (balanced_row p polynomial) → list ≡ balanced_row p polynomial
  row_all p place list past so_far = so_far ∙ take_all place (balanced_row p polynomial) (omega (arith, past, polynomial_long, length-map polynomial (balanced p)))
