-- Fewer moduli: the first ones, the later ones, and moduli joined; and what a polynomial keeps.
use Rattle.std.specs.Prelude.{◌≡◌, ℕ, zero, suc, ◌≤◌, Bool, true, false, if◌then◌else◌, IsTrue, List, [], ◌∷◌, ◌++◌, length, take, drop, refl}
use Rattle.std.proofs.Common.{sym, ◌∙◌, ap, ap₂, subst, arith}
use Rattle.moduli_table.specs.declared.rows.ModRow.{ModRow}
use Rattle.residue_rows.specs.Rows.{AreRows}
use Rattle.residue_rows.specs.Values.{interpolated}
use Rattle.residue_rows.specs.Kept.{RingSetting, rows_kept, root_of, interpolated_each}
use Rattle.residue_rows.proofs.KeptValues.{moduli_of_rows}

module _ (m : ℕ) where
  pub interpolated_each-take : (n : ℕ) (rs : List ModRow) (v : List (List ℕ)) → interpolated_each m (take n rs) (take n v) ≡ take n (interpolated_each m rs v)
  unfolding interpolated_each
  interpolated_each-take zero rs v = refl
  interpolated_each-take (suc n) [] v = refl
  interpolated_each-take (suc n) (r ∷ rs) [] = refl
  interpolated_each-take (suc n) (r ∷ rs) (x ∷ v) = ap (λ a. interpolated m (root_of r) x ∷ a) (interpolated_each-take n rs v)

  pub interpolated_each-drop : (n : ℕ) (rs : List ModRow) (v : List (List ℕ)) → interpolated_each m (drop n rs) (drop n v) ≡ drop n (interpolated_each m rs v)
  unfolding interpolated_each
  interpolated_each-drop zero rs v = refl
  interpolated_each-drop (suc n) [] v = refl
  interpolated_each-drop (suc n) (r ∷ rs) [] = none (drop n rs)
    where
      none : (rs : List ModRow) → interpolated_each m rs [] ≡ []
      none [] = refl
      none (r ∷ rs) = refl
  interpolated_each-drop (suc n) (r ∷ rs) (x ∷ v) = interpolated_each-drop n rs v

  pub interpolated_each-append : (rs ss : List ModRow) (v w : List (List ℕ)) → length rs ≡ length v → interpolated_each m (rs ++ ss) (v ++ w) ≡ interpolated_each m rs v ++ interpolated_each m ss w
  unfolding interpolated_each
  interpolated_each-append [] ss [] w e = refl
  interpolated_each-append [] ss (x ∷ v) w e = absurd (omega (arith, e))
  interpolated_each-append (r ∷ rs) ss [] w e = absurd (omega (arith, e))
  interpolated_each-append (r ∷ rs) ss (x ∷ v) w e = ap (λ a. interpolated m (root_of r) x ∷ a) (interpolated_each-append rs ss v w (omega (arith, e)))

  pub rows_take : (n : ℕ) (rs : List ModRow) (v : List (List ℕ)) → AreRows m (moduli_of_rows rs) v → AreRows m (moduli_of_rows (take n rs)) (take n v)
  rows_take zero rs v h = tt
  rows_take (suc n) [] [] h = tt
  rows_take (suc n) [] (x ∷ v) h = absurd h
  rows_take (suc n) (r ∷ rs) [] h = absurd h
  rows_take (suc n) (r ∷ rs) (x ∷ v) h = (h.0, rows_take n rs v h.1)

  pub rows_drop : (n : ℕ) (rs : List ModRow) (v : List (List ℕ)) → AreRows m (moduli_of_rows rs) v → AreRows m (moduli_of_rows (drop n rs)) (drop n v)
  rows_drop zero rs v h = h
  rows_drop (suc n) [] [] h = tt
  rows_drop (suc n) [] (x ∷ v) h = absurd h
  rows_drop (suc n) (r ∷ rs) [] h = absurd h
  rows_drop (suc n) (r ∷ rs) (x ∷ v) h = rows_drop n rs v h.1

  pub rows_append : (rs ss : List ModRow) (v w : List (List ℕ)) → AreRows m (moduli_of_rows rs) v → AreRows m (moduli_of_rows ss) w → AreRows m (moduli_of_rows (rs ++ ss)) (v ++ w)
  rows_append [] ss [] w h k = k
  rows_append [] ss (x ∷ v) w h k = absurd h
  rows_append (r ∷ rs) ss [] w h k = absurd h
  rows_append (r ∷ rs) ss (x ∷ v) w h k = (h.0, rows_append rs ss v w h.1 k)

  -- as many rows as moduli
  pub rows_long : (rs : List ModRow) (v : List (List ℕ)) → AreRows m (moduli_of_rows rs) v → length rs ≡ length v
  rows_long [] [] h = refl
  rows_long [] (x ∷ v) h = absurd h
  rows_long (r ∷ rs) [] h = absurd h
  rows_long (r ∷ rs) (x ∷ v) h = ap suc (rows_long rs v h.1)

-- the first and the later ones of joined lists
take_first : {X : Type 0} (k n : ℕ) (xs ys : List X) → k ≤ n → n ≤ length xs → take k (take n xs ++ ys) ≡ take k xs
take_first zero n xs ys l h = refl
take_first (suc k) zero xs ys l h = absurd (omega arith)
take_first (suc k) (suc n) [] ys l h = absurd (omega (arith, h))
take_first (suc k) (suc n) (x ∷ xs) ys l h = ap (λ z. x ∷ z) (take_first k n xs ys (omega arith) (omega (arith, h)))

drop_first : {X : Type 0} (n : ℕ) (xs ys : List X) → n ≤ length xs → drop n (take n xs ++ ys) ≡ ys
drop_first zero xs ys h = refl
drop_first (suc n) [] ys h = absurd (omega (arith, h))
drop_first (suc n) (x ∷ xs) ys h = drop_first n xs ys (omega (arith, h))

-- the rows of the first moduli of the chain, and those of the special moduli or none
abbrev pub cut : ℕ → ℕ → Bool → List (List ℕ) → List (List ℕ)
cut chain_rows fewer special rows = take fewer rows ++ (if special then drop chain_rows rows else [])

module _ (t : RingSetting) (chain_rows fewer : ℕ) (special less_special : Bool) (fits : chain_rows ≤ length t.moduli.chain) (fewer_fits : fewer ≤ chain_rows) (special_there : IsTrue less_special → IsTrue special) where
  abbrev m : ℕ
  m = t.moduli.m

  abbrev whole : List ModRow
  whole = rows_kept t chain_rows special

  -- the moduli of fewer rows, cut from those of all
  kept_is : rows_kept t fewer less_special ≡ take fewer (rows_kept t chain_rows special) ++ (if less_special then drop chain_rows (rows_kept t chain_rows special) else [])
  kept_is = ap₂ (λ x y. x ++ y) (sym (take_first fewer chain_rows t.moduli.chain (if special then t.moduli.special else []) fewer_fits fits)) (rest less_special special_there)
    where
      rest : (b : Bool) → (IsTrue b → IsTrue special) → (if b then t.moduli.special else []) ≡ (if b then drop chain_rows (rows_kept t chain_rows special) else [])
      rest false h = refl
      rest true h = ap (λ c. if c then t.moduli.special else []) (sym (h refl)) ∙ sym (drop_first chain_rows t.moduli.chain (if special then t.moduli.special else []) fits)

  pub cut_in : (v : List (List ℕ)) → AreRows m (moduli_of_rows whole) v → AreRows m (moduli_of_rows (rows_kept t fewer less_special)) (cut chain_rows fewer less_special v)
  cut_in v h = subst (λ rs. AreRows m (moduli_of_rows rs) (cut chain_rows fewer less_special v)) (sym kept_is) (rows_append m (take fewer whole) (if less_special then drop chain_rows whole else []) (take fewer v) (if less_special then drop chain_rows v else []) (rows_take m fewer whole v h) (rest less_special))
    where
      rest : (b : Bool) → AreRows m (moduli_of_rows (if b then drop chain_rows whole else [])) (if b then drop chain_rows v else [])
      rest true = rows_drop m chain_rows whole v h
      rest false = tt

  pub interpolated_each-cut : (v : List (List ℕ)) → AreRows m (moduli_of_rows whole) v → interpolated_each m (rows_kept t fewer less_special) (cut chain_rows fewer less_special v) ≡ cut chain_rows fewer less_special (interpolated_each m whole v)
  unfolding interpolated_each
  interpolated_each-cut v h = ap (λ rs. interpolated_each m rs (cut chain_rows fewer less_special v)) kept_is ∙ interpolated_each-append m (take fewer whole) (if less_special then drop chain_rows whole else []) (take fewer v) (if less_special then drop chain_rows v else []) (rows_long m (take fewer whole) (take fewer v) (rows_take m fewer whole v h)) ∙ ap₂ (λ x y. x ++ y) (interpolated_each-take m fewer whole v) (rest less_special)
    where
      rest : (b : Bool) → interpolated_each m (if b then drop chain_rows whole else []) (if b then drop chain_rows v else []) ≡ (if b then drop chain_rows (interpolated_each m whole v) else [])
      rest true = interpolated_each-drop m chain_rows whole v
      rest false = refl
