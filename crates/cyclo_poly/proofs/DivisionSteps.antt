-- Long division by a monic polynomial, one coefficient at a time from the last down.
use Rattle.std.proofs.Common.{◌≡◌, ℕ, zero, suc, ◌+◌, ◌-◌, ◌<◌, ◌≤◌, Bool, IsTrue, List, [], ◌∷◌, ◌++◌, length, map, take, drop, reverse, get_or, replicate, refl, ap, ap₂, subst, sym, ◌∙◌, append-nil, arith}
use Rattle.std.proofs.lemmas.Bool.{and_parts}
use Rattle.std.proofs.lemmas.List.{length-map, get_or-map, take-map, drop_all, reverse-append}
use Rattle.std.specs.List.{All, remove}
use Rattle.algebra.specs.Ring.{Ops, HeldLaws}
use Rattle.algebra.specs.Poly.{all_held, plus, scaled, top, reduced, remainder, quotient_digits, quotient_by, degree_of, IsMonic, IsDivided}
use Rattle.algebra.proofs.HeldLists.{scaled_held}
use Rattle.algebra.proofs.HeldQuotients.{held_divided}
use Rattle.algebra.proofs.Dividing.{length-reduced}
use Rattle.std.proofs.lemmas.List.Elements.{All-cons}
use Rattle.cyclo_poly.proofs.HeldSteps.{IsHeld, values_held}
use Rattle.cyclo_poly.proofs.ProductSteps.{before}

take_plus : {V : Type 0} (o : Ops V) (d : ℕ) (a b : List V) → take d (plus o a b) ≡ plus o (take d a) (take d b)
take_plus o zero a b = refl
take_plus o (suc d) [] b = refl
take_plus o (suc d) (x ∷ a) [] = refl
take_plus o (suc d) (x ∷ a) (y ∷ b) = ap (λ z. o.add x y ∷ z) (take_plus o d a b)

module _ {V : Type 0} {held : V → Bool} {o : Ops V} (L : HeldLaws held o) where
  plus_turned : (a b : List V) → IsTrue (all_held held a) → IsTrue (all_held held b) → plus o a b ≡ plus o b a
  plus_turned [] [] h k = refl
  plus_turned [] (y ∷ b) h k = refl
  plus_turned (x ∷ a) [] h k = refl
  plus_turned (x ∷ a) (y ∷ b) h k =
      let p = and_parts (held x) (all_held held a) h in
      let q = and_parts (held y) (all_held held b) k in
      ap₂ (λ v w. v ∷ w) (L.add_comm x y p.0 q.0) (plus_turned a b p.1 q.1)

  -- the rest w, of one place too many, less the multiple of g by its top coefficient
  pub reduced_is : (g w : List V) (m : V) (d : ℕ) → d ≡ degree_of o g → IsTrue (all_held held g) → IsTrue (all_held held w) → IsTrue (held m) → m ≡ o.neg (top o g w) → plus o (scaled o m (take d g)) (take d w) ≡ reduced o g w
  reduced_is g w m d d_is g_held w_held m_held m_is =
      ap (λ z. plus o z (take d w)) (sym (take-map (o.mul m) d g)) ∙ sym (take_plus o d (scaled o m g) w) ∙ ap (take d) (plus_turned (scaled o m g) w (scaled_held L m g m_held g_held) w_held) ∙ ap₂ (λ n z. take n (plus o w (scaled o z g))) d_is m_is

-- a list without its last element
pub without_last : {E : Type 0} (xs ys : List E) (d : ℕ) → length xs ≡ d + 1 → ys ≡ remove xs d → ys ≡ take d xs
without_last xs ys d e is = is ∙ ap (λ z. take d xs ++ z) (drop_all (suc d) xs (omega arith)) ∙ append-nil (take d xs)

module _ {E V : Type 0} (value : E → V) (o : Ops V) (f : List E) (g : List V) where
  pub rest_more : (i j : ℕ) (x n : E) (xs ys : List E) → i ≡ suc j → j < length f → x ≡ get_or f j x → value n ≡ value x → map value xs ≡ remainder o g (map value (drop i f)) → map value ys ≡ reduced o g (value n ∷ map value xs) → map value ys ≡ remainder o g (map value (drop j f))
  unfolding remainder
  rest_more i j x n xs ys e l is n_is so_far ys_is =
      ys_is ∙ ap₂ (λ v w. reduced o g (v ∷ w)) n_is so_far ∙ ap (λ z. remainder o g (map value z)) (sym (before f i j x e l is))

  pub rest_none : (xs : List E) → map value xs ≡ replicate (degree_of o g) o.zero → map value xs ≡ remainder o g (map value (drop (length f) f))
  unfolding remainder
  rest_none xs e = e ∙ ap (λ z. remainder o g (map value z)) (sym (drop_all (length f) f (omega arith)))

  -- the digits before the tail at i
  digits_more : (i j : ℕ) (x n : E) (xs : List E) → i ≡ suc j → j < length f → x ≡ get_or f j x → value n ≡ value x → map value xs ≡ remainder o g (map value (drop i f)) → quotient_digits o g (map value (drop j f)) ≡ top o g (value n ∷ map value xs) ∷ quotient_digits o g (map value (drop i f))
  unfolding quotient_digits
  digits_more i j x n xs e l is n_is so_far =
      ap (λ z. quotient_digits o g (map value z)) (before f i j x e l is) ∙ ap₂ (λ v w. top o g (v ∷ w) ∷ quotient_digits o g (map value (drop i f))) (sym n_is) (sym so_far)

  pub quotient_none : (n : ℕ) (qs : List E) → qs ≡ [] → map value (reverse qs) ≡ take n (quotient_digits o g (map value (drop (length f) f)))
  unfolding quotient_digits
  quotient_none n qs e = ap (λ z. map value (reverse z)) e ∙ sym (nothing n) ∙ ap (λ z. take n (quotient_digits o g (map value z))) (sym (drop_all (length f) f (omega arith)))
    where
      nothing : (n : ℕ) → take n (quotient_digits o g (map value [])) ≡ []
      nothing zero = refl
      nothing (suc n) = refl

  pub quotient_more : (n i j : ℕ) (x next digit : E) (xs qs ps : List E) → i ≡ suc j → j < length f → j < n → x ≡ get_or f j x → value next ≡ value x → map value xs ≡ remainder o g (map value (drop i f)) → value digit ≡ top o g (value next ∷ map value xs) → ps ≡ qs ++ digit ∷ [] → map value (reverse qs) ≡ take (n - i) (quotient_digits o g (map value (drop i f))) → map value (reverse ps) ≡ take (n - j) (quotient_digits o g (map value (drop j f)))
  quotient_more n i j x next digit xs qs ps e l in_n is n_is so_far digit_is ps_is quotient_so_far =
      ap (map value) (ap reverse ps_is ∙ reverse-append qs (digit ∷ [])) ∙ ap₂ (λ v w. v ∷ w) digit_is quotient_so_far ∙ ap₂ take (sym one_more) (sym (digits_more i j x next xs e l is n_is so_far))
    where
      one_more : n - j ≡ suc (n - i)
      one_more = omega arith

  pub quotient_same : (n i j : ℕ) (qs : List E) → i ≡ suc j → n ≤ j → map value (reverse qs) ≡ take (n - i) (quotient_digits o g (map value (drop i f))) → map value (reverse qs) ≡ take (n - j) (quotient_digits o g (map value (drop j f)))
  quotient_same n i j qs e past so_far = so_far ∙ ap (λ k. take k (quotient_digits o g (map value (drop i f)))) (over n i (omega arith)) ∙ ap (λ k. take k (quotient_digits o g (map value (drop j f)))) (sym (over n j past))
    where
      over : (n k : ℕ) → n ≤ k → n - k ≡ 0
      over n k h = omega arith

  pub quotient_is : (n i : ℕ) (qs ps : List E) → i ≡ 0 → n ≡ length f - degree_of o g → ps ≡ reverse qs → map value (reverse qs) ≡ take (n - i) (quotient_digits o g (map value (drop i f))) → map value ps ≡ quotient_by o g (map value f)
  unfolding quotient_by
  quotient_is n i qs ps e n_is ps_is so_far =
      ap (map value) ps_is ∙ so_far ∙ ap₂ (λ k j. take k (quotient_digits o g (map value (drop j f)))) long e
    where
      long : n - i ≡ length (map value f) - degree_of o g
      long = omega (arith, length-map f value)

module _ {E V : Type 0} (value : E → V) {held : V → Bool} {o : Ops V} (L : HeldLaws held o) where
  -- the rest after one step of long division
  pub brought_down : (g rs ws zs fs : List E) (next digit minus : E) (d : ℕ) → d ≡ length rs → d + 1 ≡ length g → All (IsHeld value held) g → All (IsHeld value held) rs → IsHeld value held next → IsHeld value held minus → ws ≡ next ∷ rs → zs ≡ remove ws d → digit ≡ get_or ws d digit → value minus ≡ o.neg (value digit) → map value fs ≡ plus o (scaled o (value minus) (map value (take d g))) (map value zs) → map value fs ≡ reduced o (map value g) (value next ∷ map value rs)
  brought_down g rs ws zs fs next digit minus d d_is size g_held rs_held next_held minus_held ws_is zs_is digit_is minus_is fs_is =
      fs_is ∙ ap₂ (λ x y. plus o (scaled o (value minus) x) y) (sym (take-map value d g)) (ap (map value) (without_last ws zs d ws_long zs_is) ∙ sym (take-map value d ws) ∙ ap (λ z. take d (map value z)) ws_is) ∙ reduced_is L (map value g) (map value (next ∷ rs)) (value minus) d degree (values_held value held g g_held) (values_held value held (next ∷ rs) (All-cons (IsHeld value held) next rs next_held rs_held)) minus_held (minus_is ∙ ap o.neg digit_top)
    where
      ws_long : length ws ≡ d + 1
      ws_long = omega (arith, ap length ws_is)

      degree : d ≡ degree_of o (map value g)
      degree = omega (arith, length-map g value)

      digit_top : value digit ≡ top o (map value g) (map value (next ∷ rs))
      digit_top = ap value digit_is ∙ sym (get_or-map value ws d digit o.zero (omega (arith, ws_long))) ∙ ap₂ (λ x n. get_or (map value x) n o.zero) ws_is degree

  pub size_kept : (g fs : List E) (w : List V) (d : ℕ) → d + 1 ≡ length g → length w ≡ d + 1 → map value fs ≡ reduced o (map value g) w → length fs ≡ d
  size_kept g fs w d size long e = sym (length-map fs value) ∙ ap length e ∙ length-reduced o (map value g) w (omega (arith, length-map g value)) ∙ degree
    where
      degree : degree_of o (map value g) ≡ d
      degree = omega (arith, length-map g value)

  -- what the definitions compute is the division
  pub divided_by : (g f g' f' q r : List E) → g' ≡ g → f' ≡ f → All (IsHeld value held) g → All (IsHeld value held) f → IsMonic o (map value g) → map value q ≡ quotient_by o (map value g') (map value f') → map value r ≡ remainder o (map value g') (map value f') → IsDivided o (map value g) (map value f) (map value q) (map value r)
  divided_by g f g' f' q r g_same f_same g_held f_held monic q_is r_is =
      subst (λ s. IsDivided o (map value g) (map value f) (map value q) s) (sym rest) (subst (λ p. IsDivided o (map value g) (map value f) p (remainder o (map value g) (map value f))) (sym quotient) (held_divided L (map value g) (map value f) (values_held value held g g_held) (values_held value held f f_held) monic))
    where
      quotient : map value q ≡ quotient_by o (map value g) (map value f)
      quotient = q_is ∙ ap₂ (λ x y. quotient_by o (map value x) (map value y)) g_same f_same

      rest : map value r ≡ remainder o (map value g) (map value f)
      rest = r_is ∙ ap₂ (λ x y. remainder o (map value x) (map value y)) g_same f_same
