-- Lists that are made or compared place by place.
use Rattle.std.proofs.Common.{◌≡◌, ℕ, ◌+◌, ◌<◌, Bool, true, false, IsTrue, List, [], ◌∷◌, ◌++◌, length, map, take, get_or, replicate, refl, ap, ap₂, sym, ◌∙◌, arith}
use Rattle.std.proofs.lemmas.List.{length-map, length-take-le, map-append, take_more, get_or-map, replicate_more}
use Rattle.algebra.specs.Ring.{Ops}
use Rattle.algebra.specs.Poly.{plus, negated, all_held}
use Rattle.algebra.proofs.HeldLists.{all_to}

module _ {V : Type 0} (o : Ops V) where
  plus_push : (a b : List V) (x y : V) → length a ≡ length b → plus o (a ++ x ∷ []) (b ++ y ∷ []) ≡ plus o a b ++ o.add x y ∷ []
  plus_push [] [] x y e = refl
  plus_push [] (d ∷ b) x y e = absurd (omega arith)
  plus_push (c ∷ a) [] x y e = absurd (omega arith)
  plus_push (c ∷ a) (d ∷ b) x y e = ap (λ z. o.add c d ∷ z) (plus_push a b x y (omega arith))

module _ {E V : Type 0} (value : E → V) where
  -- one more element of a list, and its value
  taken : (f : List E) (i : ℕ) (x : E) → i < length f → x ≡ get_or f i x → map value (take (i + 1) f) ≡ map value (take i f) ++ value x ∷ []
  taken f i x l is = ap (map value) (take_more f i x l ∙ ap (λ z. take i f ++ z ∷ []) (sym is)) ∙ map-append value (take i f) (x ∷ [])

  pushed : (xs ys : List E) (s : E) → ys ≡ xs ++ s ∷ [] → map value ys ≡ map value xs ++ value s ∷ []
  pushed xs ys s e = ap (map value) e ∙ map-append value xs (s ∷ [])

  pub zeros_more : (z : V) (n m : ℕ) (xs ys : List E) (s : E) → m ≡ n + 1 → ys ≡ xs ++ s ∷ [] → value s ≡ z → map value xs ≡ replicate n z → map value ys ≡ replicate m z
  zeros_more z n m xs ys s m_is e s_is so_far = pushed xs ys s e ∙ ap₂ (λ v w. v ++ w ∷ []) so_far s_is ∙ replicate_more n z ∙ ap (λ k. replicate k z) (sym m_is)

  pub negated_more : (o : Ops V) (f xs ys : List E) (i : ℕ) (x s : E) → ys ≡ xs ++ s ∷ [] → i < length f → x ≡ get_or f i x → value s ≡ o.neg (value x) → map value xs ≡ negated o (map value (take i f)) → map value ys ≡ negated o (map value (take (i + 1) f))
  negated_more o f xs ys i x s e l is s_is so_far = pushed xs ys s e ∙ ap₂ (λ v w. v ++ w ∷ []) so_far s_is ∙ sym (map-append o.neg (map value (take i f)) (value x ∷ [])) ∙ ap (map o.neg) (sym (taken f i x l is))

  pub added_more : (o : Ops V) (f g xs ys : List E) (i : ℕ) (x y s : E) → ys ≡ xs ++ s ∷ [] → i < length f → i < length g → x ≡ get_or f i x → y ≡ get_or g i y → value s ≡ o.add (value x) (value y) → map value xs ≡ plus o (map value (take i f)) (map value (take i g)) → map value ys ≡ plus o (map value (take (i + 1) f)) (map value (take (i + 1) g))
  added_more o f g xs ys i x y s e in_f in_g x_is y_is s_is so_far =
      pushed xs ys s e ∙ ap₂ (λ v w. v ++ w ∷ []) so_far s_is ∙ sym (plus_push o (map value (take i f)) (map value (take i g)) (value x) (value y) same_length) ∙ ap₂ (plus o) (sym (taken f i x in_f x_is)) (sym (taken g i y in_g y_is))
    where
      same_length : length (map value (take i f)) ≡ length (map value (take i g))
      same_length = length-map (take i f) value ∙ length-take-le i f (omega arith) ∙ sym (length-map (take i g) value ∙ length-take-le i g (omega arith))

  pub one_not_held : (held : V → Bool) (f : List E) (i : ℕ) (x : E) → i < length f → x ≡ get_or f i x → held (value x) ≡ false → false ≡ all_held held (map value f)
  one_not_held held f i x l is refused = go (all_held held (map value f)) refl
    where
      there : IsTrue (all_held held (map value f)) → held (value x) ≡ true
      there all = ap held (ap value is ∙ sym (get_or-map value f i x (value x) l)) ∙ all_to held (map value f) all i (value x) (omega (arith, length-map f value))

      go : (b : Bool) → all_held held (map value f) ≡ b → false ≡ b
      go true e = sym refused ∙ there e
      go false e = refl

  pub one_differs : (f g : List E) (i : ℕ) (x y : E) (r : Bool) → i < length f → i < length g → x ≡ get_or f i x → y ≡ get_or g i y → r ≡ false → (value x ≡ value y → IsTrue r) → map value f ≡ map value g → IsTrue false
  one_differs f g i x y r in_f in_g x_is y_is r_is test same =
      sym r_is ∙ test (ap value x_is ∙ sym (get_or-map value f i x (value x) in_f) ∙ ap (λ z. get_or z i (value x)) same ∙ get_or-map value g i y (value x) in_g ∙ ap value (sym y_is))
