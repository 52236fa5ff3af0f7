-- One more term of a product, from the last coefficient down.
use Rattle.std.proofs.Common.{◌≡◌, ℕ, suc, ◌<◌, List, [], ◌∷◌, length, map, drop, get_or, ap, ap₂, sym, ◌∙◌, arith}
use Rattle.std.proofs.Math.Seq.{drop-cons}
use Rattle.std.proofs.lemmas.List.{drop_all}
use Rattle.algebra.specs.Ring.{Ops}
use Rattle.algebra.specs.Poly.{plus, scaled, times}

-- the element before a tail
pub before : {E : Type 0} (f : List E) (i j : ℕ) (x : E) → i ≡ suc j → j < length f → x ≡ get_or f j x → drop j f ≡ x ∷ drop i f
before f i j x e l is = drop-cons f j x l ∙ ap₂ (λ y n. y ∷ drop n f) (sym is) (sym e)

module _ {E V : Type 0} (value : E → V) (o : Ops V) (f : List E) (g : List V) where
  pub product_none : (xs : List E) → xs ≡ [] → map value xs ≡ times o (map value (drop (length f) f)) g
  unfolding times
  product_none xs e = ap (map value) e ∙ ap (λ z. times o (map value z) g) (sym (drop_all (length f) f (omega arith)))

  pub product_more : (i j : ℕ) (x z : E) (xs ys zs : List E) → i ≡ suc j → j < length f → x ≡ get_or f j x → map value xs ≡ times o (map value (drop i f)) g → ys ≡ z ∷ xs → value z ≡ o.zero → map value zs ≡ plus o (scaled o (value x) g) (map value ys) → map value zs ≡ times o (map value (drop j f)) g
  unfolding times
  product_more i j x z xs ys zs e l is so_far ys_is z_is zs_is =
      zs_is ∙ ap (plus o (scaled o (value x) g)) (ap (map value) ys_is ∙ ap₂ (λ a b. a ∷ b) z_is so_far) ∙ ap (λ w. times o (map value w) g) (sym (before f i j x e l is))
