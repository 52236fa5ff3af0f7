-- Arrays that are filled slot by slot.
use Rattle.std.proofs.Common.{◌≡◌, ℕ, zero, suc, ◌+◌, ◌<◌, All, List, [], ◌∷◌, ◌++◌, map, length, get_or, ap, ap₂, sym, ◌∙◌, refl, subst, arith}
use Rattle.std.proofs.lemmas.List.{map-append, length-map}
use Rattle.std.proofs.lemmas.List.Elements.{All-push}
use Rattle.std.proofs.lemmas.Simd.{map-map}
use Rattle.algebra.specs.Whole.{below}
use Rattle.algebra.proofs.Sums.{length-below}
use Rattle.hyper_cube.specs.Torus.{Torus, index, slot_count}
use Rattle.hyper_cube.specs.Checks.{IsCube}
use Rattle.hyper_cube.proofs.Indices.{place_index}
use Rattle.hyper_cube.proofs.Shapes.{shape_positive}
use Rattle.ext_field.specs.Element.{Extension, IsElement}
use Rattle.slot_array.specs.Arrays.{Array, IsArray, slot, array}

-- the elements of the slots below n
abbrev pub filled : (ℕ → List ℕ) → ℕ → Array
filled F n = map F (below n)

pub filled_more : (F : ℕ → List ℕ) (i : ℕ) (x : List ℕ) (xs ys : Array) → x ≡ F i → xs ≡ filled F i → ys ≡ xs ++ x ∷ [] → ys ≡ filled F (i + 1)
filled_more F i x xs ys x_is xs_is ys_is = ys_is ∙ ap₂ (λ l y. l ++ y ∷ []) xs_is x_is ∙ sym (map-append F (below i) (i ∷ [])) ∙ ap (filled F) e
  where
    e : suc i ≡ i + 1
    e = omega arith

pub length-filled : (F : ℕ → List ℕ) (n : ℕ) → length (filled F n) ≡ n
length-filled F n = length-map (below n) F ∙ length-below n

pub filled_same : (F G : ℕ → List ℕ) (n : ℕ) → ((k : ℕ) → k < n → F k ≡ G k) → filled F n ≡ filled G n
filled_same F G zero h = refl
filled_same F G (suc n) h = map-append F (below n) (n ∷ []) ∙ ap₂ (λ l y. l ++ y ∷ []) (filled_same F G n (λ k l. h k (omega arith))) (h n (omega arith)) ∙ sym (map-append G (below n) (n ∷ []))

pub all_more : (f : Extension) (x : List ℕ) (xs ys : Array) → All (λ a. IsElement f a) xs → IsElement f x → ys ≡ xs ++ x ∷ [] → All (λ a. IsElement f a) ys
all_more f x xs ys h hx ys_is = subst (All (λ a. IsElement f a)) (sym ys_is) (All-push (λ a. IsElement f a) xs x h hx)

pub array_from : (f : Extension) (c : Torus) (F : ℕ → List ℕ) (n : ℕ) (y : Array) → n ≡ slot_count c → y ≡ filled F n → All (λ a. IsElement f a) y → IsArray f c y
array_from f c F n y n_is y_is h = record { long = ap length y_is ∙ length-filled F n ∙ n_is; elements = h }

module _ (c : Torus) (C : IsCube c) where
  -- the slot of an index, by its number
  pub slot_is : (a : Array) (k : ℕ) → k < slot_count c → slot c a (index c.dimensions k) ≡ get_or a k []
  slot_is a k l = ap (λ n. get_or a n []) (place_index c.dimensions k (shape_positive c C.shape) l)

  -- an array by indices, by their numbers
  pub array_is : (y : List ℕ → List ℕ) (F : ℕ → List ℕ) → ((k : ℕ) → k < slot_count c → y (index c.dimensions k) ≡ F k) → (n : ℕ) (x : Array) → n ≡ slot_count c → x ≡ filled F n → x ≡ array c y
  array_is y F h n x n_is x_is = x_is ∙ ap (filled F) n_is ∙ sym (map-map y (index c.dimensions) (below (slot_count c)) ∙ filled_same (λ k. y (index c.dimensions k)) F (slot_count c) h)
