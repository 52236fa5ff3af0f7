-- Lists whose elements are all held, as they grow and change.
use Rattle.std.proofs.Common.{◌≡◌, ℕ, Bool, IsTrue, List, [], ◌∷◌, ◌++◌, map}
use Rattle.std.specs.List.{All, insert}
use Rattle.std.proofs.Math.ListN.{set}
use Rattle.std.proofs.lemmas.List.Elements.{All-set, All-push, All-same, All-nil, All-cons, All-map}
use Rattle.algebra.specs.Poly.{all_held}
use Rattle.algebra.proofs.HeldLists.{all_from}

module _ {E V : Type 0} (value : E → V) (held : V → Bool) where
  abbrev pub IsHeld : E → Type 0
  IsHeld a = IsTrue (held (value a))

  pub held_none : (ys : List E) → ys ≡ [] → All IsHeld ys
  held_none ys e = All-same IsHeld ys [] e (All-nil IsHeld)

  pub held_set : (xs ys : List E) (i : ℕ) (x : E) → ys ≡ set xs i x → All IsHeld xs → IsHeld x → All IsHeld ys
  held_set xs ys i x e all one = All-same IsHeld ys (set xs i x) e (All-set IsHeld xs i x one all)

  pub held_push : (xs ys : List E) (x : E) → ys ≡ xs ++ x ∷ [] → All IsHeld xs → IsHeld x → All IsHeld ys
  held_push xs ys x e all one = All-same IsHeld ys (xs ++ x ∷ []) e (All-push IsHeld xs x all one)

  pub held_first : (xs ys : List E) (x : E) → ys ≡ insert xs 0 x → All IsHeld xs → IsHeld x → All IsHeld ys
  held_first xs ys x e all one = All-same IsHeld ys (x ∷ xs) e (All-cons IsHeld x xs one all)

  -- the values of held elements
  pub values_held : (xs : List E) → All IsHeld xs → IsTrue (all_held held (map value xs))
  values_held xs all = all_from held (map value xs) (All-map (λ v. IsTrue (held v)) value xs all)
