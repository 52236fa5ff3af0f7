-- Equality up to a multiple of an element g of a ring.
use Rattle.std.specs.Prelude.{◌≡◌, [], ◌∷◌, refl}
use Rattle.std.proofs.Common.{sym, ◌∙◌, ap, ap₂}
use Rattle.algebra.specs.Ring.{CommRing}
use Rattle.algebra.specs.Hom.{Hom}
use Rattle.algebra.specs.Power.{less, Divides}
use Rattle.algebra.proofs.Homs.{map_less}
use Rattle.algebra.proofs.Powers.{Divides_trans}
use Rattle.algebra.specs.Expression.{var, ◌:*◌, ◌:+◌, ◌:-◌, minus, :0}
use Rattle.algebra.proofs.Solver.{solve, env, solve2, solve3, solve4}

module _ (R : CommRing) (g : R.Carrier) where
  open R use {add as ◌+◌, mul as ◌*◌, neg as neg, zero as 𝟘, one as 𝟙}

  infixl 70 ◌+◌
  infixl 70 ◌-◌
  infixl 75 ◌*◌
  abbrev ◌-◌ : R.Carrier → R.Carrier → R.Carrier
  a - b = less R.ops a b

  abbrev pub Alike : R.Carrier → R.Carrier → Type 0
  Alike a b = Divides R.ops g (a - b)

  pub Alike_of_path : (a b : R.Carrier) → a ≡ b → Alike a b
  Alike_of_path a b e = (𝟘, ap (λ z. z - b) e ∙ solve2 R (λ b g. b :- b) (λ b g. g :* :0) refl b g)

  pub Alike_sym : (a b : R.Carrier) → Alike a b → Alike b a
  Alike_sym a b (c, e) = (neg c, solve2 R (λ a b. b :- a) (λ a b. minus (a :- b)) refl a b ∙ ap neg e ∙ solve2 R (λ g c. minus (g :* c)) (λ g c. g :* minus c) refl g c)

  pub Alike_trans : (a b c : R.Carrier) → Alike a b → Alike b c → Alike a c
  Alike_trans a b c (u, e) (v, f) = (u + v, solve3 R (λ a b c. a :- c) (λ a b c. a :- b :+ (b :- c)) refl a b c ∙ ap₂ (λ y z. y + z) e f ∙ solve3 R (λ g u v. g :* u :+ g :* v) (λ g u v. g :* (u :+ v)) refl g u v)

  pub Alike_add : (a b c d : R.Carrier) → Alike a b → Alike c d → Alike (a + c) (b + d)
  Alike_add a b c d (u, e) (v, f) = (u + v, solve4 R (λ a b c d. a :+ c :- (b :+ d)) (λ a b c d. a :- b :+ (c :- d)) refl a b c d ∙ ap₂ (λ y z. y + z) e f ∙ solve3 R (λ g u v. g :* u :+ g :* v) (λ g u v. g :* (u :+ v)) refl g u v)

  pub Alike_mul : (a b c d : R.Carrier) → Alike a b → Alike c d → Alike (a * c) (b * d)
  Alike_mul a b c d (u, e) (v, f) = (u * c + b * v, solve4 R (λ a b c d. a :* c :- b :* d) (λ a b c d. (a :- b) :* c :+ b :* (c :- d)) refl a b c d ∙ ap₂ (λ y z. y * c + b * z) e f ∙ solve R (env 𝟘 (g ∷ u ∷ v ∷ b ∷ c ∷ [])) (var 0 :* var 1 :* var 4 :+ var 3 :* (var 0 :* var 2)) (var 0 :* (var 1 :* var 4 :+ var 3 :* var 2)) refl)

  pub Alike_scale : (k a b : R.Carrier) → Alike a b → Alike (k * a) (k * b)
  Alike_scale k a b (u, e) = (k * u, solve3 R (λ k a b. k :* a :- k :* b) (λ k a b. k :* (a :- b)) refl k a b ∙ ap (λ z. k * z) e ∙ solve3 R (λ k g u. k :* (g :* u)) (λ k g u. g :* (k :* u)) refl k g u)

  -- a map of rings for which the image of g is a multiple of g keeps it
  pub Alike_map : (F : Hom R R) → Divides R.ops g (F.map g) → (a b : R.Carrier) → Alike a b → Alike (F.map a) (F.map b)
  Alike_map F d a b (u, e) = Divides_trans R g (F.map g) (F.map a - F.map b) d (F.map u, sym (map_less R R F a b) ∙ ap F.map e ∙ F.map_mul g u)
