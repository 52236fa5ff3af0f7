-- Whether the power eta^p of the root eta of a polynomial is a root of it.
use Rattle.std.proofs.Common.{◌≡◌, ℕ, Bool, true, false, List, map, ap, ap₂, sym, ◌∙◌, subst}
use Rattle.std.proofs.lemmas.List.{map-id}
use Rattle.algebra.specs.Power.{power}
use Rattle.algebra.specs.Poly.{value_at}
use Rattle.ext_field.specs.Element.{Extension, IsFrobenius, elements, eta, number}

IsYes : Bool → Type 0
IsYes true = Unit {0}
IsYes false = ⊥

pub never : (b : Bool) → b ≡ false → b ≡ true → ⊥
unfolding IsYes
never b is_false is_true = subst IsYes (sym is_true ∙ is_false) tt

module _ (b f : Extension) (b_is : b ≡ f) (x i v z : List ℕ) (ns ms : List (List ℕ)) (x_is : x ≡ eta b) (i_is : i ≡ power (elements b) x f.p) where
  pub image_is : i ≡ power (elements b) (eta b) b.p
  image_is = i_is ∙ ap₂ (λ y n. power (elements b) y n) x_is (sym (ap (λ g. g.p) b_is))

  module _ (ns_is : ns ≡ map (number b) f.factor) (ms_is : ms ≡ ns) (v_is : v ≡ value_at (elements b) i (map (λ a. a) ms)) (z_is : z ≡ (elements b).zero) where
    total : v ≡ value_at (elements b) (power (elements b) (eta b) b.p) (map (number b) b.factor)
    total = v_is ∙ ap₂ (λ y s. value_at (elements b) y s) image_is (map-id ms ∙ ms_is ∙ ns_is ∙ ap (λ g. map (number b) g.factor) (sym b_is))

    pub frobenius : v ≡ z → IsFrobenius b
    unfolding IsFrobenius
    frobenius e = sym total ∙ e ∙ z_is

    pub zero_value : IsFrobenius f → v ≡ z
    unfolding IsFrobenius
    zero_value h = total ∙ subst IsFrobenius (sym b_is) h ∙ sym z_is
