-- What holds of the value of an option, if it has one.
use Rattle.std.proofs.Common.{◌≡◌, Bool, true, false, cond, Option, Some, None, option_map, refl, subst}
use Rattle.slot_program.specs.Elements.{◌>>=◌}

module _ {X : Type 0} (P : X → Type 0) where
  abbrev pub Makes : Option X → Type 0
  Makes o = (x : X) → o ≡ Some x → P x

  pub makes_none : Makes None
  makes_none x is = absurd (cc)

  pub makes_some : (y : X) → P y → Makes (Some y)
  makes_some y holds x is =
      let same : y ≡ x = cc in
      subst P same holds

  pub makes_if : (b : Bool) (o p : Option X) → (b ≡ true → Makes o) → (b ≡ false → Makes p) → Makes (cond b o p)
  makes_if true o p first second = first refl
  makes_if false o p first second = second refl

  pub makes_map : {Y : Type 0} (g : Y → X) (o : Option Y) → ((y : Y) → o ≡ Some y → P (g y)) → Makes (option_map g o)
  makes_map g None holds = makes_none
  makes_map g (Some y) holds = makes_some (g y) (holds y refl)

  pub makes_bind : {Y : Type 0} (o : Option Y) (g : Y → Option X) → ((y : Y) → o ≡ Some y → Makes (g y)) → Makes (o >>= g)
  makes_bind None g holds = makes_none
  makes_bind (Some y) g holds = holds y refl
