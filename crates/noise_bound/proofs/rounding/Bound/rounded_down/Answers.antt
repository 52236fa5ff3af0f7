use Rattle.std.proofs.Common.{◌∙◌, ap}
use Rattle.std.proofs.Math.Nat.{div-lt_iff_lt-mul}
use Rattle.std.proofs.lemmas.Nat.{pow_pos}
use Rattle.noise_bound.specs.Rounding.{down}
use Rattle.noise_bound.proofs.Words.{down-full, down-value}
use Rattle.noise_bound.proofs.rounding.Bound.rounded_down.Goals as goal

pub invariant_of-result : goal.invariant_of-result
invariant_of-result c = record {
  fits = (div-lt_iff_lt-mul (pow_pos c.excess-cut.result)).1 c.excess-cut.ensures.fits;
  normal = down-full _ _ _ c.lifted-number.ensures.long (record { fits = c.excess-cut.ensures.fits; full = c.excess-cut.ensures.full });
}

pub returns : goal.returns
returns c =
    down-value _ _ _ c.lifted-number.ensures.long (record { fits = c.excess-cut.ensures.fits; full = c.excess-cut.ensures.full })
    ∙ ap down c.lifted-number.ensures.same
