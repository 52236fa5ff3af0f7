use Rattle.std.proofs.Common.{refl}
use Rattle.noise_bound.proofs.Steps.{exponent_of_form, mantissa_of_form}
use Rattle.noise_bound.proofs.TableLaws.{exp_mono}
use Rattle.noise_bound.proofs.laws.law_form.Goals as goal

pub returns : goal.returns
returns c = record {
  exp = λ b. exponent_of_form b.man b.exp b.fits b.normal;
  man = λ b. mantissa_of_form b.man b.exp b.fits b.normal;
  floating = λ b. record { man = b.man; exp = b.exp; fits = b.fits; is = refl };
  ordered = exp_mono;
}
