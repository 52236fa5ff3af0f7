use Rattle.std.proofs.Common.{◌≡◌, ◌*◌, ◌%◌, ◌^◌, ◌<◌, sym, ◌∙◌, ap, arith, mod-eq_of_lt}
use Rattle.bluestein.proofs.Ranges.{entries_more}
use Rattle.bluestein.proofs.Powers.{power_more, step_more, first_power, zero_power}
use Rattle.bluestein.proofs.chirps.square_powers.Goals as goal

pub loop-i-init : goal.loop-i-init
loop-i-init c = record {
  power = sym (ap (λ z. z % c.args.ring.now.q) (zero_power c.args.factor c.args.base) ∙ mod-eq_of_lt c.requires.factor_in);
  step = sym (ap (λ z. z % c.args.ring.now.q) (first_power c.args.base) ∙ mod-eq_of_lt c.requires.base_in);
  done = λ k l. absurd (omega arith);
  small = λ k l. absurd (omega arith);
  power_in = c.requires.factor_in;
  step_in = c.requires.base_in;
}

pub loop-i-preserved : goal.loop-i-preserved
loop-i-preserved c =
    let q = c.args.ring.now.q in
    let now = c.loop-i in
    let I = c.loop-i.invariant in
    record {
      power = c.mul_word-power.ensures.value ∙ power_more q c.args.factor c.args.base now.i now.power now.step I.power I.step;
      step = c.mul_word-step.ensures.value ∙ step_more q c.args.base now.i now.step c.mul_word-square.result I.step c.mul_word-square.ensures.value;
      done = entries_more (λ k a. a ≡ (c.args.factor * c.args.base ^ (k * k)) % q) now.out now.i now.power (omega arith) I.done I.power;
      small = entries_more (λ k a. a < q) now.out now.i now.power (omega arith) I.small I.power_in;
      power_in = c.mul_word-power.ensures.below;
      step_in = c.mul_word-step.ensures.below;
    }
