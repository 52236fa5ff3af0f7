use Rattle.std.proofs.Common.{◌≡◌, ◌+◌, ◌*◌, true, false, get_or, arith, rules, ◌∙◌, None}
use Rattle.std.specs.Char.{digit_value}
use Rattle.std.proofs.lemmas.Bool.Decides.{nat_tests}
use Rattle.std.proofs.lemmas.Grind.{common_steps}
use Rattle.std.proofs.lemmas.List.{length-set}
use Rattle.line_text.specs.Seeds.{is_seed_digit}
use Rattle.line_text.proofs.SeedLemmas.{seed_of_line-length, first_is_none, second_is_none, seed_more, seed_whole}
use Rattle.line_text.proofs.seeds.seed_of_line.Goals as goal

pub returns-then-line-ne64 : goal.returns-then-line-ne64
returns-then-line-ne64 c = seed_of_line-length c.args.line.now (grind (arith, nat_tests))

pub returns-in_err-half : goal.returns-in_err-half
returns-in_err-half c =
    let line = c.args.line.now in
    let i = c.loop-i.i in
    let none : c.from_residual.result ≡ None = search rules in
    let other : is_seed_digit (get_or line (2 * i) 0) ≡ false = grind (arith, common_steps) in
    none ∙ first_is_none line i (omega arith) other c.loop-i.invariant.digits

pub returns-in_err-seed : goal.returns-in_err-seed
returns-in_err-seed c =
    let line = c.args.line.now in
    let i = c.loop-i.i in
    let none : c.from_residual-in_err-seed.result ≡ None = search rules in
    let digit : is_seed_digit (get_or line (2 * i) 0) ≡ true = grind (arith, common_steps) in
    let other : is_seed_digit (get_or line (2 * i + 1) 0) ≡ false = grind (arith, common_steps) in
    none ∙ second_is_none line i (omega arith) digit other c.loop-i.invariant.digits

pub loop-i-preserved : goal.loop-i-preserved
loop-i-preserved c =
    let line = c.args.line.now in
    let i = c.loop-i.i in
    let first : is_seed_digit (get_or line (2 * i) 0) ≡ true = grind (arith, common_steps) in
    let second : is_seed_digit (get_or line (2 * i + 1) 0) ≡ true = grind (arith, common_steps) in
    let high : c.in_ok-half.field-0 ≡ digit_value (get_or line (2 * i) 0) = grind (arith, common_steps) in
    let low : c.in_ok-seed.field-0 ≡ digit_value (get_or line (2 * i + 1) 0) = grind (arith, common_steps) in
    let more = seed_more line c.loop-i.seed i c.in_ok-half.field-0 c.in_ok-seed.field-0 (omega arith) (omega arith) first second high low c.loop-i.invariant.digits c.loop-i.invariant.so_far in
    record {
      whole = length-set _ _ _ ∙ c.loop-i.invariant.whole;
      digits = more.0;
      so_far = more.1;
    }

pub returns : goal.returns
returns c =
    let at_end : c.loop-i.i ≡ 32 = omega arith in
    seed_whole c.args.line.now c.loop-i.seed (omega arith) c.loop-i.invariant.whole (rw at_end at c.loop-i.invariant.digits) (rw at_end at c.loop-i.invariant.so_far)
