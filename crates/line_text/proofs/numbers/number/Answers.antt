use Rattle.std.proofs.Common.{◌≡◌, ◌≤◌, ◌+◌, ◌*◌, ◌^◌, refl, true, false, ◌&&◌, nat_le, length, take, get_or, None, rules, arith, ◌∙◌, sym}
use Rattle.std.specs.Char.{is_ascii_digit}
use Rattle.std.specs.List.{list_all}
use Rattle.std.specs.Str.Parse.{digits_value}
use Rattle.std.proofs.lemmas.Bool.Decides.{nat_tests}
use Rattle.std.proofs.lemmas.List.{take_all}
use Rattle.std.proofs.lemmas.List.Folds.{list_all_more}
use Rattle.line_text.proofs.NumberLemmas.{number_of-length, number_of-digit, number_of-part, number_of_is, value_of_more}
use Rattle.line_text.proofs.numbers.number.Goals as goal

pub returns-then-not-contains : goal.returns-then-not-contains
returns-then-not-contains c =
    let word = c.args.word.now in
    let out : nat_le 1 (length word) && nat_le (length word) 20 ≡ false = grind (arith, nat_tests) in
    number_of-length word out

pub returns-then-not-is_ascii_digit : goal.returns-then-not-is_ascii_digit
returns-then-not-is_ascii_digit c =
    let word = c.args.word.now in
    let i = c.loop-byte.byte-index in
    let other : is_ascii_digit (get_or word i 0) ≡ false = search rules in
    number_of-digit word i (omega arith) other

pub returns-in_err-checked_mul : goal.returns-in_err-checked_mul
returns-in_err-checked_mul c =
    let word = c.args.word.now in
    let i = c.loop-byte.byte-index in
    let digit : is_ascii_digit (get_or word i 0) ≡ true = search rules in
    let more = value_of_more word i c.loop-byte.value (omega arith) digit c.loop-byte.invariant.so_far in
    let none : c.from_residual.result ≡ None = search rules in
    let large : 2 ^ 64 ≤ c.loop-byte.value * 10 = grind arith in
    none ∙ number_of-part word (i + 1) (omega arith)

pub returns-in_err-value : goal.returns-in_err-value
returns-in_err-value c =
    let word = c.args.word.now in
    let i = c.loop-byte.byte-index in
    let digit : is_ascii_digit (get_or word i 0) ≡ true = search rules in
    let more = value_of_more word i c.loop-byte.value (omega arith) digit c.loop-byte.invariant.so_far in
    let none : c.from_residual-in_err-value.result ≡ None = search rules in
    let large : 2 ^ 64 ≤ digits_value 10 (take (i + 1) word) = grind arith in
    none ∙ number_of-part word (i + 1) large

pub loop-byte-preserved : goal.loop-byte-preserved
loop-byte-preserved c =
    let word = c.args.word.now in
    let i = c.loop-byte.byte-index in
    let digit : is_ascii_digit (get_or word i 0) ≡ true = search rules in
    let more = value_of_more word i c.loop-byte.value (omega arith) digit c.loop-byte.invariant.so_far in
    record {
      digits = list_all_more is_ascii_digit word i 0 (omega arith) ∙ rw (c.loop-byte.invariant.digits, digit) refl;
      fits = grind arith;
      so_far = grind arith;
    }

pub returns : goal.returns
returns c =
    let word = c.args.word.now in
    let all : take c.loop-byte.byte-index word ≡ word = take_all _ word (omega arith) in
    let digits : list_all is_ascii_digit word ≡ true = rw all at c.loop-byte.invariant.digits in
    let value : c.loop-byte.value ≡ digits_value 10 word = rw all at c.loop-byte.invariant.so_far in
    let few : length word ≤ 20 = grind (arith, nat_tests) in
    let some : 1 ≤ length word = grind (arith, nat_tests) in
    rw value (sym (number_of_is word some few digits (omega arith)))
