use Rattle.std.proofs.Common.{add-one, ◌≡◌, ℕ, sym, ◌∙◌, ap, arith, ◌*◌, ◌+◌, ◌%◌, ◌^◌, ◌<◌, ◌≤◌}
use Rattle.std.proofs.Math.Nat.{pow-suc}
use Rattle.std.proofs.lemmas.Nat.{pow_pos, one_shl}
use Rattle.std.specs.Int.{div_ceil}
use Rattle.noise_bound.specs.Rounding.{up}
use Rattle.noise_bound.proofs.RoundingLaws.{IsExponent, div_ceil_le}
use Rattle.noise_bound.proofs.Words.{up-full, up-value}
use Rattle.noise_bound.proofs.rounding.Bound.rounded_up.Goals as goal

same_quotient : (n cut man : ℕ) → cut ≤ 96 → man ≡ div_ceil n (1 * 2 ^ cut % 2 ^ 128) → man ≡ div_ceil n (2 ^ cut)
same_quotient n cut man small is = is ∙ ap (λ d. div_ceil n d) (one_shl cut 128 (omega arith))

at_most : (n cut man : ℕ) → IsExponent n cut → man ≡ div_ceil n (2 ^ cut) → man ≤ 2 ^ 32
at_most n cut man ex is = omega (arith, is, div_ceil_le n (2 ^ cut) (2 ^ 32) (pow_pos cut) (omega (arith, ex.fits)))

value_of_result : (n e cut man : ℕ) → (0 < e → 2 ^ 127 ≤ n) → IsExponent n cut → man ≡ div_ceil n (2 ^ cut) → man * 2 ^ (e + cut) ≡ up (n * 2 ^ e)
value_of_result n e cut man long ex is = ap (λ z. z * 2 ^ (e + cut)) is ∙ up-value n e cut long ex

carried : (man k : ℕ) → man ≡ 2 ^ 32 → 2 ^ 31 * 2 ^ (k + 1) ≡ man * 2 ^ k
carried man k is = ap (λ e. 2 ^ 31 * 2 ^ e) (add-one k) ∙ omega (arith, pow-suc 2 k) ∙ ap (λ z. z * 2 ^ k) (sym is)

pub returns-then-man : goal.returns-then-man
returns-then-man c =
    let ex : IsExponent c.lifted-number.result.0 c.excess-cut.result = record { fits = c.excess-cut.ensures.fits; full = c.excess-cut.ensures.full } in
    let is = same_quotient c.lifted-number.result.0 _ _ c.excess-cut.ensures.small c.div_ceil-man.ensures in
    carried c.div_ceil-man.result (c.lifted-number.result.1 + c.excess-cut.result) c.if-man.true
    ∙ value_of_result _ _ _ _ c.lifted-number.ensures.long ex is ∙ ap up c.lifted-number.ensures.same

pub invariant_of-result-2 : goal.invariant_of-result-2
invariant_of-result-2 c =
    let ex : IsExponent c.lifted-number.result.0 c.excess-cut.result = record { fits = c.excess-cut.ensures.fits; full = c.excess-cut.ensures.full } in
    let is = same_quotient c.lifted-number.result.0 _ _ c.excess-cut.ensures.small c.div_ceil-man.ensures in
    let most = at_most _ _ _ ex is in
    record {
      fits = omega (arith, most);
      normal = λ some. omega (arith, is, up-full _ _ _ c.lifted-number.ensures.long ex some);
    }

pub returns : goal.returns
returns c =
    let ex : IsExponent c.lifted-number.result.0 c.excess-cut.result = record { fits = c.excess-cut.ensures.fits; full = c.excess-cut.ensures.full } in
    let is = same_quotient c.lifted-number.result.0 _ _ c.excess-cut.ensures.small c.div_ceil-man.ensures in
    value_of_result _ _ _ _ c.lifted-number.ensures.long ex is ∙ ap up c.lifted-number.ensures.same
