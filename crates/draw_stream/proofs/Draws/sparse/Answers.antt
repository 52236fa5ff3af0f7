use Rattle.std.proofs.Common.{◌≡◌, length, arith, ap, ◌∙◌}
use Rattle.std.proofs.lemmas.List.FromFn.{length-range_with_len}
use Rattle.std.proofs.lemmas.List.{take_at}
use Rattle.draw_stream.specs.Sparse.{sparse_of}
use Rattle.draw_stream.proofs.Draws.sparse.Goals as goal

pub choose-requires-clause-within : goal.choose-requires-clause-within
choose-requires-clause-within c =
    let e = c.deref_mut.ensures.value ∙ c.in_ok-order.ensures in
    omega (arith, ap length e, length-range_with_len 0 c.args.n)

pub choose-requires-clause-few : goal.choose-requires-clause-few
choose-requires-clause-few c =
    let e = c.deref_mut.ensures.value ∙ c.in_ok-order.ensures in
    omega (arith, ap length e, length-range_with_len 0 c.args.n)

pub choose-requires-clause-start : goal.choose-requires-clause-start
choose-requires-clause-start c =
    let e = c.deref_mut.ensures.value ∙ c.in_ok-order.ensures in
    let n : length c.deref_mut.result.now ≡ c.args.n = ap length e ∙ length-range_with_len 0 c.args.n in
    rw n (e, c.deref_mut-2.ensures.value ∙ c.in_ok-coefficients.ensures)

pub returns-clause-value : goal.returns-clause-value
returns-clause-value c =
    let e = c.deref_mut.ensures.value ∙ c.in_ok-order.ensures in
    let n : length c.deref_mut.result.now ≡ c.args.n = ap length e ∙ length-range_with_len 0 c.args.n in
    let same : length c.choose.new.coefficients ≡ c.in_ok-coefficients.coefficients.len = c.choose.auto.coefficients ∙ c.deref_mut-2.ensures.len in
    take_at c.choose.new.coefficients _ c.in_ok-coefficients.coefficients.len same ∙ c.choose.ensures.value ∙ ap (λ k. sparse_of c.args.self.now k c.args.weight) n
