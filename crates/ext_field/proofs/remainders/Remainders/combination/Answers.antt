use Rattle.std.proofs.Common.{ℕ, ◌≡◌, ◌+◌, ◌*◌, ◌%◌, ◌^◌, ◌<◌, ◌∙◌, length, get_or, take, drop, ◌++◌, ap, sym, subst, arith}
use Rattle.ext_field.specs.Element.{IsElement}
use Rattle.ext_field.proofs.Rows.{element_below}
use Rattle.ext_field.proofs.CombinationSteps.{AreSums, whole_slice, sums_more, small_at, product_small, combined_value, combined_in}
use Rattle.ext_field.proofs.remainders.Remainders.combination.Goals as goal

pub loop-j-preserved : goal.loop-j-preserved
loop-j-preserved c =
    let factors = c.args.factors.now in
    let rows = c.args.rows.now in
    let j = c.loop-j.j in
    let old = c.loop-j.sums.items in
    let new = c.add_multiple.new.sums in
    let row = c.coeffs.result.now in
    let F = c.degree.ensures.valid in
    let same : length new ≡ length old = c.add_multiple.auto.sums ∙ ap length c.deref_mut.ensures.value in
    let slice : take c.loop-j.sums.len (new ++ drop (length new) old) ≡ new = whole_slice new old c.loop-j.sums.len same (omega (arith, c.loop-j.sums.ok)) in
    let inside : j < length rows = omega (arith, c.requires.long, c.loop-j-test.true) in
    let row_is : row ≡ get_or rows j row = c.coeffs.ensures ∙ c.index-rows-j.is ∙ ap (get_or rows j) (sym c.coeffs.ensures) in
    let step : (i : ℕ) → get_or new i 0 ≡ get_or old i 0 + get_or factors j 0 * get_or row i 0 = subst (λ z. (i : ℕ) → get_or new i 0 ≡ get_or z i 0 + get_or factors j 0 * get_or row i 0) c.deref_mut.ensures.value c.add_multiple.ensures in
    let factor_in : get_or factors j 0 < 2 ^ 17 = omega (arith, F.p_high, c.requires.factors_in j 0 c.loop-j-test.true) in
    let sums : AreSums factors rows (j + 1) new = sums_more factors rows j row old new inside row_is step c.loop-j.invariant.sums in
    let in_row : (i : ℕ) → get_or row i 0 < 2 ^ 17 = λ i. small_at (2 ^ 17) row (omega arith) (λ k d l. omega (arith, F.p_high, element_below c.args.self.now row (subst (IsElement c.args.self.now) (sym row_is) (c.requires.rows_in j row inside)) k d l)) i in
    record {
      long = c.loop-j.invariant.long;
      sums = rw slice sums;
      small = rw slice (λ i. omega (arith, step i, c.loop-j.invariant.small i, product_small (get_or factors j 0) (get_or row i 0) factor_in (in_row i)));
    }

pub returns-clause-value : goal.returns-clause-value
returns-clause-value c =
    let old = c.loop-j.sums.items in
    let new = c.reduce.new.sums in
    let same : length new ≡ length old = c.reduce.auto.sums ∙ ap length c.deref_mut-2.ensures.value in
    let slice : take c.loop-j.sums.len (new ++ drop (length new) old) ≡ new = whole_slice new old c.loop-j.sums.len same (omega (arith, c.loop-j.sums.ok)) in
    combined_value c.args.self.now c.degree.ensures.valid c.args.factors.now c.args.rows.now c.loop-j.j c.p.result old new _ slice c.loop-j-test.false (omega arith) c.requires.long c.requires.rows_in c.loop-j.invariant.sums c.p.ensures (subst (λ z. (i : ℕ) → get_or new i 0 ≡ get_or z i 0 % c.p.result) c.deref_mut-2.ensures.value c.reduce.ensures) (omega (arith, same, c.loop-j.sums.ok, c.loop-j.invariant.long))

pub returns-clause-element : goal.returns-clause-element
returns-clause-element c =
    let old = c.loop-j.sums.items in
    let new = c.reduce.new.sums in
    let same : length new ≡ length old = c.reduce.auto.sums ∙ ap length c.deref_mut-2.ensures.value in
    let slice : take c.loop-j.sums.len (new ++ drop (length new) old) ≡ new = whole_slice new old c.loop-j.sums.len same (omega (arith, c.loop-j.sums.ok)) in
    combined_in c.args.self.now c.degree.ensures.valid c.args.factors.now c.args.rows.now _ c.requires.long c.requires.rows_in (combined_value c.args.self.now c.degree.ensures.valid c.args.factors.now c.args.rows.now c.loop-j.j c.p.result old new _ slice c.loop-j-test.false (omega arith) c.requires.long c.requires.rows_in c.loop-j.invariant.sums c.p.ensures (subst (λ z. (i : ℕ) → get_or new i 0 ≡ get_or z i 0 % c.p.result) c.deref_mut-2.ensures.value c.reduce.ensures) (omega (arith, same, c.loop-j.sums.ok, c.loop-j.invariant.long)))
