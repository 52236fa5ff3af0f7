use Rattle.std.proofs.Common.{◌≡◌, ◌++◌, ◌%◌, length, get_or, take, drop, ap, ◌∙◌, arith}
use Rattle.std.proofs.lemmas.List.{length-replicate}
use Rattle.ext_field.proofs.CombinationSteps.{whole_slice}
use Rattle.slot_factor.proofs.PowerSteps.{value_is}
use Rattle.slot_factor.proofs.powers.value.Goals as goal

pub returns-clause-value : goal.returns-clause-value
returns-clause-value c =
    let zeros = c.in_ok-sums.sums.items in
    let sums = c.add_terms.new.sums in
    let rests = c.reduce.new.sums in
    let kept = take c.in_ok-sums.sums.len (sums ++ drop (length sums) zeros) in
    let sums_long : length sums ≡ length zeros = c.add_terms.auto.sums ∙ ap length c.deref_mut.ensures.value in
    let kept_is : kept ≡ sums = whole_slice sums zeros c.in_ok-sums.sums.len sums_long (omega (arith, c.in_ok-sums.sums.ok)) in
    let rests_long : length rests ≡ length kept = c.reduce.auto.sums ∙ ap length c.deref_mut-2.ensures.value in
    let zeros_long : length zeros ≡ c.degree.result = ap length (c.in_ok-sums.ensures.items_if_clones_equal (λ _ e. e)) ∙ length-replicate c.degree.result 0 in
    value_is c.args.ext.now c.requires.valid.factor c.args.m c.args.t c.args.a.now sums rests c.deref.result.now c.in_ok-value.value c.p.result c.add_terms.ensures (λ j. c.reduce.ensures j ∙ ap (λ z. get_or z j 0 % c.p.result) (c.deref_mut-2.ensures.value ∙ kept_is)) c.p.ensures.value (rests_long ∙ ap length kept_is ∙ sums_long ∙ zeros_long ∙ c.degree.ensures.value) c.in_ok-value.ensures.value (c.deref.ensures.value ∙ whole_slice rests kept c.in_ok-sums.sums.len rests_long (omega (arith, c.in_ok-sums.sums.ok, ap length kept_is, sums_long)))
