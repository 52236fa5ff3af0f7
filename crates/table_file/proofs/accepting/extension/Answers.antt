use Rattle.std.proofs.Common.{◌≡◌, ◌∙◌, Err, ap, rules}
use Rattle.table_file.specs.declared.faults.TableFault.TheVariants.{NotFrobenius}
use Rattle.table_file.proofs.Checks.{document_passes, document_refused}
use Rattle.table_file.proofs.accepting.extension.Goals as goal

pub returns-in-Ok-clause-gives : goal.returns-in-Ok-clause-gives
returns-in-Ok-clause-gives c =
    let p_is : c.from.result ≡ c.args.document.now.p = search rules in
    document_passes c.in-Ok.ext c.args.document.now c.from.result c.as_slice.result.now p_is (c.as_slice.ensures.value ∙ ap (λ t. t.factor) c.document.view_is) NotFrobenius c.in-Ok.ensures.value c.in-Ok.ensures.valid

pub returns-in-Err-NotFrobenius-clause-gives : goal.returns-in-Err-NotFrobenius-clause-gives
returns-in-Err-NotFrobenius-clause-gives c =
    let p_is : c.from.result ≡ c.args.document.now.p = search rules in
    λ _. document_refused c.args.document.now c.from.result c.as_slice.result.now NotFrobenius p_is (c.as_slice.ensures.value ∙ ap (λ t. t.factor) c.document.view_is) (c.in-Err-NotFrobenius.ensures.refused (ap Err c.in-Err-NotFrobenius.field-0-is))
