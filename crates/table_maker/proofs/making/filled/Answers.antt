use Rattle.std.proofs.Common.{◌≡◌, length, take, drop, Ok, Err, sym, ap, ap₂, ◌∙◌, rules, arith, false}
use Rattle.table_maker.specs.Faults.{is_memory}
use Rattle.table_maker.specs.Filled.{filled}
use Rattle.table_maker.proofs.Filling.{chain-rows, filled-fault, filled-rows, rows-count, rows_read, special-rows}
use Rattle.table_maker.proofs.Shape.{all_ranges, with_rows-shape}
use Rattle.table_maker.proofs.making.filled.Goals as goal

pub returns-in_err-rows-clause-gives : goal.returns-in_err-rows-clause-gives
returns-in_err-rows-clause-gives c =
    let t = c.args.template in
    let fault = c.in_err-rows.field-0.0 in
    let given : is_memory fault ≡ false → filled t ≡ Err fault = λ is.
    filled-fault t fault
    (rows_read t _ _ _ (Err fault) (ap (λ t. t.m) c.template.view_is) (ap (λ t. t.p) c.template.view_is) (c.as_slice.ensures.value ∙ c.in_ok-moduli.ensures)
    (c.in_err-rows.ensures is)) in
    search (rules, given)

pub split_at-requires : goal.split_at-requires
split_at-requires c =
    let t = c.args.template in
    let rows = c.in_ok-rows.rows.items in
    let given = rows_read t _ _ _ (Ok rows) (ap (λ t. t.m) c.template.view_is) (ap (λ t. t.p) c.template.view_is) (c.as_slice.ensures.value ∙ c.in_ok-moduli.ensures) c.in_ok-rows.ensures in
    let held : c.len.result ≡ length c.template.inside.chain.items = search rules in
    let count : c.len.result ≡ length t.chain = held ∙ ap (λ t. length t.chain) c.template.view_is in
    omega (arith, count, rows-count t rows given, c.as_slice-2.ensures.len)

pub inverses-requires : goal.inverses-requires
inverses-requires c = rw (c.as_slice-3.ensures.value, c.in_ok-moduli.ensures) (all_ranges c.args.template c.requires)

pub with_rows-requires-clause-chain : goal.with_rows-requires-clause-chain
with_rows-requires-clause-chain c =
    let t = c.args.template in
    let rows = c.in_ok-rows.rows.items in
    let given = rows_read t _ _ _ (Ok rows) (ap (λ t. t.m) c.template.view_is) (ap (λ t. t.p) c.template.view_is) (c.as_slice.ensures.value ∙ c.in_ok-moduli.ensures) c.in_ok-rows.ensures in
    let held : c.len.result ≡ length c.template.inside.chain.items = search rules in
    let count : c.len.result ≡ length t.chain = held ∙ ap (λ t. length t.chain) c.template.view_is in
    c.in_ok-chain.ensures.items ∙ c.split_at.ensures.front ∙ ap₂ take count c.as_slice-2.ensures.value ∙ chain-rows t rows given

pub with_rows-requires-clause-special : goal.with_rows-requires-clause-special
with_rows-requires-clause-special c =
    let t = c.args.template in
    let rows = c.in_ok-rows.rows.items in
    let given = rows_read t _ _ _ (Ok rows) (ap (λ t. t.m) c.template.view_is) (ap (λ t. t.p) c.template.view_is) (c.as_slice.ensures.value ∙ c.in_ok-moduli.ensures) c.in_ok-rows.ensures in
    let held : c.len.result ≡ length c.template.inside.chain.items = search rules in
    let count : c.len.result ≡ length t.chain = held ∙ ap (λ t. length t.chain) c.template.view_is in
    c.in_ok-special.ensures.items ∙ c.split_at.ensures.back ∙ ap₂ drop count c.as_slice-2.ensures.value ∙ special-rows t rows given

pub returns-clause-gives : goal.returns-clause-gives
returns-clause-gives c =
    let t = c.args.template in
    let rows = c.in_ok-rows.rows.items in
    let given = rows_read t _ _ _ (Ok rows) (ap (λ t. t.m) c.template.view_is) (ap (λ t. t.p) c.template.view_is) (c.as_slice.ensures.value ∙ c.in_ok-moduli.ensures) c.in_ok-rows.ensures in
    filled-rows t rows given ∙ ap Ok (sym c.with_rows.ensures)

pub returns-clause-shape : goal.returns-clause-shape
returns-clause-shape c = rw c.with_rows.ensures (with_rows-shape c.args.template c.requires)
