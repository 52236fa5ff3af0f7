use Rattle.std.proofs.Common.{◌-◌, ◌*◌, ◌%◌, ◌^◌, ap, ◌∙◌, subst, arith}
use Rattle.std.proofs.lemmas.List.{with_items_is}
use Rattle.std.specs.Vec.{with_items}
use Rattle.two_power.specs.Tree.{IsGrown, AreFactors}
use Rattle.two_power.proofs.Product.{inverse_of_half}
use Rattle.two_power.proofs.Made.{tables_made, row_made}
use Rattle.two_power.proofs.cyclic.Cyclic.new.Goals as goal

pub grow-requires-clause-one : goal.grow-requires-clause-one
grow-requires-clause-one c =
    let q = c.args.q in
    ap (λ z. (c.args.psi * c.power_word-inverse.result) % z) c.residues_modulo-ring.ensures ∙ inverse_of_half q c.args.levels (c.args.levels - 1) c.len.result c.args.psi c.power_word-inverse.result c.requires.above (omega arith) (omega arith) c.requires.psi_half (c.power_word-inverse.ensures.value ∙ ap (λ z. c.args.psi ^ (c.len.result - 1) % z) c.residues_modulo-ring.ensures)

pub invariant_of-result : goal.invariant_of-result
invariant_of-result c =
    let q = c.args.q in
    let ws = c.grow.new.ws in
    let vs = c.grow.new.vs in
    let values = c.to_values.new.row in
    let ws_is = with_items_is c.in_ok-ws.ws ws (omega arith) in
    let vs_is = with_items_is c.in_ok-vs.vs vs (omega arith) in
    let values_is = with_items_is c.args.row values (omega arith) in
    tables_made _ c.args.psi ws vs values ws_is vs_is values_is c.requires.above c.requires.small c.requires.some (subst (λ z. IsGrown z (c.args.levels - 1) c.args.psi ws vs) c.residues_modulo-ring.ensures c.grow.ensures.grown) (subst (λ z. AreFactors q z c.in_ok-ws_quotients.ws_quotients.items) (c.deref.ensures.value ∙ ws_is) c.in_ok-ws_quotients.ensures) (subst (λ z. AreFactors q z c.in_ok-vs_quotients.vs_quotients.items) (c.deref-2.ensures.value ∙ vs_is) c.in_ok-vs_quotients.ensures) (omega arith) (subst (λ z. AreFactors q z c.in_ok-values_quotients.values_quotients.items) (c.deref-5.ensures.value ∙ values_is) c.in_ok-values_quotients.ensures)

pub returns-clause-row : goal.returns-clause-row
returns-clause-row c = row_made c.args.q c.args.levels (with_items c.in_ok-ws.ws c.grow.new.ws).items (with_items c.args.row c.to_values.new.row).items c.deref-3.result.now c.args.row.items c.deref_mut-3.result.now c.to_values.new.row c.deref-3.ensures.value c.deref_mut-3.ensures.value (with_items_is c.args.row c.to_values.new.row (omega arith)) c.requires.size c.to_values.ensures.values
