use Rattle.std.proofs.Common.{map, Vec, ℕ, Global, refl, sym, ◌∙◌, arith}
use Rattle.std.proofs.lemmas.List.{length-map}
use Rattle.moduli_table.specs.Chain.{Chain, IsShaped}
use Rattle.moduli_table.specs.Inside.{chain_of}
use Rattle.moduli_table.proofs.Accepting.{accepted}
use Rattle.moduli_table.proofs.Shapes.{same_shape}
use Rattle.moduli_table.proofs.moduli.Moduli.new.Goals as goal

pub invariant_of-result : goal.invariant_of-result
invariant_of-result c =
    let s : Chain = chain_of (record { m = c.args.m; p = c.args.p; chain = c.in_ok-from_slice.field-0; special = c.in_ok-from_slice-2.field-0; inverse = c.in_ok-copies.field-0 }) in
    let given : Chain = record { m = c.args.m; p = c.args.p; chain = c.args.chain.now; special = c.args.special.now; inverse = map (λ list. list.items) c.args.inverse.now } in
    let lists = length-map c.args.inverse.now (λ (list : Vec ℕ Global). list.items) in
    let r = c.requires in
    let shaped : IsShaped given = record { m_low = r.m_low; m_high = r.m_high; p_low = r.p_low; p_high = r.p_high; chain_low = r.chain_low; chain_high = r.chain_high; special_low = r.special_low; special_high = r.special_high; lists = lists ∙ r.lists; entries = λ j l. r.entries j (omega (arith, l, r.lists)) } in
    record { shaped = same_shape s given refl refl c.in_ok-from_slice.ensures.items c.in_ok-from_slice-2.ensures.items c.in_ok-copies.ensures shaped; moduli = accepted s (sym c.first_fault.ensures ∙ c.in_default.is) }

pub returns-clause-valid : goal.returns-clause-valid
returns-clause-valid c =
    let s : Chain = chain_of (record { m = c.args.m; p = c.args.p; chain = c.in_ok-from_slice.field-0; special = c.in_ok-from_slice-2.field-0; inverse = c.in_ok-copies.field-0 }) in
    let given : Chain = record { m = c.args.m; p = c.args.p; chain = c.args.chain.now; special = c.args.special.now; inverse = map (λ list. list.items) c.args.inverse.now } in
    let lists = length-map c.args.inverse.now (λ (list : Vec ℕ Global). list.items) in
    let r = c.requires in
    let shaped : IsShaped given = record { m_low = r.m_low; m_high = r.m_high; p_low = r.p_low; p_high = r.p_high; chain_low = r.chain_low; chain_high = r.chain_high; special_low = r.special_low; special_high = r.special_high; lists = lists ∙ r.lists; entries = λ j l. r.entries j (omega (arith, l, r.lists)) } in
    record { shaped = same_shape s given refl refl c.in_ok-from_slice.ensures.items c.in_ok-from_slice-2.ensures.items c.in_ok-copies.ensures shaped; moduli = accepted s (sym c.first_fault.ensures ∙ c.in_default.is) }
