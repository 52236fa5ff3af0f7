use Rattle.std.proofs.Common.{◌≡◌, ◌<◌, ◌≤◌, ◌∙◌, length, ap, sym, rules, arith}
use Rattle.algebra.specs.Divisor.{units}
use Rattle.table_file.proofs.Checks.{light, heavy}
use Rattle.table_file.proofs.accepting.weigh.Goals as goal

pub returns-then-moduli-len : goal.returns-then-moduli-len
returns-then-moduli-len c =
    let more : c.len.result < c.in-Some.moduli.weight = omega (arith, c.if-moduli-len.true, ap (λ k. k.weight) c.moduli.view_is) in
    let list_is : c.in_ok-units.units.items ≡ units c.args.document.now.m = search rules in
    let long : c.len.result ≡ length c.in_ok-units.units.items = search rules in
    record { gives = λ _. heavy c.args.document.now.m c.args.document.now.moduli c.in-Some.moduli c.in_ok-units.units.items c.len.result (sym (ap (λ t. t.moduli) c.document.view_is) ∙ c.in-Some.is) list_is long more }

pub returns-else-moduli-len : goal.returns-else-moduli-len
returns-else-moduli-len c =
    let less : c.in-Some.moduli.weight ≤ c.len.result = omega (arith, c.if-moduli-len.false, ap (λ k. k.weight) c.moduli.view_is) in
    let list_is : c.in_ok-units.units.items ≡ units c.args.document.now.m = search rules in
    let long : c.len.result ≡ length c.in_ok-units.units.items = search rules in
    record { gives = light c.args.document.now.m c.args.document.now.moduli c.in-Some.moduli c.in_ok-units.units.items c.len.result (sym (ap (λ t. t.moduli) c.document.view_is) ∙ c.in-Some.is) list_is long less }
