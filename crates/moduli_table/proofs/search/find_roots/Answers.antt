use Rattle.std.proofs.Common.{◌≡◌, ◌+◌, ap, sym, ◌∙◌, add-one, arith, rules}
use Rattle.mod_ring.specs.Zq.{modulus_of}
use Rattle.moduli_table.specs.First.{first_below}
use Rattle.moduli_table.specs.Search.{roots_by, roots_of}
use Rattle.moduli_table.proofs.Firsts.{first_none, found_option, none_option, first_end}
use Rattle.moduli_table.proofs.search.find_roots.Goals as goal

pub loop-t-init : goal.loop-t-init
loop-t-init c = first_none (λ t. roots_by c.args.m c.args.q (2 + t)) 0 (λ i l. absurd (omega arith))

pub returns-then-is_some : goal.returns-then-is_some
unfolding roots_of
returns-then-is_some c =
    let t = c.loop-t.t in
    let same : modulus_of c.unwrap-ring.result ≡ c.args.q = search rules in
    found_option (λ t. roots_by c.args.m c.args.q (2 + t)) c.roots_by-roots.result t 999 (sym c.is_some.ensures ∙ c.if-is_some.true) (c.roots_by-roots.ensures ∙ ap (λ q. roots_by c.args.m q (2 + t)) same) c.loop-t-test.true c.loop-t.invariant

pub loop-t-preserved : goal.loop-t-preserved
loop-t-preserved c =
    let t = c.loop-t.t in
    let same : modulus_of c.unwrap-ring.result ≡ c.args.q = search rules in
    ap (λ n. first_below n (λ t. roots_by c.args.m c.args.q (2 + t))) (add-one t) ∙ none_option (λ t. roots_by c.args.m c.args.q (2 + t)) c.roots_by-roots.result t (sym c.is_some.ensures ∙ c.if-is_some.false) (c.roots_by-roots.ensures ∙ ap (λ q. roots_by c.args.m q (2 + t)) same) c.loop-t.invariant

pub returns : goal.returns
unfolding roots_of
returns c = sym (first_end (λ t. roots_by c.args.m c.args.q (2 + t)) c.loop-t.t 999 (omega arith) c.loop-t.invariant)
