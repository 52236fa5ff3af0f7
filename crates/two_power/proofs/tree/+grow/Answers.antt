use Rattle.std.proofs.Common.{◌≡◌, ◌-◌, ◌/◌, ◌^◌, ◌∙◌, ap, length, arith}
use Rattle.std.proofs.lemmas.List.{get_or-set_same, length-set}
use Rattle.two_power.proofs.Rows.{half_is}
use Rattle.two_power.proofs.Steps.{halves_of}
use Rattle.two_power.proofs.Growth.{grown_one, grown_step, psi_square_half, squares_one, All_append}
use Rattle.two_power.proofs.tree.+grow.Goals as goal

pub returns-then-levels-eq0-clause-grown : goal.returns-then-levels-eq0-clause-grown
returns-then-levels-eq0-clause-grown t c =
    let ring = c.args.ring.now in
    let one : 2 ^ c.args.levels ≡ 1 = ap (λ z. 2 ^ z) c.if-levels-eq0.true in
    grown_one ring.q c.args.levels c.args.psi _ _ (omega arith) c.if-levels-eq0.true (length-set c.args.ws.now 0 1 ∙ c.requires.ws_size) (length-set c.args.vs.now 0 1 ∙ c.requires.vs_size) (get_or-set_same c.args.ws.now 0 1 0 (omega arith)) (get_or-set_same c.args.vs.now 0 1 0 (omega arith)) c.requires.half

pub grow-requires : goal.grow-requires
grow-requires t c =
    let ring = c.args.ring.now in
    let ws = c.split_at_mut-ws_lo in
    let vs = c.split_at_mut-vs_lo in
    let ws_halves = halves_of c.args.levels (c.args.levels - 1) (length c.args.ws.now / 2) c.args.ws.now ws.result.0.now ws.result.1.now (omega arith) c.requires.ws_size (half_is c.args.levels (length c.args.ws.now) (omega arith) c.requires.ws_size) ws.ensures.front ws.ensures.back in
    let vs_halves = halves_of c.args.levels (c.args.levels - 1) (length c.args.ws.now / 2) c.args.vs.now vs.result.0.now vs.result.1.now (omega arith) c.requires.vs_size (half_is c.args.levels (length c.args.ws.now) (omega arith) c.requires.ws_size) vs.ensures.front vs.ensures.back in
    (omega arith, (ws_halves.low_long, (vs_halves.low_long, (c.mul_word-psi_square.ensures.below, (c.mul_word-inverse_square.ensures.below, (psi_square_half ring.q c.args.levels (c.args.levels - 1) c.args.psi c.mul_word-psi_square.result (omega arith) c.mul_word-psi_square.ensures.value c.requires.half, squares_one ring.q c.args.psi c.args.inverse c.mul_word-psi_square.result c.mul_word-inverse_square.result (omega arith) c.mul_word-psi_square.ensures.value c.mul_word-inverse_square.ensures.value c.requires.one))))))

pub scale-requires-clause-same : goal.scale-requires-clause-same
scale-requires-clause-same t c =
    let ws = c.split_at_mut-ws_lo in
    let ws_halves = halves_of c.args.levels (c.args.levels - 1) (length c.args.ws.now / 2) c.args.ws.now ws.result.0.now ws.result.1.now (omega arith) c.requires.ws_size (half_is c.args.levels (length c.args.ws.now) (omega arith) c.requires.ws_size) ws.ensures.front ws.ensures.back in
    omega (arith, ws_halves.low_long, ws_halves.high_long)

pub scale-requires-2-clause-same : goal.scale-requires-2-clause-same
scale-requires-2-clause-same t c =
    let vs = c.split_at_mut-vs_lo in
    let vs_halves = halves_of c.args.levels (c.args.levels - 1) (length c.args.ws.now / 2) c.args.vs.now vs.result.0.now vs.result.1.now (omega arith) c.requires.vs_size (half_is c.args.levels (length c.args.ws.now) (omega arith) c.requires.ws_size) vs.ensures.front vs.ensures.back in
    omega (arith, vs_halves.low_long, vs_halves.high_long)

pub returns-clause-grown : goal.returns-clause-grown
returns-clause-grown t c =
    let ws = c.split_at_mut-ws_lo in
    let ws_halves = halves_of c.args.levels (c.args.levels - 1) (length c.args.ws.now / 2) c.args.ws.now ws.result.0.now ws.result.1.now (omega arith) c.requires.ws_size (half_is c.args.levels (length c.args.ws.now) (omega arith) c.requires.ws_size) ws.ensures.front ws.ensures.back in
    let vs = c.split_at_mut-vs_lo in
    let vs_halves = halves_of c.args.levels (c.args.levels - 1) (length c.args.ws.now / 2) c.args.vs.now vs.result.0.now vs.result.1.now (omega arith) c.requires.vs_size (half_is c.args.levels (length c.args.ws.now) (omega arith) c.requires.ws_size) vs.ensures.front vs.ensures.back in
    grown_step c.args.ring.now.q c.args.levels (c.args.levels - 1) c.args.psi c.mul_word-psi_square.result c.args.inverse c.grow.new.ws c.grow.new.vs c.scale.new.to c.scale-2.new.to (omega arith) (omega arith) c.mul_word-psi_square.ensures.value c.requires.one c.grow.ensures.grown c.scale.ensures.values c.scale-2.ensures.values (omega (arith, ws_halves.high_long, c.grow.ensures.grown.ws_long)) (omega (arith, vs_halves.high_long, c.grow.ensures.grown.vs_long))

pub returns-clause-ws_below : goal.returns-clause-ws_below
returns-clause-ws_below t c = All_append c.args.ring.now.q c.grow.new.ws c.scale.new.to c.grow.ensures.ws_below c.scale.ensures.below

pub returns-clause-vs_below : goal.returns-clause-vs_below
returns-clause-vs_below t c = All_append c.args.ring.now.q c.grow.new.vs c.scale-2.new.to c.grow.ensures.vs_below c.scale-2.ensures.below
