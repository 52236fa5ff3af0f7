use Rattle.std.proofs.Common.{◌≡◌, ◌*◌}
use Rattle.use_chain.specs.Uses.{uses_below}
use Rattle.use_chain.specs.Rings.{lists, IsWhole}
use Rattle.use_chain.proofs.nodes.add_uses.Given as goal

abbrev pub invariant-loop-step : goal.invariant-loop-step
invariant-loop-step l = record {
  whole : IsWhole l.places l.nodes;
  lists : lists l.places l.nodes ≡ uses_below l.steps (2 * l.step);
}
