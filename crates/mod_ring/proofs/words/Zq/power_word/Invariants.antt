use Rattle.std.proofs.Common.{◌≡◌, ◌*◌, ◌%◌, ◌^◌, ◌<◌}
use Rattle.mod_ring.proofs.words.Zq.power_word.Given as goal

abbrev pub invariant-loop-rest : goal.invariant-loop-rest
invariant-loop-rest l =
    record {
      power_in : l.power < l.self.q;
      base_in : l.base < l.self.q;
      value : (l.power * l.base ^ l.rest) % l.self.q ≡ l.a ^ l.e % l.self.q;
    }

abbrev pub decreases-loop-rest : goal.decreases-loop-rest
decreases-loop-rest l = l.rest
