use Rattle.std.proofs.Common.{◌<◌, arith}
use Rattle.std.proofs.lemmas.List.Elements.{All-push, All-same}
use Rattle.mod_ring.specs.Zq.{modulus_of}
use Rattle.slot_factor.proofs.RowSteps.{negative_more}
use Rattle.slot_factor.proofs.rows.negated.Goals as goal

pub loop-i-preserved : goal.loop-i-preserved
loop-i-preserved c =
    let q = modulus_of c.args.zq.now in
    record {
      value = negative_more q c.args.a.now c.loop-i.i c.neg_word-value.result _ c.loop-i.list.items c.push.new.self.items (omega (arith, c.loop-i-test.true)) c.requires c.neg_word-value.ensures.value c.loop-i.invariant.value c.in_ok-push.ensures.items;
      below = All-same (λ v. v < q) _ _ c.in_ok-push.ensures.items (All-push (λ v. v < q) c.loop-i.list.items c.neg_word-value.result c.loop-i.invariant.below c.neg_word-value.ensures.below);
    }
