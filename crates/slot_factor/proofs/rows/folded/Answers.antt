use Rattle.std.proofs.Common.{◌<◌, ap, sym, length, subst, arith}
use Rattle.std.specs.List.{All}
use Rattle.mod_ring.specs.Zq.{modulus_of}
use Rattle.slot_factor.proofs.RowSteps.{folded_is, row_below}
use Rattle.slot_factor.proofs.rows.folded.Goals as goal

pub returns-clause-value : goal.returns-clause-value
returns-clause-value c = folded_is (modulus_of c.args.zq.now) c.args.cyclo.now (omega (arith, c.args.zq.now.in_range)) c.requires.m_low c.args.sums.items c.deref_mut.result.now c.fold.new.values c.truncate.new.self.items _ c.degree.result c.args.sums.len c.requires.below c.deref_mut.ensures.value c.fold.ensures.value c.degree.ensures.value (omega (arith, c.args.sums.ok.0, c.fold.auto.values, ap length c.deref_mut.ensures.value)) c.truncate.ensures.items

pub returns-clause-below : goal.returns-clause-below
returns-clause-below c = subst (All (λ v. v < modulus_of c.args.zq.now)) (sym (folded_is (modulus_of c.args.zq.now) c.args.cyclo.now (omega (arith, c.args.zq.now.in_range)) c.requires.m_low c.args.sums.items c.deref_mut.result.now c.fold.new.values c.truncate.new.self.items _ c.degree.result c.args.sums.len c.requires.below c.deref_mut.ensures.value c.fold.ensures.value c.degree.ensures.value (omega (arith, c.args.sums.ok.0, c.fold.auto.values, ap length c.deref_mut.ensures.value)) c.truncate.ensures.items)) (row_below (modulus_of c.args.zq.now) (omega (arith, c.args.zq.now.in_range)) _)
