use Rattle.std.proofs.Common.{◌≡◌, ◌<◌, map, length, pos}
use Rattle.std.specs.List.{All}
use Rattle.algebra.specs.Whole.{residue}
use Rattle.algebra.specs.Range.{total, adds}
use Rattle.mod_ring.specs.Zq.{modulus_of}
use Rattle.cyclotomic.specs.Cyclotomic.{R, fold, substituted}
use Rattle.hyper_cube.specs.Torus.{T_of, index}
use Rattle.slot_laws.specs.Slots.{inverse_modulo}
use Rattle.slot_factor.proofs.idempotents.total.Given as goal

abbrev pub invariant-loop-e : goal.invariant-loop-e
invariant-loop-e l =
    record {
      value : map (residue (modulus_of l.zq)) (fold l.m (map pos l.sums.items)) ≡ map (residue (modulus_of l.zq)) (total (adds (R l.m)) l.e (λ j. substituted l.m (inverse_modulo l.cube.m (T_of l.cube (index l.cube.dimensions j))) (map pos l.unit)));
      long : length l.sums.items ≡ l.m;
      below : All (λ v. v < modulus_of l.zq) l.sums.items;
    }
