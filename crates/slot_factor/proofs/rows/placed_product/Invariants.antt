use Rattle.std.proofs.Common.{◌≡◌, ◌<◌, ◌*◌, ◌%◌, ◌^◌, map, length, pos}
use Rattle.std.specs.List.{All}
use Rattle.mod_ring.specs.Zq.{modulus_of}
use Rattle.algebra.specs.Poly.{times}
use Rattle.algebra.specs.Ring.{residues}
use Rattle.algebra.specs.Whole.{residue}
use Rattle.algebra.specs.Range.{total, adds}
use Rattle.cyclotomic.specs.Cyclotomic.{R, fold}
use Rattle.slot_laws.proofs.FoldSums.{place_term}
use Rattle.slot_factor.proofs.rows.placed_product.Given as goal

abbrev pub invariant-loop-i : goal.invariant-loop-i
invariant-loop-i l =
    record {
      value : map (residue (modulus_of l.zq)) (fold l.m (map pos l.sums.items)) ≡ map (residue (modulus_of l.zq)) ((R l.m).add (fold l.m (map pos l.fn.sums.items)) (total (adds (R l.m)) l.i (place_term l.m l.k (map pos (times (residues (modulus_of l.zq)) l.a l.b)))));
      long : length l.sums.items ≡ l.m;
      room : All (λ v. v < 2 ^ 62) l.sums.items;
      place : l.place ≡ (l.i * l.k) % l.m;
      within : l.place < l.m;
    }
