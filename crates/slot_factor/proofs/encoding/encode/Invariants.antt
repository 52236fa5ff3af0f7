use Rattle.std.proofs.Common.{◌≡◌, ◌<◌, ◌^◌, [], map, length, get_or, pos}
use Rattle.std.specs.List.{All}
use Rattle.algebra.specs.Range.{total, adds}
use Rattle.cyclotomic.specs.Cyclotomic.{R, fold}
use Rattle.hyper_cube.specs.Torus.{index}
use Rattle.slot_laws.specs.Slots.{lifted, placed}
use Rattle.slot_laws.specs.Checks.{residue_row}
use Rattle.slot_factor.proofs.encoding.encode.Given as goal

abbrev pub invariant-loop-e : goal.invariant-loop-e
invariant-loop-e l =
    record {
      value : residue_row l.ext l.cube (fold l.cube.m (map pos l.sums.items)) ≡ residue_row l.ext l.cube (total (adds (R l.cube.m)) l.e (λ j. placed l.ext l.cube (lifted l.ext l.cube (get_or l.x j [])) (index l.cube.dimensions j)));
      long : length l.sums.items ≡ l.m;
      room : All (λ v. v < 2 ^ 62) l.sums.items;
    }
