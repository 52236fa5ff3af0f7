-- The laws of a cube.
use Rattle.std.specs.Prelude.{◌≡◌, ℕ, ◌+◌, ◌*◌, ◌/◌, ◌%◌, ◌^◌, ◌<◌, List, get_or}
use Rattle.std.proofs.Common.{sym, ◌∙◌, ap, subst, mod-lt}
use Rattle.hyper_cube.specs.Torus.{Torus, place, index, size, T_of, IsLocated, unit_at, located}
use Rattle.hyper_cube.specs.Checks.{IsIndex, IsCube, dimension_count}
use Rattle.hyper_cube.specs.CubeLaws.{StandAtUnits, UnitsStandOnce, UnitsAreOnePair, IndicesAreNumbered}
use Rattle.hyper_cube.proofs.Indices.{index_in, place_in, index_place, place_index, index-set, get_or-index}
use Rattle.hyper_cube.proofs.Shapes.{shape_positive, size_positive, unit_at_unit, unit_at_below, unit_at_place, place_fits, place_slot, place_power, power_fits}
use Rattle.hyper_cube.proofs.Located.{located_in, located_at, located_only, located_pair}

pub units_stand : StandAtUnits
units_stand c C i = (unit_at_unit c C.shape C.order C.powers i, unit_at_below c C.shape i)

pub stands_once : UnitsStandOnce
stands_once c C k h = record { within = located_in c C k h; stands = located_at c C k h; only = located_only c C k }

pub is_one_pair : UnitsAreOnePair
is_one_pair c C k h = record {
  index_in = index_in c.dimensions (located c k / c.d) (shape_positive c C.shape);
  power_in = power_fits c C.shape (located c k);
  is = located_pair c C k h;
  only = λ e u E l L. only e u E l L (located_only c C k (place c.dimensions e * c.d + u) (place_fits c C.shape (place c.dimensions e) u (place_in c.dimensions e E) l) (stands e u E l L));
}
  where
    stands : (e : List ℕ) (u : ℕ) → IsIndex c.dimensions e → u < c.d → IsLocated c k e u → unit_at c (place c.dimensions e * c.d + u) ≡ k % c.m
    stands e u E l L = unit_at_place c C.shape (place c.dimensions e) u l ∙ ap (λ z. (T_of c z * c.p ^ u) % c.m) (index_place c.dimensions e (shape_positive c C.shape) E) ∙ sym L

    only : (e : List ℕ) (u : ℕ) → IsIndex c.dimensions e → u < c.d → IsLocated c k e u → place c.dimensions e * c.d + u ≡ located c k → (e ≡ index c.dimensions (located c k / c.d)) × (u ≡ located c k % c.d)
    only e u E l L i = (
      sym (index_place c.dimensions e (shape_positive c C.shape) E) ∙ ap (index c.dimensions) (sym (place_slot c C.shape (place c.dimensions e) u l) ∙ ap (λ z. z / c.d) i),
      sym (place_power c C.shape (place c.dimensions e) u l) ∙ ap (λ z. z % c.d) i,
    )

-- a coordinate is below its size
pub coordinate_in : (c : Torus) → IsCube c → (k i : ℕ) → i < dimension_count c → get_or (index c.dimensions k) i 0 < size c i
coordinate_in c C k i l = subst (λ z. z < size c i) (sym (get_or-index c.dimensions k i l)) (mod-lt _ (size_positive c C.shape i l))

pub is_numbering : IndicesAreNumbered
is_numbering c C = record {
  index_in = λ k. index_in c.dimensions k (shape_positive c C.shape);
  place_in = place_in c.dimensions;
  index_of_place = λ e E. index_place c.dimensions e (shape_positive c C.shape) E;
  place_of_index = λ k l. place_index c.dimensions k (shape_positive c C.shape) l;
  coordinate_in = coordinate_in c C;
  set_in = index-set c.dimensions;
  set_place_in = λ e i v E l m. place_in c.dimensions _ (index-set c.dimensions e i v E l m);
}
