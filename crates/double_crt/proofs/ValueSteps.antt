-- The values of a row at the units, and the row that has them, by the transforms.
use Rattle.std.proofs.Common.{◌≡◌, ℕ, ◌-◌, ◌<◌, List, ◌++◌, length, map, take, replicate, get_or, arith, ap, sym, ◌∙◌, subst}
use Rattle.std.proofs.lemmas.List.{length-map, get_or-map, ext_get_or}
use Rattle.std.proofs.Math.Seq.{take-append_seam}
use Rattle.algebra.specs.Ring.{residues}
use Rattle.algebra.specs.Poly.{remainder}
use Rattle.algebra.specs.Divisor.{units}
use Rattle.algebra.specs.Whole.{residue}
use Rattle.algebra.proofs.UnitList.{unit_at, unit_lt}
use Rattle.bluestein.specs.Plan.{Roots}
use Rattle.bluestein.specs.Plan as plan
use Rattle.bluestein.proofs.Ranges.{get_or-over}
use Rattle.cyclotomic.specs.Cyclotomic.{phi, degree}
use Rattle.residue_rows.specs.Rows.{phi_modulo}
use Rattle.residue_rows.specs.Values.{IsRow, value_of, values_of, interpolated}
use Rattle.residue_rows.specs.ValueLaws.{IsAcceptedRoot}
use Rattle.residue_rows.proofs.ValuesRows.{remainder_row, place_in, count_is, get_or-values_of, length-values_of}
use Rattle.residue_rows.proofs.ValuesMean.{values_are}
use Rattle.residue_rows.proofs.ValuesActions.{interpolated_only}
use Rattle.double_crt.specs.Places.{ArePlaces}
use Rattle.double_crt.specs.Roots.{point_of}

module _ (r : Roots) (A : IsAcceptedRoot r.m (point_of r)) where
  big : 1 < r.m
  big = let l = A.some in omega arith

  -- the values at the units, picked from all values
  value_at_unit : (a : List ℕ) (i : ℕ) → i < degree r.m → get_or (plan.values_of r a) (unit_at r.m i) 0 ≡ value_of (point_of r) (unit_at r.m i) a
  value_at_unit a i l = get_or-over (plan.value_of r a) r.m (unit_at r.m i) 0 (unit_lt r.m i big (place_in r.m (point_of r) A i l))

  pub picked : (a : List ℕ) → map (λ j. get_or (plan.values_of r a) j 0) (units r.m) ≡ values_of r.m (point_of r) a
  picked a = ext_get_or 0 some (values_of r.m (point_of r) a) (long ∙ sym (length-values_of r.m (point_of r) A a)) (λ i l. let k : i < degree r.m = omega (arith, long) in get_or-map (λ j. get_or (plan.values_of r a) j 0) (units r.m) i 0 0 (place_in r.m (point_of r) A i k) ∙ value_at_unit a i k ∙ sym (get_or-values_of r.m (point_of r) A a i k))
    where
      some : List ℕ
      some = map (λ j. get_or (plan.values_of r a) j 0) (units r.m)

      long : length some ≡ degree r.m
      long = length-map (units r.m) (λ j. get_or (plan.values_of r a) j 0) ∙ count_is r.m (point_of r) A

  -- the coefficients that are found from values at the units, which stand at the units of a list of m values
  pub found : (v f places out : List ℕ) → IsRow r.m r.q v → ArePlaces r.m places → plan.IsRow r f → plan.values_of r f ≡ map (λ j. get_or v j 0) places → out ≡ remainder (residues r.q) (map (residue r.q) (phi r.m)) f ++ replicate (r.m - degree r.m) 0 → take (length v) out ≡ interpolated r.m (point_of r) v
  found v f places out h P row e o = ap (take (length v)) o ∙ ap (λ n. take n (rest ++ replicate (r.m - degree r.m) 0)) (h.0 ∙ sym is_row.0) ∙ take-append_seam rest (replicate (r.m - degree r.m) 0) ∙ sym (interpolated_only r.m (point_of r) A v rest h is_row (kept ∙ same))
    where
      rest : List ℕ
      rest = remainder (residues r.q) (phi_modulo r.m r.q) f

      is_row : IsRow r.m r.q rest
      is_row = remainder_row r.m (point_of r) A f row.residues

      kept : values_of r.m (point_of r) rest ≡ values_of r.m (point_of r) f
      kept = (values_are r.m (point_of r) A).remainder f row.residues

      same : values_of r.m (point_of r) f ≡ v
      same = ext_get_or 0 (values_of r.m (point_of r) f) v (length-values_of r.m (point_of r) A f ∙ sym h.0) (λ i l. let k : i < degree r.m = omega (arith, length-values_of r.m (point_of r) A f) in at i k (place_in r.m (point_of r) A i k))
        where
          at : (i : ℕ) → i < degree r.m → i < length (units r.m) → get_or (values_of r.m (point_of r) f) i 0 ≡ get_or v i 0
          at i k p = get_or-values_of r.m (point_of r) A f i k ∙ sym (value_at_unit f i k) ∙ ap (λ z. get_or z (unit_at r.m i) 0) e ∙ get_or-map (λ j. get_or v j 0) places (unit_at r.m i) 0 0 (subst (λ z. unit_at r.m i < z) (sym P.long) (unit_lt r.m i big p)) ∙ ap (λ z. get_or v z 0) (P.right i p)
