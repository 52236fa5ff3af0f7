-- A cube is a torus whose indices give each unit once, in the words of slots.
use Rattle.std.proofs.Common.{sym, ◌∙◌, arith}
use Rattle.std.proofs.Math.Nat.{mod-eq_of_lt}
use Rattle.hyper_cube.specs.Torus.{Torus, located}
use Rattle.hyper_cube.specs.Checks.{IsCube}
use Rattle.hyper_cube.proofs.Shapes.{T_first}
use Rattle.hyper_cube.proofs.Numbering.{units_stand, stands_once, is_numbering}
use Rattle.slot_laws.specs.Checks.{IsSlotCube}

pub slot_cube : (c : Torus) → IsCube c → IsSlotCube c
slot_cube c C = record {
  low = C.shape.m_low;
  order = C.order;
  number_is = C.counted;
  distinct = C.distinct;
  every = λ k u. (located c k, (stands_once c C k u).within, (stands_once c C k u).stands);
  units = λ i l. (units_stand c C i).0;
  first = T_first c C.shape ∙ sym (mod-eq_of_lt (omega (arith, C.shape.m_low)));
  place_is = λ k l. (is_numbering c C).place_of_index k l;
}
