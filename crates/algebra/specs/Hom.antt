-- Maps of rings: those that keep sums, products and one.
use Rattle.std.specs.Prelude.{◌≡◌}
use Rattle.algebra.specs.Ring.{Ops, CommRing}

pub record IsHom {C D : Type 0} (o : Ops C) (p : Ops D) (map : C → D) : Type 0 where
  pub map_add : (a b : C) → map (o.add a b) ≡ p.add (map a) (map b)
  pub map_mul : (a b : C) → map (o.mul a b) ≡ p.mul (map a) (map b)
  pub map_one : map o.one ≡ p.one

-- The form that proofs take as one parameter.
pub record Hom (R S : CommRing) : Type 0 where
  pub map : R.Carrier → S.Carrier
  pub is : IsHom R.ops S.ops map
  pub open is use *

-- Maps that keep each operation, also where the laws of a ring do not stand.
pub record Preserves {C D : Type 0} (o : Ops C) (p : Ops D) (map : C → D) : Type 0 where
  pub keeps_zero : map o.zero ≡ p.zero
  pub keeps_one : map o.one ≡ p.one
  pub keeps_add : (a b : C) → map (o.add a b) ≡ p.add (map a) (map b)
  pub keeps_mul : (a b : C) → map (o.mul a b) ≡ p.mul (map a) (map b)
  pub keeps_neg : (a : C) → map (o.neg a) ≡ p.neg (map a)
