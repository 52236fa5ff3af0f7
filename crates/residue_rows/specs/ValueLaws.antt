-- What is said of values at the units, for accepted roots: q is 1 modulo m, and omega is a root of unity with an inverse.
use Rattle.std.specs.Prelude.{◌≡◌, ℕ, ◌+◌, ◌-◌, ◌*◌, ◌%◌, ◌<◌, ◌≤◌, nat_lt, All, List, map, length, get_or, ℤ}
use Rattle.algebra.specs.Ring.{residues}
use Rattle.algebra.specs.Poly.{scaled, at_power, remainder}
use Rattle.algebra.specs.Divisor.{UnitModulo, units}
use Rattle.algebra.specs.Whole.{residue, below}
use Rattle.cyclotomic.specs.RootLaws.{IsHeldRoot}
use Rattle.residue_rows.specs.Rows.{phi_modulo, R_modulo}
use Rattle.residue_rows.specs.Values.{Root, IsRow, value_of, values_of, interpolated}

pub record IsAcceptedRoot (m : ℕ) (r : Root) : Type 0 where
  pub some : 3 ≤ m
  pub above : 3 ≤ r.q
  pub one_more : r.q % m ≡ 1
  pub is_root : IsHeldRoot (λ a. nat_lt a r.q) (residues r.q) r.omega m

-- f place by place, modulo q
abbrev pub pointwise : (ℕ → ℕ → ℕ) → List ℕ → List ℕ → List ℕ
pointwise f a b = map (λ i. f (get_or a i 0) (get_or b i 0)) (below (length a))

-- values and rows determine each other
pub record ValuesAre (m : ℕ) (r : Root) : Type 0 where
  pub values_in : (a : List ℕ) → IsRow m r.q a → IsRow m r.q (values_of m r a)
  pub row_in : (v : List ℕ) → IsRow m r.q v → IsRow m r.q (interpolated m r v)
  pub forth : (v : List ℕ) → IsRow m r.q v → values_of m r (interpolated m r v) ≡ v
  pub back : (a : List ℕ) → IsRow m r.q a → interpolated m r (values_of m r a) ≡ a
  pub determine : (a b : List ℕ) → IsRow m r.q a → IsRow m r.q b → values_of m r a ≡ values_of m r b → a ≡ b
  -- the remainder by Phi_m keeps the values
  pub remainder : (a : List ℕ) → All (λ c. c < r.q) a → values_of m r (remainder (residues r.q) (phi_modulo m r.q) a) ≡ values_of m r a

-- the operations go value by value
pub record ValuesKeep (m : ℕ) (r : Root) : Type 0 where
  pub sum : (a b : List ℕ) → IsRow m r.q a → IsRow m r.q b → values_of m r ((R_modulo m r.q).add a b) ≡ pointwise (λ x y. (x + y) % r.q) (values_of m r a) (values_of m r b)
  pub product : (a b : List ℕ) → IsRow m r.q a → IsRow m r.q b → values_of m r ((R_modulo m r.q).mul a b) ≡ pointwise (λ x y. (x * y) % r.q) (values_of m r a) (values_of m r b)
  pub negative : (a : List ℕ) → IsRow m r.q a → values_of m r ((R_modulo m r.q).neg a) ≡ map (λ x. (r.q - x) % r.q) (values_of m r a)
  pub multiple : (k : ℤ) (a : List ℕ) → IsRow m r.q a → values_of m r (scaled (residues r.q) (residue r.q k) a) ≡ map (λ x. (residue r.q k * x) % r.q) (values_of m r a)
  -- a(X^k) has at the unit j the value of a at the unit j k
  pub substituted : (k : ℕ) (a : List ℕ) → 0 < k → UnitModulo m k → IsRow m r.q a → values_of m r (remainder (residues r.q) (phi_modulo m r.q) (at_power (residues r.q) k a)) ≡ map (λ j. value_of r ((j * k) % m) a) (units m)

abbrev pub ValuesLaw : Type 0
ValuesLaw = (m : ℕ) (r : Root) → IsAcceptedRoot m r → ValuesAre m r

abbrev pub ValuesKeepLaw : Type 0
ValuesKeepLaw = (m : ℕ) (r : Root) → IsAcceptedRoot m r → ValuesKeep m r
