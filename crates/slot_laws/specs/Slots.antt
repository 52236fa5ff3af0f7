-- The slots of a whole polynomial, and the polynomial that has given slots.
use Rattle.std.specs.Prelude.{ℕ, ◌-◌, ◌*◌, ◌%◌, eqb, List, map, get_or, ℤ, pos}
use Rattle.algebra.specs.Power.{power}
use Rattle.algebra.specs.Poly.{value_at, sum}
use Rattle.algebra.specs.Whole.{below, residue, balanced}
use Rattle.cyclotomic.specs.Cyclotomic.{R, fold, substituted, multiple}
use Rattle.hyper_cube.specs.Torus.{Torus, T_of, indices, first_place}
use Rattle.ext_field.specs.Element.{Extension, elements, number, eta, trace}
use Rattle.slot_array.specs.Arrays.{Array, slot}

-- the least number u below n with a * u = 1 modulo n, or n where there is none
unfoldable pub inverse_modulo : ℕ → ℕ → ℕ
inverse_modulo n a = first_place (map (λ u. eqb ((a * u) % n) (1 % n)) (below n))

-- each coefficient as its balanced residue modulo p
abbrev pub balanced_row : ℕ → List ℤ → List ℤ
balanced_row p a = map (balanced p) a

module _ (f : Extension) (c : Torus) where
  -- a(x) in E, for whole coefficients
  abbrev pub whole_value : List ℕ → List ℤ → List ℕ
  whole_value x a = value_at (elements f) x (map (λ k. number f (residue f.p k)) a)

  -- slot e of a: a(eta^T(e))
  unfoldable pub slot_of : List ℤ → List ℕ → List ℕ
  slot_of a e = whole_value (power (elements f) (eta f) (T_of c e)) a

  -- all slots, in the order of their indices
  unfoldable pub slots : List ℤ → Array
  slots a = map (slot_of a) (indices c.dimensions)

  -- the polynomial of an element
  abbrev pub lifted : List ℕ → List ℤ
  lifted x = map pos x

  -- the constant coefficient of the trace of eta^k
  abbrev pub constant_trace : ℕ → ℕ
  constant_trace k = get_or (trace f (power (elements f) (eta f) k)) 0 0

  -- 1/m times the sum over i < m of constant_trace (m - i) X^i, modulo Phi_m and p
  unfoldable pub eps : List ℤ
  eps = map (λ x. pos (residue f.p x)) (fold c.m (multiple (pos (inverse_modulo f.p c.m)) (map (λ i. pos (constant_trace (c.m - i))) (below c.m))))

  -- (x * eps)(X^k), k the inverse of T(e) modulo m
  abbrev pub placed : List ℤ → List ℕ → List ℤ
  placed x e = substituted c.m (inverse_modulo c.m (T_of c e)) ((R c.m).mul x eps)

  -- the sum over the slots e of (x_e * eps)(X^k), as its balanced residue modulo p
  unfoldable pub encode : Array → List ℤ
  encode x = balanced_row f.p (sum (R c.m) (map (λ e. placed (lifted (slot c x e)) e) (indices c.dimensions)))
