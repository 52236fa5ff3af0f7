-- What an instruction makes of arrays: for each index e, y[e] is a formula in indices and elements.
use Rattle.std.specs.Prelude.{ℕ, ◌+◌, ◌-◌, ◌*◌, ◌/◌, ◌%◌, [], get_or, set}
use Rattle.algebra.specs.Power.{less}
use Rattle.hyper_cube.specs.Torus.{Torus, size, T_of, located}
use Rattle.ext_field.specs.Element.{Extension, elements, frob_times}
use Rattle.slot_array.specs.Arrays.{Array, slot, array}

module _ (f : Extension) (c : Torus) where
  -- a[e] + b[e]
  unfoldable pub add : Array → Array → Array
  add a b = array c (λ e. (elements f).add (slot c a e) (slot c b e))

  -- a[e] - b[e]
  unfoldable pub sub : Array → Array → Array
  sub a b = array c (λ e. less (elements f) (slot c a e) (slot c b e))

  -- -a[e]
  unfoldable pub neg : Array → Array
  neg a = array c (λ e. (elements f).neg (slot c a e))

  -- a[e] * b[e]
  unfoldable pub mul : Array → Array → Array
  mul a b = array c (λ e. (elements f).mul (slot c a e) (slot c b e))

  -- frob^u(a[f]), where T(e) * K = T(f) * p^u mod m
  unfoldable pub auto : ℕ → Array → Array
  auto k a = array c (λ e. let i = located c (T_of c e * k) in frob_times f (i % c.d) (get_or a (i / c.d) []))

  -- a[e with e_i - v mod D_i]
  unfoldable pub rotate : ℕ → ℕ → Array → Array
  rotate i v a = array c (λ e. slot c a (set e i ((get_or e i 0 + (size c i - v % size c i)) % size c i)))
