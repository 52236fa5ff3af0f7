-- The roots by a base.
use Rattle.std.proofs.Common.{◌≡◌, ℕ, ◌-◌, ◌*◌, ◌/◌, ◌%◌, ◌^◌, Bool, true, false, ◌&&◌, None, Some, arith, ap, ap₂, sym, ◌∙◌, ◌+◌, ◌≤◌, Option, refl}
use Rattle.std.specs.Prelude.{if◌then◌else◌, MatchOption}
use Rattle.std.proofs.lemmas.Bool.{and_from, and_left, and_right}
use Rattle.std.proofs.lemmas.Nat.{pow-mod}
use Rattle.algebra.specs.Divisor.{is_divisor}
use Rattle.moduli_table.specs.Checks.{two_power, is_half_root, is_root, is_two_root}
use Rattle.moduli_table.specs.Search.{zeta_by, psi_by, is_base, roots_by, roots_of, IsLeastBase, FindsLeastBase}
use Rattle.moduli_table.specs.First.{first_below}
use Rattle.moduli_table.proofs.Firsts.{IsFirst, first_is, first_each}

-- a power of the residue of the base
pub power_by : (q s g n k z : ℕ) → s ≡ q → n ≡ k → z ≡ (g % s) ^ ((s - 1) / n) % q → z ≡ g ^ ((q - 1) / k) % q
power_by q s g n k z same length e = e ∙ ap (λ r. (g % r) ^ ((r - 1) / n) % q) same ∙ ap (λ t. (g % q) ^ ((q - 1) / t) % q) length ∙ pow-mod g ((q - 1) / k) q

module _ (m q g : ℕ) where
  abbrev orders : Bool
  orders = is_divisor (2 * m) (q - 1) && is_divisor (two_power m) (q - 1)

  abbrev half : Bool
  half = is_half_root m q (zeta_by m q g)

  abbrev two : Bool
  two = is_two_root m q (psi_by m q g)

  abbrev whole : Bool
  whole = is_root m q (zeta_by m q g)

  none_by : is_base m q g ≡ false → None ≡ roots_by m q g
  unfolding roots_by
  none_by e = sym (ap (λ b. if b then Some (zeta_by m q g, psi_by m q g) else None) e)

  pub no_double : is_divisor (2 * m) (q - 1) ≡ false → None ≡ roots_by m q g
  no_double e = none_by (and_left (orders && half && two) whole (and_left (orders && half) two (and_left orders half (and_left (is_divisor (2 * m) (q - 1)) (is_divisor (two_power m) (q - 1)) e))))

  pub no_length : is_divisor (two_power m) (q - 1) ≡ false → None ≡ roots_by m q g
  no_length e = none_by (and_left (orders && half && two) whole (and_left (orders && half) two (and_left orders half (and_right (is_divisor (2 * m) (q - 1)) (is_divisor (two_power m) (q - 1)) e))))

  pub no_half : half ≡ false → None ≡ roots_by m q g
  no_half e = none_by (and_left (orders && half && two) whole (and_left (orders && half) two (and_right orders half e)))

  pub no_two : two ≡ false → None ≡ roots_by m q g
  no_two e = none_by (and_left (orders && half && two) whole (and_right (orders && half) two e))

  pub no_whole : whole ≡ false → None ≡ roots_by m q g
  no_whole e = none_by (and_right (orders && half && two) whole e)

  pub passed : (z p : ℕ) → z ≡ zeta_by m q g → p ≡ psi_by m q g → is_divisor (2 * m) (q - 1) ≡ true → is_divisor (two_power m) (q - 1) ≡ true → half ≡ true → two ≡ true → whole ≡ true → Some (z, p) ≡ roots_by m q g
  unfolding roots_by
  passed z p zeta psi a b c d e = ap₂ (λ x y. Some (x, y)) zeta psi ∙ sym (ap (λ b. if b then Some (zeta_by m q g, psi_by m q g) else None) (and_from (orders && half && two) whole (and_from (orders && half) two (and_from orders half (and_from (is_divisor (2 * m) (q - 1)) (is_divisor (two_power m) (q - 1)) a b) c) d) e))

chosen : {A : Type 0} (b : Bool) (x y : A) → (if b then Some x else None) ≡ Some y → (b ≡ true) × (y ≡ x)
chosen true x y e = (refl, cc)
chosen false x y e = absurd (cc)

not_chosen : {A : Type 0} (b : Bool) (x : A) → (if b then Some x else None) ≡ None → b ≡ false
not_chosen true x e = absurd (cc)
not_chosen false x e = refl

module _ (m q : ℕ) where
  fails : (g : ℕ) → roots_by m q g ≡ None → is_base m q g ≡ false
  unfolding roots_by
  fails g e = not_chosen (is_base m q g) (zeta_by m q g, psi_by m q g) e

  passes : (g : ℕ) (roots : ℕ × ℕ) → roots_by m q g ≡ Some roots → (is_base m q g ≡ true) × (roots ≡ (zeta_by m q g, psi_by m q g))
  unfolding roots_by
  passes g roots e = chosen (is_base m q g) (zeta_by m q g, psi_by m q g) roots e

  -- a base by its distance to 2
  from_two : (t g : ℕ) → t ≡ g - 2 → 2 ≤ g → 2 + t ≡ g
  from_two t g e l = omega arith

  least_base : (roots : ℕ × ℕ) → IsFirst (λ t. roots_by m q (2 + t)) 999 roots → (g : ℕ) × IsLeastBase m q g roots
  least_base roots a = (
    2 + a.place,
    record {
      low = omega arith;
      high = omega (arith, a.within);
      passes = (passes (2 + a.place) roots a.value).0;
      least = λ h l k. ap (is_base m q) (sym (from_two (h - 2) h refl l)) ∙ fails (2 + (h - 2)) (a.before (h - 2) (omega arith));
      roots_are = (passes (2 + a.place) roots a.value).1;
    },
  )

  no_base : first_below 999 (λ t. roots_by m q (2 + t)) ≡ None → (g : ℕ) → 2 ≤ g → g ≤ 1000 → is_base m q g ≡ false
  no_base e g l k = ap (is_base m q) (sym (from_two (g - 2) g refl l)) ∙ fails (2 + (g - 2)) (first_each (λ t. roots_by m q (2 + t)) 999 e (g - 2) (omega arith))

pub finds_least : FindsLeastBase
unfolding roots_of
finds_least m q = go (roots_of m q) refl
  where
    go : (o : Option (ℕ × ℕ)) → roots_of m q ≡ o → MatchOption o ((g : ℕ) → 2 ≤ g → g ≤ 1000 → is_base m q g ≡ false) (λ roots. (g : ℕ) × IsLeastBase m q g roots)
    go None e = no_base m q e
    go (Some roots) e = least_base m q roots (first_is (λ t. roots_by m q (2 + t)) 999 roots e)
