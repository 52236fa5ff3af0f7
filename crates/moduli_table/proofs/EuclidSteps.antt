-- Euclid's steps modulo q, and the least inverse.
use Rattle.std.proofs.Common.{◌≡◌, ℕ, zero, suc, ◌+◌, ◌-◌, ◌*◌, ◌/◌, ◌%◌, ◌<◌, inl, inr, true, false, not, refl, ap, sym, ◌∙◌, subst, arith, div-add-mod', mod-eq_of_lt, eq-eqb, mul_comm}
use Rattle.std.specs.Prelude.{unwrap_or, ◌==◌}
use Rattle.std.proofs.lemmas.Bool.{and_from, false_from_ne_true, cases_eq, ne_eqb}
use Rattle.std.proofs.lemmas.Nat.{mod_below, mul-mod_first, mul-mod_second}
use Rattle.std.proofs.Math.Nat.{mod-add-mod, add-mod-mod, mod_self}
use Rattle.algebra.specs.Divisor.{Dvd, is_unit, is_divisor, common_divisor, gcd, HasInverse}
use Rattle.algebra.proofs.WholeResidues.{shift}
use Rattle.algebra.proofs.Divisors.{Dvd_refl, Dvd_sum, Dvd_multiple, divisor_yes}
use Rattle.algebra.proofs.Chinese.{inverse_of_residue}
use Rattle.algebra.proofs.Units.{unit_of_inverse, inverse_of_unit, unit_yes, unit_of_test}
use Rattle.moduli_table.specs.Search.{inverse_or_zero}
use Rattle.moduli_table.proofs.Firsts.{least_is, least_none}

-- a summand in common is taken away
cancel : (q x y z : ℕ) → (x + z) % q ≡ (y + z) % q → x % q ≡ y % q
cancel q x y z e = shift q x y ((y + z) / q) ((x + z) / q) (omega (arith, div-add-mod' (x + z) q, div-add-mod' (y + z) q))

-- the difference s - u modulo q
taken : (q s u f : ℕ) → u < q → f ≡ (s + (q - u)) % q → (f + u) % q ≡ s % q
taken q s u f l e = ap (λ z. (z + u) % q) e ∙ mod-add-mod (s + (q - u)) q u ∙ ap (λ z. z % q) whole ∙ sym (add-mod-mod s q q) ∙ ap (λ z. (s + z) % q) (mod_self q) ∙ ap (λ z. z % q) none
  where
    whole : s + (q - u) + u ≡ s + q
    whole = omega arith

    none : s + 0 ≡ s
    none = omega arith

-- one step of Euclid's algorithm keeps that a remainder is its factor times a, up to a multiple of q
pub factor_kept : (q k a t s s' r r' rest u f : ℕ) → 0 < q → k ≡ q → (s * a) % q ≡ r % q → (s' * a) % q ≡ r' % q → t * r' + rest ≡ r → u ≡ (t % q * s') % k → f ≡ (s + (k - u)) % k → (f * a) % q ≡ rest % q
factor_kept q k a t s s' r r' rest u f p same first second whole product difference = cancel q (f * a) rest (u * a) (left ∙ first ∙ right)
  where
    product_is : u ≡ (t % q * s') % q
    product_is = product ∙ ap (λ z. (t % q * s') % z) same

    u_in : u < q
    u_in = omega (arith, product_is, mod_below (t % q * s') q p)

    left : (f * a + u * a) % q ≡ (s * a) % q
    left = ap (λ z. z % q) (let e : f * a + u * a ≡ (f + u) * a = omega arith in e) ∙ sym (mul-mod_first (f + u) a q) ∙ ap (λ z. (z * a) % q) (taken q s u f u_in (difference ∙ ap (λ z. (s + (z - u)) % z) same)) ∙ mul-mod_first s a q

    turned : (u * a) % q ≡ (t * r') % q
    turned = ap (λ z. (z * a) % q) product_is ∙ mul-mod_first (t % q * s') a q ∙ ap (λ z. z % q) (let e : t % q * s' * a ≡ t % q * (s' * a) = omega arith in e) ∙ mul-mod_first t (s' * a) q ∙ sym (mul-mod_second t (s' * a) q) ∙ ap (λ z. (t * z) % q) second ∙ mul-mod_second t r' q

    right : r % q ≡ (rest + u * a) % q
    right = sym (sym (add-mod-mod rest (u * a) q) ∙ ap (λ z. (rest + z) % q) turned ∙ add-mod-mod rest (t * r') q ∙ ap (λ z. z % q) (let e : rest + t * r' ≡ r = omega (arith, whole) in e))

-- before the first step
pub first_factors : (q a : ℕ) → 0 < q → (0 * a % q ≡ q % q) × (1 * a % q ≡ a % q % q)
first_factors q a p = (ap (λ z. z % q) (let e : 0 * a ≡ 0 = omega arith in e) ∙ mod-eq_of_lt p ∙ sym (mod_self q), ap (λ z. z % q) (let e : 1 * a ≡ a = omega arith in e) ∙ sym (mod-eq_of_lt (mod_below a q p)))

pub divides_first : (d q a : ℕ) → Dvd d q → Dvd d (a % q) → Dvd d a × Dvd d q
divides_first d q a h k = (subst (λ z. Dvd d z) (div-add-mod' a q) (Dvd_sum d (a / q * q) (a % q) (Dvd_multiple d q (a / q) h) k), h)

-- after the last step, with 1 as the last remainder
pub last_factor : (q a s r : ℕ) → 1 < q → r ≡ 1 → (s * a) % q ≡ r % q → a * s % q ≡ 1
last_factor q a s r p e h = ap (λ z. z % q) (mul_comm a s) ∙ h ∙ ap (λ z. z % q) e ∙ mod-eq_of_lt p

-- a divisor of the smaller remainder and of the rest divides the larger remainder
pub divides_larger : (d t r r' rest : ℕ) → t * r' + rest ≡ r → Dvd d r' → Dvd d rest → Dvd d r
divides_larger d t r r' rest e h k = subst (λ z. Dvd d z) e (Dvd_sum d (t * r') rest (Dvd_multiple d r' t h) k)

-- after the last step, with another one
pub none_of_larger : (q a r r' : ℕ) → (r ≡ 1 → ⊥) → r' ≡ 0 → ((d : ℕ) → Dvd d r → Dvd d r' → Dvd d a × Dvd d q) → HasInverse q a → ⊥
none_of_larger q a r r' above end common i = above (unit_of_inverse q a i r h.0 h.1)
  where
    h : Dvd r a × Dvd r q
    h = common r (Dvd_refl r) (0, omega arith)

-- there is one inverse below q
pub same_inverse : (q a x y : ℕ) → x < q → y < q → a * x % q ≡ 1 → a * y % q ≡ 1 → x ≡ y
same_inverse q a x y l k e h = sym (along x y l h) ∙ ap (λ z. z % q) (let t : x * (a * y) ≡ y * (a * x) = omega arith in t) ∙ along y x k e
  where
    along : (x y : ℕ) → x < q → a * y % q ≡ 1 → (x * (a * y)) % q ≡ x
    along x y l h = sym (mul-mod_second x (a * y) q) ∙ ap (λ z. (x * z) % q) h ∙ ap (λ z. z % q) (let t : x * 1 ≡ x = omega arith in t) ∙ mod-eq_of_lt l

pub inverse_found : (q a x : ℕ) → x < q → a * x % q ≡ 1 → inverse_or_zero q a ≡ x
unfolding inverse_or_zero
inverse_found q a x l e = ap (λ o. unwrap_or o 0) (least_is (λ x. a * x % q == 1) q x l (eq-eqb (a * x % q) 1 e) (λ y s. ne_eqb (a * y % q) 1 (λ h. omega (arith, same_inverse q a y x (omega arith) l h e))))

pub inverse_missing : (q a : ℕ) → 1 < q → (HasInverse q a → ⊥) → inverse_or_zero q a ≡ 0
unfolding inverse_or_zero
inverse_missing q a p none = ap (λ o. unwrap_or o 0) (least_none (λ x. a * x % q == 1) q (λ y s. ne_eqb (a * y % q) 1 (λ h. none (inverse_of_residue q a y p h))))

-- 0 and q have the common divisor q
zero_no_unit : (n : ℕ) → is_unit (suc (suc n)) 0 ≡ false
zero_no_unit n = ne_eqb (gcd 0 (suc (suc n))) 1 (λ e. omega (arith, sym hit ∙ e))
  where
    left : is_divisor (suc (suc n)) 0 ≡ true
    left = divisor_yes (suc (suc n)) 0 (0, omega arith)

    right : is_divisor (suc (suc n)) (suc (suc n)) ≡ true
    right = divisor_yes (suc (suc n)) (suc (suc n)) (Dvd_refl (suc (suc n)))

    hit : gcd 0 (suc (suc n)) ≡ suc (suc n)
    hit = rw (and_from (is_divisor (suc (suc n)) 0) (is_divisor (suc (suc n)) (suc (suc n))) left right, common_divisor) refl

pub unit_test : (q a : ℕ) → 1 < q → is_unit q a ≡ true → HasInverse q a
unit_test zero a p e = absurd (omega arith)
unit_test (suc zero) a p e = absurd (omega arith)
unit_test (suc (suc n)) zero p e = absurd (cc (zero_no_unit n, e))
unit_test (suc (suc n)) (suc b) p e = inverse_of_unit (suc (suc n)) (suc b) (omega arith) (omega arith) (unit_of_test (suc (suc n)) (suc b) (omega arith) (omega arith) e)

pub test_unit : (q a : ℕ) → 1 < q → HasInverse q a → is_unit q a ≡ true
test_unit q a p h = unit_yes q a (omega arith) (unit_of_inverse q a h)

-- the test by an inverse that is 0 where there is none
pub coprime_by : (q a x : ℕ) → 1 < q → (0 < x → a * x % q ≡ 1) → (x ≡ 0 → HasInverse q a → ⊥) → not (x == 0) ≡ is_unit q a
coprime_by q a x p one none = elim (cases_eq x 0) [
  | inl e ↦ ap not (eq-eqb x 0 e) ∙ sym (false_from_ne_true (is_unit q a) (λ h. none e (unit_test q a p h)))
  | inr h ↦ ap not (ne_eqb x 0 h) ∙ sym (test_unit q a p (inverse_of_residue q a x p (one (omega arith))))
]
