-- The residue modulo q is a map of rings from the whole numbers, and tells them apart up to multiples of q.
use Rattle.std.specs.Prelude.{◌≡◌, ℕ, zero, suc, ◌+◌, ◌-◌, ◌*◌, ◌/◌, ◌%◌, ◌<◌, ltb, ℤ, pos, negsuc, ◌+ℤ◌, ◌*ℤ◌, neg_ℤ, refl}
use Rattle.std.proofs.Common.{arith, sym, ◌∙◌, ap, ap₂, mod-lt, div-add-mod', mod-eq_of_lt, lt-ltb}
use Rattle.std.proofs.lemmas.Nat.{mul-mod_first, mul-mod_second}
use Rattle.std.proofs.Math.Nat.{add-mul-mod_self_left, mod-add-mod, add-mod-mod, mod_self}
use borrow.Author.Differences.{up, down, same_in, sum_is_lem, product_is}
use Rattle.algebra.specs.Ring.{CommRing, residues, whole_numbers}
use Rattle.algebra.specs.Hom.{Hom, Preserves}
use Rattle.algebra.specs.Whole.{residue, quotient, SameModulo}
use Rattle.algebra.proofs.Integers.{whole_ring}
use Rattle.algebra.proofs.Residues.{residue_laws}
use Rattle.algebra.proofs.Held.{same_held, held_ring}
use Rattle.algebra.proofs.Homs.{map_neg}
use Rattle.algebra.specs.Expression.{◌:+◌, ◌:-◌, ◌:*◌}
use Rattle.algebra.proofs.Solver.{solve4}

-- a whole number as a natural one of the same residue modulo t + 1
spread : ℕ → ℤ → ℕ
spread t z = up z + t * down z

-- natural numbers that differ by multiples of n have one remainder
pub shift : (n x y j k : ℕ) → x + n * j ≡ y + n * k → x % n ≡ y % n
shift n x y j k e = sym (add-mul-mod_self_left x n j) ∙ ap (λ z. z % n) e ∙ add-mul-mod_self_left y n k

pub residue_lt : (n : ℕ) → 0 < n → (z : ℤ) → residue n z < n
residue_lt n p (pos a) = mod-lt a p
residue_lt n p (negsuc a) = omega (arith, mod-lt a p)

residue_is : (t : ℕ) (z : ℤ) → residue (suc t) z ≡ spread t z % suc t
unfolding spread
residue_is t (pos a) = ap (λ z. z % suc t) (natural t a)
  where
    natural : (t a : ℕ) → a ≡ a + t * 0
    natural t a = omega arith
residue_is t (negsuc a) = sym (mod-eq_of_lt (residue_lt (suc t) (omega arith) (negsuc a))) ∙ shift (suc t) (suc t - 1 - a % suc t) (0 + t * suc a) (a % suc t + t * (a / suc t)) 0 (fill (a / suc t) (a % suc t) (mod-lt a (omega arith)) (div-add-mod' a (suc t)))
  where
    fill : (q r : ℕ) → r < suc t → q * suc t + r ≡ a → suc t - 1 - r + suc t * (r + t * q) ≡ 0 + t * suc a + suc t * 0
    fill q r l e = rest (suc t - 1 - r) (omega arith)
      where
        rest : (s : ℕ) → s + r ≡ t → s + suc t * (r + t * q) ≡ 0 + t * suc a + suc t * 0
        rest s d = omega (arith, ap (λ z. t * z) e, d)

spread-add : (t : ℕ) (a b : ℤ) → spread t (a +ℤ b) + suc t * (down a + down b) ≡ spread t a + spread t b + suc t * down (a +ℤ b)
unfolding spread
spread-add t a b = omega (arith, sum_is_lem a b)

spread-mul : (t : ℕ) (a b : ℤ) → spread t (a *ℤ b) + suc t * (down a * down b * t) ≡ spread t a * spread t b + suc t * (down a * down b)
unfolding spread
spread-mul t a b = rw ((product_is a b).0, (product_is a b).1) (omega arith)

pub residue-add : (n : ℕ) → 0 < n → (a b : ℤ) → residue n (a +ℤ b) ≡ (residue n a + residue n b) % n
residue-add zero p a b = absurd (omega arith)
residue-add (suc t) p a b = residue_is t (a +ℤ b) ∙ shift (suc t) (spread t (a +ℤ b)) (spread t a + spread t b) (down a + down b) (down (a +ℤ b)) (spread-add t a b) ∙ sym (ap₂ (λ x y. (x + y) % suc t) (residue_is t a) (residue_is t b) ∙ mod-add-mod (spread t a) (suc t) (spread t b % suc t) ∙ add-mod-mod (spread t a) (spread t b) (suc t))

pub residue-mul : (n : ℕ) → 0 < n → (a b : ℤ) → residue n (a *ℤ b) ≡ (residue n a * residue n b) % n
residue-mul zero p a b = absurd (omega arith)
residue-mul (suc t) p a b = residue_is t (a *ℤ b) ∙ shift (suc t) (spread t (a *ℤ b)) (spread t a * spread t b) (down a * down b * t) (down a * down b) (spread-mul t a b) ∙ sym (ap₂ (λ x y. (x * y) % suc t) (residue_is t a) (residue_is t b) ∙ mul-mod_first (spread t a) (spread t b % suc t) (suc t) ∙ mul-mod_second (spread t a) (spread t b) (suc t))

module _ (q : ℕ) (positive : 0 < q) where
  abbrev pub residue_ring : CommRing
  residue_ring = held_ring (residue_laws q positive)

  -- the residue as an element of the ring
  abbrev pub residue_of : ℤ → residue_ring.Carrier
  residue_of z = (residue q z, lt-ltb (residue q z) q (residue_lt q positive z))

  abbrev pub residue_hom : Hom whole_ring residue_ring
  residue_hom = record {
    map = residue_of;
    is = record {
      map_add = λ a b. same_held (λ a. ltb a q) (residue-add q positive a b);
      map_mul = λ a b. same_held (λ a. ltb a q) (residue-mul q positive a b);
      map_one = same_held (λ a. ltb a q) refl;
    };
  }

pub residue-neg : (q : ℕ) → 0 < q → (a : ℤ) → residue q (neg_ℤ a) ≡ (residues q).neg (residue q a)
residue-neg q p a = ap (λ z. z.0) (map_neg whole_ring (residue_ring q p) (residue_hom q p) a)

-- so it keeps the operations on numbers, and by that those on lists
pub residue_preserves : (q : ℕ) → 0 < q → Preserves whole_numbers (residues q) (residue q)
residue_preserves q p = record { keeps_zero = mod-eq_of_lt p; keeps_one = refl; keeps_add = residue-add q p; keeps_mul = residue-mul q p; keeps_neg = residue-neg q p }

-- a whole number is its residue and a multiple of q
pub residue_quotient : (q : ℕ) → 0 < q → (z : ℤ) → z ≡ pos (residue q z) +ℤ pos q *ℤ quotient q z
residue_quotient q p (pos a) = ap pos (natural (a / q) (a % q) (div-add-mod' a q))
  where
    natural : (k r : ℕ) → k * q + r ≡ a → a ≡ r + q * k
    natural k r e = omega (arith, e)
residue_quotient q p (negsuc a) = same_in (negsuc a) (pos (q - 1 - a % q) +ℤ pos q *ℤ negsuc (a / q)) (omega (arith, sum_is_lem (pos (q - 1 - a % q)) (pos q *ℤ negsuc (a / q)), product_is (pos q) (negsuc (a / q)), div-add-mod' a q, mod-lt a p))

pub residue_multiple : (q : ℕ) → 0 < q → (k : ℤ) → residue q (pos q *ℤ k) ≡ 0
residue_multiple q p k = residue-mul q p (pos q) k ∙ ap (λ z. (z * residue q k) % q) (mod_self q) ∙ none (residue q k)
  where
    none : (k : ℕ) → (0 * k) % q ≡ 0
    none k = let e : 0 * k ≡ 0 = omega arith in ap (λ z. z % q) e ∙ mod-eq_of_lt p

-- equal up to a multiple of q: the same residues
pub same_residue : (q : ℕ) → 0 < q → (a b : ℤ) → SameModulo q a b → residue q a ≡ residue q b
same_residue q p a b (k, e) = ap (residue q) e ∙ residue-add q p b (pos q *ℤ k) ∙ ap (λ z. (residue q b + z) % q) (residue_multiple q p k) ∙ none (residue q b) (residue_lt q p b)
  where
    none : (r : ℕ) → r < q → (r + 0) % q ≡ r
    none r l = let e : r + 0 ≡ r = omega arith in ap (λ z. z % q) e ∙ mod-eq_of_lt l

pub same_modulo : (q : ℕ) → 0 < q → (a b : ℤ) → residue q a ≡ residue q b → SameModulo q a b
same_modulo q p a b e = (quotient q a +ℤ neg_ℤ (quotient q b), residue_quotient q p a ∙ ap (λ z. pos z +ℤ pos q *ℤ quotient q a) e ∙ solve4 whole_ring (λ r q k l. r :+ q :* k) (λ r q k l. r :+ q :* l :+ q :* (k :- l)) refl (pos (residue q b)) (pos q) (quotient q a) (quotient q b) ∙ ap (λ z. z +ℤ pos q *ℤ (quotient q a +ℤ neg_ℤ (quotient q b))) (sym (residue_quotient q p b)))
