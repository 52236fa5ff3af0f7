-- The root omega of an accepted row, in the ring of residues.
use Rattle.std.proofs.Common.{◌≡◌, ◌≢◌, ℕ, zero, suc, ◌+◌, ◌-◌, ◌*◌, ◌/◌, ◌%◌, ◌^◌, ◌<◌, ◌≤◌, ◌⊎◌, inl, inr, IsTrue, refl, ap, sym, ◌∙◌, subst, arith, div-add-mod', mod-eq_of_lt, lt-ltb}
use Rattle.std.specs.Prelude.{nat_lt}
use Rattle.std.proofs.lemmas.Bool.{cases_order}
use Rattle.std.proofs.lemmas.Nat.{mod_below, mul-mod_first, mul-mod_second, pow-mod, pow-add, mul-pow}
use Rattle.std.proofs.Math.Nat.{mul-add-mod_self_left, mod-add-mod, add-mod-mod}
use Rattle.algebra.specs.Ring.{CommRing, residues}
use Rattle.algebra.specs.Power.{less, number}
use Rattle.algebra.specs.Divisor.{HasInverse}
use Rattle.algebra.proofs.Held.{held_ring}
use Rattle.algebra.proofs.HeldPowers.{held_power}
use Rattle.algebra.proofs.ResidueUnits.{power_residue}
use Rattle.algebra.specs.Expression.{◌:-◌, ◌:*◌, minus}
use Rattle.algebra.proofs.Solver.{solve3}
use Rattle.cyclotomic.specs.RootLaws.{HasHeldInverse, IsHeldRoot, IsRootPair}
use Rattle.cyclotomic.proofs.HeldRoots.{roots_differ}
use Rattle.mod_ring.specs.Laws.{word_laws}
use Rattle.moduli_table.specs.declared.rows.ModRow.{ModRow}
use Rattle.moduli_table.specs.Checks.{omega_of, power_less_one}
use Rattle.moduli_table.specs.Accepted.{IsAcceptedRow, HasInverseInRow, omega_power, AreRoots}

-- an inverse among the residues, from one in numbers
to_held : (q a : ℕ) → 0 < q → HasInverse q a → HasHeldInverse (λ a. nat_lt a q) (residues q) (a % q)
to_held q a p (u, v, e) = (u % q, lt-ltb (u % q) q (mod_below u q p), mul-mod_first a (u % q) q ∙ mul-mod_second a u q ∙ ap (λ z. z % q) e ∙ mul-add-mod_self_left q v 1)

-- m times one
number_is : (q m : ℕ) → 0 < q → number (residues q) m ≡ m % q
number_is q zero p = sym (mod-eq_of_lt p)
number_is q (suc m) p = ap (λ z. (z + 1 % q) % q) (number_is q m p) ∙ mod-add-mod m q (1 % q) ∙ add-mod-mod m 1 q ∙ ap (λ z. z % q) (let e : m + 1 ≡ suc m = omega arith in e)

-- m has an inverse modulo q, where q is 1 modulo m
order_product : (m q k t : ℕ) → k * suc m + 1 ≡ q → t + k ≡ q → suc m * t ≡ q * m + 1
order_product m q k t e h = omega (arith, e, ap (λ z. suc m * z) h)

order_inverse : (m q : ℕ) → 0 < m → q % m ≡ 1 → HasInverse q m
order_inverse zero q p e = absurd (omega arith)
order_inverse (suc m) q p e = (q - q / suc m, m, order_product m q (q / suc m) (q - q / suc m) whole (omega (arith, whole)))
  where
    whole : q / suc m * suc m + 1 ≡ q
    whole = omega (arith, div-add-mod' q (suc m), e)

-- the difference to one
less_one : (q x : ℕ) → 1 < q → less (residues q) x (1 % q) ≡ (x + (q - 1)) % q
less_one q x p = ap (λ z. (x + (q - z % q) % q) % q) one ∙ ap (λ z. (x + (q - z) % q) % q) one ∙ ap (λ z. (x + z) % q) (mod-eq_of_lt (let l : q - 1 < q = omega arith in l))
  where
    one : 1 % q ≡ 1
    one = mod-eq_of_lt p

-- the other difference
module _ (q : ℕ) (low : 2 ≤ q) where
  ring : CommRing
  ring = held_ring (word_laws q low)

  turned_round : (a b : ℕ) → IsTrue (nat_lt a q) → IsTrue (nat_lt b q) → HasHeldInverse (λ a. nat_lt a q) (residues q) (less (residues q) a b) → HasHeldInverse (λ a. nat_lt a q) (residues q) (less (residues q) b a)
  turned_round a b ha hb (c, hc, e) = ((residues q).neg c, (word_laws q low).neg_held c hc, ap (λ z. z.0) (solve3 (held_ring (word_laws q low)) (λ a b c. (b :- a) :* minus c) (λ a b c. (a :- b) :* c) refl (a, ha) (b, hb) (c, hc)) ∙ e)

module _ (m : ℕ) (r : ModRow) (above : 3 ≤ m) (A : IsAcceptedRow m r) where
  q_above : 2 ≤ r.q
  q_above = omega (arith, A.low)

  q_on : 0 < r.q
  q_on = omega (arith, A.low)

  omega_held : IsTrue (nat_lt (omega_of r.q r.zeta) r.q)
  omega_held = lt-ltb (omega_of r.q r.zeta) r.q (mod_below (r.zeta * r.zeta) r.q q_on)

  power_is : (k : ℕ) → omega_power m r k ≡ omega_of r.q r.zeta ^ k % r.q
  power_is k = power_residue r.q (r.zeta * r.zeta) k ∙ sym (pow-mod (r.zeta * r.zeta) k r.q)

  root_is : omega_power m r m ≡ 1 % r.q
  root_is = power_residue r.q (r.zeta * r.zeta) m ∙ ap (λ z. z % r.q) (mul-pow r.zeta r.zeta m ∙ sym (pow-add r.zeta m m) ∙ ap (λ z. r.zeta ^ z) (let e : m + m ≡ 2 * m = omega arith in e)) ∙ A.half_root ∙ sym (mod-eq_of_lt q_above)

  less_is : (k : ℕ) → less (residues r.q) (omega_power m r k) (1 % r.q) ≡ power_less_one r.q (omega_of r.q r.zeta) k
  less_is k = ap (λ z. less (residues r.q) z (1 % r.q)) (power_is k) ∙ less_one r.q (omega_of r.q r.zeta ^ k % r.q) q_above

  pub held_root : IsHeldRoot (λ a. nat_lt a r.q) (residues r.q) (omega_of r.q r.zeta) m
  held_root = record { held_root = omega_held; root = root_is; at_divisors = λ k p l d. subst (HasInverseInRow m r) (mod-eq_of_lt (mod_below (omega_of r.q r.zeta ^ k % r.q + (r.q - 1)) r.q q_on) ∙ sym (less_is k)) (to_held r.q (power_less_one r.q (omega_of r.q r.zeta) k) q_on (A.root k p l d)) }

  pub held_pair : IsRootPair (λ a. nat_lt a r.q) (residues r.q) (omega_of r.q r.zeta) (omega_power m r (m - 1)) m
  held_pair = record { is_root = held_root; held_inverse = held_power (word_laws r.q q_above) (omega_of r.q r.zeta) omega_held (m - 1); inverse = ap (omega_power m r) (let e : suc (m - 1) ≡ m = omega arith in e) ∙ root_is }

  pub held_order : HasInverseInRow m r (number (residues r.q) m)
  held_order = subst (HasInverseInRow m r) (sym (number_is r.q m q_on)) (to_held r.q m q_on (order_inverse m r.q (omega arith) A.residue))

  held_differences : (i j : ℕ) → i < m → j < m → i ≢ j → HasInverseInRow m r (less (residues r.q) (omega_power m r i) (omega_power m r j))
  held_differences i j l k apart = go (cases_order i j)
    where
      go : (i ≡ j) ⊎ ((i < j) ⊎ (j < i)) → HasInverseInRow m r (less (residues r.q) (omega_power m r i) (omega_power m r j))
      go (inl e) = absurd (apart e)
      go (inr (inl s)) = turned_round r.q q_above (omega_power m r j) (omega_power m r i) (held_power (word_laws r.q q_above) (omega_of r.q r.zeta) omega_held j) (held_power (word_laws r.q q_above) (omega_of r.q r.zeta) omega_held i) (roots_differ (word_laws r.q q_above) (omega_of r.q r.zeta) m j i (omega arith) held_root k s)
      go (inr (inr s)) = roots_differ (word_laws r.q q_above) (omega_of r.q r.zeta) m i j (omega arith) held_root l s

  pub are_roots : AreRoots m r
  are_roots = record { pair = held_pair; order = held_order; differences = held_differences }
