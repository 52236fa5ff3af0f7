-- What the checks say of the moduli that pass them.
use Rattle.std.proofs.Common.{◌≡◌, ◌↔◌, ℕ, zero, suc, ◌-◌, ◌*◌, ◌%◌, ◌^◌, ◌<◌, ◌≤◌, ◌⊎◌, inl, inr, Bool, true, false, not, ◌&&◌, None, Some, refl, ap, ◌∙◌, arith, eqb-true, eq-eqb, ltb-true, lt-ltb}
use Rattle.std.specs.Prelude.{◌==◌, nat_le, nat_lt, if◌then◌else◌}
use Rattle.std.specs.Option.{option_or}
use Rattle.std.proofs.lemmas.Bool.{and_parts, and_from, or_cases, or_left, or_right, not-true, not_from_false, both_ways, leb-true, le-leb}
use Rattle.algebra.specs.Divisor.{Dvd, is_divisor, is_unit, HasInverse}
use Rattle.algebra.proofs.Divisors.{divisor_yes, divisor_no, divisor_cases}
use Rattle.moduli_table.specs.declared.rows.ModRow.{ModRow}
use Rattle.moduli_table.specs.First.{first_below}
use Rattle.moduli_table.specs.Chain.{Chain, IsShaped, count, row_at, modulus_at, entry_at}
use Rattle.moduli_table.specs.Checks.{power_less_one, omega_of, is_size, is_root_at, is_root, is_inverse, row_fault, row_fault_at, inverse_fault, plain_fault, first_row_fault, first_inverse_fault, first_plain_fault, first_fault}
use Rattle.moduli_table.specs.Accepted.{IsInverse, IsAcceptedRow, AreModuli}
use Rattle.moduli_table.proofs.Firsts.{none_or, first_each, first_none, all_each, all_from}
use Rattle.moduli_table.proofs.EuclidSteps.{unit_test, test_unit}
use Rattle.moduli_table.proofs.FirstFaults.{Passes, passes, no_row_fault, no_zero}

-- the test of divisors
roots_of_test : (m q zeta : ℕ) → 1 < q → is_root m q zeta ≡ true → (k : ℕ) → 0 < k → k < m → Dvd k m → HasInverse q (power_less_one q (omega_of q zeta) k)
unfolding is_root
roots_of_test m q zeta p e k above l d = unit_test q (power_less_one q (omega_of q zeta) k) p (go (or_cases (not (is_divisor k m)) (is_unit q (power_less_one q (omega_of q zeta) k)) (all_each (is_root_at m q zeta) m e k l)))
  where
    go : (not (is_divisor k m) ≡ true) ⊎ (is_unit q (power_less_one q (omega_of q zeta) k) ≡ true) → is_unit q (power_less_one q (omega_of q zeta) k) ≡ true
    go (inl h) = absurd (both_ways (is_divisor k m) (not-true (is_divisor k m) h) (divisor_yes k m d))
    go (inr h) = h

test_of_roots : (m q zeta : ℕ) → 1 < q → 0 < m → ((k : ℕ) → 0 < k → k < m → Dvd k m → HasInverse q (power_less_one q (omega_of q zeta) k)) → is_root m q zeta ≡ true
unfolding is_root
test_of_roots m q zeta p above h = all_from (is_root_at m q zeta) m at
  where
    at : (k : ℕ) → k < m → is_root_at m q zeta k ≡ true
    at zero l = or_left (not (is_divisor 0 m)) (is_unit q (power_less_one q (omega_of q zeta) 0)) (not_from_false (is_divisor 0 m) (divisor_no 0 m (no_zero m above)))
    at (suc k) l = go (divisor_cases (suc k) m)
      where
        go : ((is_divisor (suc k) m ≡ true) × Dvd (suc k) m) ⊎ ((is_divisor (suc k) m ≡ false) × (Dvd (suc k) m → ⊥)) → is_root_at m q zeta (suc k) ≡ true
        go (inl d) = or_right (not (is_divisor (suc k) m)) (is_unit q (power_less_one q (omega_of q zeta) (suc k))) (test_unit q (power_less_one q (omega_of q zeta) (suc k)) p (h (suc k) (omega arith) l d.1))
        go (inr d) = or_left (not (is_divisor (suc k) m)) (is_unit q (power_less_one q (omega_of q zeta) (suc k))) (not_from_false (is_divisor (suc k) m) d.0)

-- the parts of the first test
pub record HasSize (r : ModRow) : Type 0 where
  pub odd : r.q % 2 ≡ 1
  pub low : 3 ≤ r.q
  pub high : r.q < 2 ^ 62
  pub zeta_in : r.zeta < r.q
  pub psi_in : r.psi < r.q

size_of_test : (r : ModRow) → is_size r ≡ true → HasSize r
size_of_test r e = record { odd = eqb-true (r.q % 2) 1 s1.0; low = leb-true 3 r.q s1.1; high = ltb-true r.q (2 ^ 62) s2.1; zeta_in = ltb-true r.zeta r.q s3.1; psi_in = ltb-true r.psi r.q s4.1 }
  where
    s4 : ((r.q % 2 == 1 && nat_le 3 r.q && nat_lt r.q (2 ^ 62) && nat_lt r.zeta r.q) ≡ true) × (nat_lt r.psi r.q ≡ true)
    s4 = and_parts (r.q % 2 == 1 && nat_le 3 r.q && nat_lt r.q (2 ^ 62) && nat_lt r.zeta r.q) (nat_lt r.psi r.q) e

    s3 : ((r.q % 2 == 1 && nat_le 3 r.q && nat_lt r.q (2 ^ 62)) ≡ true) × (nat_lt r.zeta r.q ≡ true)
    s3 = and_parts (r.q % 2 == 1 && nat_le 3 r.q && nat_lt r.q (2 ^ 62)) (nat_lt r.zeta r.q) s4.0

    s2 : ((r.q % 2 == 1 && nat_le 3 r.q) ≡ true) × (nat_lt r.q (2 ^ 62) ≡ true)
    s2 = and_parts (r.q % 2 == 1 && nat_le 3 r.q) (nat_lt r.q (2 ^ 62)) s3.0

    s1 : ((r.q % 2 == 1) ≡ true) × (nat_le 3 r.q ≡ true)
    s1 = and_parts (r.q % 2 == 1) (nat_le 3 r.q) s2.0

test_of_size : (r : ModRow) → HasSize r → is_size r ≡ true
test_of_size r h =
    and_from (r.q % 2 == 1 && nat_le 3 r.q && nat_lt r.q (2 ^ 62) && nat_lt r.zeta r.q) (nat_lt r.psi r.q) (and_from (r.q % 2 == 1 && nat_le 3 r.q && nat_lt r.q (2 ^ 62)) (nat_lt r.zeta r.q) (and_from (r.q % 2 == 1 && nat_le 3 r.q) (nat_lt r.q (2 ^ 62)) (and_from (r.q % 2 == 1) (nat_le 3 r.q) (eq-eqb (r.q % 2) 1 h.odd) (le-leb 3 r.q h.low)) (lt-ltb r.q (2 ^ 62) h.high)) (lt-ltb r.zeta r.q h.zeta_in)) (lt-ltb r.psi r.q h.psi_in)

pub accepted_row : (m i : ℕ) (r : ModRow) → row_fault m i r ≡ None → IsAcceptedRow m r
accepted_row m i r e = record {
  odd = size.odd;
  low = size.low;
  high = size.high;
  zeta_in = size.zeta_in;
  psi_in = size.psi_in;
  residue = eqb-true (r.q % m) 1 all.residue;
  half_root = eqb-true (r.zeta ^ (2 * m) % r.q) 1 all.half_root;
  root = roots_of_test m r.q r.zeta (omega (arith, size.low)) all.root;
  two_root = eqb-true _ (r.q - 1) all.two_root;
}
  where
    all : Passes m i r
    all = passes m i r e

    size : HasSize r
    size = size_of_test r all.size

pub row_accepted : (m i : ℕ) (r : ModRow) → 0 < m → IsAcceptedRow m r → row_fault m i r ≡ None
row_accepted m i r p a =
    no_row_fault m i r (test_of_size r (record { odd = a.odd; low = a.low; high = a.high; zeta_in = a.zeta_in; psi_in = a.psi_in })) (eq-eqb (r.q % m) 1 a.residue) (eq-eqb (r.zeta ^ (2 * m) % r.q) 1 a.half_root) (test_of_roots m r.q r.zeta (omega (arith, a.low)) p a.root) (eq-eqb _ (r.q - 1) a.two_root)

inverse_of_test : (q k e : ℕ) → is_inverse q k e ≡ true → IsInverse q k e
inverse_of_test q k e h = let s = and_parts (nat_lt e q) (k * e % q == 1) h in record { below = ltb-true e q s.0; one = eqb-true (k * e % q) 1 s.1 }

test_of_inverse : (q k e : ℕ) → IsInverse q k e → is_inverse q k e ≡ true
test_of_inverse q k e h = and_from (nat_lt e q) (k * e % q == 1) (lt-ltb e q h.below) (eq-eqb (k * e % q) 1 h.one)

none_test : {A : Type 0} (b : Bool) (x : A) → (if b then None else Some x) ≡ None → b ≡ true
none_test true x e = refl
none_test false x e = absurd (cc)

test_none : {A : Type 0} (b : Bool) (x : A) → b ≡ true → (if b then None else Some x) ≡ None
test_none b x e = ap (λ c. if c then None else Some x) e

module _ (c : Chain) where
  parts : first_fault c ≡ None → (first_row_fault c ≡ None) × (first_inverse_fault c ≡ None) × (first_plain_fault c ≡ None)
  unfolding first_fault
  parts e = let s = none_or (first_row_fault c) (option_or (first_inverse_fault c) (first_plain_fault c)) e in let t = none_or (first_inverse_fault c) (first_plain_fault c) s.1 in (s.0, t.0, t.1)

  row_at_none : first_row_fault c ≡ None → (i : ℕ) → i < count c → row_fault_at c i ≡ None
  unfolding first_row_fault
  row_at_none e = first_each (row_fault_at c) (count c) e

  inverse_at_none : first_inverse_fault c ≡ None → (i j : ℕ) → i < j → j < count c → inverse_fault c j i ≡ None
  unfolding first_inverse_fault
  inverse_at_none e i j l k = first_each (inverse_fault c j) j (first_each (λ j. first_below j (inverse_fault c j)) (count c) e j k) i l

  plain_at_none : first_plain_fault c ≡ None → (i : ℕ) → i < count c → plain_fault c i ≡ None
  unfolding first_plain_fault
  plain_at_none e = first_each (plain_fault c) (count c) e

  pub accepted : first_fault c ≡ None → AreModuli c
  accepted e = record {
    rows = λ i l. accepted_row c.m i (row_at c i) (row_at_none (parts e).0 i l);
    inverses = λ i j l k. inverse_of_test (modulus_at c j) (modulus_at c i) (entry_at c i j) (none_test _ _ (inverse_at_none (parts e).1 i j l k));
    plain = λ i l. inverse_of_test c.p (modulus_at c i) (row_at c i).plain_inverse (none_test _ _ (plain_at_none (parts e).2 i l));
  }

  pub no_fault : 0 < c.m → AreModuli c → first_fault c ≡ None
  unfolding first_fault first_row_fault first_inverse_fault first_plain_fault
  no_fault p a = ap (λ o. option_or o (option_or (first_inverse_fault c) (first_plain_fault c))) (first_none (row_fault_at c) (count c) (λ i l. row_accepted c.m i (row_at c i) p (a.rows i l))) ∙ ap (λ o. option_or o (first_plain_fault c)) (first_none (λ j. first_below j (inverse_fault c j)) (count c) (λ j k. first_none (inverse_fault c j) j (λ i l. test_none (is_inverse (modulus_at c j) (modulus_at c i) (entry_at c i j)) _ (test_of_inverse (modulus_at c j) (modulus_at c i) (entry_at c i j) (a.inverses i j l k))))) ∙ first_none (plain_fault c) (count c) (λ i l. test_none (is_inverse c.p (modulus_at c i) (row_at c i).plain_inverse) _ (test_of_inverse c.p (modulus_at c i) (row_at c i).plain_inverse (a.plain i l)))

  pub checks_are : IsShaped c → (first_fault c ≡ None) ↔ AreModuli c
  checks_are s = (accepted, no_fault (omega (arith, s.m_low)))
