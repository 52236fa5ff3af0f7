-- The first check that fails.
use Rattle.std.proofs.Common.{◌≡◌, ℕ, suc, ◌+◌, ◌*◌, ◌%◌, ◌^◌, ◌-◌, ◌<◌, ◌⊎◌, inl, inr, Bool, true, false, not, Option, None, Some, refl, ap, sym, ◌∙◌, arith}
use Rattle.std.specs.Prelude.{if◌then◌else◌}
use Rattle.std.specs.Option.{option_or, is_some}
use Rattle.std.proofs.lemmas.Bool.{or_from, or_left, or_right, not_from_false, not_from_true}
use Rattle.algebra.specs.Divisor.{Dvd, is_divisor, is_unit}
use Rattle.algebra.proofs.Divisors.{divisor_no}
use Rattle.moduli_table.specs.declared.rows.ModRow.{ModRow}
use Rattle.moduli_table.specs.declared.faults.ModFault.{ModFault}
use Rattle.moduli_table.specs.declared.faults.ModFault.TheVariants.{Size, Residue, HalfRoot, Root, TwoRoot, Inverse, PlainInverse}
use Rattle.moduli_table.specs.First.{all_below}
use Rattle.moduli_table.specs.Chain.{Chain, row_at, modulus_at, entry_at}
use Rattle.moduli_table.specs.Checks.{power_less_one, omega_of, is_size, is_residue, is_half_root, is_root_at, is_root, is_two_root, is_inverse, row_fault, row_fault_at, inverse_fault, plain_fault, first_row_fault, first_inverse_fault, first_plain_fault, first_fault}
use Rattle.moduli_table.proofs.Firsts.{all_more, all_from, not_all}

-- 0 divides no number above 0
pub no_zero : (m : ℕ) → 0 < m → Dvd 0 m → ⊥
no_zero m p h = omega (arith, h.1)

-- the test at 0 and at each further number
pub root_start : (m q zeta : ℕ) → 0 < m → all_below 1 (is_root_at m q zeta) ≡ true
root_start m q zeta p = all_from (is_root_at m q zeta) 1 (λ i l. at i (omega arith))
  where
    at : (i : ℕ) → i ≡ 0 → is_root_at m q zeta i ≡ true
    at i e = ap (is_root_at m q zeta) e ∙ or_left (not (is_divisor 0 m)) (is_unit q (power_less_one q (omega_of q zeta) 0)) (not_from_false (is_divisor 0 m) (divisor_no 0 m (no_zero m p)))

pub root_more : (m q zeta k : ℕ) → all_below k (is_root_at m q zeta) ≡ true → (is_divisor k m ≡ false) ⊎ (is_unit q (power_less_one q (omega_of q zeta) k) ≡ true) → all_below (suc k) (is_root_at m q zeta) ≡ true
root_more m q zeta k e (inl h) = all_more (is_root_at m q zeta) k e (or_left (not (is_divisor k m)) (is_unit q (power_less_one q (omega_of q zeta) k)) (not_from_false (is_divisor k m) h))
root_more m q zeta k e (inr h) = all_more (is_root_at m q zeta) k e (or_right (not (is_divisor k m)) (is_unit q (power_less_one q (omega_of q zeta) k)) h)

pub root_fails : (m q zeta k : ℕ) → k < m → is_divisor k m ≡ true → is_unit q (power_less_one q (omega_of q zeta) k) ≡ false → is_root m q zeta ≡ false
unfolding is_root
root_fails m q zeta k l e h = not_all (is_root_at m q zeta) k m l (or_from (not (is_divisor k m)) (is_unit q (power_less_one q (omega_of q zeta) k)) (not_from_true (is_divisor k m) e) h)

pub root_holds : (m q zeta k : ℕ) → k ≡ m → all_below k (is_root_at m q zeta) ≡ true → is_root m q zeta ≡ true
unfolding is_root
root_holds m q zeta k e h = ap (λ n. all_below n (is_root_at m q zeta)) (sym e) ∙ h

-- the test of a power, from its words
pub unit_at : (q zeta k o w d s : ℕ) (b : Bool) → o ≡ zeta * zeta % q → w ≡ o ^ k % q → d ≡ (w + (q - 1)) % q → s ≡ q → b ≡ is_unit s d → b ≡ is_unit q (power_less_one q (omega_of q zeta) k)
unit_at q zeta k o w d s b square raised less same e = e ∙ ap (λ z. is_unit z d) same ∙ ap (is_unit q) (less ∙ ap (λ z. (z + (q - 1)) % q) (raised ∙ ap (λ z. z ^ k % q) square))

-- a test that fails gives its fault, and one that holds leaves the rest
pub gate_shut : {A : Type 0} (b : Bool) (x : A) (rest : Option A) → b ≡ false → (if not b then Some x else rest) ≡ Some x
gate_shut b x rest e = ap (λ c. if not c then Some x else rest) e

pub gate_open : {A : Type 0} (b : Bool) (x : A) (rest : Option A) → b ≡ true → (if not b then Some x else rest) ≡ rest
gate_open b x rest e = ap (λ c. if not c then Some x else rest) e

pub gate_none : {A : Type 0} (b : Bool) (x : A) (rest : Option A) → (if not b then Some x else rest) ≡ None → (b ≡ true) × (rest ≡ None)
gate_none true x rest e = (refl, e)
gate_none false x rest e = absurd (cc)

module _ (m i : ℕ) (r : ModRow) where
  abbrev after_half : Option ModFault
  after_half = if not (is_root m r.q r.zeta) then Some (Root i) else if not (is_two_root m r.q r.psi) then Some (TwoRoot i) else None

  abbrev after_residue : Option ModFault
  after_residue = if not (is_half_root m r.q r.zeta) then Some (HalfRoot i) else after_half

  abbrev after_size : Option ModFault
  after_size = if not (is_residue m r) then Some (Residue i) else after_residue

  abbrev after_root : Option ModFault
  after_root = if not (is_two_root m r.q r.psi) then Some (TwoRoot i) else None

  pub size_fault : is_size r ≡ false → row_fault m i r ≡ Some (Size i)
  unfolding row_fault
  size_fault e = gate_shut (is_size r) (Size i) after_size e

  pub residue_fault : is_size r ≡ true → is_residue m r ≡ false → row_fault m i r ≡ Some (Residue i)
  unfolding row_fault
  residue_fault s e = gate_open (is_size r) (Size i) after_size s ∙ gate_shut (is_residue m r) (Residue i) after_residue e

  pub after_two : is_size r ≡ true → is_residue m r ≡ true → row_fault m i r ≡ after_residue
  unfolding row_fault
  after_two s e = gate_open (is_size r) (Size i) after_size s ∙ gate_open (is_residue m r) (Residue i) after_residue e

  pub half_root_fault : is_size r ≡ true → is_residue m r ≡ true → is_half_root m r.q r.zeta ≡ false → row_fault m i r ≡ Some (HalfRoot i)
  half_root_fault s e h = after_two s e ∙ gate_shut (is_half_root m r.q r.zeta) (HalfRoot i) after_half h

  after_three : is_size r ≡ true → is_residue m r ≡ true → is_half_root m r.q r.zeta ≡ true → row_fault m i r ≡ after_half
  after_three s e h = after_two s e ∙ gate_open (is_half_root m r.q r.zeta) (HalfRoot i) after_half h

  pub root_fault : is_size r ≡ true → is_residue m r ≡ true → is_half_root m r.q r.zeta ≡ true → is_root m r.q r.zeta ≡ false → row_fault m i r ≡ Some (Root i)
  root_fault s e h k = after_three s e h ∙ gate_shut (is_root m r.q r.zeta) (Root i) after_root k

  pub after_four : is_size r ≡ true → is_residue m r ≡ true → is_half_root m r.q r.zeta ≡ true → is_root m r.q r.zeta ≡ true → row_fault m i r ≡ after_root
  after_four s e h k = after_three s e h ∙ gate_open (is_root m r.q r.zeta) (Root i) after_root k

  pub two_root_fault : is_size r ≡ true → is_residue m r ≡ true → is_half_root m r.q r.zeta ≡ true → is_root m r.q r.zeta ≡ true → is_two_root m r.q r.psi ≡ false → row_fault m i r ≡ Some (TwoRoot i)
  two_root_fault s e h k t = after_four s e h k ∙ gate_shut (is_two_root m r.q r.psi) (TwoRoot i) None t

  pub no_row_fault : is_size r ≡ true → is_residue m r ≡ true → is_half_root m r.q r.zeta ≡ true → is_root m r.q r.zeta ≡ true → is_two_root m r.q r.psi ≡ true → row_fault m i r ≡ None
  no_row_fault s e h k t = after_four s e h k ∙ gate_open (is_two_root m r.q r.psi) (TwoRoot i) None t

  -- and the other way round
  pub record Passes : Type 0 where
    pub size : is_size r ≡ true
    pub residue : is_residue m r ≡ true
    pub half_root : is_half_root m r.q r.zeta ≡ true
    pub root : is_root m r.q r.zeta ≡ true
    pub two_root : is_two_root m r.q r.psi ≡ true

  pub passes : row_fault m i r ≡ None → Passes
  unfolding row_fault
  passes e = record { size = a.0; residue = b.0; half_root = c.0; root = d.0; two_root = (gate_none (is_two_root m r.q r.psi) (TwoRoot i) None d.1).0 }
    where
      a : (is_size r ≡ true) × (after_size ≡ None)
      a = gate_none (is_size r) (Size i) after_size e

      b : (is_residue m r ≡ true) × (after_residue ≡ None)
      b = gate_none (is_residue m r) (Residue i) after_residue a.1

      c : (is_half_root m r.q r.zeta ≡ true) × (after_half ≡ None)
      c = gate_none (is_half_root m r.q r.zeta) (HalfRoot i) after_half b.1

      d : (is_root m r.q r.zeta ≡ true) × (after_root ≡ None)
      d = gate_none (is_root m r.q r.zeta) (Root i) after_root c.1

none_of : {A : Type 0} (o : Option A) → is_some o ≡ false → o ≡ None
none_of None e = refl
none_of (Some x) e = absurd (cc)

some_first : {A : Type 0} (o p : Option A) → is_some o ≡ true → o ≡ option_or o p
some_first None p e = absurd (cc)
some_first (Some x) p e = refl

module _ (c : Chain) where
  pub rows_first : (o : Option ModFault) → is_some o ≡ true → o ≡ first_row_fault c → o ≡ first_fault c
  unfolding first_fault
  rows_first o e h = some_first o (option_or (first_inverse_fault c) (first_plain_fault c)) e ∙ ap (λ o. option_or o (option_or (first_inverse_fault c) (first_plain_fault c))) h

  pub after_rows : (o : Option ModFault) → is_some o ≡ false → o ≡ first_row_fault c → option_or (first_inverse_fault c) (first_plain_fault c) ≡ first_fault c
  unfolding first_fault
  after_rows o e h = sym (ap (λ o. option_or o (option_or (first_inverse_fault c) (first_plain_fault c))) (sym h ∙ none_of o e))

  pub inverses_first : (o : Option ModFault) → is_some o ≡ true → o ≡ first_inverse_fault c → o ≡ option_or (first_inverse_fault c) (first_plain_fault c)
  inverses_first o e h = some_first o (first_plain_fault c) e ∙ ap (λ o. option_or o (first_plain_fault c)) h

  pub plain_last : (o : Option ModFault) → is_some o ≡ false → o ≡ first_inverse_fault c → first_plain_fault c ≡ option_or (first_inverse_fault c) (first_plain_fault c)
  plain_last o e h = sym (ap (λ o. option_or o (first_plain_fault c)) (sym h ∙ none_of o e))

-- the test of an inverse, from its words
pub inverse_test : (b : Bool) (q q' k k' e e' : ℕ) → b ≡ is_inverse q k e → q ≡ q' → k ≡ k' → e ≡ e' → b ≡ is_inverse q' k' e'
inverse_test b q q' k k' e e' h same modulus entry = h ∙ ap (λ z. is_inverse z k e) same ∙ ap (λ z. is_inverse q' z e) modulus ∙ ap (is_inverse q' k') entry

module _ (c : Chain) where
  pub wrong_inverse : (j i : ℕ) → is_inverse (modulus_at c j) (modulus_at c i) (entry_at c i j) ≡ false → inverse_fault c j i ≡ Some (Inverse i j)
  wrong_inverse j i e = ap (λ b. if b then None else Some (Inverse i j)) e

  pub right_inverse : (j i : ℕ) → is_inverse (modulus_at c j) (modulus_at c i) (entry_at c i j) ≡ true → inverse_fault c j i ≡ None
  right_inverse j i e = ap (λ b. if b then None else Some (Inverse i j)) e

  pub wrong_plain : (i : ℕ) → is_inverse c.p (modulus_at c i) (row_at c i).plain_inverse ≡ false → plain_fault c i ≡ Some (PlainInverse i)
  wrong_plain i e = ap (λ b. if b then None else Some (PlainInverse i)) e

  pub right_plain : (i : ℕ) → is_inverse c.p (modulus_at c i) (row_at c i).plain_inverse ≡ true → plain_fault c i ≡ None
  right_plain i e = ap (λ b. if b then None else Some (PlainInverse i)) e

  pub row_found : (i : ℕ) (o : Option ModFault) (m : ℕ) (r : ModRow) → o ≡ row_fault m i r → m ≡ c.m → r ≡ row_at c i → o ≡ row_fault_at c i
  row_found i o m r e same row = e ∙ ap (λ m. row_fault m i r) same ∙ ap (row_fault c.m i) row
