-- What the tests of roots say.
use Rattle.std.proofs.Common.{◌≡◌, ℕ, ◌+◌, ◌-◌, ◌*◌, ◌/◌, ◌%◌, ◌^◌, ◌<◌, ◌≤◌, nat_lt, lt-ltb, sym, ◌∙◌, ap, ap₂, subst, arith, mod-eq_of_lt, eqb-true}
use Rattle.std.proofs.lemmas.Nat.{mod_below}
use Rattle.algebra.specs.Ring.{residues}
use Rattle.algebra.specs.Power.{less, power}
use Rattle.algebra.specs.Divisor.{Dvd}
use Rattle.algebra.proofs.Divisors.{divisor_yes}
use Rattle.algebra.proofs.ResidueUnits.{power_residue}
use Rattle.cyclotomic.specs.RootLaws.{HasHeldInverse}
use Rattle.bluestein.specs.Plan.{AreRoots, IsLeastPower, square}

abbrev pub Differs : ℕ → ℕ → ℕ → Type 0
Differs q w k = HasHeldInverse (λ a. nat_lt a q) (residues q) (less (residues q) (power (residues q) w k) (residues q).one)

pub found : (q w k p d i n : ℕ) → 1 < q → w < q → p ≡ w ^ k % q → d ≡ (p + (q - 1)) % q → i < q → n ≡ (d * i) % q → n ≡ 1 → Differs q w k
found q w k p d i n big w_in pe de l ne one = (i, lt-ltb i q l, ap (λ z. (z * i) % q) same ∙ sym ne ∙ one ∙ sym (mod-eq_of_lt big))
  where
    power_is : power (residues q) w k ≡ p
    power_is = ap (λ z. power (residues q) z k) (sym (mod-eq_of_lt w_in)) ∙ power_residue q w k ∙ sym pe

    negative : (q - 1 % q % q) % q ≡ q - 1
    negative = ap (λ z. (q - z % q) % q) (mod-eq_of_lt big) ∙ ap (λ z. (q - z) % q) (mod-eq_of_lt big) ∙ mod-eq_of_lt (let l : q - 1 < q = omega arith in l)

    same : less (residues q) (power (residues q) w k) (residues q).one ≡ d
    same = ap₂ (λ y z. (y + z) % q) power_is negative ∙ sym de

pub no_divisor : (k m : ℕ) → (m % k ≡ 0 → ⊥) → Dvd k m → ⊥
no_divisor k m h d = h (eqb-true (m % k) 0 (divisor_yes k m d))

pub roots_tested : (q m zeta psi r size w a b d : ℕ) → 3 ≤ m → m ≤ 65536 → q % 2 ≡ 1 → 3 ≤ q → q < 2 ^ 62 → zeta < q → psi < q → q % m ≡ 1 → r ≡ q → IsLeastPower (2 * m - 1) size → w ≡ (zeta * zeta) % r → a ≡ zeta ^ (2 * m) % r → a ≡ 1 → b ≡ psi ^ (size / 2) % r → b ≡ q - 1 → d ≡ w ^ m % r → d ≡ 1 → ((k : ℕ) → 0 < k → k < m → Dvd k m → Differs r w k) → AreRoots q m zeta psi
roots_tested q m zeta psi r size w a b d some few odd above small zeta_in psi_in one_more re is_size we ae a1 be b1 de d1 differ = record {
  some = some;
  few = few;
  odd = odd;
  above = above;
  small = small;
  zeta_in = zeta_in;
  psi_in = psi_in;
  one_more = one_more;
  zeta_order = ap (λ z. zeta ^ (2 * m) % z) (sym re) ∙ sym ae ∙ a1;
  is_root = record {
    held_root = lt-ltb (square q zeta) q (mod_below (zeta * zeta) q on);
    root = ap (λ z. power (residues q) z m) (sym (mod-eq_of_lt (mod_below (zeta * zeta) q on))) ∙ power_residue q (square q zeta) m ∙ ap (λ z. z ^ m % q) (sym w_is) ∙ ap (λ z. w ^ m % z) (sym re) ∙ sym de ∙ d1 ∙ sym (mod-eq_of_lt (let l : 1 < q = omega arith in l));
    at_divisors = λ k p l h. subst (λ z. Differs q z k) w_is (subst (λ z. Differs z w k) re (differ k p l h));
  };
  size = size;
  is_size = is_size;
  psi_half = ap (λ z. psi ^ (size / 2) % z) (sym re) ∙ sym be ∙ b1;
}
  where
    on : 0 < q
    on = omega arith

    w_is : w ≡ square q zeta
    w_is = we ∙ ap (λ z. (zeta * zeta) % z) re
