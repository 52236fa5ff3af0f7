-- A test of the roots of a plan that computes, and what it says.
use Rattle.std.proofs.Common.{◌≡◌, ℕ, zero, suc, ◌*◌, ◌%◌, ◌<◌, Bool, true, false, ◌&&◌, nat_lt, nat_eq, List, get_or, refl, sym, ◌∙◌, ap, arith, inl, inr, eqb-true}
use Rattle.std.proofs.lemmas.Bool.{cases_eq}
use Rattle.algebra.specs.Ring.{residues}
use Rattle.algebra.specs.Power.{less, power}
use Rattle.algebra.specs.Divisor.{is_divisor}
use Rattle.algebra.proofs.Divisors.{divisor_yes}
use Rattle.cyclotomic.specs.RootLaws.{HasHeldInverse, IsHeldRoot}

and_first : (a b : Bool) → (a && b) ≡ true → a ≡ true
and_first true b h = refl
and_first false b h = h

and_second : (a b : Bool) → (a && b) ≡ true → b ≡ true
and_second true b h = h
and_second false b h = cc

module _ (q w m : ℕ) (inverses : List ℕ) where
  -- where k divides m, the entry is the inverse of w^k - 1
  abbrev pub has_inverse : ℕ → Bool
  has_inverse k = elim (is_divisor k m) [ true ↦ nat_lt (get_or inverses k 0) q && nat_eq ((less (residues q) (power (residues q) w k) (1 % q) * get_or inverses k 0) % q) (1 % q) | false ↦ true ]

  abbrev pub have_inverses : ℕ → Bool
  have_inverses zero = true
  have_inverses (suc k) = has_inverse k && have_inverses k

  inverse_at : (n k : ℕ) → k < n → have_inverses n ≡ true → has_inverse k ≡ true
  inverse_at zero k l h = absurd (omega arith)
  inverse_at (suc n) k l h = elim (cases_eq k n) [
    | inl e ↦ ap has_inverse e ∙ and_first (has_inverse n) (have_inverses n) h
    | inr e ↦ inverse_at n k (omega arith) (and_second (has_inverse n) (have_inverses n) h)
  ]

  from_entry : (k : ℕ) → has_inverse k ≡ true → is_divisor k m ≡ true → HasHeldInverse (λ a. nat_lt a q) (residues q) (less (residues q) (power (residues q) w k) (1 % q))
  from_entry k h d = (get_or inverses k 0, and_first first second both, eqb-true ((less (residues q) (power (residues q) w k) (1 % q) * get_or inverses k 0) % q) (1 % q) (and_second first second both))
    where
      first : Bool
      first = nat_lt (get_or inverses k 0) q

      second : Bool
      second = nat_eq ((less (residues q) (power (residues q) w k) (1 % q) * get_or inverses k 0) % q) (1 % q)

      both : (nat_lt (get_or inverses k 0) q && nat_eq ((less (residues q) (power (residues q) w k) (1 % q) * get_or inverses k 0) % q) (1 % q)) ≡ true
      both = sym (ap (λ (b : Bool). elim b [ true ↦ nat_lt (get_or inverses k 0) q && nat_eq ((less (residues q) (power (residues q) w k) (1 % q) * get_or inverses k 0) % q) (1 % q) | false ↦ true ]) d) ∙ h

  pub root_by : nat_lt w q ≡ true → power (residues q) w m ≡ 1 % q → have_inverses m ≡ true → IsHeldRoot (λ a. nat_lt a q) (residues q) w m
  root_by l e h = record {
    held_root = l;
    root = e;
    at_divisors = λ k p n d. from_entry k (inverse_at m k n h) (divisor_yes k m d);
  }
