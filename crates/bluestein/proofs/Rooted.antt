-- What the roots of a plan give: the inverse of the root, that of m, and so the coefficients with given values.
use Rattle.std.proofs.Common.{◌≡◌, ℕ, suc, ◌-◌, ◌*◌, ◌/◌, ◌%◌, ◌<◌, List, map, length, get_or, sym, ◌∙◌, ap, arith, nat_lt, lt-ltb, ltb-true, All}
use Rattle.std.proofs.lemmas.List.{ext_get_or}
use Rattle.algebra.specs.Ring.{residues}
use Rattle.algebra.specs.Power.{power}
use Rattle.algebra.specs.Poly.{value_at}
use Rattle.algebra.specs.Whole.{below}
use Rattle.algebra.proofs.Residues.{residue_laws}
use Rattle.algebra.proofs.HeldPowers.{held_power}
use Rattle.cyclotomic.specs.RootLaws.{IsRootPair}
use Rattle.bluestein.specs.Plan.{AreRoots, square, value_of, ValuesDetermine}
use Rattle.bluestein.proofs.Ranges.{get_or-over, length-over}
use Rattle.bluestein.proofs.Inverse.{share_is, inverse_at, determined}

-- the inverse of m modulo q
abbrev pub share : ℕ → ℕ → ℕ
share q m = q - (q - 1) / m

module _ (q m zeta psi : ℕ) (R : AreRoots q m zeta psi) where
  abbrev pub back : ℕ
  back = power (residues q) (square q zeta) (m - 1)

  on : 0 < q
  on = let l = R.above in omega arith

  some : 0 < m
  some = let l = R.some in omega arith

  pub back_in : back < q
  back_in = ltb-true back q (held_power (residue_laws q on) (square q zeta) R.is_root.held_root (m - 1))

  pub are_pair : IsRootPair (λ a. nat_lt a q) (residues q) (square q zeta) back m
  are_pair = record {
    is_root = R.is_root;
    held_inverse = lt-ltb back q back_in;
    inverse = let e : suc (m - 1) ≡ m = omega (arith, some) in ap (power (residues q) (square q zeta)) e ∙ R.is_root.root;
  }

  pub share_one : (share q m * m) % q ≡ 1 % q
  share_one = share_is q m (let l = R.some in omega arith) (let l = R.above in omega arith) R.one_more

  pub inverse_values : (a b : List ℕ) → length a ≡ m → length b ≡ m → All (λ c. c < q) a → All (λ c. c < q) b → ((k : ℕ) → k < m → get_or a k 0 ≡ (share q m * value_at (residues q) (power (residues q) back k) b) % q) → map (λ j. value_at (residues q) (power (residues q) (square q zeta) j) a) (below m) ≡ b
  inverse_values a b na nb ha hb h = ext_get_or 0 (map (λ j. value_at (residues q) (power (residues q) (square q zeta) j) a) (below m)) b (long ∙ sym nb) (λ i l. let k : i < m = omega (arith, long) in get_or-over (λ j. value_at (residues q) (power (residues q) (square q zeta) j) a) m i 0 k ∙ inverse_at q on m (square q zeta) back (share q m) some back_in are_pair share_one a b nb hb na ha h i k)
    where
      long : length (map (λ j. value_at (residues q) (power (residues q) (square q zeta) j) a) (below m)) ≡ m
      long = length-over (λ j. value_at (residues q) (power (residues q) (square q zeta) j) a) m

pub values_determine : ValuesDetermine
values_determine r R a b ra rb e = determined r.q (on r.q r.m r.zeta r.psi R) r.m (square r.q r.zeta) (back r.q r.m r.zeta r.psi R) (share r.q r.m) (some r.q r.m r.zeta r.psi R) (back_in r.q r.m r.zeta r.psi R) (are_pair r.q r.m r.zeta r.psi R) (share_one r.q r.m r.zeta r.psi R) a b ra.long ra.residues rb.long rb.residues (λ j l. sym (get_or-over (value_of r a) r.m j 0 l) ∙ ap (λ z. get_or z j 0) e ∙ get_or-over (value_of r b) r.m j 0 l)
