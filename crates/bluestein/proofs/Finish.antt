-- From the sums of the convolution to values and coefficients.
use Rattle.std.proofs.Common.{◌≡◌, ℕ, zero, suc, ◌+◌, ◌-◌, ◌*◌, ◌%◌, ◌^◌, ◌<◌, ◌≤◌, List, [], ◌∷◌, map, length, get_or, refl, sym, ◌∙◌, ap, subst, arith, All, ltb-true, mod-eq_of_lt}
use Rattle.std.proofs.lemmas.Nat.{mul-mod_first, mul-mod_second, mod_below}
use Rattle.algebra.specs.Ring.{residues}
use Rattle.algebra.specs.Power.{power}
use Rattle.algebra.specs.Poly.{value_at}
use Rattle.algebra.specs.Whole.{below}
use Rattle.algebra.proofs.Residues.{residue_laws}
use Rattle.algebra.proofs.HeldPowers.{held_power, held_power-add, held_power-mul}
use Rattle.two_power.specs.Convolution.{convolved, HasRow}
use Rattle.bluestein.specs.Plan.{Roots, AreRoots, IsLeastPower, square, value_of, values_of}
use Rattle.bluestein.specs.Chirps.{AreChirps}
use Rattle.bluestein.specs.Fields.{roots_of, HasTables}
use Rattle.bluestein.specs.declared.plan.Plan.TheInside.{Inside}
use Rattle.bluestein.proofs.Ranges.{made_over}
use Rattle.bluestein.proofs.Rooted.{share, back, inverse_values}
use Rattle.bluestein.proofs.Bluestein.{out_at}
use Rattle.bluestein.proofs.Powers.{least_same}

value_in : (q : ℕ) → 0 < q → (x : ℕ) (c : List ℕ) → value_at (residues q) x c < q
value_in q on x [] = on
value_in q on x (a ∷ c) = mod_below (a + (x * value_at (residues q) x c) % q) q on

pub forward_made : (r : Roots) → 0 < r.q → (s p : ℕ) (c out : List ℕ) → (s * p) % r.q ≡ 1 → length out ≡ r.m → ((j : ℕ) → j < r.m → get_or out j 0 ≡ (s * p * value_of r c j) % r.q) → out ≡ values_of r c
forward_made r on s p c out one long h = made_over (value_of r c) r.m 0 out long (λ j l. h j l ∙ sym (mul-mod_first (s * p) (value_of r c j) r.q) ∙ ap (λ z. (z * value_of r c j) % r.q) one ∙ ap (λ z. z % r.q) (single (value_of r c j)) ∙ mod-eq_of_lt (value_in r.q on (power (residues r.q) (square r.q r.zeta) j) c))
  where
    single : (a : ℕ) → 1 * a ≡ a
    single a = omega arith

module _ (q m zeta psi : ℕ) (R : AreRoots q m zeta psi) where
  on : 0 < q
  on = let l = R.above in omega arith

  power_in : (n : ℕ) → power (residues q) (square q zeta) n < q
  power_in n = ltb-true (power (residues q) (square q zeta) n) q (held_power (residue_laws q on) (square q zeta) R.is_root.held_root n)

  one_power : (t : ℕ) → power (residues q) (1 % q) t ≡ 1 % q
  one_power zero = refl
  one_power (suc t) = ap (λ z. (1 % q * z) % q) (one_power t) ∙ mul-mod_first 1 (1 % q) q ∙ mul-mod_second 1 1 q

  whole_power : (t : ℕ) → power (residues q) (square q zeta) (m * t) ≡ 1 % q
  whole_power t = held_power-mul (residue_laws q on) (square q zeta) R.is_root.held_root m t ∙ ap (λ z. power (residues q) z t) R.is_root.root ∙ one_power t

  -- the power k of the inverse root is the power m - k of the root
  pub back_power : (k : ℕ) → 0 < k → k < m → power (residues q) (back q m zeta psi R) k ≡ power (residues q) (square q zeta) (m - k)
  back_power zero p l = absurd (omega arith)
  back_power (suc t) p l =
      sym (held_power-mul (residue_laws q on) (square q zeta) R.is_root.held_root (m - 1) (suc t)) ∙ ap (power (residues q) (square q zeta)) (turn (m - 1) (m - suc t) (omega arith) (omega arith))
      ∙ held_power-add (residue_laws q on) (square q zeta) R.is_root.held_root (m * t) (m - suc t) ∙ ap (λ z. (z * power (residues q) (square q zeta) (m - suc t)) % q) (whole_power t) ∙ mul-mod_first 1 (power (residues q) (square q zeta) (m - suc t)) q ∙ ap (λ z. z % q) (single (power (residues q) (square q zeta) (m - suc t))) ∙ mod-eq_of_lt (power_in (m - suc t))
    where
      single : (a : ℕ) → 1 * a ≡ a
      single a = omega arith

      turn : (a b : ℕ) → a + 1 ≡ m → b + suc t ≡ m → a * suc t ≡ m * t + b
      turn a b e f = let n : suc t ≡ t + 1 = omega arith in omega (arith, ap (λ z. z * t) e, ap (λ z. a * z) n)

  pub inverse_turned : (s p : ℕ) (b t a : List ℕ) → (s * p) % q ≡ share q m → length b ≡ m → All (λ c. c < q) b → length a ≡ m → All (λ c. c < q) a → ((j : ℕ) → j < m → get_or t j 0 ≡ (s * p * value_at (residues q) (power (residues q) (square q zeta) j) b) % q) → get_or a 0 0 ≡ get_or t 0 0 → ((k : ℕ) → 0 < k → k < m → get_or a k 0 ≡ get_or t (m - k) 0) → map (λ j. value_at (residues q) (power (residues q) (square q zeta) j) a) (below m) ≡ b
  inverse_turned s p b t a e nb hb na ha h first rest = inverse_values q m zeta psi R a b na nb ha hb entry
    where
      at : (j : ℕ) → j < m → get_or t j 0 ≡ (share q m * value_at (residues q) (power (residues q) (square q zeta) j) b) % q
      at j l = h j l ∙ sym (mul-mod_first (s * p) (value_at (residues q) (power (residues q) (square q zeta) j) b) q) ∙ ap (λ z. (z * value_at (residues q) (power (residues q) (square q zeta) j) b) % q) e

      entry : (k : ℕ) → k < m → get_or a k 0 ≡ (share q m * value_at (residues q) (power (residues q) (back q m zeta psi R) k) b) % q
      entry zero l = first ∙ at 0 l
      entry (suc k) l = rest (suc k) (omega arith) l ∙ at (m - suc k) (omega arith) ∙ ap (λ z. (share q m * value_at (residues q) z b) % q) (sym (back_power (suc k) (omega arith) l))

-- what the three steps of a transform give
pub transform_at : (plan : Inside) (T : HasTables plan) (h : ℕ) → IsLeastPower (2 * plan.count - 1) (2 * h) → (c x us vs fs out : List ℕ) → length c ≤ plan.count → All (λ a. a < plan.q) c → length x ≡ h
    → ((i : ℕ) → i < length c → get_or x i 0 % plan.q ≡ (get_or plan.chirps.items i 0 * get_or c i 0) % plan.q)
    → ((i : ℕ) → length c ≤ i → get_or x i 0 ≡ 0)
    → ((f : List ℕ) → HasRow plan.cyclic f → (j : ℕ) → j < length x → (get_or us j 0 + get_or vs j 0) % plan.cyclic.q ≡ (2 ^ plan.cyclic.levels * convolved f x j) % plan.cyclic.q)
    → ((j : ℕ) → j < plan.count → get_or out j 0 ≡ (get_or fs j 0 * (get_or us j 0 + get_or vs j 0)) % plan.q)
    → (s : ℕ) → AreChirps plan.q plan.zeta s plan.count fs → (j : ℕ) → j < plan.count → get_or out j 0 ≡ (s * (2 * h) * value_of (roots_of plan) c j) % plan.q
transform_at plan T h least c x us vs fs out few c_in x_long x_is x_zero sums outs s C j l =
    out_at plan.q on plan.zeta T.inverse_zeta plan.count h (T.zeta_one ∙ sym (mod-eq_of_lt (let b = T.roots.above in omega arith))) T.row c x (T.has_row.long ∙ size_is) (omega (arith, least.enough)) T.is_mirrored few c_in x_long start x_zero j s (2 * h) (get_or fs j 0) (get_or us j 0 + get_or vs j 0) (get_or out j 0) l sum (C.right j l) (outs j l)
  where
    on : 0 < plan.q
    on = let b = T.roots.above in omega arith

    size_is : 2 ^ plan.cyclic.levels ≡ 2 * h
    size_is = least_same (2 * plan.count - 1) (2 ^ plan.cyclic.levels) (2 * h) T.size least

    start : (i : ℕ) → i < length c → get_or x i 0 % plan.q ≡ (plan.zeta ^ (i * i) * get_or c i 0) % plan.q
    start i m = x_is i m ∙ ap (λ z. (z * get_or c i 0) % plan.q) (T.before.right i (omega arith)) ∙ mul-mod_first (1 * plan.zeta ^ (i * i)) (get_or c i 0) plan.q ∙ ap (λ z. (z * get_or c i 0) % plan.q) (single (plan.zeta ^ (i * i)))
      where
        single : (a : ℕ) → 1 * a ≡ a
        single a = omega arith

    sum : (get_or us j 0 + get_or vs j 0) % plan.q ≡ (2 * h * convolved T.row x j) % plan.q
    sum = subst (λ z. (get_or us j 0 + get_or vs j 0) % z ≡ (2 ^ plan.cyclic.levels * convolved T.row x j) % z) T.modulus (sums T.row T.has_row j (omega (arith, x_long, least.enough))) ∙ ap (λ z. (z * convolved T.row x j) % plan.q) size_is
