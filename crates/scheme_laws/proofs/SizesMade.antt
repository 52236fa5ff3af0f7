-- The sizes of an accepted table are in the ranges that its bounds are made from.
use Rattle.std.specs.Prelude.{◌≡◌, ℕ, zero, suc, ◌+◌, ◌-◌, ◌*◌, ◌^◌, ◌<◌, ◌≤◌, true, false, cond, Bool, All, List, ◌∷◌, ◌++◌, map, length, get_or, replicate, ℤ, pos, nat_abs, refl}
use Rattle.std.proofs.Common.{arith, sym, ◌∙◌, ap, subst}
use Rattle.std.proofs.lemmas.List.{length-map, length-replicate, get_or_append_left, get_or-append_right}
use Rattle.std.proofs.lemmas.List.Elements.{All-map, All-from_get_or}
use Rattle.algebra.specs.Ring.{whole_numbers}
use Rattle.algebra.specs.Range.{total, counts}
use Rattle.algebra.specs.Divisor.{is_unit}
use Rattle.algebra.specs.Poly.{coeff}
use Rattle.algebra.proofs.Integers.{whole_ring}
use Rattle.algebra.proofs.Quotients.{remainder_small}
use Rattle.cyclotomic.specs.Cyclotomic.{phi, degree, IsElement, fold}
use Rattle.cyclotomic.specs.Norm.{height, one_norm, NormAtMost}
use Rattle.cyclotomic.proofs.NormLists.{coefficient_bounded, remainder_bounded}
use Rattle.cyclotomic.proofs.PhiLaws.{phi_is_monic, degree_is_units}
use Rattle.noise_bound.specs.Machine.{IsModulus, IsSizes}
use Rattle.moduli_table.specs.Chain.{no_row}
use Rattle.residue_rows.specs.Kept.{RingSetting, IsSetting}
use Rattle.scheme_laws.specs.Scheme.{sizes_of}
use Rattle.scheme_laws.specs.SchemeLaws.{SizesLaw}
use Rattle.scheme_laws.proofs.LevelRows.{m_some}

-- the degree is at most m
units_le : (m n : ℕ) → total counts n (λ t. cond (is_unit m (suc t)) 1 0) ≤ n
units_le m zero = omega arith
units_le m (suc n) = omega (arith, units_le m n, one (is_unit m (suc n)))
  where
    one : (b : Bool) → cond b 1 0 ≤ 1
    one true = omega arith
    one false = omega arith

degree_le : (m : ℕ) → 0 < m → degree m ≤ m
degree_le m some = omega (arith, degree_is_units m some, units_le m m)

-- 1 has a coefficient that is not 0, so the height is at least 1
height_some : (m : ℕ) → 0 < m → 1 ≤ degree m → 1 ≤ height m
height_some m some positive = by (height m) (nat_abs (coeff whole_numbers (fold m one) 0)) (coefficient_bounded m (fold m one) 1 0 some bounded) first
  where
    one : List ℤ
    one = pos 1 ∷ replicate (degree m - 1) (pos 0)

    long : IsElement m one
    long = omega (arith, length-replicate (degree m - 1) (pos 0))

    norm : one_norm one ≡ 1
    norm = ap (λ z. 1 + z) (nothing (degree m - 1))
      where
        nothing : (n : ℕ) → one_norm (replicate n (pos 0)) ≡ 0
        nothing zero = refl
        nothing (suc n) = omega (arith, nothing n)

    bounded : NormAtMost m (fold m one) 1
    bounded = subst (NormAtMost m (fold m one)) norm (remainder_bounded m one some)

    first : nat_abs (coeff whole_numbers (fold m one) 0) ≡ 1
    first = ap (λ f. nat_abs (coeff whole_numbers f 0)) (remainder_small whole_ring (phi m) (phi_is_monic m some) one long)

    by : (h c : ℕ) → c ≤ h * 1 → c ≡ 1 → 1 ≤ h
    by h c l e = omega arith

module _ (r : RingSetting) (S : IsSetting r) where
  row_in : (i : ℕ) → i < length r.moduli.chain + length r.moduli.special → IsModulus (get_or (r.moduli.chain ++ r.moduli.special) i no_row).q
  row_in i l = let A = S.accepted.moduli.rows i l in (A.low, A.high)

  chain_in : All IsModulus (map (λ row. row.q) r.moduli.chain)
  chain_in = All-map IsModulus (λ row. row.q) r.moduli.chain (All-from_get_or (λ row. IsModulus row.q) r.moduli.chain no_row (λ i l. subst (λ row. IsModulus row.q) (get_or_append_left r.moduli.chain r.moduli.special no_row i l) (row_in i (omega arith))))

  special_in : All IsModulus (map (λ row. row.q) r.moduli.special)
  special_in = All-map IsModulus (λ row. row.q) r.moduli.special (All-from_get_or (λ row. IsModulus row.q) r.moduli.special no_row (λ i l. subst (λ row. IsModulus row.q) (get_or-append_right r.moduli.chain r.moduli.special (length r.moduli.chain) (length r.moduli.chain + i) no_row refl (omega arith) ∙ ap (λ k. get_or r.moduli.special k no_row) (back (length r.moduli.chain) i)) (row_in (length r.moduli.chain + i) (omega arith))))
    where
      back : (n i : ℕ) → n + i - n ≡ i
      back n i = omega arith

  pub sizes : height r.moduli.m < 2 ^ 31 → IsSizes (sizes_of r)
  sizes short = record {
    n_some = omega (arith, S.weight_some, S.weight_most);
    n_most = omega (arith, degree_le r.moduli.m (m_some r S), S.accepted.shaped.m_high);
    p_some = S.accepted.shaped.p_low;
    p_most = S.accepted.shaped.p_high;
    weight_some = S.weight_some;
    weight_most = S.weight_most;
    height_some = height_some r.moduli.m (m_some r S) (omega (arith, S.weight_some, S.weight_most));
    height_most = short;
    chain_some = omega (arith, length-map r.moduli.chain (λ row. row.q), S.accepted.shaped.chain_low);
    chain_most = omega (arith, length-map r.moduli.chain (λ row. row.q), S.accepted.shaped.chain_high);
    special_some = omega (arith, length-map r.moduli.special (λ row. row.q), S.accepted.shaped.special_low);
    special_most = omega (arith, length-map r.moduli.special (λ row. row.q), S.accepted.shaped.special_high);
    chain_moduli = chain_in;
    special_moduli = special_in;
    digits_some = S.digits_some;
    digits_sum = S.digits_sum ∙ sym (length-map r.moduli.chain (λ row. row.q));
  }

pub sizes_law : SizesLaw
sizes_law = sizes
