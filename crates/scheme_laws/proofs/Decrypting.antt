-- A ciphertext that stands for an array, with its bound below the limit of its level, decrypts to it.
use Rattle.std.specs.Prelude.{◌≡◌, ℕ, zero, suc, ◌+◌, ◌*◌, ◌/◌, ◌<◌, ◌≤◌, All, List, [], ◌∷◌, fold, take, map, get_or, ℤ, pos, ◌%◌, nat_abs}
use Rattle.std.proofs.Common.{arith, sym, ◌∙◌, ap, subst, append-nil, le_trans, le_of_eq, le_refl, mul-le-mul, mul-le-mul_left, div-add-mod'}
use Rattle.std.proofs.lemmas.List.{take-map, get_or_default}
use Rattle.algebra.specs.Whole.{product_of}
use Rattle.algebra.proofs.Chinese.{product_positive}
use Rattle.cyclotomic.specs.Norm.{height}
use Rattle.cyclotomic.proofs.NormLists.{coefficient_bounded}
use Rattle.noise_bound.specs.Machine.{modulus_of, limit}
use Rattle.noise_bound.specs.Rounding.{down, scale_down}
use Rattle.noise_bound.proofs.RoundingLaws.{down-le}
use Rattle.slot_array.specs.Arrays.{Array}
use Rattle.slot_laws.specs.Slots.{slots}
use Rattle.residue_rows.specs.Rows.{AreRows}
use Rattle.residue_rows.proofs.WholeRows.{whole_is}
use Rattle.scheme_laws.specs.Scheme.{SchemeSetting, IsScheme, sizes_of, moduli_at}
use Rattle.scheme_laws.specs.Ciphers.{Cipher, IsCipher, limit_at, opened, opened_rows, decrypted, Stands}
use Rattle.scheme_laws.specs.SchemeLaws.{DecryptsLaw}
use Rattle.scheme_laws.proofs.LevelRows.{m_some, moduli, keep}

-- a product rounded down at each factor is at most the product
product_down_le : (a : ℕ) (qs : List ℕ) → fold scale_down a qs ≤ a * product_of qs
product_down_le a [] = omega arith
product_down_le a (q ∷ qs) = le_trans (product_down_le (down (a * q)) qs) (at (product_of qs) (down (a * q)) (down-le (a * q)))
  where
    at : (n d : ℕ) → d ≤ a * q → d * n ≤ a * (q * n)
    at n d l = le_trans (mul-le-mul l (le_refl n)) (le_of_eq (let e : a * q * n ≡ a * (q * n) = omega arith in e))

-- below the limit, twice a coefficient of at most h B is below the modulus
below_limit : (h B D M P c : ℕ) → c ≤ h * B → B < D → D ≤ M / (2 * h) → M ≤ P → 0 < P → 2 * c < P
below_limit zero B D M P c l b d u s = omega (arith, l)
below_limit (suc h) B D M P c l b d u s = by (M / (2 * suc h)) (M % (2 * suc h)) (div-add-mod' M (2 * suc h)) (omega arith)
  where
    by : (q r : ℕ) → q * (2 * suc h) + r ≡ M → B < q → 2 * c < P
    by q r e k = omega (arith, l, e, u, mul-le-mul_left (2 * suc h) (let f : suc B ≤ q = k in f))

module _ (t : SchemeSetting) (T : IsScheme t) (s : List ℤ) (c : Cipher) (x : Array) (C : IsCipher t c) (S : Stands t s c x) (low : c.bound < limit_at t c.level) where
  abbrev m : ℕ
  m = t.ring.moduli.m

  abbrev qs : List ℕ
  qs = moduli_at t.ring c.level

  modulus_le : modulus_of (sizes_of t.ring) c.level ≤ product_of qs
  unfolding modulus_of
  modulus_le = le_trans (product_down_le 1 (take (suc c.level) (sizes_of t.ring).chain)) (le_of_eq (once (product_of (take (suc c.level) (sizes_of t.ring).chain)) ∙ ap product_of (take-map (λ row. row.q) (suc c.level) t.ring.moduli.chain ∙ ap (map (λ row. row.q)) (sym (append-nil (take (suc c.level) t.ring.moduli.chain))))))
    where
      once : (z : ℕ) → 1 * z ≡ z
      once z = omega arith

  limit_le : limit_at t c.level ≤ modulus_of (sizes_of t.ring) c.level / (2 * height m)
  unfolding limit
  limit_le = down-le (modulus_of (sizes_of t.ring) c.level / (2 * height m))

  small : All (λ z. 2 * nat_abs z < product_of qs) S.value
  small k d l = below_limit (height m) c.bound (limit_at t c.level) (modulus_of (sizes_of t.ring) c.level) (product_of qs) (nat_abs (get_or S.value k d)) (subst (λ z. nat_abs z ≤ height m * c.bound) (get_or_default S.value k (pos 0) d l) (coefficient_bounded m S.value c.bound k (m_some t.ring T.setting) S.norm)) low limit_le modulus_le (product_positive qs (moduli t.ring T.setting c.level C.level_in).some)

  rows_in : AreRows m qs (opened_rows t s c)
  rows_in = subst (AreRows m qs) (sym S.opens) ((keep t.ring T.setting c.level C.level_in).held S.value S.element)

  value_is : S.value ≡ opened t s c
  value_is = (whole_is m qs (opened_rows t s c) (moduli t.ring T.setting c.level C.level_in).invertible (moduli t.ring T.setting c.level C.level_in).odd rows_in).only S.value (record { long = S.element; residues = sym S.opens; small = small })

  pub decrypts_to : decrypted t s c ≡ x
  decrypts_to = ap (slots t.field t.cube) (sym value_is) ∙ S.holds

pub decrypts : DecryptsLaw
decrypts t T s c x S C H low = decrypts_to t T s c x C H low
