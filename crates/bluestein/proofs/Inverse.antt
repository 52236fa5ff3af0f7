-- The values at the powers of a root, and the coefficients with given values.
use Rattle.std.proofs.Common.{◌≡◌, ℕ, zero, suc, ◌+◌, ◌-◌, ◌*◌, ◌/◌, ◌%◌, ◌<◌, ◌≤◌, List, length, get_or, refl, sym, ◌∙◌, ap, ap₂, arith, inl, inr, nat_lt, IsTrue, lt-ltb, ltb-true, All, mod-eq_of_lt, div-add-mod'}
use Rattle.std.proofs.lemmas.Nat.{mul-mod_first, mul-mod_second, div-mul-add}
use Rattle.std.proofs.lemmas.List.{ext_get_or, get_or_past}
use Rattle.std.proofs.Math.Nat.{mod-add-mod, add-mod-mod, mul-le-mul_left, add-mul-mod_self_right}
use Rattle.std.proofs.lemmas.Bool.{cases_lt}
use Rattle.algebra.specs.Ring.{residues, HeldLaws}
use Rattle.algebra.specs.Range.{total, adds}
use Rattle.algebra.specs.Power.{power, number}
use Rattle.algebra.specs.Poly.{value_at, coeff, all_held}
use Rattle.algebra.proofs.Residues.{residue_laws, residue_held}
use Rattle.algebra.proofs.HeldValues.{held_value_is}
use Rattle.algebra.proofs.HeldPowers.{held_power, held_power-mul}
use Rattle.algebra.proofs.HeldLists.{all_from}
use Rattle.cyclotomic.specs.Roots.{transform}
use Rattle.cyclotomic.specs.RootLaws.{IsRootPair}
use Rattle.cyclotomic.proofs.HeldRoots.{transform_law}

-- the inverse of m modulo a multiple of m and 1
pub share_is : (q m : ℕ) → 1 < m → 1 < q → q % m ≡ 1 → ((q - (q - 1) / m) * m) % q ≡ 1 % q
share_is q m big more e = whole (q / m) (div-add-mod' q m)
  where
    spread : (t k : ℕ) → t * m + 1 ≡ q → k + t ≡ q → k * m ≡ 1 + (m - 1) * q
    spread t k f g = let n : m ≡ (m - 1) + 1 = omega arith in omega (arith, ap (λ z. z * m) g, ap (λ z. q * z) n)

    whole : (t : ℕ) → t * m + q % m ≡ q → ((q - (q - 1) / m) * m) % q ≡ 1 % q
    whole t f =
        let g : t * m + 1 ≡ q = omega (arith, f, e) in
        let t_in : t ≤ t * m = omega (arith, mul-le-mul_left t big) in
        let p : q - 1 ≡ t * m + 0 = omega (arith, g) in
        let u : (q - 1) / m ≡ t = ap (λ z. z / m) p ∙ div-mul-add t m 0 (omega arith) in
        ap (λ z. z % q) (spread t (q - (q - 1) / m) g (omega (arith, u, g, t_in))) ∙ add-mul-mod_self_right 1 (m - 1) q

module _ (q : ℕ) (on : 0 < q) where
  -- totals whose terms agree below n agree
  total_same : (n : ℕ) (f g : ℕ → ℕ) → ((i : ℕ) → i < n → f i ≡ g i) → total (adds (residues q)) n f ≡ total (adds (residues q)) n g
  total_same zero f g h = refl
  total_same (suc n) f g h = ap₂ (λ a b. (a + b) % q) (total_same n f g (λ i l. h i (omega arith))) (h n (omega arith))

  -- a factor before a total
  total_scaled : (s n : ℕ) (f : ℕ → ℕ) → total (adds (residues q)) n (λ i. (s * f i) % q) ≡ (s * total (adds (residues q)) n f) % q
  total_scaled s zero f = sym (ap (λ z. z % q) (none s) ∙ mod-eq_of_lt on)
    where
      none : (s : ℕ) → s * 0 ≡ 0
      none s = omega arith
  total_scaled s (suc n) f = ap (λ a. (a + (s * f n) % q) % q) (total_scaled s n f) ∙ simp (mod-add-mod, add-mod-mod, mul-mod_second) (ap (λ z. z % q) (spread s (total (adds (residues q)) n f) (f n)))
    where
      spread : (s a b : ℕ) → s * a + s * b ≡ s * (a + b)
      spread s a b = omega arith

  total_in : (n : ℕ) (f : ℕ → ℕ) → total (adds (residues q)) n f < q
  total_in zero f = on
  total_in (suc n) f = ltb-true ((total (adds (residues q)) n f + f n) % q) q (residue_held q (total (adds (residues q)) n f + f n) on)

  number_is : (m : ℕ) → number (residues q) m ≡ m % q
  number_is zero = sym (mod-eq_of_lt on)
  number_is (suc m) = ap (λ a. (a + 1 % q) % q) (number_is m) ∙ simp (mod-add-mod, add-mod-mod) (ap (λ z. z % q) (grow m))
    where
      grow : (m : ℕ) → m + 1 ≡ suc m
      grow m = omega arith

  abbrev pub held : ℕ → Type 0
  held a = IsTrue (nat_lt a q)

  -- the value at a power of w, as a sum
  pub value_sum : (w : ℕ) → w < q → (a : List ℕ) → All (λ c. c < q) a → (j : ℕ) → value_at (residues q) (power (residues q) w j) a ≡ transform (residues q) w (length a) (coeff (residues q) a) j
  value_sum w w_in a a_in j = held_value_is L (power (residues q) w j) (held_power L w hw j) a ha ∙ total_same (length a) (λ i. (get_or a i 0 * power (residues q) (power (residues q) w j) i) % q) (λ i. (get_or a i 0 * power (residues q) w (j * i)) % q) (λ i l. ap (λ z. (get_or a i 0 * z) % q) (sym (held_power-mul L w hw j i)))
    where
      L : HeldLaws (λ a. nat_lt a q) (residues q)
      L = residue_laws q on

      hw : IsTrue (nat_lt w q)
      hw = lt-ltb w q w_in

      ha : IsTrue (all_held (λ a. nat_lt a q) a)
      ha = all_from (λ a. nat_lt a q) a (λ k d l. lt-ltb (get_or a k d) q (a_in k d l))

  entry_in : (a : List ℕ) → All (λ c. c < q) a → (i : ℕ) → get_or a i 0 < q
  entry_in a h i = elim (cases_lt i (length a)) [ inl l ↦ h i 0 l | inr l ↦ let e = get_or_past a i 0 l in omega arith ]

  module _ (m w v s : ℕ) (some : 0 < m) (v_in : v < q) (pair : IsRootPair (λ a. nat_lt a q) (residues q) w v m) (share : (s * m) % q ≡ 1 % q) where
    w_in : w < q
    w_in = ltb-true w q pair.is_root.held_root

    -- a product with s undoes one with m
    shared : (a b : ℕ) → b < q → a ≡ (b * number (residues q) m) % q → (s * a) % q ≡ b
    shared a b b_in e = ap (λ z. (s * z) % q) (e ∙ ap (λ z. (b * z) % q) (number_is m)) ∙ simp (mul-mod_second) (ap (λ z. z % q) (turn s b m)) ∙ sym (mul-mod_first (s * m) b q) ∙ ap (λ z. (z * b) % q) share ∙ mul-mod_first 1 b q ∙ ap (λ z. z % q) (single b) ∙ mod-eq_of_lt b_in
      where
        turn : (s b m : ℕ) → s * (b * m) ≡ s * m * b
        turn s b m = omega arith

        single : (b : ℕ) → 1 * b ≡ b
        single b = omega arith

    -- the list whose entries are s times the values at the powers of v has these values at the powers of w
    pub inverse_at : (a b : List ℕ) → length b ≡ m → All (λ c. c < q) b → length a ≡ m → All (λ c. c < q) a → ((k : ℕ) → k < m → get_or a k 0 ≡ (s * value_at (residues q) (power (residues q) v k) b) % q) → (j : ℕ) → j < m → value_at (residues q) (power (residues q) w j) a ≡ get_or b j 0
    inverse_at a b nb hb na ha h j l =
        value_sum w w_in a ha j
        ∙ ap (λ n. transform (residues q) w n (coeff (residues q) a) j) na
        ∙ total_same m (λ k. (get_or a k 0 * power (residues q) w (j * k)) % q) (λ k. (s * ((back k * power (residues q) w (j * k)) % q)) % q) (λ k n. ap (λ z. (z * power (residues q) w (j * k)) % q) (h k n ∙ ap (λ z. (s * z) % q) (value_sum v v_in b hb k ∙ ap (λ n. transform (residues q) v n (coeff (residues q) b) k) nb)) ∙ simp (mul-mod_first, mul-mod_second) (ap (λ z. z % q) (turn s (back k) (power (residues q) w (j * k)))))
        ∙ total_scaled s m (λ k. (back k * power (residues q) w (j * k)) % q)
        ∙ shared (transform (residues q) w m back j) (get_or b j 0) (entry_in b hb j) ((transform_law (residue_laws q on) w v m (coeff (residues q) b) some pair (λ k. lt-ltb (get_or b k 0) q (entry_in b hb k))).forth j l)
      where
        back : ℕ → ℕ
        back k = transform (residues q) v m (coeff (residues q) b) k

        turn : (a b c : ℕ) → a * b * c ≡ a * (b * c)
        turn a b c = omega arith

    -- two lists with the same values are one
    pub determined : (a b : List ℕ) → length a ≡ m → All (λ c. c < q) a → length b ≡ m → All (λ c. c < q) b → ((j : ℕ) → j < m → value_at (residues q) (power (residues q) w j) a ≡ value_at (residues q) (power (residues q) w j) b) → a ≡ b
    determined a b na ha nb hb h = ext_get_or 0 a b (na ∙ sym nb) (λ i l. let k : i < m = omega (arith, na) in sym (from a na ha i k) ∙ ap (λ z. (s * z) % q) (total_same m (λ j. (transform (residues q) w m (coeff (residues q) a) j * power (residues q) v (i * j)) % q) (λ j. (transform (residues q) w m (coeff (residues q) b) j * power (residues q) v (i * j)) % q) (λ j n. ap (λ z. (z * power (residues q) v (i * j)) % q) (sym (sum a na ha j) ∙ h j n ∙ sum b nb hb j))) ∙ from b nb hb i k)
      where
        sum : (a : List ℕ) → length a ≡ m → All (λ c. c < q) a → (j : ℕ) → value_at (residues q) (power (residues q) w j) a ≡ transform (residues q) w m (coeff (residues q) a) j
        sum a na ha j = value_sum w w_in a ha j ∙ ap (λ n. transform (residues q) w n (coeff (residues q) a) j) na

        from : (a : List ℕ) → length a ≡ m → All (λ c. c < q) a → (i : ℕ) → i < m → (s * transform (residues q) v m (transform (residues q) w m (coeff (residues q) a)) i) % q ≡ get_or a i 0
        from a na ha i k = shared (transform (residues q) v m (transform (residues q) w m (coeff (residues q) a)) i) (get_or a i 0) (entry_in a ha i) ((transform_law (residue_laws q on) w v m (coeff (residues q) a) some pair (λ k. lt-ltb (get_or a k 0) q (entry_in a ha k))).back i k)
