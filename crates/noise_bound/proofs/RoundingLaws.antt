-- What rounding up and down does, from the binary digits to the quotients.
use Rattle.std.proofs.Common.{lit<, ◌≡◌, ℕ, suc, ◌+◌, ◌-◌, ◌*◌, ◌/◌, ◌^◌, ◌<◌, ◌≤◌, ◌⊎◌, inl, inr, refl, sym, ap, ◌∙◌, arith, subst}
use Rattle.std.proofs.Math.Nat.{pow-suc, mul-le-mul_right, mul-lt-mul_of_pos_right, le_of_mul-le-mul_right, le-div_iff_mul-le, div-lt_iff_lt-mul, div-mul-le_self, div-div-eq-div-mul, mul-div-mul_right, pow-le-pow_right, mul_assoc, mul-one, le_antisymm, le_refl, lt_of_mul-lt-mul_right, le_trans}
use Rattle.std.proofs.lemmas.Nat.{pow_pos, pow-add, leading_length}
use Rattle.std.proofs.lemmas.Grind.{div_ceil_times}
use Rattle.std.specs.Int.{div_ceil}
use Rattle.std.specs.Int.Count.{count_leading_zeros}
use Rattle.noise_bound.specs.Rounding.{IsFloating, IsUp, IsDown, bit_length, exponent, up, down}

pub le_or_above : (a b : ℕ) → (a ≤ b) ⊎ (b < a)
le_or_above a b = grind arith

-- ---- quotients rounded up

-- the least c with x ≤ c * d
pub div_ceil_le : (x d c : ℕ) → 0 < d → x ≤ c * d → div_ceil x d ≤ c
div_ceil_le x d c pos h =
    let t = div_ceil_times x d pos in
    let under : div_ceil x d * d < suc c * d = omega (arith, t.1) in
    elim (le_or_above (div_ceil x d) c) [
      | inl small ↦ small
      | inr large ↦ absurd (omega (arith, mul-le-mul_right d large))
    ]

pub le-div_ceil : (x d : ℕ) → 0 < d → x ≤ div_ceil x d * d
le-div_ceil x d pos = (div_ceil_times x d pos).0

-- a quotient's quotient
pub div_ceil-nested : (m s d : ℕ) → 0 < s → 0 < d → div_ceil (div_ceil (m * s) d) s ≡ div_ceil m d
div_ceil-nested m s d sp dp =
    let inner = div_ceil (m * s) d in
    let q = div_ceil m d in
    let r = div_ceil inner s in
    let top : m * s ≤ (q * s) * d = omega (arith, mul-le-mul_right s (le-div_ceil m d dp)) in
    let first : r ≤ q = div_ceil_le inner s q sp (div_ceil_le (m * s) d (q * s) dp top) in
    let two : inner * d ≤ (r * s) * d = mul-le-mul_right d (le-div_ceil inner s sp) in
    let three : m * s ≤ (r * d) * s = omega (arith, le-div_ceil (m * s) d dp, two) in
    let second : q ≤ r = div_ceil_le m d r dp (le_of_mul-le-mul_right three sp) in
    le_antisymm first second

pub div-nested : (m s d : ℕ) → 0 < s → m * s / d / s ≡ m / d
div-nested m s d sp = div-div-eq-div-mul (m * s) d s ∙ mul-div-mul_right m d sp

-- ---- binary digits

pub record IsExponent (x e : ℕ) : Type 0 where
  pub fits : x < 2 ^ 32 * 2 ^ e
  pub full : 0 < e → 2 ^ 31 * 2 ^ e ≤ x

below_pow : (x : ℕ) → x < 2 ^ x
below_pow ℕ.zero = lit< tt
below_pow (suc x) = omega (arith, below_pow x, pow-suc 2 x)

-- a number of m binary digits
pub exponent_of_length : (x m : ℕ) → x < 2 ^ m → 2 ^ m ≤ 2 * x + 1 → IsExponent x (m - 32)
exponent_of_length x m above under =
    elim (le_or_above m 32) [
      | inl small ↦
          let none : m - 32 ≡ 0 = omega arith in
          let room : 2 ^ m ≤ 2 ^ 32 = pow-le-pow_right (lit< tt) small in
          rw none (record { fits = omega arith; full = λ pos. absurd (omega arith) })
      | inr large ↦
          let parts : 2 ^ m ≡ 2 ^ 32 * 2 ^ (m - 32) = ap (λ e. 2 ^ e) (omega arith) ∙ pow-add 2 32 (m - 32) in
          record { fits = omega arith; full = λ pos. omega arith }
    ]

pub exponent_is : (x : ℕ) → IsExponent x (exponent x)
unfolding exponent bit_length
exponent_is x =
    let l = leading_length x x (below_pow x) in
    let same : x - count_leading_zeros x x ≡ l.0 = omega (arith, l.1) in
    rw same (exponent_of_length x l.0 l.2 l.3)

-- ---- multiples

-- a number of the form man * 2^exp is such a number times 2^k, or small
pub record IsMultiple (c k : ℕ) : Type 0 where
  pub part : ℕ
  pub floating : IsFloating part
  pub is : c ≡ part * 2 ^ k

pub record IsSmall (c k : ℕ) : Type 0 where
  pub some : 0 < k
  pub under : c < 2 ^ 31 * 2 ^ k

pub multiple_or_small : (c k : ℕ) → IsFloating c → IsMultiple c k ⊎ IsSmall c k
multiple_or_small c k f =
    elim (le_or_above k f.exp) [
      | inl reaches ↦ inl (record {
        part = f.man * 2 ^ (f.exp - k);
        floating = record { man = f.man; exp = f.exp - k; fits = f.fits; is = refl };
        is = f.is ∙ ap (λ e. f.man * 2 ^ e) (omega arith) ∙ ap (λ z. f.man * z) (pow-add 2 (f.exp - k) k) ∙ sym (mul_assoc f.man (2 ^ (f.exp - k)) (2 ^ k));
      })
      | inr short ↦ inr (
          let scaled : f.man * 2 ^ f.exp < 2 ^ 32 * 2 ^ f.exp = mul-lt-mul_of_pos_right f.fits (pow_pos f.exp) in
          let power : 2 ^ suc f.exp ≤ 2 ^ k = pow-le-pow_right (lit< tt) short in
          record { some = omega arith; under = omega (arith, f.is, pow-suc 2 f.exp) })
    ]

pub times_power : (c k : ℕ) → IsFloating c → IsFloating (c * 2 ^ k)
times_power c k f = record {
  man = f.man;
  exp = f.exp + k;
  fits = f.fits;
  is = ap (λ z. z * 2 ^ k) f.is ∙ mul_assoc f.man (2 ^ f.exp) (2 ^ k) ∙ ap (λ z. f.man * z) (sym (pow-add 2 f.exp k));
}

-- a mantissa, or the number just above the largest
pub IsFloating-mantissa : (q e : ℕ) → q ≤ 2 ^ 32 → IsFloating (q * 2 ^ e)
IsFloating-mantissa q e most =
    elim (le_or_above (2 ^ 32) q) [
      | inl large ↦
          let top : q ≡ 2 ^ 32 = le_antisymm most large in
          record { man = 2 ^ 31; exp = suc e; fits = lit< tt; is = ap (λ z. z * 2 ^ e) top ∙ omega (arith, pow-suc 2 e) }
      | inr small ↦ record { man = q; exp = e; fits = small; is = refl }
    ]

pub IsFloating-small : (q : ℕ) → q ≤ 2 ^ 32 → IsFloating q
IsFloating-small q most = subst (λ z. IsFloating z) (omega arith) (IsFloating-mantissa q 0 most)

pub IsFloating-power : (k : ℕ) → IsFloating (2 ^ k)
IsFloating-power k = record { man = 1; exp = k; fits = lit< tt; is = omega arith }

-- ---- the laws of rounding

pub IsUp-at : (x e : ℕ) → IsExponent x e → IsUp x (div_ceil x (2 ^ e) * 2 ^ e)
IsUp-at x e ex =
    let q = div_ceil x (2 ^ e) in
    let most : q ≤ 2 ^ 32 = div_ceil_le x (2 ^ e) (2 ^ 32) (pow_pos e) (omega (arith, ex.fits)) in
    record {
      floating = IsFloating-mantissa q e most;
      above = le-div_ceil x (2 ^ e) (pow_pos e);
      least = λ c f h. elim (multiple_or_small c e f) [
        | inl m ↦
            let under : q ≤ m.part = div_ceil_le x (2 ^ e) m.part (pow_pos e) (omega (arith, m.is, h)) in
            omega (arith, m.is, mul-le-mul_right (2 ^ e) under)
        | inr short ↦ absurd (omega (arith, ex.full short.some, short.under))
      ];
    }

pub IsDown-at : (x e : ℕ) → IsExponent x e → IsDown x (x / 2 ^ e * 2 ^ e)
IsDown-at x e ex =
    let q = x / 2 ^ e in
    let fits : q < 2 ^ 32 = (div-lt_iff_lt-mul (pow_pos e)).1 ex.fits in
    record {
      floating = record { man = q; exp = e; fits = fits; is = refl };
      below = div-mul-le_self x (2 ^ e);
      greatest = λ c f h. elim (multiple_or_small c e f) [
        | inl m ↦
            let over : m.part ≤ q = (le-div_iff_mul-le (pow_pos e)).1 (omega (arith, m.is, h)) in
            omega (arith, m.is, mul-le-mul_right (2 ^ e) over)
        | inr short ↦
            let over : 2 ^ 31 ≤ q = (le-div_iff_mul-le (pow_pos e)).1 (ex.full short.some) in
            omega (arith, short.under, mul-le-mul_right (2 ^ e) over)
      ];
    }

pub IsUp-up : (x : ℕ) → IsUp x (up x)
unfolding up
IsUp-up x = IsUp-at x (exponent x) (exponent_is x)

pub IsDown-down : (x : ℕ) → IsDown x (down x)
unfolding down
IsDown-down x = IsDown-at x (exponent x) (exponent_is x)

-- there is one such number
pub up_unique : (x b : ℕ) → IsUp x b → b ≡ up x
up_unique x b u =
    let v = IsUp-up x in
    le_antisymm (u.least (up x) v.floating v.above) (v.least b u.floating u.above)

pub down_unique : (x b : ℕ) → IsDown x b → b ≡ down x
down_unique x b u =
    let v = IsDown-down x in
    le_antisymm (v.greatest b u.floating u.below) (u.greatest (down x) v.floating v.below)

-- ---- what follows from the laws alone

pub up_mono : (x y : ℕ) → x ≤ y → up x ≤ up y
up_mono x y h = (IsUp-up x).least (up y) (IsUp-up y).floating (le_trans h (IsUp-up y).above)

pub down_mono : (x y : ℕ) → x ≤ y → down x ≤ down y
down_mono x y h = (IsDown-down y).greatest (down x) (IsDown-down x).floating (le_trans (IsDown-down x).below h)

pub le-up : (x : ℕ) → x ≤ up x
le-up x = (IsUp-up x).above

pub down-le : (x : ℕ) → down x ≤ x
down-le x = (IsDown-down x).below

pub up-floating : (x : ℕ) → IsFloating x → up x ≡ x
up-floating x f = sym (up_unique x x (record { floating = f; above = le_refl x; least = λ c g h. h }))

pub down-floating : (x : ℕ) → IsFloating x → down x ≡ x
down-floating x f = sym (down_unique x x (record { floating = f; below = le_refl x; greatest = λ c g h. h }))

-- up to a bound that is itself such a number
pub up-le : (x c : ℕ) → IsFloating c → x ≤ c → up x ≤ c
up-le x c f h = (IsUp-up x).least c f h

-- ---- powers of two pass through

pub up-power : (x k : ℕ) → up x * 2 ^ k ≡ up (x * 2 ^ k)
up-power x k =
    let u = IsUp-up x in
    up_unique (x * 2 ^ k) (up x * 2 ^ k) (record {
      floating = times_power (up x) k u.floating;
      above = mul-le-mul_right (2 ^ k) u.above;
      least = λ c f h. elim (multiple_or_small c k f) [
        | inl m ↦
            let under : x ≤ m.part = le_of_mul-le-mul_right (omega (arith, m.is, h)) (pow_pos k) in
            omega (arith, m.is, mul-le-mul_right (2 ^ k) (u.least m.part m.floating under))
        | inr short ↦
            let small : x * 2 ^ k < 2 ^ 31 * 2 ^ k = omega (arith, short.under, h) in
            let few : x < 2 ^ 31 = lt_of_mul-lt-mul_right (2 ^ k) small in
            rw (up-floating x (IsFloating-small x (omega arith))) h
      ];
    })

pub down-power : (x k : ℕ) → down x * 2 ^ k ≡ down (x * 2 ^ k)
down-power x k =
    let u = IsDown-down x in
    down_unique (x * 2 ^ k) (down x * 2 ^ k) (record {
      floating = times_power (down x) k u.floating;
      below = mul-le-mul_right (2 ^ k) u.below;
      greatest = λ c f h. elim (multiple_or_small c k f) [
        | inl m ↦
            let over : m.part ≤ x = le_of_mul-le-mul_right (omega (arith, m.is, h)) (pow_pos k) in
            omega (arith, m.is, mul-le-mul_right (2 ^ k) (u.greatest m.part m.floating over))
        | inr short ↦ elim (le_or_above x (2 ^ 31)) [
          | inl few ↦ rw (down-floating x (IsFloating-small x (omega arith))) h
          | inr many ↦
              let top : 2 ^ 31 ≤ down x = u.greatest (2 ^ 31) (IsFloating-power 31) (omega arith) in
              omega (arith, short.under, mul-le-mul_right (2 ^ k) top)
        ]
      ];
    })

-- ---- the leading 32 binary digits decide, and whether anything is left below them

pub up-leading : (x k : ℕ) → 2 ^ 31 * 2 ^ k ≤ x → up x ≡ up (div_ceil x (2 ^ k) * 2 ^ k)
up-leading x k long =
    let y = div_ceil x (2 ^ k) in
    let u = IsUp-up (y * 2 ^ k) in
    sym (up_unique x (up (y * 2 ^ k)) (record {
      floating = u.floating;
      above = le_trans (le-div_ceil x (2 ^ k) (pow_pos k)) u.above;
      least = λ c f h. elim (multiple_or_small c k f) [
        | inl m ↦
            let under : y ≤ m.part = div_ceil_le x (2 ^ k) m.part (pow_pos k) (omega (arith, m.is, h)) in
            u.least c f (omega (arith, m.is, mul-le-mul_right (2 ^ k) under))
        | inr short ↦ absurd (omega (arith, short.under, h, long))
      ];
    }))

pub down-leading : (x k : ℕ) → 2 ^ 31 * 2 ^ k ≤ x → down x ≡ down (x / 2 ^ k * 2 ^ k)
down-leading x k long =
    let y = x / 2 ^ k in
    let u = IsDown-down (y * 2 ^ k) in
    sym (down_unique x (down (y * 2 ^ k)) (record {
      floating = u.floating;
      below = le_trans u.below (div-mul-le_self x (2 ^ k));
      greatest = λ c f h. elim (multiple_or_small c k f) [
        | inl m ↦
            let over : m.part ≤ y = (le-div_iff_mul-le (pow_pos k)).1 (omega (arith, m.is, h)) in
            u.greatest c f (omega (arith, m.is, mul-le-mul_right (2 ^ k) over))
        | inr short ↦
            let many : 2 ^ 31 ≤ y = (le-div_iff_mul-le (pow_pos k)).1 long in
            let top : 2 ^ 31 * 2 ^ k ≤ down (y * 2 ^ k) = u.greatest (2 ^ 31 * 2 ^ k) (times_power (2 ^ 31) k (IsFloating-power 31)) (mul-le-mul_right (2 ^ k) many) in
            omega (arith, short.under, top)
      ];
    }))

-- m * 2^s / d by the quotient of m alone, where that has enough digits
pub up-quotient : (m s d : ℕ) → 0 < d → (0 < s → 2 ^ 31 * d ≤ m) → up (div_ceil (m * 2 ^ s) d) ≡ up (div_ceil m d * 2 ^ s)
up-quotient m s d dp long =
    elim (le_or_above s 0) [
      | inl none ↦
          let s0 : s ≡ 0 = omega arith in
          rw s0 (simp mul-one)
      | inr some ↦
          let x = div_ceil (m * 2 ^ s) d in
          let one : 2 ^ 31 * d * 2 ^ s ≤ m * 2 ^ s = mul-le-mul_right (2 ^ s) (long some) in
          let enough : 2 ^ 31 * 2 ^ s ≤ x = le_of_mul-le-mul_right (omega (arith, one, le-div_ceil (m * 2 ^ s) d dp)) dp in
          up-leading x s enough ∙ ap (λ z. up (z * 2 ^ s)) (div_ceil-nested m (2 ^ s) d (pow_pos s) dp)
    ]

pub down-quotient : (m s d : ℕ) → 0 < d → (0 < s → 2 ^ 31 * d ≤ m) → down (m * 2 ^ s / d) ≡ down (m / d * 2 ^ s)
down-quotient m s d dp long =
    elim (le_or_above s 0) [
      | inl none ↦
          let s0 : s ≡ 0 = omega arith in
          rw s0 (simp mul-one)
      | inr some ↦
          let x = m * 2 ^ s / d in
          let one : 2 ^ 31 * d * 2 ^ s ≤ m * 2 ^ s = mul-le-mul_right (2 ^ s) (long some) in
          let enough : 2 ^ 31 * 2 ^ s ≤ x = (le-div_iff_mul-le dp).1 (omega (arith, one)) in
          down-leading x s enough ∙ ap (λ z. down (z * 2 ^ s)) (div-nested m (2 ^ s) d (pow_pos s))
    ]
