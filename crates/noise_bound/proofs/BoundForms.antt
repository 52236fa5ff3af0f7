-- The bound of a number, against the bounds that have it.
use Rattle.std.proofs.Common.{◌≡◌, ℕ, zero, suc, ◌*◌, ◌/◌, ◌^◌, ◌<◌, ◌≤◌, refl, sym, ap, ◌∙◌, arith, subst}
use Rattle.std.specs.Coded.{le_prop}
use mathlib.Core.Path.{fun_ext}
use Rattle.std.proofs.Math.Nat.{le-div_iff_mul-le, div-lt_iff_lt-mul}
use Rattle.std.proofs.Math.Decide.{dec_lt, dec_le}
use Rattle.std.proofs.lemmas.Nat.{pow_pos}
use Rattle.noise_bound.specs.Rounding.{mantissa, exponent, down}
use Rattle.noise_bound.specs.Value.{value}
use Rattle.noise_bound.specs.Form.{form_of, bound_of}
use Rattle.noise_bound.specs.declared.rounding.Bound.{Bound}
use Rattle.noise_bound.proofs.RoundingLaws.{exponent_is}
use Rattle.noise_bound.proofs.Steps.{exponent_of_form, mantissa_of_form}

abbrev made : (man exp : ℕ) → man < 2 ^ 32 → (0 < exp → 2 ^ 31 ≤ man) → Bound
made man exp f n = record { man = man; exp = exp; fits = f; normal = n }

mantissa_fits : (x : ℕ) → mantissa x < 2 ^ 32
mantissa_fits x = (div-lt_iff_lt-mul (pow_pos (exponent x))).1 (exponent_is x).fits

mantissa_full : (x : ℕ) → 0 < exponent x → 2 ^ 31 ≤ mantissa x
mantissa_full x some = (le-div_iff_mul-le (pow_pos (exponent x))).1 ((exponent_is x).full some)

none : (e : ℕ) → (0 < e → ⊥) → 0 ≡ e
none zero h = refl
none (suc e) h = absurd (h (omega arith))

form-man : (man exp : ℕ) (d : Dec (man < 2 ^ 32)) (f : Dec (2 ^ 31 ≤ man)) → man < 2 ^ 32 → (form_of man exp d f).man ≡ man
unfolding form_of
form-man man exp (yes fits) (yes full) h = refl
form-man man exp (yes fits) (no less) h = refl
form-man man exp (no over) f h = absurd (over h)

form-exp : (man exp : ℕ) (d : Dec (man < 2 ^ 32)) (f : Dec (2 ^ 31 ≤ man)) → man < 2 ^ 32 → (0 < exp → 2 ^ 31 ≤ man) → (form_of man exp d f).exp ≡ exp
unfolding form_of
form-exp man exp (yes fits) (yes full) h normal = refl
form-exp man exp (yes fits) (no less) h normal = (none exp (λ some. less (normal some)))
form-exp man exp (no over) f h normal = absurd (over h)

bound-man : (x : ℕ) → (bound_of x).man ≡ mantissa x
unfolding bound_of
bound-man x = (form-man (mantissa x) (exponent x) (dec_lt (mantissa x) (2 ^ 32)) (dec_le (2 ^ 31) (mantissa x)) (mantissa_fits x))

bound-exp : (x : ℕ) → (bound_of x).exp ≡ exponent x
unfolding bound_of
bound-exp x = (form-exp (mantissa x) (exponent x) (dec_lt (mantissa x) (2 ^ 32)) (dec_le (2 ^ 31) (mantissa x)) (mantissa_fits x) (mantissa_full x))

same_fields : (man exp : ℕ) (f g : man < 2 ^ 32) (n k : 0 < exp → 2 ^ 31 ≤ man) → made man exp f n ≡ made man exp g k
same_fields man exp f g n k = ap (λ q. made man exp q n) (le_prop f g) ∙ ap (λ q. made man exp g q) (fun_ext (λ some. le_prop (n some) (k some)))

same_exp : (man exp exp' : ℕ) → exp ≡ exp' → (f g : man < 2 ^ 32) (n : 0 < exp → 2 ^ 31 ≤ man) (k : 0 < exp' → 2 ^ 31 ≤ man) → made man exp f n ≡ made man exp' g k
same_exp man exp exp' e f g n = subst (λ z. (k : 0 < z → 2 ^ 31 ≤ man) → made man exp f n ≡ made man z g k) e (same_fields man exp f g n)

same_man : (man man' : ℕ) → man ≡ man' → (exp exp' : ℕ) → exp ≡ exp' → (f : man < 2 ^ 32) (n : 0 < exp → 2 ^ 31 ≤ man) (g : man' < 2 ^ 32) (k : 0 < exp' → 2 ^ 31 ≤ man') → made man exp f n ≡ made man' exp' g k
same_man man man' m exp exp' e f n = subst (λ z. (g : z < 2 ^ 32) (k : 0 < exp' → 2 ^ 31 ≤ z) → made man exp f n ≡ made z exp' g k) m (λ g k. same_exp man exp exp' e f g n k)

-- two bounds with the same mantissa and exponent are one
same_form : (a b : Bound) → a.man ≡ b.man → a.exp ≡ b.exp → a ≡ b
same_form a b m e = same_man a.man b.man m a.exp b.exp e a.fits a.normal b.fits b.normal

pub bound_of-value : (b : Bound) → bound_of (value b) ≡ b
bound_of-value b = same_form (bound_of (value b)) b (bound-man (value b) ∙ sym (mantissa_of_form b.man b.exp b.fits b.normal)) (bound-exp (value b) ∙ sym (exponent_of_form b.man b.exp b.fits b.normal))

down-is : (x : ℕ) → mantissa x * 2 ^ exponent x ≡ down x
unfolding down
down-is x = refl

pub value-bound_of : (x : ℕ) → value (bound_of x) ≡ down x
value-bound_of x = ap (λ z. z * 2 ^ (bound_of x).exp) (bound-man x) ∙ ap (λ z. mantissa x * 2 ^ z) (bound-exp x) ∙ is
  where
    is : mantissa x * 2 ^ exponent x ≡ down x
    is = down-is x
