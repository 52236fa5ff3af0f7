-- The norm of whole polynomials modulo a divisor of X^m - 1, and its laws. Here m is k + 1.
use Rattle.std.specs.Prelude.{◌≡◌, ℕ, zero, suc, ◌+◌, ◌*◌, ◌<◌, ◌≤◌, ℤ, pos, ◌+ℤ◌, refl, [], ◌∷◌}
use Rattle.std.proofs.Common.{sym, ◌∙◌, ap, ap₂, arith, mul-pos, le_refl, le_trans, le_of_eq, mul-le-mul, mul-le-mul_left}
use mathlib.Core.Path.{fun_ext}
use Rattle.algebra.specs.Ring.{whole_numbers}
use Rattle.algebra.specs.Power.{less, power, number, Divides}
use Rattle.algebra.specs.Series.{tail, cons, sum, scaled, product, Below}
use Rattle.algebra.proofs.Integers.{whole_ring}
use Rattle.algebra.proofs.Homs.{map_number}
use Rattle.algebra.proofs.Powers.{Divides_trans, number-mul}
use Rattle.algebra.proofs.SeriesRing.{product-const}
use Rattle.algebra.proofs.Degrees.{Below-zero, Below-tail, Below-cons, Below-sum, Below-scaled, Below-product}
use Rattle.algebra.proofs.Polynomials.{poly, same, constant, constant_hom}
use Rattle.algebra.specs.Expression.{var, ◌:*◌, ◌:+◌, ◌:-◌, :0, :1}
use Rattle.algebra.proofs.Solver.{solve, env, solve1, solve2, solve4}
use Rattle.cyclotomic.proofs.WholePolys.{WholePoly, whole_polys, indeterminate, number_is}
use Rattle.cyclotomic.proofs.Norms.{Whole, norm, norm-sum, norm-scaled, norm-product, first, Below-first, folded, Below-folded, norm-folded, cons_is}
use Rattle.cyclotomic.proofs.Modulo.{Alike, Alike_of_path, Alike_sym, Alike_trans, Alike_add, Alike_mul, Alike_scale}
open whole_polys use {add as ◌⊕◌, mul as ◌⊗◌, one as 𝟙, zero as 𝟘}

infixl 70 ◌⊕◌
infixl 75 ◌⊗◌
abbrev num : ℕ → WholePoly
num n = number whole_polys.ops n

-- a polynomial is its constant term and X times the rest
pub split_is : (n : ℕ) (f : Whole) (b : Below whole_numbers (suc n) f) → poly whole_numbers (suc n) f b ≡ constant whole_ring (f 0) ⊕ indeterminate ⊗ poly whole_numbers n (tail f) (Below-tail whole_ring n f b)
split_is n f b = same whole_numbers (fun_ext at) ∙ cons_is (f 0) n (tail f) (Below-tail whole_ring n f b) (Below-cons whole_ring n (f 0) (tail f) (Below-tail whole_ring n f b))
  where
    at : (i : ℕ) → f i ≡ cons (f 0) (tail f) i
    at zero = refl
    at (suc i) = refl

-- the last coefficient taken out
pub last_is : (k : ℕ) (g : Whole) (b : Below whole_numbers (suc k) g) → poly whole_numbers (suc k) g b ≡ poly whole_numbers k (first k g) (Below-first k g) ⊕ constant whole_ring (g k) ⊗ power whole_polys.ops indeterminate k
last_is zero g b = split_is 0 g b ∙ ap (λ z. constant whole_ring (g 0) ⊕ indeterminate ⊗ z) none ∙ solve2 whole_polys (λ c x. c :+ x :* :0) (λ c x. :0 :+ c :* :1) refl (constant whole_ring (g 0)) indeterminate ∙ ap (λ z. z ⊕ constant whole_ring (g 0) ⊗ 𝟙) empty
  where
    empty : 𝟘 ≡ poly whole_numbers 0 (first 0 g) (Below-first 0 g)
    empty = same whole_numbers refl

    none : poly whole_numbers 0 (tail g) (Below-tail whole_ring 0 g b) ≡ 𝟘
    none = same whole_numbers (Below-zero whole_ring (tail g) (Below-tail whole_ring 0 g b))
last_is (suc k) g b = split_is (suc k) g b ∙ ap (λ z. constant whole_ring (g 0) ⊕ indeterminate ⊗ z) (last_is k (tail g) (Below-tail whole_ring (suc k) g b)) ∙ solve whole_polys (env 𝟘 (constant whole_ring (g 0) ∷ indeterminate ∷ poly whole_numbers k (first k (tail g)) (Below-first k (tail g)) ∷ constant whole_ring (g (suc k)) ∷ power whole_polys.ops indeterminate k ∷ [])) (var 0 :+ var 1 :* (var 2 :+ var 3 :* var 4)) (var 0 :+ var 1 :* var 2 :+ var 3 :* (var 1 :* var 4)) refl ∙ ap (λ z. z ⊕ constant whole_ring (g (suc k)) ⊗ power whole_polys.ops indeterminate (suc k)) (sym (cons_is (g 0) k (first k (tail g)) (Below-first k (tail g)) (Below-first (suc k) g)))

-- a number times a polynomial, by its coefficients
pub constant_times : (a : ℤ) (j : ℕ) (f : Whole) (b : Below whole_numbers j f) → constant whole_ring a ⊗ poly whole_numbers j f b ≡ poly whole_numbers j (scaled whole_numbers a f) (Below-scaled whole_ring j a f b)
constant_times a j f b = same whole_numbers (fun_ext (λ i. product-const whole_ring a f i))

pub num_times : (n j : ℕ) (f : Whole) (b : Below whole_numbers j f) → num n ⊗ poly whole_numbers j f b ≡ poly whole_numbers j (scaled whole_numbers (pos n) f) (Below-scaled whole_ring j (pos n) f b)
num_times n j f b = ap (λ z. z ⊗ poly whole_numbers j f b) (sym (map_number whole_ring whole_polys (constant_hom whole_ring) n) ∙ ap (constant whole_ring) (number_is n)) ∙ constant_times (pos n) j f b

module _ (k : ℕ) (phi : WholePoly) (divides : Divides whole_polys.ops phi (less whole_polys.ops (power whole_polys.ops indeterminate (suc k)) 𝟙)) where
  abbrev alike : WholePoly → WholePoly → Type 0
  alike p q = Alike whole_polys phi p q

  abbrev reduced : ℕ → Whole → WholePoly
  reduced n f = poly whole_numbers (suc k) (folded k n f) (Below-folded k n f)

  -- X times g, its top coefficient put first
  turned : (g : Whole) (b : Below whole_numbers (suc k) g) → alike (indeterminate ⊗ poly whole_numbers (suc k) g b) (constant whole_ring (g k) ⊕ indeterminate ⊗ poly whole_numbers k (first k g) (Below-first k g))
  turned g b = Divides_trans whole_polys phi (less whole_polys.ops (power whole_polys.ops indeterminate (suc k)) 𝟙) (less whole_polys.ops (indeterminate ⊗ poly whole_numbers (suc k) g b) (constant whole_ring (g k) ⊕ indeterminate ⊗ poly whole_numbers k (first k g) (Below-first k g))) divides (constant whole_ring (g k), ap (λ z. less whole_polys.ops (indeterminate ⊗ z) (constant whole_ring (g k) ⊕ indeterminate ⊗ poly whole_numbers k (first k g) (Below-first k g))) (last_is k g b) ∙ solve4 whole_polys (λ x h c p. x :* (h :+ c :* p) :- (c :+ x :* h)) (λ x h c p. (x :* p :- :1) :* c) refl indeterminate (poly whole_numbers k (first k g) (Below-first k g)) (constant whole_ring (g k)) (power whole_polys.ops indeterminate k))

  -- folding changes nothing modulo phi
  pub folded_alike : (n : ℕ) (f : Whole) (b : Below whole_numbers n f) → alike (poly whole_numbers n f b) (reduced n f)
  folded_alike zero f b = Alike_of_path whole_polys phi (poly whole_numbers 0 f b) (reduced 0 f) (same whole_numbers (Below-zero whole_ring f b))
  folded_alike (suc n) f b = Alike_trans whole_polys phi (poly whole_numbers (suc n) f b) (c ⊕ indeterminate ⊗ rest) (reduced (suc n) f) (Alike_of_path whole_polys phi (poly whole_numbers (suc n) f b) (c ⊕ indeterminate ⊗ rest) (split_is n f b)) (Alike_trans whole_polys phi (c ⊕ indeterminate ⊗ rest) (c ⊕ (t ⊕ indeterminate ⊗ h)) (reduced (suc n) f) (Alike_add whole_polys phi c c (indeterminate ⊗ rest) (t ⊕ indeterminate ⊗ h) (Alike_of_path whole_polys phi c c refl) (step (folded_alike n (tail f) (Below-tail whole_ring n f b)))) (Alike_of_path whole_polys phi (c ⊕ (t ⊕ indeterminate ⊗ h)) (reduced (suc n) f) whole))
    where
      g : Whole
      g = folded k n (tail f)

      c : WholePoly
      c = constant whole_ring (f 0)

      t : WholePoly
      t = constant whole_ring (g k)

      h : WholePoly
      h = poly whole_numbers k (first k g) (Below-first k g)

      rest : WholePoly
      rest = poly whole_numbers n (tail f) (Below-tail whole_ring n f b)

      step : alike rest (reduced n (tail f)) → alike (indeterminate ⊗ rest) (t ⊕ indeterminate ⊗ h)
      step r = Alike_trans whole_polys phi (indeterminate ⊗ rest) (indeterminate ⊗ reduced n (tail f)) (t ⊕ indeterminate ⊗ h) (Alike_scale whole_polys phi indeterminate rest (reduced n (tail f)) r) (turned g (Below-folded k n (tail f)))

      whole : c ⊕ (t ⊕ indeterminate ⊗ h) ≡ reduced (suc n) f
      whole = sym (whole_polys.add_assoc c t (indeterminate ⊗ h)) ∙ ap (λ z. z ⊕ indeterminate ⊗ h) (sym ((constant_hom whole_ring).map_add (f 0) (g k))) ∙ sym (cons_is (f 0 +ℤ g k) k (first k g) (Below-first k g) (Below-folded k (suc n) f))

  -- B bounds p: N times p is the remainder of m coefficients whose absolute values sum to at most N * B
  pub record NormLe (p : WholePoly) (B : ℕ) : Type 0 where
    pub N : ℕ
    pub positive : 0 < N
    pub L : Whole
    pub below : Below whole_numbers (suc k) L
    pub lifts : alike (poly whole_numbers (suc k) L below) (num N ⊗ p)
    pub small : norm (suc k) L ≤ N * B

  -- any number of coefficients will do
  pub from_list : (p : WholePoly) (B N j : ℕ) (L : Whole) (b : Below whole_numbers j L) → 0 < N → alike (poly whole_numbers j L b) (num N ⊗ p) → norm j L ≤ N * B → NormLe p B
  from_list p B N j L b positive lifts small = record {
    N = N;
    positive = positive;
    L = folded k j L;
    below = Below-folded k j L;
    lifts = Alike_trans whole_polys phi (reduced j L) (poly whole_numbers j L b) (num N ⊗ p) (Alike_sym whole_polys phi (poly whole_numbers j L b) (reduced j L) (folded_alike j L b)) lifts;
    small = le_trans (norm-folded k j L) small;
  }

  pub NormLe_alike : (p q : WholePoly) (B : ℕ) → alike p q → NormLe p B → NormLe q B
  NormLe_alike p q B s h = record {
    N = h.N;
    positive = h.positive;
    L = h.L;
    below = h.below;
    lifts = Alike_trans whole_polys phi (poly whole_numbers (suc k) h.L h.below) (num h.N ⊗ p) (num h.N ⊗ q) h.lifts (Alike_scale whole_polys phi (num h.N) p q s);
    small = h.small;
  }

  pub NormLe_more : (p : WholePoly) (B C : ℕ) → B ≤ C → NormLe p B → NormLe p C
  NormLe_more p B C l h = record { N = h.N; positive = h.positive; L = h.L; below = h.below; lifts = h.lifts; small = le_trans h.small (mul-le-mul_left h.N l) }

  -- a polynomial is bounded by the sum of its absolute coefficients
  pub NormLe_own : (j : ℕ) (L : Whole) (b : Below whole_numbers j L) → NormLe (poly whole_numbers j L b) (norm j L)
  NormLe_own j L b = from_list (poly whole_numbers j L b) (norm j L) 1 j L b (omega arith) (Alike_of_path whole_polys phi (poly whole_numbers j L b) (num 1 ⊗ poly whole_numbers j L b) (solve1 whole_polys (λ p. p) (λ p. (:0 :+ :1) :* p) refl (poly whole_numbers j L b))) (omega arith)

  pub NormLe-add : (p q : WholePoly) (B C : ℕ) → NormLe p B → NormLe q C → NormLe (p ⊕ q) (B + C)
  NormLe-add p q B C h l = record {
    N = h.N * l.N;
    positive = mul-pos h.positive l.positive;
    L = sum whole_numbers (scaled whole_numbers (pos l.N) h.L) (scaled whole_numbers (pos h.N) l.L);
    below = below;
    lifts = Alike_trans whole_polys phi (poly whole_numbers (suc k) (sum whole_numbers (scaled whole_numbers (pos l.N) h.L) (scaled whole_numbers (pos h.N) l.L)) below) (num l.N ⊗ a ⊕ num h.N ⊗ b) (num (h.N * l.N) ⊗ (p ⊕ q)) (Alike_of_path whole_polys phi _ (num l.N ⊗ a ⊕ num h.N ⊗ b) parts) (Alike_trans whole_polys phi (num l.N ⊗ a ⊕ num h.N ⊗ b) (num l.N ⊗ (num h.N ⊗ p) ⊕ num h.N ⊗ (num l.N ⊗ q)) (num (h.N * l.N) ⊗ (p ⊕ q)) (Alike_add whole_polys phi (num l.N ⊗ a) (num l.N ⊗ (num h.N ⊗ p)) (num h.N ⊗ b) (num h.N ⊗ (num l.N ⊗ q)) (Alike_scale whole_polys phi (num l.N) a (num h.N ⊗ p) h.lifts) (Alike_scale whole_polys phi (num h.N) b (num l.N ⊗ q) l.lifts)) (Alike_of_path whole_polys phi (num l.N ⊗ (num h.N ⊗ p) ⊕ num h.N ⊗ (num l.N ⊗ q)) (num (h.N * l.N) ⊗ (p ⊕ q)) (solve4 whole_polys (λ n l p q. l :* (n :* p) :+ n :* (l :* q)) (λ n l p q. n :* l :* (p :+ q)) refl (num h.N) (num l.N) p q ∙ ap (λ z. z ⊗ (p ⊕ q)) (sym (number-mul whole_polys h.N l.N)))));
    small = omega (
      arith,
      norm-sum (suc k) (scaled whole_numbers (pos l.N) h.L) (scaled whole_numbers (pos h.N) l.L),
      norm-scaled (suc k) (pos l.N) h.L,
      norm-scaled (suc k) (pos h.N) l.L,
      mul-le-mul_left l.N h.small,
      mul-le-mul_left h.N l.small,
    );
  }
    where
      a : WholePoly
      a = poly whole_numbers (suc k) h.L h.below

      b : WholePoly
      b = poly whole_numbers (suc k) l.L l.below

      below : Below whole_numbers (suc k) (sum whole_numbers (scaled whole_numbers (pos l.N) h.L) (scaled whole_numbers (pos h.N) l.L))
      below = Below-sum whole_ring (suc k) (scaled whole_numbers (pos l.N) h.L) (scaled whole_numbers (pos h.N) l.L) (Below-scaled whole_ring (suc k) (pos l.N) h.L h.below) (Below-scaled whole_ring (suc k) (pos h.N) l.L l.below)

      parts : poly whole_numbers (suc k) (sum whole_numbers (scaled whole_numbers (pos l.N) h.L) (scaled whole_numbers (pos h.N) l.L)) below ≡ num l.N ⊗ a ⊕ num h.N ⊗ b
      parts = same whole_numbers refl ∙ ap₂ (λ y z. y ⊕ z) (sym (num_times l.N (suc k) h.L h.below)) (sym (num_times h.N (suc k) l.L l.below))

  pub NormLe-mul : (p q : WholePoly) (B C : ℕ) → NormLe p B → NormLe q C → NormLe (p ⊗ q) (B * C)
  NormLe-mul p q B C h l = from_list (p ⊗ q) (B * C) (h.N * l.N) (suc k + suc k) (product whole_numbers h.L l.L) below (mul-pos h.positive l.positive) (Alike_trans whole_polys phi (poly whole_numbers (suc k + suc k) (product whole_numbers h.L l.L) below) ((num h.N ⊗ p) ⊗ (num l.N ⊗ q)) (num (h.N * l.N) ⊗ (p ⊗ q)) (Alike_trans whole_polys phi (poly whole_numbers (suc k + suc k) (product whole_numbers h.L l.L) below) (poly whole_numbers (suc k) h.L h.below ⊗ poly whole_numbers (suc k) l.L l.below) ((num h.N ⊗ p) ⊗ (num l.N ⊗ q)) (Alike_of_path whole_polys phi (poly whole_numbers (suc k + suc k) (product whole_numbers h.L l.L) below) (poly whole_numbers (suc k) h.L h.below ⊗ poly whole_numbers (suc k) l.L l.below) (same whole_numbers refl)) (Alike_mul whole_polys phi (poly whole_numbers (suc k) h.L h.below) (num h.N ⊗ p) (poly whole_numbers (suc k) l.L l.below) (num l.N ⊗ q) h.lifts l.lifts)) (Alike_of_path whole_polys phi ((num h.N ⊗ p) ⊗ (num l.N ⊗ q)) (num (h.N * l.N) ⊗ (p ⊗ q)) (solve4 whole_polys (λ n l p q. n :* p :* (l :* q)) (λ n l p q. n :* l :* (p :* q)) refl (num h.N) (num l.N) p q ∙ ap (λ z. z ⊗ (p ⊗ q)) (sym (number-mul whole_polys h.N l.N))))) (le_trans (norm-product (suc k) (suc k) (suc k + suc k) h.L l.L h.below l.below (le_refl (suc k + suc k))) (le_trans (mul-le-mul h.small l.small) (le_of_eq regroup)))
    where
      below : Below whole_numbers (suc k + suc k) (product whole_numbers h.L l.L)
      below = Below-product whole_ring (suc k) (suc k) h.L l.L h.below l.below

      regroup : h.N * B * (l.N * C) ≡ h.N * l.N * (B * C)
      regroup = omega arith

  -- a bound of T * p, divided by T and rounded up, bounds p
  pub NormLe-divide : (p q : WholePoly) (T B C : ℕ) → 0 < T → alike (num T ⊗ p) q → B ≤ T * C → NormLe q B → NormLe p C
  NormLe-divide p q T B C t s up h = record {
    N = h.N * T;
    positive = mul-pos h.positive t;
    L = h.L;
    below = h.below;
    lifts = Alike_trans whole_polys phi (poly whole_numbers (suc k) h.L h.below) (num h.N ⊗ (num T ⊗ p)) (num (h.N * T) ⊗ p) (Alike_trans whole_polys phi (poly whole_numbers (suc k) h.L h.below) (num h.N ⊗ q) (num h.N ⊗ (num T ⊗ p)) h.lifts (Alike_scale whole_polys phi (num h.N) q (num T ⊗ p) (Alike_sym whole_polys phi (num T ⊗ p) q s))) (Alike_of_path whole_polys phi (num h.N ⊗ (num T ⊗ p)) (num (h.N * T) ⊗ p) (sym (whole_polys.mul_assoc (num h.N) (num T) p) ∙ ap (λ z. z ⊗ p) (sym (number-mul whole_polys h.N T))));
    small = le_trans h.small (le_trans (mul-le-mul_left h.N up) (le_of_eq regroup));
  }
    where
      regroup : h.N * (T * C) ≡ h.N * T * C
      regroup = omega arith
