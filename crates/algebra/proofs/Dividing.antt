-- Division of lists by a monic list: the long division gives quotient and remainder, and they are the only ones.
use Rattle.std.specs.Prelude.{◌≡◌, ℕ, zero, suc, ◌+◌ as ◌+ₙ◌, ◌-◌ as ◌-ₙ◌, ◌<◌, ◌≤◌, ◌⊎◌, max, min, List, [], ◌∷◌, length, take, replicate, refl}
use Rattle.std.proofs.Common.{arith, sym, ◌∙◌, ap, ap₂, inl, inr, subst, subst₂}
use Rattle.std.proofs.lemmas.List.{length-replicate, length-take, get_or-take, get_or_past}
use Rattle.std.proofs.lemmas.Bool.{cases_lt}
use mathlib.Core.Path.{fun_ext}
use Rattle.algebra.specs.Ring.{Ops, CommRing}
use Rattle.algebra.specs.Series.{Series, cons, product, Below, Monic, IsDivision}
use Rattle.algebra.specs.Poly.{coeff, SameCoeffs, plus, scaled, times, degree_of, IsMonic, top, reduced, remainder, quotient_digits, quotient_by, IsDivided}
use Rattle.algebra.proofs.Degrees.{Below-more, Below-zeros, division_zeros, division_step, quotient_only, quotient_below, remainder_only}
use Rattle.algebra.proofs.Degrees as by
use Rattle.algebra.proofs.Lists.{same_list, Below-coeff, length-plus, coeff-cons, coeff-plus, coeff-scaled, coeff-times}

module _ {C : Type 0} (o : Ops C) where
  -- one step of the long division
  pub remainder_cons : (g : List C) (a : C) (f : List C) → remainder o g (a ∷ f) ≡ reduced o g (a ∷ remainder o g f)
  unfolding remainder
  remainder_cons g a f = refl

  pub quotient_digits_cons : (g : List C) (a : C) (f : List C) → quotient_digits o g (a ∷ f) ≡ top o g (a ∷ remainder o g f) ∷ quotient_digits o g f
  unfolding quotient_digits
  quotient_digits_cons g a f = refl

  pub length-reduced : (g w : List C) → degree_of o g ≤ length w → length (reduced o g w) ≡ degree_of o g
  length-reduced g w l = length-take (degree_of o g) (plus o w (scaled o (o.neg (top o g w)) g)) ∙ least (degree_of o g) (length w) (length (scaled o (o.neg (top o g w)) g)) (length (plus o w (scaled o (o.neg (top o g w)) g))) l (length-plus o w (scaled o (o.neg (top o g w)) g))
    where
      least : (d a b c : ℕ) → d ≤ a → c ≡ max a b → min d c ≡ d
      least d a b c l e = omega arith

  pub length-remainder : (g f : List C) → length (remainder o g f) ≡ degree_of o g
  unfolding remainder
  length-remainder g [] = length-replicate (degree_of o g) o.zero
  length-remainder g (a ∷ f) = length-reduced g (a ∷ remainder o g f) (omega (arith, length-remainder g f))

  pub length-quotient_digits : (g f : List C) → length (quotient_digits o g f) ≡ length f
  unfolding quotient_digits
  length-quotient_digits g [] = refl
  length-quotient_digits g (a ∷ f) = ap suc (length-quotient_digits g f)

  pub length-quotient_by : (g f : List C) → length (quotient_by o g f) ≡ length f -ₙ degree_of o g
  unfolding quotient_by
  length-quotient_by g f = length-take (length f -ₙ degree_of o g) (quotient_digits o g f) ∙ least (length f) (degree_of o g) (length (quotient_digits o g f)) (length-quotient_digits g f)
    where
      least : (n d k : ℕ) → k ≡ n → min (n -ₙ d) k ≡ n -ₙ d
      least n d k e = omega arith

  -- a list without what is 0 at its end
  pub coeff-take : (n : ℕ) (f : List C) → Below o n (coeff o f) → SameCoeffs o (take n f) f
  coeff-take n f b i = go (cases_lt i n)
    where
      go : (i < n) ⊎ (n ≤ i) → coeff o (take n f) i ≡ coeff o f i
      go (inl l) = get_or-take n f i o.zero l
      go (inr l) = get_or_past (take n f) i o.zero (omega (arith, length-take n f)) ∙ sym (b i l)

module _ (R : CommRing) where
  open R use {Carrier as C, ops as o, add as ◌+◌, mul as ◌*◌, neg as neg, zero as 𝟘, one as 𝟙}

  infixl 70 ◌+◌
  infixl 75 ◌*◌
  pub coeff-none : (n i : ℕ) → coeff o (replicate n 𝟘) i ≡ 𝟘
  coeff-none zero i = refl
  coeff-none (suc n) zero = refl
  coeff-none (suc n) (suc i) = coeff-none n i

  module _ (g : List C) (M : IsMonic o g) where
    abbrev d : ℕ
    d = degree_of o g

    pub monic_series : Monic o (degree_of o g) (coeff o g)
    monic_series = record { below = λ i l. Below-coeff o g i (omega (arith, M.filled)); top = M.top }

    nothing : (r : List C) → r ≡ plus o (times o [] g) r
    unfolding times
    nothing r = refl

    -- the step of the long division, coefficient by coefficient
    coeff-reduced : (a : C) (r : List C) → length r ≡ d → Below o d (by.reduced R d (coeff o g) (cons a (coeff o r))) → (i : ℕ) → by.reduced R d (coeff o g) (cons a (coeff o r)) i ≡ coeff o (reduced o g (a ∷ r)) i
    coeff-reduced a r e b i = go (cases_lt i d)
      where
        w : List C
        w = a ∷ r

        multiple : List C
        multiple = scaled o (neg (top o g w)) g

        go : (i < d) ⊎ (d ≤ i) → by.reduced R d (coeff o g) (cons a (coeff o r)) i ≡ coeff o (reduced o g w) i
        go (inr l) = b i l ∙ sym (get_or_past (reduced o g w) i 𝟘 (omega (arith, length-reduced o g w (omega arith))))
        go (inl l) = ap₂ (λ x y. x + neg y * coeff o g i) (sym (coeff-cons R a r i)) (sym (coeff-cons R a r d)) ∙ ap (λ z. coeff o w i + z) (sym (coeff-scaled R (neg (top o g w)) g i)) ∙ sym (coeff-plus R w multiple i) ∙ sym (get_or-take d (plus o w multiple) i 𝟘 l)

    -- the long division divides
    pub divides : (f : List C) → IsDivision o (degree_of o g) (coeff o g) (coeff o f) (coeff o (quotient_digits o g f)) (coeff o (remainder o g f))
    unfolding quotient_digits remainder
    divides [] = rw (fun_ext (coeff-none d)) (division_zeros R d (coeff o g))
    divides (a ∷ f) = go (divides f)
      where
        r : List C
        r = remainder o g f

        q : List C
        q = quotient_digits o g f

        go : IsDivision o d (coeff o g) (coeff o f) (coeff o q) (coeff o r) → IsDivision o d (coeff o g) (coeff o (a ∷ f)) (coeff o (top o g (a ∷ r) ∷ q)) (coeff o (reduced o g (a ∷ r)))
        go D = to (division_step R d (coeff o g) (coeff o (a ∷ f)) (coeff o q) (coeff o r) monic_series D)
          where
            to : IsDivision o d (coeff o g) (coeff o (a ∷ f)) (cons (cons a (coeff o r) d) (coeff o q)) (by.reduced R d (coeff o g) (cons a (coeff o r))) → IsDivision o d (coeff o g) (coeff o (a ∷ f)) (coeff o (top o g (a ∷ r) ∷ q)) (coeff o (reduced o g (a ∷ r)))
            to E = subst₂ (IsDivision o d (coeff o g) (coeff o (a ∷ f))) (ap (λ t. cons t (coeff o q)) (sym (coeff-cons R a r d)) ∙ sym (fun_ext (coeff-cons R (top o g (a ∷ r)) q))) (fun_ext (coeff-reduced a r (length-remainder o g f) E.small)) E

    -- the quotient's places above are 0
    pub quotient-digits : (f : List C) → SameCoeffs o (quotient_by o g f) (quotient_digits o g f)
    unfolding quotient_by
    quotient-digits f = coeff-take o (length f -ₙ d) (quotient_digits o g f) (quotient_below R d (length f) (length (quotient_digits o g f)) (coeff o g) (coeff o f) (coeff o (quotient_digits o g f)) (coeff o (remainder o g f)) monic_series (Below-coeff o f) (Below-coeff o (quotient_digits o g f)) (divides f))

    pub divided : (f : List C) → IsDivided o g f (quotient_by o g f) (remainder o g f)
    divided f = record {
      quotient_long = length-quotient_by o g f;
      remainder_long = length-remainder o g f;
      sum_is = λ i. coeff-plus R (times o (quotient_by o g f) g) (remainder o g f) i ∙ ap (λ z. z + coeff o (remainder o g f) i) (coeff-times R (quotient_by o g f) g i ∙ ap (λ s. product o s (coeff o g) i) (fun_ext (quotient-digits f))) ∙ (divides f).sum_is i;
    }

    -- a list of the degree's length that differs from f by a multiple of g is the remainder of f
    pub remainder_of : (f r : List C) (n : ℕ) (q : Series C) → Below o n q → length r ≡ degree_of o g → ((i : ℕ) → product o q (coeff o g) i + coeff o r i ≡ coeff o f i) → r ≡ remainder o g f
    remainder_of f r n q b e s = same_list o r (remainder o g f) (e ∙ sym (length-remainder o g f)) (λ i. ap (λ h. h i) rest)
      where
        given : IsDivision o d (coeff o g) (coeff o f) q (coeff o r)
        given = record { small = λ i l. Below-coeff o r i (omega arith); sum_is = s }

        found : Series C
        found = coeff o (quotient_digits o g f)

        k : ℕ
        k = n +ₙ length (quotient_digits o g f)

        quotients : q ≡ found
        quotients = quotient_only R d k (coeff o g) (coeff o f) q (coeff o r) found (coeff o (remainder o g f)) monic_series (Below-more R n k q (omega arith) b) (Below-more R (length (quotient_digits o g f)) k found (omega arith) (Below-coeff o (quotient_digits o g f))) given (divides f)

        rest : coeff o r ≡ coeff o (remainder o g f)
        rest = remainder_only R d (coeff o g) (coeff o f) found (coeff o r) (coeff o (remainder o g f)) (subst (λ h. IsDivision o d (coeff o g) (coeff o f) h (coeff o r)) quotients given) (divides f)

    -- quotient and remainder are the only ones
    pub divided_only : (f q r : List C) → IsDivided o g f q r → (q ≡ quotient_by o g f) × (r ≡ remainder o g f)
    divided_only f q r D = (same_list o q (quotient_by o g f) (D.quotient_long ∙ sym (length-quotient_by o g f)) (λ i. ap (λ h. h i) quotients), remainder_of f r (length q) (coeff o q) (Below-coeff o q) D.remainder_long sums)
      where
        sums : (i : ℕ) → product o (coeff o q) (coeff o g) i + coeff o r i ≡ coeff o f i
        sums i = ap (λ z. z + coeff o r i) (sym (coeff-times R q g i)) ∙ sym (coeff-plus R (times o q g) r i) ∙ D.sum_is i

        n : ℕ
        n = length f -ₙ d

        quotients : coeff o q ≡ coeff o (quotient_by o g f)
        quotients = quotient_only R d n (coeff o g) (coeff o f) (coeff o q) (coeff o r) (coeff o (quotient_by o g f)) (coeff o (remainder o g f)) monic_series (λ i l. Below-coeff o q i (omega (arith, D.quotient_long))) (λ i l. Below-coeff o (quotient_by o g f) i (omega (arith, length-quotient_by o g f))) (record { small = λ i l. Below-coeff o r i (omega (arith, D.remainder_long)); sum_is = sums }) (subst (λ h. IsDivision o d (coeff o g) (coeff o f) h (coeff o (remainder o g f))) (sym (fun_ext (quotient-digits f))) (divides f))

    -- a list of at most the degree's length is its own remainder, but for zeros at the end
    pub remainder_short : (f : List C) → length f ≤ degree_of o g → SameCoeffs o (remainder o g f) f
    remainder_short f l i = at (quotient_by o g f) (nil (quotient_by o g f) (omega (arith, length-quotient_by o g f))) i ∙ (divided f).sum_is i
      where
        nil : (q : List C) → length q ≡ 0 → q ≡ []
        nil [] e = refl
        nil (a ∷ q) e = absurd (omega arith)

        at : (q : List C) → q ≡ [] → (i : ℕ) → coeff o (remainder o g f) i ≡ coeff o (plus o (times o q g) (remainder o g f)) i
        at q e i = ap (λ z. coeff o z i) (subst (λ z. remainder o g f ≡ plus o (times o z g) (remainder o g f)) (sym e) (nothing (remainder o g f)))
