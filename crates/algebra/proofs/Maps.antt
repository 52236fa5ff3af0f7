-- A map that keeps the operations keeps every operation on lists of coefficients.
use Rattle.std.specs.Prelude.{◌≡◌, ℕ, zero, suc, ◌-◌ as ◌-ₙ◌, List, [], ◌∷◌, ◌++◌, map, length, take, replicate, refl}
use Rattle.std.proofs.Common.{arith, sym, ◌∙◌, ap, ap₂}
use Rattle.std.proofs.lemmas.List.{length-map, take-map}
use Rattle.algebra.specs.Ring.{Ops}
use Rattle.algebra.specs.Hom.{Preserves}
use Rattle.algebra.specs.Poly.{coeff, sum, value_at, plus, negated, scaled, times, monomial, at_power, degree_of, IsMonic, top, reduced, remainder, quotient_digits, quotient_by, modulo}

module _ {C D : Type 0} {o : Ops C} {p : Ops D} {h : C → D} (K : Preserves o p h) where
  pub map_coeff : (f : List C) (i : ℕ) → h (coeff o f i) ≡ coeff p (map h f) i
  map_coeff [] i = K.keeps_zero
  map_coeff (a ∷ f) zero = refl
  map_coeff (a ∷ f) (suc i) = map_coeff f i

  pub map_sum : (f : List C) → h (sum o f) ≡ sum p (map h f)
  map_sum [] = K.keeps_zero
  map_sum (a ∷ f) = K.keeps_add a (sum o f) ∙ ap (λ z. p.add (h a) z) (map_sum f)

  pub map_value_at : (x : C) (f : List C) → h (value_at o x f) ≡ value_at p (h x) (map h f)
  map_value_at x [] = K.keeps_zero
  map_value_at x (a ∷ f) = K.keeps_add a (o.mul x (value_at o x f)) ∙ ap (λ z. p.add (h a) z) (K.keeps_mul x (value_at o x f) ∙ ap (λ z. p.mul (h x) z) (map_value_at x f))

  pub map_plus : (f g : List C) → map h (plus o f g) ≡ plus p (map h f) (map h g)
  map_plus [] g = refl
  map_plus (a ∷ f) [] = refl
  map_plus (a ∷ f) (b ∷ g) = ap₂ (λ y z. y ∷ z) (K.keeps_add a b) (map_plus f g)

  pub map_negated : (f : List C) → map h (negated o f) ≡ negated p (map h f)
  map_negated [] = refl
  map_negated (a ∷ f) = ap₂ (λ y z. y ∷ z) (K.keeps_neg a) (map_negated f)

  pub map_scaled : (a : C) (f : List C) → map h (scaled o a f) ≡ scaled p (h a) (map h f)
  map_scaled a [] = refl
  map_scaled a (b ∷ f) = ap₂ (λ y z. y ∷ z) (K.keeps_mul a b) (map_scaled a f)

  pub map_shifted : (k : ℕ) (f g : List C) → map h f ≡ map h g → map h (replicate k o.zero ++ f) ≡ replicate k p.zero ++ map h g
  map_shifted zero f g e = e
  map_shifted (suc k) f g e = ap₂ (λ y z. y ∷ z) K.keeps_zero (map_shifted k f g e)

  pub map_monomial : (k : ℕ) → map h (monomial o k) ≡ monomial p k
  map_monomial k = map_shifted k (o.one ∷ []) (o.one ∷ []) refl ∙ ap (λ z. replicate k p.zero ++ z ∷ []) K.keeps_one

  pub map_zeros : (k : ℕ) → map h (replicate k o.zero) ≡ replicate k p.zero
  map_zeros zero = refl
  map_zeros (suc k) = ap₂ (λ y z. y ∷ z) K.keeps_zero (map_zeros k)

  pub map_times : (f g : List C) → map h (times o f g) ≡ times p (map h f) (map h g)
  unfolding times
  map_times [] g = refl
  map_times (a ∷ f) g = map_plus (scaled o a g) (o.zero ∷ times o f g) ∙ ap₂ (plus p) (map_scaled a g) (ap₂ (λ y z. y ∷ z) K.keeps_zero (map_times f g))

  pub map_at_power : (k : ℕ) (f : List C) → map h (at_power o k f) ≡ at_power p k (map h f)
  unfolding at_power
  map_at_power k [] = refl
  map_at_power k (a ∷ f) = ap (λ z. h a ∷ z) (map_shifted (k -ₙ 1) (at_power o k f) (at_power o k f) refl ∙ ap (λ z. replicate (k -ₙ 1) p.zero ++ z) (map_at_power k f))

  pub map_degree_of : (g : List C) → degree_of p (map h g) ≡ degree_of o g
  map_degree_of g = ap (λ n. n -ₙ 1) (length-map g h)

  pub map_monic : (g : List C) → IsMonic o g → IsMonic p (map h g)
  map_monic g M = record { filled = omega (arith, length-map g h, M.filled); top = ap (coeff p (map h g)) (map_degree_of g) ∙ sym (map_coeff g (degree_of o g)) ∙ ap h M.top ∙ K.keeps_one }

  pub map_top : (g w : List C) → h (top o g w) ≡ top p (map h g) (map h w)
  map_top g w = map_coeff w (degree_of o g) ∙ ap (coeff p (map h w)) (sym (map_degree_of g))

  pub map_reduced : (g w : List C) → map h (reduced o g w) ≡ reduced p (map h g) (map h w)
  map_reduced g w = sym (take-map h (degree_of o g) (plus o w (scaled o (o.neg (top o g w)) g))) ∙ ap₂ take (sym (map_degree_of g)) (map_plus w (scaled o (o.neg (top o g w)) g) ∙ ap (plus p (map h w)) (map_scaled (o.neg (top o g w)) g ∙ ap (λ z. scaled p z (map h g)) (K.keeps_neg (top o g w) ∙ ap p.neg (map_top g w))))

  pub map_remainder : (g f : List C) → map h (remainder o g f) ≡ remainder p (map h g) (map h f)
  unfolding remainder
  map_remainder g [] = map_zeros (degree_of o g) ∙ ap (λ n. replicate n p.zero) (sym (map_degree_of g))
  map_remainder g (a ∷ f) = map_reduced g (a ∷ remainder o g f) ∙ ap (λ z. reduced p (map h g) (h a ∷ z)) (map_remainder g f)

  pub map_quotient_digits : (g f : List C) → map h (quotient_digits o g f) ≡ quotient_digits p (map h g) (map h f)
  unfolding quotient_digits
  map_quotient_digits g [] = refl
  map_quotient_digits g (a ∷ f) = ap₂ (λ y z. y ∷ z) (map_top g (a ∷ remainder o g f) ∙ ap (λ z. top p (map h g) (h a ∷ z)) (map_remainder g f)) (map_quotient_digits g f)

  pub map_quotient_by : (g f : List C) → map h (quotient_by o g f) ≡ quotient_by p (map h g) (map h f)
  unfolding quotient_by
  map_quotient_by g f = sym (take-map h (length f -ₙ degree_of o g) (quotient_digits o g f)) ∙ ap₂ take (ap₂ (λ n d. n -ₙ d) (sym (length-map f h)) (sym (map_degree_of g))) (map_quotient_digits g f)

  -- the map of the polynomials modulo g
  pub map_modulo : (g : List C) → Preserves (modulo o g) (modulo p (map h g)) (map h)
  map_modulo g = record {
    keeps_zero = map_remainder g [];
    keeps_one = map_remainder g (o.one ∷ []) ∙ ap (λ z. remainder p (map h g) (z ∷ [])) K.keeps_one;
    keeps_add = map_plus;
    keeps_mul = λ a b. map_remainder g (times o a b) ∙ ap (remainder p (map h g)) (map_times a b);
    keeps_neg = map_negated;
  }
