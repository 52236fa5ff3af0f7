-- What maps of operations, and with them maps of rings, keep.
use Rattle.std.specs.Prelude.{◌≡◌, ℕ, zero, suc, ◌/◌, ◌%◌, Bool, true, false, cond, eqb, refl}
use Rattle.std.proofs.Common.{sym, ◌∙◌, ap, ap₂}
use Rattle.algebra.specs.Ring.{Ops, CommRing}
use Rattle.algebra.specs.Hom.{Hom, Preserves}
use Rattle.algebra.specs.Series.{Series, product, spread}
use Rattle.algebra.specs.Range.{total, adds, muls}
use Rattle.algebra.specs.Power.{power, number, Divides, IsUnit, Meets, less}
use Rattle.algebra.proofs.Basic.{add_cancel, add_neg, add_zero}

module _ (R : CommRing) where
  abbrev pub id_hom : Hom R R
  id_hom = record { map = λ a. a; is = record { map_add = λ a b. refl; map_mul = λ a b. refl; map_one = refl } }

module _ (R S T : CommRing) (F : Hom R S) (G : Hom S T) where
  -- first F, then G
  abbrev pub then_hom : Hom R T
  then_hom = record { map = λ a. G.map (F.map a); is = record { map_add = λ a b. ap G.map (F.map_add a b) ∙ G.map_add (F.map a) (F.map b); map_mul = λ a b. ap G.map (F.map_mul a b) ∙ G.map_mul (F.map a) (F.map b); map_one = ap G.map F.map_one ∙ G.map_one } }

module _ {C D : Type 0} {o : Ops C} {p : Ops D} {h : C → D} (K : Preserves o p h) where
  pub keeps_less : (a b : C) → h (less o a b) ≡ less p (h a) (h b)
  keeps_less a b = K.keeps_add a (o.neg b) ∙ ap (λ z. p.add (h a) z) (K.keeps_neg b)

  pub keeps_power : (x : C) (n : ℕ) → h (power o x n) ≡ power p (h x) n
  keeps_power x zero = K.keeps_one
  keeps_power x (suc n) = K.keeps_mul x (power o x n) ∙ ap (λ z. p.mul (h x) z) (keeps_power x n)

  pub keeps_adds : (n : ℕ) (f : ℕ → C) → h (total (adds o) n f) ≡ total (adds p) n (λ i. h (f i))
  keeps_adds zero f = K.keeps_zero
  keeps_adds (suc n) f = K.keeps_add (total (adds o) n f) (f n) ∙ ap (λ z. p.add z (h (f n))) (keeps_adds n f)

  pub keeps_muls : (n : ℕ) (f : ℕ → C) → h (total (muls o) n f) ≡ total (muls p) n (λ i. h (f i))
  keeps_muls zero f = K.keeps_one
  keeps_muls (suc n) f = K.keeps_mul (total (muls o) n f) (f n) ∙ ap (λ z. p.mul z (h (f n))) (keeps_muls n f)

  pub keeps_number : (n : ℕ) → h (number o n) ≡ number p n
  keeps_number zero = K.keeps_zero
  keeps_number (suc n) = K.keeps_add (number o n) o.one ∙ ap₂ p.add (keeps_number n) K.keeps_one

  pub keeps_divides : (a b : C) → Divides o a b → Divides p (h a) (h b)
  keeps_divides a b (c, e) = (h c, ap h e ∙ K.keeps_mul a c)

  pub keeps_unit : (a : C) → IsUnit o a → IsUnit p (h a)
  keeps_unit a (c, e) = (h c, sym K.keeps_one ∙ ap h e ∙ K.keeps_mul a c)

  pub keeps_meets : (a b c : C) → Meets o a b c → Meets p (h a) (h b) (h c)
  keeps_meets a b c (u, v, e) = (h u, h v, ap h e ∙ K.keeps_add (o.mul u a) (o.mul v b) ∙ ap₂ p.add (K.keeps_mul u a) (K.keeps_mul v b))

  pub keeps_product : (f g : Series C) (n : ℕ) → h (product o f g n) ≡ product p (λ i. h (f i)) (λ i. h (g i)) n
  unfolding product
  keeps_product f g zero = K.keeps_mul (f zero) (g zero)
  keeps_product f g (suc n) = K.keeps_add (o.mul (f zero) (g (suc n))) (product o (λ i. f (suc i)) g n) ∙ ap₂ p.add (K.keeps_mul (f zero) (g (suc n))) (keeps_product (λ i. f (suc i)) g n)

  pub keeps_spread : (k : ℕ) (f : Series C) (i : ℕ) → h (spread o k f i) ≡ spread p k (λ i. h (f i)) i
  keeps_spread k f i = go (eqb (i % k) 0)
    where
      go : (b : Bool) → h (cond b (f (i / k)) o.zero) ≡ cond b (h (f (i / k))) p.zero
      go true = refl
      go false = K.keeps_zero

module _ (R S : CommRing) (F : Hom R S) where
  pub map_zero : F.map R.zero ≡ S.zero
  map_zero = add_cancel S (F.map R.zero) (F.map R.zero) S.zero (sym (F.map_add R.zero R.zero) ∙ ap F.map (R.zero_add R.zero) ∙ sym (add_zero S (F.map R.zero)))

  pub map_neg : (a : R.Carrier) → F.map (R.neg a) ≡ S.neg (F.map a)
  map_neg a = add_cancel S (F.map a) (F.map (R.neg a)) (S.neg (F.map a)) (sym (F.map_add a (R.neg a)) ∙ ap F.map (add_neg R a) ∙ map_zero ∙ sym (add_neg S (F.map a)))

  -- a map of rings keeps every operation
  pub preserves : Preserves R.ops S.ops F.map
  preserves = record { keeps_zero = map_zero; keeps_one = F.map_one; keeps_add = F.map_add; keeps_mul = F.map_mul; keeps_neg = map_neg }

  pub map_less : (a b : R.Carrier) → F.map (less R.ops a b) ≡ less S.ops (F.map a) (F.map b)
  map_less = keeps_less preserves

  pub map_power : (x : R.Carrier) (n : ℕ) → F.map (power R.ops x n) ≡ power S.ops (F.map x) n
  map_power = keeps_power preserves

  pub map_adds : (n : ℕ) (f : ℕ → R.Carrier) → F.map (total (adds R.ops) n f) ≡ total (adds S.ops) n (λ i. F.map (f i))
  map_adds = keeps_adds preserves

  pub map_muls : (n : ℕ) (f : ℕ → R.Carrier) → F.map (total (muls R.ops) n f) ≡ total (muls S.ops) n (λ i. F.map (f i))
  map_muls = keeps_muls preserves

  pub map_number : (n : ℕ) → F.map (number R.ops n) ≡ number S.ops n
  map_number = keeps_number preserves

  pub map_divides : (a b : R.Carrier) → Divides R.ops a b → Divides S.ops (F.map a) (F.map b)
  map_divides = keeps_divides preserves

  pub map_unit : (a : R.Carrier) → IsUnit R.ops a → IsUnit S.ops (F.map a)
  map_unit = keeps_unit preserves

  pub map_meets : (a b c : R.Carrier) → Meets R.ops a b c → Meets S.ops (F.map a) (F.map b) (F.map c)
  map_meets = keeps_meets preserves
