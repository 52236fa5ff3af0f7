-- Laws of lists whose elements are held: each follows from the law over the ring of held elements.
use Rattle.std.specs.Prelude.{◌≡◌, ℕ, zero, suc, ◌<◌, Bool, IsTrue, All, List, [], ◌∷◌, map, length, get_or, refl}
use Rattle.std.proofs.Common.{arith, sym, ◌∙◌, ap, ap₂, subst}
use Rattle.std.proofs.lemmas.Bool.{and_parts, and_from}
use Rattle.algebra.specs.Ring.{Ops, HeldLaws}
use Rattle.algebra.specs.Hom.{Preserves}
use Rattle.algebra.specs.Poly.{all_held, plus, negated, scaled, times, at_power, remainder, quotient_by}
use Rattle.algebra.specs.HeldRing.{Held, held_ops}
use Rattle.algebra.proofs.Held.{same_held}
use Rattle.algebra.proofs.Maps.{map_plus, map_negated, map_scaled, map_times, map_at_power, map_remainder, map_quotient_by}

-- Laws of held elements go along a map that keeps the operations and reaches every held element.
module _ {C D : Type 0} {held : C → Bool} {held' : D → Bool} {o : Ops C} {p : Ops D} {v : C → D} (L : HeldLaws held o) (K : Preserves o p v) (into : (a : C) → IsTrue (held a) → IsTrue (held' (v a))) (lift : (b : D) → IsTrue (held' b) → (a : C) × IsTrue (held a) × (v a ≡ b)) where
  each1 : (P : D → Type 0) → ((a : C) → IsTrue (held a) → P (v a)) → (b : D) → IsTrue (held' b) → P b
  each1 P f b k = go (lift b k)
    where
      go : (a : C) × IsTrue (held a) × (v a ≡ b) → P b
      go (a, h, e) = subst P e (f a h)

  each2 : (P : D → D → Type 0) → ((a b : C) → IsTrue (held a) → IsTrue (held b) → P (v a) (v b)) → (c d : D) → IsTrue (held' c) → IsTrue (held' d) → P c d
  each2 P f c d k l = each1 (λ y. P y d) (λ a h. each1 (P (v a)) (λ b i. f a b h i) d l) c k

  each3 : (P : D → D → D → Type 0) → ((a b c : C) → IsTrue (held a) → IsTrue (held b) → IsTrue (held c) → P (v a) (v b) (v c)) → (x y z : D) → IsTrue (held' x) → IsTrue (held' y) → IsTrue (held' z) → P x y z
  each3 P f x y z k l m = each1 (λ w. P w y z) (λ a h. each2 (P (v a)) (λ b c i j. f a b c h i j) y z l m) x k

  pub laws_along : HeldLaws held' p
  laws_along = record {
    zero_held = subst (λ z. IsTrue (held' z)) K.keeps_zero (into o.zero L.zero_held);
    one_held = subst (λ z. IsTrue (held' z)) K.keeps_one (into o.one L.one_held);
    add_held = each2 (λ x y. IsTrue (held' (p.add x y))) (λ a b h k. subst (λ z. IsTrue (held' z)) (K.keeps_add a b) (into (o.add a b) (L.add_held a b h k)));
    mul_held = each2 (λ x y. IsTrue (held' (p.mul x y))) (λ a b h k. subst (λ z. IsTrue (held' z)) (K.keeps_mul a b) (into (o.mul a b) (L.mul_held a b h k)));
    neg_held = each1 (λ x. IsTrue (held' (p.neg x))) (λ a h. subst (λ z. IsTrue (held' z)) (K.keeps_neg a) (into (o.neg a) (L.neg_held a h)));
    add_assoc = each3 (λ x y z. p.add (p.add x y) z ≡ p.add x (p.add y z)) (λ a b c h k l. left add a b c K.keeps_add ∙ ap v (L.add_assoc a b c h k l) ∙ sym (right add a b c K.keeps_add));
    add_comm = each2 (λ x y. p.add x y ≡ p.add y x) (λ a b h k. sym (K.keeps_add a b) ∙ ap v (L.add_comm a b h k) ∙ K.keeps_add b a);
    zero_add = each1 (λ x. p.add p.zero x ≡ x) (λ a h. ap (λ z. p.add z (v a)) (sym K.keeps_zero) ∙ sym (K.keeps_add o.zero a) ∙ ap v (L.zero_add a h));
    neg_add = each1 (λ x. p.add (p.neg x) x ≡ p.zero) (λ a h. ap (λ z. p.add z (v a)) (sym (K.keeps_neg a)) ∙ sym (K.keeps_add (o.neg a) a) ∙ ap v (L.neg_add a h) ∙ K.keeps_zero);
    mul_assoc = each3 (λ x y z. p.mul (p.mul x y) z ≡ p.mul x (p.mul y z)) (λ a b c h k l. left mul a b c K.keeps_mul ∙ ap v (L.mul_assoc a b c h k l) ∙ sym (right mul a b c K.keeps_mul));
    mul_comm = each2 (λ x y. p.mul x y ≡ p.mul y x) (λ a b h k. sym (K.keeps_mul a b) ∙ ap v (L.mul_comm a b h k) ∙ K.keeps_mul b a);
    one_mul = each1 (λ x. p.mul p.one x ≡ x) (λ a h. ap (λ z. p.mul z (v a)) (sym K.keeps_one) ∙ sym (K.keeps_mul o.one a) ∙ ap v (L.one_mul a h));
    add_mul = each3 (λ x y z. p.mul (p.add x y) z ≡ p.add (p.mul x z) (p.mul y z)) (λ a b c h k l. ap (λ z. p.mul z (v c)) (sym (K.keeps_add a b)) ∙ sym (K.keeps_mul (o.add a b) c) ∙ ap v (L.add_mul a b c h k l) ∙ K.keeps_add (o.mul a c) (o.mul b c) ∙ ap₂ p.add (K.keeps_mul a c) (K.keeps_mul b c));
  }
    where
      Op : Type 0
      Op = (C → C → C) × (D → D → D)

      add : Op
      add = (o.add, p.add)

      mul : Op
      mul = (o.mul, p.mul)

      left : (s : Op) (a b c : C) → ((x y : C) → v (s.0 x y) ≡ s.1 (v x) (v y)) → s.1 (s.1 (v a) (v b)) (v c) ≡ v (s.0 (s.0 a b) c)
      left s a b c k = ap (λ z. s.1 z (v c)) (sym (k a b)) ∙ sym (k (s.0 a b) c)

      right : (s : Op) (a b c : C) → ((x y : C) → v (s.0 x y) ≡ s.1 (v x) (v y)) → s.1 (v a) (s.1 (v b) (v c)) ≡ v (s.0 a (s.0 b c))
      right s a b c k = ap (λ z. s.1 (v a) z) (sym (k b c)) ∙ sym (k a (s.0 b c))

-- a list is held where all its elements are
pub all_from : {C : Type 0} (held : C → Bool) (f : List C) → All (λ a. IsTrue (held a)) f → IsTrue (all_held held f)
all_from held [] h = refl
all_from held (a ∷ f) h = and_from (held a) (all_held held f) (h 0 a (omega arith)) (all_from held f (λ k d l. h (suc k) d (omega arith)))

pub all_to : {C : Type 0} (held : C → Bool) (f : List C) → IsTrue (all_held held f) → (k : ℕ) (d : C) → k < length f → IsTrue (held (get_or f k d))
all_to held [] h k d l = absurd (omega arith)
all_to held (a ∷ f) h zero d l = (and_parts (held a) (all_held held f) h).0
all_to held (a ∷ f) h (suc k) d l = all_to held f (and_parts (held a) (all_held held f) h).1 k d (omega arith)

module _ {C : Type 0} (held : C → Bool) where
  -- the list of a list of held elements
  abbrev pub values : List (Held held) → List C
  values f = map (λ a. a.0) f

  pub values_held : (f : List (Held held)) → IsTrue (all_held held (values f))
  values_held [] = refl
  values_held (a ∷ f) = and_from (held a.0) (all_held held (values f)) a.1 (values_held f)

  pub lifted : (f : List C) → IsTrue (all_held held f) → List (Held held)
  lifted [] h = []
  lifted (a ∷ f) h = (a, (and_parts (held a) (all_held held f) h).0) ∷ lifted f (and_parts (held a) (all_held held f) h).1

  pub values-lifted : (f : List C) (h : IsTrue (all_held held f)) → values (lifted f h) ≡ f
  unfolding lifted
  values-lifted [] h = refl
  values-lifted (a ∷ f) h = ap (λ z. a ∷ z) (values-lifted f (and_parts (held a) (all_held held f) h).1)

  -- what holds of the values of lists of held elements holds of every held list
  pub each_list : (P : List C → Type 0) → ((f : List (Held held)) → P (values f)) → (f : List C) → IsTrue (all_held held f) → P f
  each_list P k f h = subst P (values-lifted f h) (k (lifted f h))

  -- lists with the same values are equal
  pub same_values : (f g : List (Held held)) → values f ≡ values g → f ≡ g
  same_values [] [] e = refl
  same_values [] (b ∷ g) e = absurd (omega (arith, ap length e))
  same_values (a ∷ f) [] e = absurd (omega (arith, ap length e))
  same_values (a ∷ f) (b ∷ g) e = ap₂ (λ y z. y ∷ z) (same_held held (head e)) (same_values f g (rest e))
    where
      head : a.0 ∷ values f ≡ b.0 ∷ values g → a.0 ≡ b.0
      head e = cc

      rest : a.0 ∷ values f ≡ b.0 ∷ values g → values f ≡ values g
      rest e = cc

module _ {C : Type 0} {held : C → Bool} {o : Ops C} (L : HeldLaws held o) where
  -- the value of a held element
  pub held_preserves : Preserves (held_ops L) o (λ a. a.0)
  held_preserves = record { keeps_zero = refl; keeps_one = refl; keeps_add = λ a b. refl; keeps_mul = λ a b. refl; keeps_neg = λ a. refl }

  -- the operations keep lists of held elements
  pub plus_held : (f g : List C) → IsTrue (all_held held f) → IsTrue (all_held held g) → IsTrue (all_held held (plus o f g))
  plus_held f g h k = each_list held (λ f. IsTrue (all_held held (plus o f g))) (λ f. each_list held (λ g. IsTrue (all_held held (plus o (values held f) g))) (λ g. subst (λ z. IsTrue (all_held held z)) (map_plus held_preserves f g) (values_held held (plus (held_ops L) f g))) g k) f h

  pub negated_held : (f : List C) → IsTrue (all_held held f) → IsTrue (all_held held (negated o f))
  negated_held = each_list held (λ f. IsTrue (all_held held (negated o f))) (λ f. subst (λ z. IsTrue (all_held held z)) (map_negated held_preserves f) (values_held held (negated (held_ops L) f)))

  pub scaled_held : (a : C) (f : List C) → IsTrue (held a) → IsTrue (all_held held f) → IsTrue (all_held held (scaled o a f))
  scaled_held a f h k = each_list held (λ f. IsTrue (all_held held (scaled o a f))) (λ f. subst (λ z. IsTrue (all_held held z)) (map_scaled held_preserves (a, h) f) (values_held held (scaled (held_ops L) (a, h) f))) f k

  pub times_held : (f g : List C) → IsTrue (all_held held f) → IsTrue (all_held held g) → IsTrue (all_held held (times o f g))
  times_held f g h k = each_list held (λ f. IsTrue (all_held held (times o f g))) (λ f. each_list held (λ g. IsTrue (all_held held (times o (values held f) g))) (λ g. subst (λ z. IsTrue (all_held held z)) (map_times held_preserves f g) (values_held held (times (held_ops L) f g))) g k) f h

  pub at_power_held : (k : ℕ) (f : List C) → IsTrue (all_held held f) → IsTrue (all_held held (at_power o k f))
  at_power_held k = each_list held (λ f. IsTrue (all_held held (at_power o k f))) (λ f. subst (λ z. IsTrue (all_held held z)) (map_at_power held_preserves k f) (values_held held (at_power (held_ops L) k f)))

  pub remainder_held : (g f : List C) → IsTrue (all_held held g) → IsTrue (all_held held f) → IsTrue (all_held held (remainder o g f))
  remainder_held g f h k = each_list held (λ g. IsTrue (all_held held (remainder o g f))) (λ g. each_list held (λ f. IsTrue (all_held held (remainder o (values held g) f))) (λ f. subst (λ z. IsTrue (all_held held z)) (map_remainder held_preserves g f) (values_held held (remainder (held_ops L) g f))) f k) g h

  pub quotient_held : (g f : List C) → IsTrue (all_held held g) → IsTrue (all_held held f) → IsTrue (all_held held (quotient_by o g f))
  quotient_held g f h k = each_list held (λ g. IsTrue (all_held held (quotient_by o g f))) (λ g. each_list held (λ f. IsTrue (all_held held (quotient_by o (values held g) f))) (λ f. subst (λ z. IsTrue (all_held held z)) (map_quotient_by held_preserves g f) (values_held held (quotient_by (held_ops L) g f))) f k) g h
