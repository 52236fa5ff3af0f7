-- Roots of unity and values at their powers among held elements: each law follows from the one over the ring of held elements.
use Rattle.std.specs.Prelude.{◌≡◌, ℕ, zero, suc, ◌*◌, ◌<◌, Bool, IsTrue, List, [], ◌∷◌, map, length, get_or, ℤ, refl}
use Rattle.std.proofs.Common.{sym, ◌∙◌, ap, ap₂, subst, arith}
use Rattle.std.proofs.lemmas.List.{length-map}
use mathlib.Core.Path.{fun_ext}
use Rattle.algebra.specs.Ring.{Ops, CommRing, HeldLaws, whole_numbers}
use Rattle.algebra.specs.Hom.{Hom, Preserves}
use Rattle.algebra.specs.Range.{total, adds}
use Rattle.algebra.specs.Power.{less, power, number, IsUnit}
use Rattle.algebra.specs.Divisor.{HasInverse, units}
use Rattle.algebra.specs.Poly.{all_held, value_at, remainder}
use Rattle.algebra.proofs.Integers.{whole_ring}
use Rattle.algebra.proofs.Units.{inverse_of_unit}
use Rattle.algebra.specs.HeldRing.{Held, held_ops}
use Rattle.algebra.proofs.Held.{same_held, held_ring}
use Rattle.algebra.proofs.Homs.{keeps_less, keeps_power, keeps_adds, keeps_number}
use Rattle.algebra.proofs.Maps.{map_value_at, map_remainder}
use Rattle.algebra.proofs.HeldLists.{values, values_held, lifted, values-lifted, held_preserves}
use Rattle.algebra.proofs.HeldQuotients.{held_hom}
use Rattle.cyclotomic.specs.Roots.{IsRoot, transform}
use Rattle.cyclotomic.specs.Cyclotomic.{phi, degree}
use Rattle.cyclotomic.specs.RootLaws.{HasHeldInverse, IsHeldRoot, RootsDiffer, IsRootPair, TransformLaw, KeepsValues, ValueLaw, HasValues, ValuesExist, ValuesDetermine}
use Rattle.cyclotomic.proofs.Roots.{root_apart, root_differences, transform_back, transform_forth}
use Rattle.cyclotomic.proofs.PhiValues.{phi_zero, value_fold, values_determine, from_values, from_values_length, from_values_at}

module _ {C : Type 0} {held : C → Bool} {o : Ops C} (L : HeldLaws held o) where
  abbrev H : CommRing
  H = held_ring L

  abbrev K : Preserves (held_ops L) o (λ a. a.0)
  K = held_preserves L

  -- an inverse, in the two forms
  to_unit : (a : Held held) → HasHeldInverse held o a.0 → IsUnit H.ops a
  to_unit a (c, h, e) = ((c, h), same_held held (sym e))

  from_unit : (a : Held held) (x : C) → a.0 ≡ x → IsUnit H.ops a → HasHeldInverse held o x
  from_unit a x e (c, f) = (c.0, c.1, ap (λ z. o.mul z c.0) (sym e) ∙ sym (ap (λ z. z.0) f))

  difference : (w : Held held) (i j : ℕ) → (less H.ops (power H.ops w i) (power H.ops w j)).0 ≡ less o (power o w.0 i) (power o w.0 j)
  difference w i j = keeps_less K (power H.ops w i) (power H.ops w j) ∙ ap₂ (less o) (keeps_power K w i) (keeps_power K w j)

  from_one : (w : Held held) (k : ℕ) → (less H.ops (power H.ops w k) H.one).0 ≡ less o (power o w.0 k) o.one
  from_one w k = keeps_less K (power H.ops w k) H.one ∙ ap (λ z. less o z o.one) (keeps_power K w k)

  to_root : (w : C) (m : ℕ) (r : IsHeldRoot held o w m) → IsRoot H.ops (w, r.held_root) m
  to_root w m r = record { root = same_held held (keeps_power K (w, r.held_root) m ∙ r.root); at_divisors = λ k p l d. to_unit (less H.ops (power H.ops (w, r.held_root) k) H.one) (subst (HasHeldInverse held o) (sym (from_one (w, r.held_root) k)) (r.at_divisors k p l d)) }

  -- a root above 0 has an inverse, its power below the order
  root_inverse : (w : Held held) (m : ℕ) → IsRoot H.ops w (suc m) → H.mul w (power H.ops w m) ≡ H.one
  root_inverse w m r = r.root

  pub roots_differ : RootsDiffer held o
  roots_differ w zero i j p r l s = absurd (omega arith)
  roots_differ w (suc m) i j p r l s = from_unit (less H.ops (power H.ops w' i) (power H.ops w' j)) (less o (power o w i) (power o w j)) (difference w' i j) (root_apart H w' (power H.ops w' m) (suc m) (root_inverse w' m (to_root w (suc m) r)) (to_root w (suc m) r) i j s (omega arith))
    where
      w' : Held held
      w' = (w, r.held_root)

  transform_is : (w : Held held) (m : ℕ) (a : ℕ → Held held) (k : ℕ) → (transform H.ops w m a k).0 ≡ transform o w.0 m (λ i. (a i).0) k
  transform_is w m a k = keeps_adds K m (λ i. H.mul (a i) (power H.ops w (k * i))) ∙ ap (total (adds o) m) (fun_ext (λ i. ap (o.mul (a i).0) (keeps_power K w (k * i))))

  pub transform_law : TransformLaw held o
  transform_law w v m a p r h = record {
    back = λ k l. sym (twice v' w' k) ∙ ap (λ z. z.0) (transform_back H w' v' m inverse root.root (λ t q s. root_differences H w' m root t q s) a' k l) ∙ ap (o.mul (a k)) (keeps_number K m);
    forth = λ k l. sym (twice w' v' k) ∙ ap (λ z. z.0) (transform_forth H w' v' m inverse root a' k l) ∙ ap (o.mul (a k)) (keeps_number K m);
  }
    where
      w' : Held held
      w' = (w, r.is_root.held_root)

      v' : Held held
      v' = (v, r.held_inverse)

      a' : ℕ → Held held
      a' i = (a i, h i)

      inverse : H.mul w' v' ≡ H.one
      inverse = same_held held r.inverse

      root : IsRoot H.ops w' m
      root = to_root w m r.is_root

      twice : (x y : Held held) (k : ℕ) → (transform H.ops x m (transform H.ops y m a') k).0 ≡ transform o x.0 m (transform o y.0 m a) k
      twice x y k = transform_is x m (transform H.ops y m a') k ∙ ap (λ b. transform o x.0 m b k) (fun_ext (transform_is y m a'))

  value_is : (w : Held held) (j : ℕ) (a : List (Held held)) → (value_at H.ops (power H.ops w j) a).0 ≡ value_at o (power o w.0 j) (values held a)
  value_is w j a = map_value_at K (power H.ops w j) a ∙ ap (λ x. value_at o x (values held a)) (keeps_power K w j)

  module _ (f : ℤ → C) (P : Preserves whole_numbers o f) (into : (a : ℤ) → IsTrue (held (f a))) where
    F : Hom whole_ring H
    F = held_hom L whole_ring f P into

    mapped : (a : List ℤ) → values held (map F.map a) ≡ map f a
    unfolding F
    mapped [] = refl
    mapped (b ∷ a) = ap (λ z. f b ∷ z) (mapped a)

    keeps_values : (w v : C) (k j : ℕ) → IsRootPair held o w v (suc k) → HasInverse (suc k) j → KeepsValues held o f w (suc k) j
    keeps_values w v k j r unit = record {
      zero = ap (value_at o (power o w j)) (sym (mapped (phi (suc k)))) ∙ sym (value_is w' j (map F.map (phi (suc k)))) ∙ ap (λ z. z.0) (phi_zero H F k w' v' inverse root j unit);
      remainder = λ a h. ap (λ b. value_at o (power o w j) (remainder o (map f (phi (suc k))) b)) (sym (values-lifted held a h)) ∙ of_values (lifted held a h) ∙ ap (value_at o (power o w j)) (values-lifted held a h);
    }
      where
        w' : Held held
        w' = (w, r.is_root.held_root)

        v' : Held held
        v' = (v, r.held_inverse)

        inverse : H.mul w' v' ≡ H.one
        inverse = same_held held r.inverse

        root : IsRoot H.ops w' (suc k)
        root = to_root w (suc k) r.is_root

        of_values : (a : List (Held held)) → value_at o (power o w j) (remainder o (map f (phi (suc k))) (values held a)) ≡ value_at o (power o w j) (values held a)
        of_values a = ap (λ g. value_at o (power o w j) (remainder o g (values held a))) (sym (mapped (phi (suc k)))) ∙ ap (value_at o (power o w j)) (sym (map_remainder K (map F.map (phi (suc k))) a)) ∙ sym (value_is w' j (remainder H.ops (map F.map (phi (suc k))) a)) ∙ ap (λ z. z.0) (value_fold H F k w' v' inverse root j unit a) ∙ value_is w' j a

    values_exist : (w v : C) (k : ℕ) (b : ℕ → C) → 0 < k → IsRootPair held o w v (suc k) → HasHeldInverse held o (number o (suc k)) → ((i : ℕ) → IsTrue (held (b i))) → (a : List C) × HasValues held o w (suc k) b a
    values_exist w v k b p r (c, hc, e) h = (
      values held a,
      record {
        long = length-map a (λ x. x.0) ∙ from_values_length H F k w' v' inverse root c' scale b';
        is_held = values_held held a;
        values = λ i l. sym (value_is w' (get_or (units (suc k)) i 0) a) ∙ ap (λ z. z.0) (from_values_at H F k w' v' inverse root c' scale p b' i l);
      },
    )
      where
        w' : Held held
        w' = (w, r.is_root.held_root)

        v' : Held held
        v' = (v, r.held_inverse)

        inverse : H.mul w' v' ≡ H.one
        inverse = same_held held r.inverse

        root : IsRoot H.ops w' (suc k)
        root = to_root w (suc k) r.is_root

        c' : Held held
        c' = (c, hc)

        scale : H.mul c' (number H.ops (suc k)) ≡ H.one
        scale = H.mul_comm c' (number H.ops (suc k)) ∙ same_held held (ap (λ z. o.mul z c) (keeps_number K (suc k)) ∙ e)

        b' : ℕ → Held held
        b' i = (b i, h i)

        a : List (Held held)
        a = from_values H F k w' v' inverse root c' scale b'

  pub value_law : ValueLaw held o
  value_law f w v zero j P into p r q u = absurd (omega arith)
  value_law f w v (suc k) j P into p r q u = keeps_values f P into w v k j r (inverse_of_unit (suc k) j p q u)

  pub values_exist_law : ValuesExist held o
  values_exist_law f w v zero b P into p r c h = absurd (omega arith)
  values_exist_law f w v (suc k) b P into p r c h = values_exist f P into w v k b (omega arith) r c h

  pub values_determine_law : ValuesDetermine held o
  values_determine_law w v zero b a c p r x y = absurd (omega arith)
  values_determine_law w v (suc k) b a c p r x y = sym (values-lifted held a x.is_held) ∙ ap (values held) same ∙ values-lifted held c y.is_held
    where
      w' : Held held
      w' = (w, r.is_root.held_root)

      v' : Held held
      v' = (v, r.held_inverse)

      long : (a : List C) (h : IsTrue (all_held held a)) → length a ≡ degree (suc k) → length (lifted held a h) ≡ degree (suc k)
      long a h e = sym (length-map (lifted held a h) (λ z. z.0)) ∙ ap length (values-lifted held a h) ∙ e

      at : (a : List C) (h : IsTrue (all_held held a)) (j : ℕ) → (value_at H.ops (power H.ops w' j) (lifted held a h)).0 ≡ value_at o (power o w j) a
      at a h j = value_is w' j (lifted held a h) ∙ ap (value_at o (power o w j)) (values-lifted held a h)

      same : lifted held a x.is_held ≡ lifted held c y.is_held
      same = values_determine H k w' v' (same_held held r.inverse) (to_root w (suc k) r.is_root) (lifted held a x.is_held) (lifted held c y.is_held) (long a x.is_held x.long) (long c y.is_held y.long) (λ i l. same_held held (at a x.is_held (get_or (units (suc k)) i 0) ∙ x.values i l ∙ sym (y.values i l) ∙ sym (at c y.is_held (get_or (units (suc k)) i 0))))
