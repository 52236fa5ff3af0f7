-- The laws of the texts of arrays.
use Rattle.std.proofs.Common.{◌≡◌, ◌↔◌, ◌≢◌, ℕ, zero, suc, ◌+◌, ◌^◌, ◌<◌, ◌≤◌, ◌⊎◌, inl, inr, List, [], ◌∷◌, length, take, get_or, Option, Some, None, Ok, Err, Bool, true, false, eqb, eqb-true, refl, ap, ap₂, sym, ◌∙◌, subst, arith}
use Rattle.std.specs.Prelude.{All}
use Rattle.std.specs.List.{AllZip}
use Rattle.std.proofs.Math.Seq.{take-length}
use Rattle.std.proofs.lemmas.Bool.{eqb-false}
use Rattle.std.proofs.lemmas.List.{length-take-le, get_or-take}
use Rattle.std.proofs.lemmas.List.Elements.{AllZip-get_or}
use Rattle.line_text.specs.Lines.{lines_of}
use Rattle.hyper_cube.specs.Torus.{Torus, slot_count}
use Rattle.hyper_cube.specs.Checks.{IsCube}
use Rattle.hyper_cube.proofs.Axed.{slots_small}
use Rattle.ext_field.specs.Element.{Extension, IsElement}
use Rattle.slot_array.specs.Arrays.{Array, IsArray}
use Rattle.slot_array.specs.SlotsText.{element_of, elements_from, slots_of, WritesElement, WritesArray, IsWrong, IsFault, AreFirst}
use Rattle.slot_array.specs.declared.texts.SlotsFault.TheVariants.{Bad}
use Rattle.slot_array.proofs.ReadLines.{element_to, element_from, Writes, Stops, Before, elements_ok, elements_err, ok_elements, err_elements}

module _ (f : Extension) where
  all_to : (L a : List (List ℕ)) → AllZip (Writes f) L a → AllZip (WritesElement f) L a
  all_to [] [] h = tt
  all_to [] (x ∷ a) h = absurd h
  all_to (line ∷ L) [] h = absurd h
  all_to (line ∷ L) (x ∷ a) h = (element_to f line x h.0, all_to L a h.1)

  all_from : (L a : List (List ℕ)) → AllZip (WritesElement f) L a → AllZip (Writes f) L a
  all_from [] [] h = tt
  all_from [] (x ∷ a) h = absurd h
  all_from (line ∷ L) [] h = absurd h
  all_from (line ∷ L) (x ∷ a) h = (element_from f line x h.0, all_from L a h.1)

  pub written_elements : (L a : List (List ℕ)) → AllZip (WritesElement f) L a → All (λ x. IsElement f x) a
  written_elements L [] h k d l = absurd (omega arith)
  written_elements [] (x ∷ a) h k d l = absurd h
  written_elements (line ∷ L) (x ∷ a) h zero d l = h.0.element
  written_elements (line ∷ L) (x ∷ a) h (suc k) d l = written_elements L a h.1 k d (omega arith)

  pub read_law : (c : Torus) (text : List ℕ) (a : Array) → (slots_of f c text ≡ Ok a) ↔ WritesArray f c text a
  unfolding slots_of
  read_law c text a = (to, from)
    where
      to : elements_from f 1 (slot_count c) (lines_of text) ≡ Ok a → WritesArray f c text a
      to e = let w = ok_elements f 1 (slot_count c) (lines_of text) a e in record { long = w.0; lines = all_to (lines_of text) a w.1 }

      from : WritesArray f c text a → elements_from f 1 (slot_count c) (lines_of text) ≡ Ok a
      from h = elements_ok f 1 (slot_count c) (lines_of text) a h.long (all_from (lines_of text) a h.lines)

  pub array_law : (c : Torus) (text : List ℕ) (a : Array) → WritesArray f c text a → IsArray f c a
  array_law c text a h = record { long = h.long; elements = written_elements (lines_of text) a h.lines }

  -- a line that writes no element
  none_to : (line : List ℕ) → element_of f line ≡ None → (x : List ℕ) → WritesElement f line x → ⊥
  none_to line e x h = let some : element_of f line ≡ Some x = element_from f line x h in absurd (cc)

  none_from : (line : List ℕ) → ((x : List ℕ) → WritesElement f line x → ⊥) → element_of f line ≡ None
  none_from line h = go (element_of f line) refl
    where
      go : (o : Option (List ℕ)) → element_of f line ≡ o → element_of f line ≡ None
      go None e = e
      go (Some x) e = absurd (h x (element_to f line x e))

  wrong_to : (n : ℕ) (L : List (List ℕ)) (k : ℕ) → Stops f n L k → IsWrong f n L k
  wrong_to n L k (inl s) = inl s
  wrong_to n L k (inr (inl s)) = inr (inl s)
  wrong_to n L k (inr (inr s)) = inr (inr (s.0, s.1, none_to (get_or L k []) s.2))

  wrong_from : (n : ℕ) (L : List (List ℕ)) (k : ℕ) → IsWrong f n L k → Stops f n L k
  wrong_from n L k (inl s) = inl s
  wrong_from n L k (inr (inl s)) = inr (inl s)
  wrong_from n L k (inr (inr s)) = inr (inr (s.0, s.1, none_from (get_or L k []) s.2))

  pub fault_law : (c : Torus) (text : List ℕ) (k : ℕ) → (slots_of f c text ≡ Err (suc k)) ↔ IsFault f (slot_count c) (lines_of text) k
  unfolding slots_of
  fault_law c text k = (to, from)
    where
      to : elements_from f 1 (slot_count c) (lines_of text) ≡ Err (suc k) → IsFault f (slot_count c) (lines_of text) k
      to e = let w = err_elements f 1 (slot_count c) (lines_of text) (suc k) e in let same : w.0 ≡ k = omega (arith, w.1) in subst (IsFault f (slot_count c) (lines_of text)) same (record { wrong = wrong_to (slot_count c) (lines_of text) w.0 w.2; before = λ j l. let b = w.3 j l in (b.0, b.1, (b.2.0, element_to f (get_or (lines_of text) j []) b.2.0 b.2.1)) })

      from : IsFault f (slot_count c) (lines_of text) k → elements_from f 1 (slot_count c) (lines_of text) ≡ Err (suc k)
      from h = elements_err f 1 (slot_count c) (lines_of text) k (λ j l. let b = h.before j l in (b.0, b.1, (b.2.0, element_from f (get_or (lines_of text) j []) b.2.0 b.2.1))) (wrong_from (slot_count c) (lines_of text) k h.wrong) ∙ ap Err (omega arith)

  pub numbered_law : (c : Torus) (text : List ℕ) → slots_of f c text ≢ Err 0
  unfolding slots_of
  numbered_law c text e = let w = err_elements f 1 (slot_count c) (lines_of text) 0 e in omega (arith, w.1)

  pub line_law : (line x : List ℕ) → (element_of f line ≡ Some x) ↔ WritesElement f line x
  line_law line x = (element_to f line x, element_from f line x)

  -- what reading has found: the elements of the first lines
  module _ (c : Torus) (text : List ℕ) (n : ℕ) (n_is : n ≡ slot_count c) (L a : List (List ℕ)) (L_is : L ≡ lines_of text) (A : AreFirst f n L a) where
    pub read_all : n ≤ length a → length L ≤ n → slots_of f c text ≡ Ok a
    unfolding slots_of
    read_all low high = ap₂ (elements_from f 1) (sym n_is) (sym L_is) ∙ elements_ok f 1 n L a (omega (arith, A.few)) (subst (λ M. AllZip (Writes f) M a) (ap (λ k. take k L) whole ∙ take-length L) A.written)
      where
        whole : length a ≡ length L
        whole = omega (arith, A.fit, A.few, low, high)

    pub read_fault : (length a < n) ⊎ (n < length L) → slots_of f c text ≡ Err (length a + 1)
    unfolding slots_of
    read_fault h = ap₂ (elements_from f 1) (sym n_is) (sym L_is) ∙ elements_err f 1 n L (length a) before (stop h) ∙ ap Err (omega arith)
      where
        before : Before f n L (length a)
        before j l = (omega (arith, l, A.few), omega (arith, l, A.fit), (get_or a j [], subst (λ line. Writes f line (get_or a j [])) (get_or-take (length a) L j [] l) (AllZip-get_or (Writes f) (take (length a) L) a j [] [] A.written (omega (arith, l, length-take-le (length a) L A.fit)))))

        at_line : (b : Bool) → eqb (length a) (length L) ≡ b → length a < n → Stops f n L (length a)
        at_line true e l = inl (l, eqb-true (length a) (length L) e)
        at_line false e l = let m : length a < length L = omega (arith, eqb-false (length a) (length L) e, A.fit) in inr (inr (l, m, A.stops l m))

        at_slot : (b : Bool) → eqb (length a) n ≡ b → n < length L → Stops f n L (length a)
        at_slot true e l = inr (inl (eqb-true (length a) n e, omega (arith, eqb-true (length a) n e, l)))
        at_slot false e l = let m : length a < n = omega (arith, eqb-false (length a) n e, A.few) in inr (inr (m, omega (arith, m, l), A.stops m (omega (arith, m, l))))

        stop : (length a < n) ⊎ (n < length L) → Stops f n L (length a)
        stop (inl l) = at_line (eqb (length a) (length L)) refl l
        stop (inr l) = at_slot (eqb (length a) n) refl l

-- the number of the line at fault fits
pub fault_fits : (f : Extension) (c : Torus) → IsCube c → (n : ℕ) → n ≡ slot_count c → (L a : List (List ℕ)) → AreFirst f n L a → (k : ℕ) → k ≡ length a → k + 1 < 2 ^ 32
fault_fits f c C n n_is L a A k k_is = omega (arith, A.few, n_is, k_is, slots_small c C)

-- the line that code names
pub named_line : (f : Extension) (c : Torus) (text : List ℕ) (n : ℕ) → n ≡ slot_count c → (L a : List (List ℕ)) → L ≡ lines_of text → AreFirst f n L a → (k : ℕ) → k ≡ length a → (length a < n) ⊎ (n < length L) → (line : ℕ) → Bad (k + 1) ≡ Bad line → slots_of f c text ≡ Err line
named_line f c text n n_is L a L_is A k k_is h line e = let same : k + 1 ≡ line = cc in read_fault f c text n n_is L a L_is A h ∙ ap Err (omega (arith, same, k_is))
