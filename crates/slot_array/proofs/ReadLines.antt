-- What the lines of a text write: the relations behind the functions.
use Rattle.std.proofs.Common.{◌≡◌, ℕ, zero, suc, ◌+◌, ◌<◌, ◌≤◌, ◌⊎◌, inl, inr, Bool, true, false, List, [], ◌∷◌, ◌++◌, map, length, take, drop, decimal, append_assoc, get_or, Option, Some, None, Ok, Err, Result, refl, ap, ap₂, sym, ◌∙◌, subst, subst₂, arith}
use Rattle.std.specs.Prelude.{nat_lt, nat_eq, ◌==◌, ◌&&◌, option_map, option_and_then, if◌then◌else◌}
use Rattle.std.specs.Option.{option_map_or}
use Rattle.std.specs.List.{AllZip, list_all, join_with_byte}
use Rattle.std.proofs.lemmas.List.{length-map, take_more, get_or-map, drop_all, append-nil}
use Rattle.std.proofs.Math.Seq.{drop-cons}
use Rattle.std.proofs.lemmas.List.Elements.{AllZip-push}
use Rattle.algebra.specs.Poly.{all_held}
use Rattle.line_text.specs.Words.{words_of}
use Rattle.line_text.specs.Numbers.{number_of}
use Rattle.ext_field.specs.Element.{Extension, IsElement, is_element, degree}
use Rattle.slot_array.specs.Arrays.{Array}
use Rattle.slot_array.specs.SlotsText.{numbers_of, element_of, with_first, elements_from, WritesElement, element_text}

-- the numbers of words
abbrev pub WritesNumber : List ℕ → ℕ → Type 0
WritesNumber word number = number_of word ≡ Some number

pub numbers_to : (words : List (List ℕ)) (x : List ℕ) → numbers_of words ≡ Some x → AllZip WritesNumber words x
numbers_to [] [] e = tt
numbers_to [] (n ∷ x) e = absurd (cc)
numbers_to (word ∷ words) x e = first (number_of word) refl (numbers_of words) (numbers_to words) e
  where
    first : (o : Option ℕ) → number_of word ≡ o → (r : Option (List ℕ)) → ((y : List ℕ) → r ≡ Some y → AllZip WritesNumber words y) → option_and_then (λ n. option_map (λ y. n ∷ y) r) o ≡ Some x → AllZip WritesNumber (word ∷ words) x
    first None h r k e = absurd (cc)
    first (Some n) h None k e = absurd (cc)
    first (Some n) h (Some y) k e = let x_is : n ∷ y ≡ x = cc in subst (AllZip WritesNumber (word ∷ words)) x_is (h, k y refl)

pub numbers_from : (words : List (List ℕ)) (x : List ℕ) → AllZip WritesNumber words x → numbers_of words ≡ Some x
numbers_from [] [] h = refl
numbers_from [] (n ∷ x) h = absurd h
numbers_from (word ∷ words) [] h = absurd h
numbers_from (word ∷ words) (n ∷ x) h = ap (option_and_then (λ n. option_map (λ y. n ∷ y) (numbers_of words))) h.0 ∙ ap (option_map (λ y. n ∷ y)) (numbers_from words x h.1)

module _ (f : Extension) where
  -- a line and the element that it writes
  pub element_to : (line x : List ℕ) → element_of f line ≡ Some x → WritesElement f line x
  unfolding element_of
  element_to line x e = first (numbers_of (words_of line)) refl e
    where
      kept : (y : List ℕ) (b : Bool) → is_element f y ≡ b → (if b then Some y else None) ≡ Some x → IsElement f x × (y ≡ x)
      kept y true h e = let same : y ≡ x = cc in (subst (IsElement f) same h, same)
      kept y false h e = absurd (cc)

      first : (r : Option (List ℕ)) → numbers_of (words_of line) ≡ r → option_and_then (λ y. if is_element f y then Some y else None) r ≡ Some x → WritesElement f line x
      first None h e = absurd (cc)
      first (Some y) h e = let k : IsElement f x × (y ≡ x) = kept y (is_element f y) refl e in record { element = k.0; words = subst (AllZip WritesNumber (words_of line)) k.1 (numbers_to (words_of line) y h) }

  pub element_from : (line x : List ℕ) → WritesElement f line x → element_of f line ≡ Some x
  unfolding element_of
  element_from line x h = ap (option_and_then (λ y. if is_element f y then Some y else None)) (numbers_from (words_of line) x h.words) ∙ ap (λ b. if b then Some x else None) h.element

  abbrev pub Writes : List ℕ → List ℕ → Type 0
  Writes line x = element_of f line ≡ Some x

  -- the line after k lines is missing, one too many, or writes none
  abbrev pub Stops : ℕ → List (List ℕ) → ℕ → Type 0
  Stops n L k = (k < n) × (k ≡ length L) ⊎ (k ≡ n) × (k < length L) ⊎ (k < n) × (k < length L) × (element_of f (get_or L k []) ≡ None)

  abbrev pub Before : ℕ → List (List ℕ) → ℕ → Type 0
  Before n L k = (j : ℕ) → j < k → (j < n) × (j < length L) × ((x : List ℕ) × Writes (get_or L j []) x)

  pub elements_ok : (i n : ℕ) (L a : List (List ℕ)) → length a ≡ n → AllZip Writes L a → elements_from f i n L ≡ Ok a
  elements_ok i zero [] [] e h = refl
  elements_ok i (suc n) [] [] e h = absurd (omega arith)
  elements_ok i n (line ∷ L) [] e h = absurd h
  elements_ok i n [] (x ∷ a) e h = absurd h
  elements_ok i zero (line ∷ L) (x ∷ a) e h = absurd (omega arith)
  elements_ok i (suc n) (line ∷ L) (x ∷ a) e h = ap (λ o. option_map_or (λ y. with_first y (elements_from f (suc i) n L)) o (Err i)) h.0 ∙ ap (with_first x) (elements_ok (suc i) n L a (omega (arith, e)) h.1)

  pub elements_err : (i n : ℕ) (L : List (List ℕ)) (k : ℕ) → Before n L k → Stops n L k → elements_from f i n L ≡ Err (i + k)
  elements_err i zero [] zero b (inl s) = absurd (omega (arith, s.0))
  elements_err i zero [] zero b (inr (inl s)) = absurd (omega (arith, s.1))
  elements_err i zero [] zero b (inr (inr s)) = absurd (omega (arith, s.0))
  elements_err i (suc n) [] zero b s = ap Err (omega arith)
  elements_err i zero (line ∷ L) zero b s = ap Err (omega arith)
  elements_err i (suc n) (line ∷ L) zero b (inl s) = absurd (omega (arith, s.1))
  elements_err i (suc n) (line ∷ L) zero b (inr (inl s)) = absurd (omega (arith, s.0))
  elements_err i (suc n) (line ∷ L) zero b (inr (inr s)) = ap (λ o. option_map_or (λ y. with_first y (elements_from f (suc i) n L)) o (Err i)) s.2 ∙ ap Err (omega arith)
  elements_err i zero L (suc k) b s = absurd (omega (arith, (b 0 (omega arith)).0))
  elements_err i (suc n) [] (suc k) b s = absurd (omega (arith, (b 0 (omega arith)).1))
  elements_err i (suc n) (line ∷ L) (suc k) b s = ap (λ o. option_map_or (λ y. with_first y (elements_from f (suc i) n L)) o (Err i)) (b 0 (omega arith)).2.1 ∙ ap (with_first (b 0 (omega arith)).2.0) (elements_err (suc i) n L k (λ j l. lower j (b (suc j) (omega arith))) (down s)) ∙ ap Err (omega arith)
    where
      lower : (j : ℕ) → (suc j < suc n) × (suc j < length (line ∷ L)) × ((x : List ℕ) × Writes (get_or (line ∷ L) (suc j) []) x) → (j < n) × (j < length L) × ((x : List ℕ) × Writes (get_or L j []) x)
      lower j w = (omega (arith, w.0), omega (arith, w.1), w.2)

      down : Stops (suc n) (line ∷ L) (suc k) → Stops n L k
      down (inl s) = inl (omega (arith, s.0), omega (arith, s.1))
      down (inr (inl s)) = inr (inl (omega (arith, s.0), omega (arith, s.1)))
      down (inr (inr s)) = inr (inr (omega (arith, s.0), omega (arith, s.1), s.2))

  pub ok_elements : (i n : ℕ) (L a : List (List ℕ)) → elements_from f i n L ≡ Ok a → (length a ≡ n) × AllZip Writes L a
  ok_elements i zero [] a e = let a_is : [] ≡ a = cc in subst (λ a. (length a ≡ 0) × AllZip Writes [] a) a_is (refl, tt)
  ok_elements i (suc n) [] a e = absurd (cc)
  ok_elements i zero (line ∷ L) a e = absurd (cc)
  ok_elements i (suc n) (line ∷ L) a e = first (element_of f line) refl (elements_from f (suc i) n L) (ok_elements (suc i) n L) e
    where
      first : (o : Option (List ℕ)) → element_of f line ≡ o → (r : Result Array ℕ) → ((a : Array) → r ≡ Ok a → (length a ≡ n) × AllZip Writes L a) → option_map_or (λ y. with_first y r) o (Err i) ≡ Ok a → (length a ≡ suc n) × AllZip Writes (line ∷ L) a
      first None h r k e = absurd (cc)
      first (Some x) h (Err j) k e = absurd (cc)
      first (Some x) h (Ok b) k e = let a_is : x ∷ b ≡ a = cc in subst (λ a. (length a ≡ suc n) × AllZip Writes (line ∷ L) a) a_is (omega (arith, (k b refl).0), (h, (k b refl).1))

  pub err_elements : (i n : ℕ) (L : List (List ℕ)) (j : ℕ) → elements_from f i n L ≡ Err j → (k : ℕ) × (j ≡ i + k) × Stops n L k × Before n L k
  err_elements i zero [] j e = absurd (cc)
  err_elements i (suc n) [] j e = let same : i ≡ j = cc in (0, omega (arith, same), inl (omega arith, refl), λ k l. absurd (omega arith))
  err_elements i zero (line ∷ L) j e = let same : i ≡ j = cc in (0, omega (arith, same), inr (inl (refl, omega arith)), λ k l. absurd (omega arith))
  err_elements i (suc n) (line ∷ L) j e = first (element_of f line) refl (elements_from f (suc i) n L) (err_elements (suc i) n L) e
    where
      up : (k : ℕ) → Stops n L k → Stops (suc n) (line ∷ L) (suc k)
      up k (inl s) = inl (omega (arith, s.0), omega (arith, s.1))
      up k (inr (inl s)) = inr (inl (omega (arith, s.0), omega (arith, s.1)))
      up k (inr (inr s)) = inr (inr (omega (arith, s.0), omega (arith, s.1), s.2))

      raise : (k : ℕ) (x : List ℕ) → Writes line x → Before n L k → Before (suc n) (line ∷ L) (suc k)
      raise k x h b zero l = (omega arith, omega arith, (x, h))
      raise k x h b (suc j) l = let w = b j (omega arith) in (omega (arith, w.0), omega (arith, w.1), w.2)

      first : (o : Option (List ℕ)) → element_of f line ≡ o → (r : Result Array ℕ) → ((j : ℕ) → r ≡ Err j → (k : ℕ) × (j ≡ suc i + k) × Stops n L k × Before n L k) → option_map_or (λ y. with_first y r) o (Err i) ≡ Err j → (k : ℕ) × (j ≡ i + k) × Stops (suc n) (line ∷ L) k × Before (suc n) (line ∷ L) k
      first None h r k e = let same : i ≡ j = cc in (0, omega (arith, same), inr (inr (omega arith, omega arith, h)), λ l m. absurd (omega arith))
      first (Some x) h (Ok b) k e = absurd (cc)
      first (Some x) h (Err l) k e = let same : l ≡ j = cc in let w = k l refl in (suc w.0, omega (arith, same, w.1), up w.0 w.2, raise w.0 x h w.3)

-- what code has tested of a line
module _ (f : Extension) (p d : ℕ) (p_is : p ≡ f.p) (d_is : d ≡ degree f) (line : List ℕ) (words : List (List ℕ)) (words_are : words ≡ words_of line) (x : List ℕ) (x_is : Some x ≡ numbers_of words) where
  tested_all : (x : List ℕ) → list_all (λ n. nat_lt n p) x ≡ all_held (λ n. nat_lt n f.p) x
  tested_all [] = refl
  tested_all (n ∷ x) = ap₂ (λ a b. a && b) (ap (nat_lt n) p_is) (tested_all x)

  tested : (b : Bool) → b ≡ (length x == d && list_all (λ n. nat_lt n p) x) → is_element f x ≡ b
  tested b b_is = sym (b_is ∙ ap₂ (λ a c. a && c) (ap (nat_eq (length x)) d_is) (tested_all x))

  line_is : element_of f line ≡ (if is_element f x then Some x else None)
  unfolding element_of
  line_is = ap (option_and_then (λ y. if is_element f y then Some y else None)) (ap numbers_of (sym words_are) ∙ sym x_is)

  pub line_refused : false ≡ (length x == d && list_all (λ n. nat_lt n p) x) → None ≡ element_of f line
  line_refused h = sym (line_is ∙ ap (λ b. if b then Some x else None) (tested false h))

  pub line_taken : true ≡ (length x == d && list_all (λ n. nat_lt n p) x) → (Some x ≡ element_of f line) × IsElement f x
  line_taken h = (sym (line_is ∙ ap (λ b. if b then Some x else None) (tested true h)), tested true h)

-- one line more
pub line_more : {X : Type 0} (g : X → List ℕ) (f : Extension) (lines : List X) (i : ℕ) (line : X) (xs ys : Array) (o : Option (List ℕ)) (bytes x : List ℕ) → i < length lines → line ≡ get_or lines i line → AllZip (λ line x. element_of f line ≡ Some x) (take i (map g lines)) xs → bytes ≡ g line → o ≡ element_of f bytes → o ≡ Some x → ys ≡ xs ++ x ∷ [] → AllZip (λ line x. element_of f line ≡ Some x) (take (i + 1) (map g lines)) ys
line_more g f lines i line xs ys o bytes x l there h bytes_are o_is found ys_is = subst₂ (AllZip (Writes f)) (sym longer) (sym ys_is) (AllZip-push (Writes f) (take i (map g lines)) xs (g line) x h (ap (element_of f) (sym bytes_are) ∙ sym o_is ∙ found))
  where
    longer : take (i + 1) (map g lines) ≡ take i (map g lines) ++ g line ∷ []
    longer = take_more (map g lines) i (g line) (omega (arith, length-map lines g, l)) ∙ ap (λ y. take i (map g lines) ++ y ∷ []) (get_or-map g lines i line (g line) l ∙ ap g (sym there))

-- the printed numbers from number i on
text_drop : (x : List ℕ) (i : ℕ) → i < length x → element_text (drop i x) ≡ join_with_byte 32 (decimal (get_or x i 0) ∷ map decimal (drop (suc i) x))
text_drop x i l = ap (λ y. join_with_byte 32 (map decimal y)) (drop-cons x i 0 l)

after : (i : ℕ) → suc i ≡ i + 1
after i = omega arith

pub text_next : (x : List ℕ) (i : ℕ) → i + 1 < length x → element_text (drop i x) ≡ decimal (get_or x i 0) ++ 32 ∷ element_text (drop (i + 1) x)
text_next x i l = text_drop x i (omega arith) ∙ ap (λ y. join_with_byte 32 (decimal (get_or x i 0) ∷ map decimal y)) next ∙ ap (λ y. decimal (get_or x i 0) ++ 32 ∷ join_with_byte 32 (map decimal y)) (sym next ∙ ap (λ n. drop n x) (after i))
  where
    within : suc i < length x
    within = omega arith

    next : drop (suc i) x ≡ get_or x (suc i) 0 ∷ drop (suc (suc i)) x
    next = drop-cons x (suc i) 0 within

pub text_last : (x : List ℕ) (i : ℕ) → i < length x → length x ≤ i + 1 → (element_text (drop i x) ≡ decimal (get_or x i 0)) × (element_text (drop (i + 1) x) ≡ [])
text_last x i l last = (text_drop x i l ∙ ap (λ y. join_with_byte 32 (decimal (get_or x i 0) ∷ map decimal y)) (ap (λ n. drop n x) (after i) ∙ none), ap (λ y. join_with_byte 32 (map decimal y)) none)
  where
    none : drop (i + 1) x ≡ []
    none = drop_all (i + 1) x last

regroup : (s t u : List ℕ) → ((s ++ t) ++ 32 ∷ []) ++ u ≡ s ++ (t ++ 32 ∷ u)
regroup s t u = simp append_assoc

-- one number more, with a space after it, or the last one
pub put_next : (x : List ℕ) (i : ℕ) (s t u : List ℕ) (whole : List ℕ) → i + 1 < length x → s ++ element_text (drop i x) ≡ whole → t ≡ s ++ decimal (get_or x i 0) → u ≡ t ++ 32 ∷ [] → u ++ element_text (drop (i + 1) x) ≡ whole
put_next x i s t u whole l inv t_is u_is = ap (λ y. y ++ element_text (drop (i + 1) x)) (u_is ∙ ap (λ y. y ++ 32 ∷ []) t_is) ∙ regroup s (decimal (get_or x i 0)) (element_text (drop (i + 1) x)) ∙ ap (λ y. s ++ y) (sym (text_next x i l)) ∙ inv

pub put_last : (x : List ℕ) (i : ℕ) (s t : List ℕ) (whole : List ℕ) → i < length x → length x ≤ i + 1 → s ++ element_text (drop i x) ≡ whole → t ≡ s ++ decimal (get_or x i 0) → t ++ element_text (drop (i + 1) x) ≡ whole
put_last x i s t whole l last inv t_is = ap₂ (λ y z. y ++ z) t_is (text_last x i l last).1 ∙ append-nil (s ++ decimal (get_or x i 0)) ∙ ap (λ y. s ++ y) (sym (text_last x i l last).0) ∙ inv
