-- Steps of the loops over rows of residues.
use Rattle.std.proofs.Common.{◌≡◌, ℕ, zero, suc, ◌+◌, ◌-◌, ◌*◌, ◌%◌, ◌^◌, ◌<◌, ◌≤◌, ◌⊎◌, inl, inr, min, List, [], ◌∷◌, ◌++◌, map, length, get_or, set, take, drop, pos, ltb, refl, sym, ap, ap₂, ◌∙◌, arith}
use Rattle.std.specs.Prelude.{ℤ}
use Rattle.std.specs.List.{All}
use Rattle.std.proofs.Math.Nat.{mod-eq_of_lt, mod-add-mod, add-mod-mod, mul-le-mul}
use Rattle.std.proofs.Math.Numerals.{add-one}
use Rattle.std.proofs.Math.Seq.{take-append_seam}
use Rattle.std.proofs.lemmas.Bool.{cases_lt, ltb-true}
use Rattle.std.proofs.lemmas.List.{length-map, get_or-map, get_or_past, take_more, map-append, length-take-le}
use Rattle.std.proofs.lemmas.Grind.{get_or_default_zero}
use Rattle.algebra.specs.Ring.{Ops, whole_numbers, residues}
use Rattle.algebra.specs.Range.{total, adds, counts}
use Rattle.algebra.specs.Poly.{coeff, plus, negated, times, remainder}
use Rattle.algebra.specs.Whole.{residue}
use Rattle.algebra.proofs.HeldLists.{all_from, all_to}
use Rattle.algebra.proofs.HeldValues.{held_coeff-times_is}
use Rattle.algebra.proofs.Lists.{same_list, length-times}
use Rattle.algebra.proofs.Ranges.{total_units, count_laws}
use Rattle.algebra.proofs.Residues.{residue_laws}
use Rattle.cyclotomic.specs.Cyclotomic.{R, phi, degree, fold, substituted}
use Rattle.cyclotomic.proofs.RingR.{fold_element}
use Rattle.hyper_cube.specs.Tables.{IsFilled}
use Rattle.ext_field.specs.Laws.{below_held}
use Rattle.slot_laws.proofs.EncodeSums.{place_next, fold_row}
use Rattle.slot_laws.proofs.WholeValue.{residues_lifted, residues_held}
use Rattle.slot_laws.proofs.FoldSums.{place_term, substituted_total}

-- ---- sums
plus_end : {C : Type 0} (o : Ops C) (x y : List C) (u v : C) → length x ≡ length y → plus o (x ++ u ∷ []) (y ++ v ∷ []) ≡ plus o x y ++ o.add u v ∷ []
plus_end o [] [] u v e = refl
plus_end o [] (b ∷ y) u v e = absurd (omega (arith, e))
plus_end o (a ∷ x) [] u v e = absurd (omega (arith, e))
plus_end o (a ∷ x) (b ∷ y) u v e = ap (λ z. o.add a b ∷ z) (plus_end o x y u v (omega (arith, e)))

pub sum_more : (q : ℕ) (a b : List ℕ) (i r d e : ℕ) (xs ys : List ℕ) → length a ≡ length b → i < length a → r ≡ (get_or a i d + get_or b i e) % q → xs ≡ plus (residues q) (take i a) (take i b) → ys ≡ xs ++ r ∷ [] → ys ≡ plus (residues q) (take (i + 1) a) (take (i + 1) b)
sum_more q a b i r d e xs ys same l r_is xs_is ys_is =
    ys_is
    ∙ ap₂ (λ y z. y ++ z ∷ []) xs_is r_is
    ∙ sym (plus_end (residues q) (take i a) (take i b) (get_or a i d) (get_or b i e) (length-take-le i a (omega (arith, l)) ∙ sym (length-take-le i b (omega (arith, l, same)))))
    ∙ sym (ap₂ (plus (residues q)) (take_more a i d l) (take_more b i e (omega (arith, l, same))))

pub negative_more : (q : ℕ) (a : List ℕ) (i r d : ℕ) (xs ys : List ℕ) → i < length a → All (λ v. v < q) a → r ≡ (q - get_or a i d) % q → xs ≡ negated (residues q) (take i a) → ys ≡ xs ++ r ∷ [] → ys ≡ negated (residues q) (take (i + 1) a)
negative_more q a i r d xs ys l small r_is xs_is ys_is =
    ys_is
    ∙ ap₂ (λ y z. y ++ z ∷ []) xs_is (r_is ∙ ap (λ n. (q - n) % q) (sym (mod-eq_of_lt (small i d l))))
    ∙ sym (map-append (residues q).neg (take i a) (get_or a i d ∷ []))
    ∙ sym (ap (map (residues q).neg) (take_more a i d l))

-- ---- products
pub term_more : (a b : List ℕ) (i j s t d e : ℕ) → j < length a → i - j < length b → t ≡ s + get_or a j d * get_or b (i - j) e → s ≡ total counts j (λ t. get_or a t 0 * get_or b (i - t) 0) → t ≡ total counts (j + 1) (λ t. get_or a t 0 * get_or b (i - t) 0)
term_more a b i j s t d e l k t_is s_is =
    t_is
    ∙ ap₂ (λ x y. x + y) s_is (ap₂ (λ x y. x * y) (get_or_default_zero a j d l) (get_or_default_zero b (i - j) e k))
    ∙ ap (λ n. total counts n (λ t. get_or a t 0 * get_or b (i - t) 0)) (sym (add-one j))

-- before the first place that counts
pub terms_before : (a b : List ℕ) (i k : ℕ) → k ≡ i + 1 - length b → 0 ≡ total counts k (λ t. get_or a t 0 * get_or b (i - t) 0)
terms_before a b i k k_is = sym (total_units counts count_laws k (λ t. get_or a t 0 * get_or b (i - t) 0) (λ t l. ap (λ x. get_or a t 0 * x) (get_or_past b (i - t) 0 (omega (arith, k_is, l))) ∙ nothing (get_or a t 0)))
  where
    nothing : (y : ℕ) → y * 0 ≡ 0
    nothing y = omega arith

pub product_small : (q x y : ℕ) → q < 2 ^ 17 → x < q → y < q → x * y ≤ 2 ^ 34
product_small q x y h k l = omega (arith, mul-le-mul (the_low x k) (the_low y l))
  where
    the_low : (z : ℕ) → z < q → z ≤ 131072
    the_low z k = omega (arith, h, k)

pub sum_small : (q : ℕ) (a b : List ℕ) (i j d e s t n : ℕ) → q < 2 ^ 17 → All (λ v. v < q) a → All (λ v. v < q) b → i < length a → j < length b → t ≡ s + get_or a i d * get_or b j e → s ≤ n * 2 ^ 34 → t ≤ (n + 1) * 2 ^ 34
sum_small q a b i j d e s t n h ha hb k l t_is s_low = omega (arith, t_is, s_low, product_small q (get_or a i d) (get_or b j e) h (ha i d k) (hb j e l))

stretch_more : (T : ℕ → ℕ) (n k : ℕ) → ((t : ℕ) → n ≤ t → T t ≡ 0) → n ≤ suc k → (k < n) ⊎ (n ≤ k) → (n ≤ k → total counts k T ≡ total counts n T) → total counts (suc k) T ≡ total counts n T
stretch_more T n k h l (inl s) r = ap (λ z. total counts z T) (let e : suc k ≡ n = omega (arith, l, s) in e)
stretch_more T n k h l (inr s) r = ap₂ (λ x y. x + y) (r s) (h k s) ∙ none (total counts n T)
  where
    none : (x : ℕ) → x + 0 ≡ x
    none x = omega arith

stretch : (T : ℕ → ℕ) (n k : ℕ) → ((t : ℕ) → n ≤ t → T t ≡ 0) → n ≤ k → total counts k T ≡ total counts n T
stretch T n zero h l = ap (λ z. total counts z T) (let e : zero ≡ n = omega (arith, l) in e)
stretch T n (suc k) h l = stretch_more T n k h l (cases_lt k n) (stretch T n k h)

residues_total : (q : ℕ) → 0 < q → (n : ℕ) (T : ℕ → ℕ) → total (adds (residues q)) n (λ j. T j % q) ≡ total counts n T % q
residues_total q l zero T = sym (mod-eq_of_lt l)
residues_total q l (suc n) T = ap (λ z. (z + T n % q) % q) (residues_total q l n T) ∙ mod-add-mod (total counts n T) q (T n % q) ∙ add-mod-mod (total counts n T) (T n) q

pub product_coefficient : (q : ℕ) → 0 < q → (a b : List ℕ) → All (λ v. v < q) a → All (λ v. v < q) b → (i j s w : ℕ) → w ≡ q → j ≡ min (length a) (i + 1) → s ≡ total counts j (λ t. get_or a t 0 * get_or b (i - t) 0) → s % w ≡ coeff (residues q) (times (residues q) a b) i
product_coefficient q l a b ha hb i j s w w_is j_is s_is =
    ap₂ (λ x y. x % y) (s_is ∙ sym (whole (cases_lt i (length a)))) w_is
    ∙ sym (residues_total q l (suc i) T)
    ∙ sym (held_coeff-times_is (residue_laws q l) a b (all_from (λ c. ltb c q) a (below_held q a ha)) (all_from (λ c. ltb c q) b (below_held q b hb)) i)
  where
    T : ℕ → ℕ
    T t = get_or a t 0 * get_or b (i - t) 0

    past : (t : ℕ) → length a ≤ t → T t ≡ 0
    past t k = ap (λ z. z * get_or b (i - t) 0) (get_or_past a t 0 k) ∙ none (get_or b (i - t) 0)
      where
        none : (x : ℕ) → 0 * x ≡ 0
        none x = omega arith

    whole : (i < length a) ⊎ (length a ≤ i) → total counts (suc i) T ≡ total counts j T
    whole (inl k) = ap (λ z. total counts z T) (let e : suc i ≡ j = omega (arith, j_is, k) in e)
    whole (inr k) = stretch T (length a) (suc i) past (omega (arith, k)) ∙ ap (λ z. total counts z T) (let e : length a ≡ j = omega (arith, j_is, k) in e)

-- a list with the coefficients of another, and as long
pub filled_is : (q : ℕ) (g xs : List ℕ) (n : ℕ) → n ≡ length g → IsFilled (coeff (residues q) g) n xs → xs ≡ g
filled_is q g xs n n_is h = same_list (residues q) xs g (h.long ∙ n_is) (λ i. go i (cases_lt i n))
  where
    go : (i : ℕ) → (i < n) ⊎ (n ≤ i) → coeff (residues q) xs i ≡ coeff (residues q) g i
    go i (inl l) = h.at i l
    go i (inr l) = get_or_past xs i 0 (omega (arith, h.long, l)) ∙ sym (get_or_past g i 0 (omega (arith, n_is, l)))

pub product_is : (q : ℕ) (a b xs : List ℕ) (n : ℕ) → 0 < length a → 0 < length b → n ≡ length a + length b - 1 → IsFilled (coeff (residues q) (times (residues q) a b)) n xs → xs ≡ times (residues q) a b
product_is q a b xs n ka kb n_is h = filled_is q (times (residues q) a b) xs n (n_is ∙ sym (length-times (residues q) a b ka kb)) h

-- ---- places
pub zero_mul : (k : ℕ) → 0 * k ≡ 0
zero_mul k = omega arith

pub step_more : (m k i place step next : ℕ) → place ≡ (i * k) % m → step ≡ k % m → next ≡ (place + step) % m → next ≡ ((i + 1) * k) % m
step_more m k i place step next place_is step_is next_is =
    next_is
    ∙ ap₂ (λ y z. (y + z) % m) place_is step_is
    ∙ mod-add-mod (i * k) m (k % m)
    ∙ add-mod-mod (i * k) k m
    ∙ ap (λ z. z % m) (let e : i * k + k ≡ (i + 1) * k = omega arith in e)

pub place_more : (q m : ℕ) (q_pos : 0 < q) (m_pos : 0 < m) (L : List ℕ) (S : List ℤ) (k : ℕ) (a : List ℕ) (i at r x d : ℕ) → length L ≡ m → i < length a → at ≡ (i * k) % m → at < m → x ≡ get_or L at x → r ≡ (x + get_or a i d) % q
    → map (residue q) (fold m (map pos L)) ≡ map (residue q) ((R m).add S (total (adds (R m)) i (place_term m k (map pos a))))
    → map (residue q) (fold m (map pos (set L at r))) ≡ map (residue q) ((R m).add S (total (adds (R m)) (i + 1) (place_term m k (map pos a))))
place_more q m q_pos m_pos L S k a i at r x d long l at_is at_in x_is r_is s =
    ap₂ (λ y z. map (residue q) (fold m (map pos (set L y z)))) at_is (r_is ∙ ap₂ (λ y z. (y + z) % q) (x_is ∙ get_or_default_zero L at x (omega (arith, long, at_in)) ∙ ap (λ y. get_or L y 0) at_is) (get_or_default_zero a i d l))
    ∙ place_next q m q_pos m_pos L S k (map pos a) i (get_or a i 0) long (ap (residue q) (get_or-map pos a i 0 (pos 0) l)) s
    ∙ ap (λ n. map (residue q) ((R m).add S (total (adds (R m)) n (place_term m k (map pos a))))) (sym (add-one i))

pub places_whole : (q m : ℕ) (m_pos : 0 < m) (S : List ℤ) (k : ℕ) → 0 < k → (a : List ℕ) (i : ℕ) (L : List ℤ) → i ≡ length a → L ≡ total (adds (R m)) i (place_term m k (map pos a)) → (R m).add S L ≡ (R m).add S (substituted m k (map pos a))
places_whole q m m_pos S k k_pos a i L i_is L_is = ap (plus whole_numbers S) (L_is ∙ ap (λ n. total (adds (R m)) n (place_term m k (map pos a))) (i_is ∙ sym (length-map a pos)) ∙ sym (substituted_total m m_pos k k_pos (map pos a)))

-- ---- remainders by Phi_m
pub row_below : (q : ℕ) → 0 < q → (a : List ℤ) → All (λ v. v < q) (map (residue q) a)
row_below q l a k d s = ltb-true (get_or (map (residue q) a) k d) q (all_to (λ c. ltb c q) (map (residue q) a) (residues_held q l a) k d s)

pub lifted_own : (q : ℕ) (a : List ℕ) → All (λ v. v < q) a → map (residue q) (map pos a) ≡ a
lifted_own q a small = residues_lifted q a (all_from (λ c. ltb c q) a (below_held q a small))

pub folded_is : (q m : ℕ) → 0 < q → 0 < m → (xs ys vals out zs : List ℕ) (n len : ℕ) → All (λ v. v < q) xs → ys ≡ xs → vals ≡ remainder (residues q) (map (residue q) (phi m)) ys ++ zs → n ≡ degree m → len ≡ length vals → out ≡ take n (take len (vals ++ drop (length vals) xs)) → out ≡ map (residue q) (fold m (map pos xs))
folded_is q m q_pos m_pos xs ys vals out zs n len small ys_is vals_is n_is len_is out_is =
    out_is
    ∙ ap (λ z. take n (take z (vals ++ drop (length vals) xs))) len_is
    ∙ ap (take n) (take-append_seam vals (drop (length vals) xs))
    ∙ ap (take n) (vals_is ∙ ap (λ z. z ++ zs) rem_is)
    ∙ ap (λ k. take k (map (residue q) (fold m (map pos xs)) ++ zs)) (n_is ∙ sym (length-map (fold m (map pos xs)) (residue q) ∙ fold_element m (map pos xs)))
    ∙ take-append_seam (map (residue q) (fold m (map pos xs))) zs
  where
    rem_is : remainder (residues q) (map (residue q) (phi m)) ys ≡ map (residue q) (fold m (map pos xs))
    rem_is = ap (remainder (residues q) (map (residue q) (phi m))) (ys_is ∙ sym (lifted_own q xs small)) ∙ sym (fold_row q m q_pos m_pos (map pos xs))
