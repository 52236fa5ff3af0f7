-- Lists that are filled place by place, and tables of the places of products.
use Rattle.std.specs.Prelude.{◌≡◌, ℕ, ◌+◌, ◌<◌, ◌≤◌, ◌⊎◌, List, [], ◌∷◌, ◌++◌, length, get_or, set, refl}
use Rattle.std.proofs.Common.{arith, sym, ◌∙◌, ap, subst, inl, inr, length-append, get_or-set_other, get_or-set_same}
use Rattle.std.proofs.lemmas.Bool.{cases_lt, cases_eq}
use Rattle.std.proofs.lemmas.List.{length-set, get_or_append_left}
use Rattle.std.proofs.Math.Seq.{get_or-append_seam}
use Rattle.hyper_cube.specs.Tables.{IsFilled, IsTable, Differ, IsRepeat}

pub filled_none : (F : ℕ → ℕ) → IsFilled F 0 []
filled_none F = record { long = refl; at = λ k l. absurd (omega arith) }

pub filled_more : (F : ℕ → ℕ) (n x : ℕ) (xs ys : List ℕ) → IsFilled F n xs → ys ≡ xs ++ x ∷ [] → x ≡ F n → IsFilled F (n + 1) ys
filled_more F n x xs ys h e f = subst (IsFilled F (n + 1)) (sym e) (record { long = omega (arith, h.long, length-append xs (x ∷ [])); at = λ k l. at k (cases_lt k n) l })
  where
    at : (k : ℕ) → (k < n) ⊎ (n ≤ k) → k < n + 1 → get_or (xs ++ x ∷ []) k 0 ≡ F k
    at k (inl s) l = get_or_append_left xs (x ∷ []) 0 k (omega (arith, h.long)) ∙ h.at k s
    at k (inr s) l = ap (λ z. get_or (xs ++ x ∷ []) z 0) (let q : k ≡ length xs = omega (arith, h.long) in q) ∙ get_or-append_seam xs x [] 0 ∙ f ∙ ap F (let q : n ≡ k = omega arith in q)

-- the first i products stand in the table, and nothing else: n stands for no place
pub record IsTableUpto (f : ℕ → ℕ) (n m i : ℕ) (table : List ℕ) : Type 0 where
  pub long : length table ≡ m
  pub at : (j : ℕ) → j < i → get_or table (f j) 0 ≡ j
  pub back : (k : ℕ) → k < m → get_or table k 0 < n → (get_or table k 0 < i) × (f (get_or table k 0) ≡ k)

module _ (f : ℕ → ℕ) (n m : ℕ) where
  pub table_none : (table : List ℕ) → length table ≡ m → ((k : ℕ) → k < m → get_or table k 0 ≡ n) → IsTableUpto f n m 0 table
  table_none table l h = record { long = l; at = λ j k. absurd (omega arith); back = λ k s t. absurd (omega (arith, h k s)) }

  pub table_more : (i : ℕ) (table : List ℕ) → IsTableUpto f n m i table → i < n → f i < m → n ≤ get_or table (f i) 0 → IsTableUpto f n m (i + 1) (set table (f i) i)
  table_more i table h l b free = record {
    long = length-set table (f i) i ∙ h.long;
    at = λ j s. at j (cases_eq (f j) (f i)) s;
    back = λ k s t. back k (cases_eq k (f i)) s t;
  }
    where
      here : get_or (set table (f i) i) (f i) 0 ≡ i
      here = get_or-set_same table (f i) i 0 (omega (arith, h.long))

      -- no earlier product is this one
      apart : (j : ℕ) → j < i → f j ≡ f i → ⊥
      apart j s e = omega (arith, h.at j s, ap (λ z. get_or table z 0) e)

      at : (j : ℕ) → (f j ≡ f i) ⊎ (f j ≡ f i → ⊥) → j < i + 1 → get_or (set table (f i) i) (f j) 0 ≡ j
      at j (inl e) s = ap (λ z. get_or (set table (f i) i) z 0) e ∙ here ∙ same (cases_lt j i)
        where
          same : (j < i) ⊎ (i ≤ j) → i ≡ j
          same (inl t) = absurd (apart j t e)
          same (inr t) = omega arith
      at j (inr ne) s = get_or-set_other table (f i) (f j) i 0 ne ∙ h.at j (before (cases_eq j i))
        where
          before : (j ≡ i) ⊎ (j ≡ i → ⊥) → j < i
          before (inl e) = absurd (ne (ap f e))
          before (inr e) = omega arith

      back : (k : ℕ) → (k ≡ f i) ⊎ (k ≡ f i → ⊥) → k < m → get_or (set table (f i) i) k 0 < n → (get_or (set table (f i) i) k 0 < i + 1) × (f (get_or (set table (f i) i) k 0) ≡ k)
      back k (inl e) s t = subst (λ z. (z < i + 1) × (f z ≡ k)) (sym (ap (λ z. get_or (set table (f i) i) z 0) e ∙ here)) (omega arith, sym e)
      back k (inr ne) s t = subst (λ z. (z < i + 1) × (f z ≡ k)) (sym other) (omega (arith, (h.back k s (subst (λ z. z < n) other t)).0), (h.back k s (subst (λ z. z < n) other t)).1)
        where
          other : get_or (set table (f i) i) k 0 ≡ get_or table k 0
          other = get_or-set_other table (f i) k i 0 ne

  pub table_differs : (i : ℕ) (table : List ℕ) → ((j : ℕ) → j < i → get_or table (f j) 0 ≡ j) → Differ f i
  table_differs i table h j k l s e = sym (h j l) ∙ ap (λ z. get_or table z 0) e ∙ h k s

  pub table_repeat : (i : ℕ) (table : List ℕ) → IsTableUpto f n m i table → i < n → f i < m → get_or table (f i) 0 < n → IsRepeat f n (get_or table (f i) 0) i
  table_repeat i table h l b t = record { within = l; earlier = (h.back (f i) b t).0; same = (h.back (f i) b t).1; before = table_differs i table h.at }

  pub table_whole : (i : ℕ) (table : List ℕ) → i ≡ n → IsTableUpto f n m i table → IsTable f n m table
  table_whole i table e h = record { long = h.long; at = λ j l. h.at j (omega arith) }
