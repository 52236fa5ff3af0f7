-- What is printed so far grows by an element, an item or a line.
use Rattle.std.proofs.Common.{◌≡◌, ℕ, ◌+◌, ◌<◌, ◌≤◌, Bool, true, false, cond, List, [], ◌∷◌, ◌++◌, length, map, drop, get_or, bytes_eq, codes, append_assoc, refl, sym, ap, ◌∙◌, arith}
use Rattle.std.specs.Prelude.{decimal}
use Rattle.std.specs.List.{flat_map, join_with_byte}
use Rattle.std.proofs.lemmas.List.{drop_more, drop_all, append-nil}
use Rattle.std.proofs.lemmas.Slice.Eq.{bytes_eq-Decides}
use Rattle.slot_program.specs.Printed.{element_text, item_text, onto_run, runs_of}

pub put_more : (element o p q whole : List ℕ) (i x : ℕ) → i + 1 < length element → x ≡ get_or element i 0 → p ≡ o ++ decimal x → q ≡ p ++ 44 ∷ []
    → o ++ element_text (drop i element) ≡ whole → q ++ element_text (drop (i + 1) element) ≡ whole
put_more element o p q whole i x more is number comma so_far =
    let here : i < length element = omega arith in
    let first = drop_more element i 0 here in
    let next = drop_more element (i + 1) 0 more in
    let text : element_text (drop i element) ≡ decimal x ++ 44 ∷ element_text (drop (i + 1) element) =
    rw (first, next, ← is) refl in
    let joined : q ≡ o ++ (decimal x ++ 44 ∷ []) = comma ∙ ap (λ t. t ++ 44 ∷ []) number ∙ append_assoc o (decimal x) (44 ∷ []) in
    rw (joined, append_assoc o (decimal x ++ 44 ∷ []) (element_text (drop (i + 1) element)), append_assoc (decimal x) (44 ∷ []) (element_text (drop (i + 1) element))) (rw text at so_far)

pub put_last : (element o p whole : List ℕ) (i x : ℕ) → i < length element → length element ≤ i + 1 → x ≡ get_or element i 0 → p ≡ o ++ decimal x
    → o ++ element_text (drop i element) ≡ whole → p ++ element_text (drop (i + 1) element) ≡ whole
put_last element o p whole i x here last is number so_far =
    let first = drop_more element i 0 here in
    let nothing : drop (i + 1) element ≡ [] = drop_all (i + 1) element last in
    let text : element_text (drop i element) ≡ decimal x = rw (first, nothing, ← is) refl in
    rw (nothing, number) (append-nil (o ++ decimal x) ∙ (rw text at so_far))

-- the printed items of runs, a space before each
abbrev pub items_text : List (ℕ × List ℕ) → List ℕ
items_text runs = flat_map (λ run. 32 ∷ item_text run) runs

longer_run : (n : ℕ) (e x : List ℕ) (runs : List (ℕ × List ℕ)) → bytes_eq e x ≡ true → onto_run n e (onto_run 1 x runs) ≡ onto_run (n + 1) e runs
longer_run n e x [] same = rw same refl
longer_run n e x (run ∷ runs) same = by (bytes_eq x run.1) refl
  where
    equal : e ≡ x
    equal = (bytes_eq-Decides e x).0 same

    by : (b : Bool) → bytes_eq x run.1 ≡ b → onto_run n e (cond b ((1 + run.0, x) ∷ runs) ((1, x) ∷ run ∷ runs)) ≡ onto_run (n + 1) e (run ∷ runs)
    by true is =
        let test : bytes_eq e run.1 ≡ true = rw equal is in
        let sum : n + (1 + run.0) ≡ n + 1 + run.0 = omega arith in
        rw (same, test) (ap (λ k. (k, e) ∷ runs) sum)
    by false is =
        let test : bytes_eq e run.1 ≡ false = rw equal is in
        rw (same, test) refl

other_run : (n : ℕ) (e x : List ℕ) (runs : List (ℕ × List ℕ)) → bytes_eq e x ≡ false → onto_run n e (onto_run 1 x runs) ≡ (n, e) ∷ onto_run 1 x runs
other_run n e x [] differs = rw differs refl
other_run n e x (run ∷ runs) differs = by (bytes_eq x run.1)
  where
    by : (b : Bool) → onto_run n e (cond b ((1 + run.0, x) ∷ runs) ((1, x) ∷ run ∷ runs)) ≡ (n, e) ∷ cond b ((1 + run.0, x) ∷ runs) ((1, x) ∷ run ∷ runs)
    by true = rw differs refl
    by false = rw differs refl

next_run : (rest : List (List ℕ)) (i : ℕ) (x : List ℕ) → i < length rest → x ≡ get_or rest i x
    → runs_of (map (λ elem. elem) (drop i rest)) ≡ onto_run 1 x (runs_of (map (λ elem. elem) (drop (i + 1) rest)))
unfolding runs_of
next_run rest i x here is = rw (drop_more rest i x here, ← is) refl

pub run_goes_on : (rest : List (List ℕ)) (i n : ℕ) (e x o whole : List ℕ) → i < length rest → x ≡ get_or rest i x → bytes_eq e x ≡ true
    → o ++ items_text (onto_run n e (runs_of (map (λ elem. elem) (drop i rest)))) ≡ whole
    → o ++ items_text (onto_run (n + 1) e (runs_of (map (λ elem. elem) (drop (i + 1) rest)))) ≡ whole
run_goes_on rest i n e x o whole here is same so_far =
    rw (next_run rest i x here is, longer_run n e x (runs_of (map (λ elem. elem) (drop (i + 1) rest))) same) at so_far

pub run_ends : (rest : List (List ℕ)) (i n : ℕ) (e x o p whole : List ℕ) → i < length rest → x ≡ get_or rest i x → bytes_eq e x ≡ false
    → p ≡ o ++ 32 ∷ item_text (n, e)
    → o ++ items_text (onto_run n e (runs_of (map (λ elem. elem) (drop i rest)))) ≡ whole
    → p ++ items_text (onto_run 1 x (runs_of (map (λ elem. elem) (drop (i + 1) rest)))) ≡ whole
run_ends rest i n e x o p whole here is differs item so_far =
    let runs = runs_of (map (λ elem. elem) (drop (i + 1) rest)) in
    rw (item, append_assoc o (32 ∷ item_text (n, e)) (items_text (onto_run 1 x runs)))
    (rw (next_run rest i x here is, other_run n e x runs differs) at so_far)

pub last_run : (rest : List (List ℕ)) (i n : ℕ) (e o p whole : List ℕ) → length rest ≤ i → p ≡ o ++ 32 ∷ item_text (n, e)
    → o ++ items_text (onto_run n e (runs_of (map (λ elem. elem) (drop i rest)))) ≡ whole → p ≡ whole
unfolding runs_of
last_run rest i n e o p whole ended item so_far =
    let nothing : drop i rest ≡ [] = drop_all i rest ended in
    item ∙ ap (λ t. o ++ t) (sym (append-nil (32 ∷ item_text (n, e)))) ∙ (rw nothing at so_far)

pub first_run : (elems rest : List (List ℕ)) (x o : List ℕ) → elems ≡ x ∷ rest
    → o ++ items_text (onto_run 1 x (runs_of (map (λ elem. elem) rest))) ≡ o ++ items_text (runs_of (map (λ elem. elem) elems))
unfolding runs_of
first_run elems rest x o is = rw is refl

-- words with one space between are the first, and the others with a space before each
spaced : (word : List ℕ) (words : List (List ℕ)) → join_with_byte 32 (word ∷ words) ≡ word ++ flat_map (λ w. 32 ∷ w) words
spaced word [] = sym (append-nil word)
spaced word (next ∷ words) = ap (λ t. word ++ 32 ∷ t) (spaced next words)

spaced_items : (runs : List (ℕ × List ℕ)) → flat_map (λ w. 32 ∷ w) (map item_text runs) ≡ items_text runs
spaced_items [] = refl
spaced_items (run ∷ runs) = ap (λ t. 32 ∷ (item_text run ++ t)) (spaced_items runs)

pub const_line : (name : List ℕ) (runs : List (ℕ × List ℕ))
    → join_with_byte 32 (codes "const" ∷ name ∷ map item_text runs) ≡ codes "const" ++ 32 ∷ (name ++ items_text runs)
const_line name runs =
    ap (λ t. codes "const" ++ 32 ∷ t) (spaced name (map item_text runs) ∙ ap (λ t. name ++ t) (spaced_items runs))

pub const_put : (o p q name : List ℕ) (runs : List (ℕ × List ℕ)) → p ≡ (o ++ codes "const") ++ 32 ∷ name → q ≡ p ++ items_text runs
    → q ≡ o ++ join_with_byte 32 (codes "const" ∷ name ∷ map item_text runs)
const_put o p q name runs word items =
    items ∙ ap (λ t. t ++ items_text runs) (word ∙ append_assoc o (codes "const") (32 ∷ name)) ∙ append_assoc o (codes "const" ++ 32 ∷ name) (items_text runs) ∙ ap (λ t. o ++ t) (sym (const_line name runs))
