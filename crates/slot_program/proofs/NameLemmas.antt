-- A map by names after an insertion.
use Rattle.std.proofs.Common.{◌≡◌, ℕ, Bool, true, false, cond, List, [], ◌∷◌, Some, bytes_eq, refl, sym, ap, ◌∙◌, Vec, Global}
use Rattle.std.specs.Map.{lookup}
use Rattle.std.specs.Ordering.{nat_cmp, is_eq, match_ordering}
use Rattle.std.specs.declared.cmp.Ordering.{Ordering}
use Rattle.std.specs.declared.cmp.Ordering.TheVariants.{Less, Equal, Greater}
use Rattle.std.specs.Cmp.Lexicographic.{slice_cmp}
use Rattle.std.specs.BTreeMap.{insert_entry}
use Rattle.std.proofs.lemmas.Map.Text.{is_eq-slice_cmp}
use Rattle.std.proofs.lemmas.Slice.Eq.{bytes_eq-Decides}

abbrev Bytes : Type 0
Bytes = Vec ℕ Global

abbrev pub by_bytes : Bytes → Bytes → Ordering
by_bytes a b = slice_cmp nat_cmp a.items b.items

abbrev pub reads : List ℕ → Bytes → Bool
reads word name = is_eq (slice_cmp nat_cmp word name.items)

conds_same : {X : Type 0} (b : Bool) (x y z : X) → cond b x z ≡ cond b x (cond b y z)
conds_same true x y z = refl
conds_same false x y z = refl

conds_swap : {X : Type 0} (b c : Bool) (x y z : X) → (b ≡ true → c ≡ true → ⊥) → cond b x (cond c y z) ≡ cond c y (cond b x z)
conds_swap true true x y z apart = absurd (apart refl refl)
conds_swap true false x y z apart = refl
conds_swap false c x y z apart = refl

reads_is : (word : List ℕ) (name : Bytes) → reads word name ≡ bytes_eq word name.items
reads_is word name = is_eq-slice_cmp word name.items

apart_when : (word : List ℕ) (name key : Bytes) (r : Ordering) → r ≡ by_bytes name key → is_eq r ≡ false
    → reads word key ≡ true → reads word name ≡ true → ⊥
apart_when word name key r is not_equal here there =
    let a : word ≡ key.items = (bytes_eq-Decides word key.items).0 (sym (reads_is word key) ∙ here) in
    let b : word ≡ name.items = (bytes_eq-Decides word name.items).0 (sym (reads_is word name) ∙ there) in
    let same : bytes_eq name.items key.items ≡ true = (bytes_eq-Decides name.items key.items).1 (sym b ∙ a) in
    let equal : is_eq (by_bytes name key) ≡ true = is_eq-slice_cmp name.items key.items ∙ same in
    cc

put_by : (word : List ℕ) (name : Bytes) (n : ℕ) (e : Bytes × ℕ) (es put : List (Bytes × ℕ)) (r : Ordering) → r ≡ by_bytes name e.0
    → lookup (reads word) put ≡ cond (reads word name) (Some n) (lookup (reads word) es)
    → lookup (reads word) (match_ordering r ((name, n) ∷ e ∷ es) ((e.0, n) ∷ es) (e ∷ put))
    ≡ cond (reads word name) (Some n) (cond (reads word e.0) (Some e.1) (lookup (reads word) es))
put_by word name n e es put Less is later = refl
put_by word name n e es put Equal is later =
    let same : bytes_eq name.items e.0.items ≡ true = sym (is_eq-slice_cmp name.items e.0.items) ∙ ap is_eq (sym is) in
    let items : name.items ≡ e.0.items = (bytes_eq-Decides name.items e.0.items).0 same in
    let tests : reads word name ≡ reads word e.0 = ap (λ bytes. is_eq (slice_cmp nat_cmp word bytes)) items in
    rw tests (conds_same (reads word e.0) (Some n) (Some e.1) (lookup (reads word) es))
put_by word name n e es put Greater is later =
    ap (cond (reads word e.0) (Some e.1)) later
    ∙ conds_swap (reads word e.0) (reads word name) (Some e.1) (Some n) (lookup (reads word) es) (apart_when word name e.0 Greater is refl)

-- what a map says after an insertion
pub lookup_put : (word : List ℕ) (name : Bytes) (n : ℕ) (es : List (Bytes × ℕ))
    → lookup (reads word) (insert_entry by_bytes es name n) ≡ cond (reads word name) (Some n) (lookup (reads word) es)
lookup_put word name n [] = refl
lookup_put word name n (e ∷ es) =
    put_by word name n e es (insert_entry by_bytes es name n) (by_bytes name e.0) refl (lookup_put word name n es)

pub lookup_named : (word : List ℕ) (name : Bytes) (n : ℕ) (es put : List (Bytes × ℕ)) → put ≡ insert_entry by_bytes es name n
    → lookup (reads word) put ≡ cond (bytes_eq word name.items) (Some n) (lookup (reads word) es)
lookup_named word name n es put is =
    ap (lookup (reads word)) is ∙ lookup_put word name n es ∙ ap (λ b. cond b (Some n) (lookup (reads word) es)) (reads_is word name)
