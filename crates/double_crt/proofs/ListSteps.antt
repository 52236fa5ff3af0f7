-- Lists that are written in part, and lists of rows.
use Rattle.std.proofs.Common.{◌≡◌, ℕ, ◌+◌, ◌<◌, ◌≤◌, List, ◌++◌, length, take, drop, get_or, set, arith, inl, inr, ap, sym, ◌∙◌}
use Rattle.std.proofs.lemmas.Bool.{cases_eq}
use Rattle.std.proofs.lemmas.List.{get_or-set_same, get_or-set_other}
use Rattle.std.proofs.Math.Seq.{take-append_seam}

-- a list whose front is written anew, cut to as many
pub written : {A : Type 0} (n : ℕ) (us xs : List A) → length us ≡ n → take n (us ++ drop (length us) xs) ≡ us
written n us xs e = ap (λ k. take k (us ++ drop (length us) xs)) (sym e) ∙ take-append_seam us (drop (length us) xs)

pub written_long : {A : Type 0} (n : ℕ) (us xs : List A) → length us ≡ n → length (take n (us ++ drop (length us) xs)) ≡ n
written_long n us xs e = ap length (written n us xs e) ∙ e

-- one more entry is f of its place, and the later ones are as they were
pub stepped_more : {A : Type 0} (d : A) (f : ℕ → A) (us : List A) (i : ℕ) (u : A) → i < length us → ((k : ℕ) → k < i → get_or us k d ≡ f k) → u ≡ f i → (k : ℕ) → k < i + 1 → get_or (set us i u) k d ≡ f k
stepped_more d f us i u l h e k s = elim (cases_eq k i) [
  | inl g ↦ ap (λ z. get_or (set us i u) z d) g ∙ get_or-set_same us i u d l ∙ e ∙ ap f (sym g)
  | inr g ↦ get_or-set_other us i k u d g ∙ h k (omega (arith, g))
]

pub stepped_rest : {A : Type 0} (d : A) (xs us : List A) (i : ℕ) (u : A) → ((k : ℕ) → i ≤ k → get_or us k d ≡ get_or xs k d) → (k : ℕ) → i + 1 ≤ k → get_or (set us i u) k d ≡ get_or xs k d
stepped_rest d xs us i u h k l = get_or-set_other us i k u d (λ e. omega (arith, e)) ∙ h k (omega arith)
