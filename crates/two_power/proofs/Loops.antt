-- What loops over one row have done to the places below i.
use Rattle.std.proofs.Common.{◌≡◌, ℕ, ◌+◌, ◌%◌, ◌<◌, ◌≤◌, List, length, set, get_or, sym, ◌∙◌, ap, arith, inl, inr, All}
use Rattle.std.proofs.lemmas.List.{get_or-set_same, get_or-set_other, get_or_past}
use Rattle.std.proofs.lemmas.List.Elements.{All-from_get_or}
use Rattle.std.proofs.lemmas.Bool.{cases_eq, cases_lt}
use Rattle.two_power.specs.Tree.{EachBelow}

-- the places below i are congruent to f k and below the bound, the others are as they were
pub record Changed (q bound i : ℕ) (f : ℕ → ℕ) (xs us : List ℕ) : Type 0 where
  pub done : (k : ℕ) → k < i → get_or us k 0 % q ≡ f k % q
  pub rest : (k : ℕ) → i ≤ k → get_or us k 0 ≡ get_or xs k 0
  pub small : (k : ℕ) → k < i → get_or us k 0 < bound

pub changed_more : (q bound i u : ℕ) (f : ℕ → ℕ) (xs us : List ℕ) → i < length us → Changed q bound i f xs us → u % q ≡ f i % q → u < bound → Changed q bound (i + 1) f xs (set us i u)
changed_more q bound i u f xs us m C e l = record {
  done = λ k n. elim (cases_eq k i) [
    | inl g ↦ ap (λ z. get_or (set us i u) z 0 % q) g ∙ ap (λ z. z % q) (get_or-set_same us i u 0 m) ∙ e ∙ ap (λ z. f z % q) (sym g)
    | inr g ↦ ap (λ z. z % q) (get_or-set_other us i k u 0 g) ∙ C.done k (omega arith)
  ];
  rest = λ k n. get_or-set_other us i k u 0 (λ e. omega arith) ∙ C.rest k (omega arith);
  small = λ k n. elim (cases_eq k i) [
    | inl g ↦ let h : get_or (set us i u) k 0 ≡ get_or (set us i u) i 0 = ap (λ z. get_or (set us i u) z 0) g in let h2 = get_or-set_same us i u 0 m in omega arith
    | inr g ↦ let h = get_or-set_other us i k u 0 g in let h2 = C.small k (omega arith) in omega arith
  ];
}

pub changed_below : (q bound i : ℕ) (f : ℕ → ℕ) (xs us : List ℕ) → 0 < bound → length us ≤ i → Changed q bound i f xs us → EachBelow bound us
changed_below q bound i f xs us some m C k = elim (cases_lt k (length us)) [ inl n ↦ C.small k (omega arith) | inr n ↦ let e = get_or_past us k 0 n in omega arith ]

pub changed_all : (q bound i : ℕ) (f : ℕ → ℕ) (xs us : List ℕ) → length us ≤ i → Changed q bound i f xs us → All (λ a. a < bound) us
changed_all q bound i f xs us m C = All-from_get_or (λ a. a < bound) us 0 (λ k n. C.small k (omega arith))
