-- 113 and 337, with the inverse 170 of 113 modulo 337.
use Rattle.std.specs.Prelude.{◌≡◌, ℕ, zero, suc, ◌%◌, ◌^◌, ◌<◌, ◌≤◌, List, [], ◌∷◌, length, get_or, refl}
use Rattle.std.proofs.Common.{arith, sym, subst, lit<, lit≤}
use Rattle.std.proofs.lemmas.List.Elements.{All-nil, All-cons}
use Rattle.mixed_radix.specs.Basis.{IsBasis, IsInverse}

abbrev small_table : List (List ℕ)
small_table = [] ∷ (170 ∷ []) ∷ []

entries : (j : ℕ) → j < 2 → length (get_or small_table j []) ≡ j
entries zero l = refl
entries (suc zero) l = refl
entries (suc (suc j)) l = absurd (omega arith)

right : (i j : ℕ) → i < j → j < 2 → IsInverse (get_or (113 ∷ 337 ∷ []) j 0) (get_or (113 ∷ 337 ∷ []) i 0) (get_or (get_or small_table j []) i 0)
right i zero l m = absurd (omega arith)
right zero (suc zero) l m = record { below = lit< tt; one = refl }
right (suc i) (suc zero) l m = absurd (omega arith)
right i (suc (suc j)) l m = absurd (omega arith)

basis : IsBasis (record { moduli = 113 ∷ 337 ∷ []; inverse = [] ∷ (170 ∷ []) ∷ [] })
basis = record {
  odd = All-cons (λ q. q % 2 ≡ 1) 113 (337 ∷ []) refl (All-cons (λ q. q % 2 ≡ 1) 337 [] refl (All-nil (λ q. q % 2 ≡ 1)));
  range = All-cons (λ q. (3 ≤ q) × (q < 2 ^ 62)) 113 (337 ∷ []) (lit≤ tt, lit< tt) (All-cons (λ q. (3 ≤ q) × (q < 2 ^ 62)) 337 [] (lit≤ tt, lit< tt) (All-nil (λ q. (3 ≤ q) × (q < 2 ^ 62))));
  lists = refl;
  entries = entries;
  right = right;
}

pub small_basis : (xs ys : List ℕ) → xs ≡ [] → ys ≡ 170 ∷ [] → IsBasis (record { moduli = 113 ∷ 337 ∷ []; inverse = xs ∷ ys ∷ [] })
small_basis xs ys e f =
    subst (λ z. IsBasis (record { moduli = 113 ∷ 337 ∷ []; inverse = z ∷ ys ∷ [] })) (sym e)
    (subst (λ z. IsBasis (record { moduli = 113 ∷ 337 ∷ []; inverse = [] ∷ z ∷ [] })) (sym f) basis)
