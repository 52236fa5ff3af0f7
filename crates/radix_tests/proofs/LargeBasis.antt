-- Three moduli of 61 bits, with their inverses.
use Rattle.std.specs.Prelude.{◌≡◌, ℕ, zero, suc, ◌%◌, ◌^◌, ◌<◌, ◌≤◌, List, [], ◌∷◌, length, get_or, refl}
use Rattle.std.proofs.Common.{arith, sym, subst, lit<, lit≤}
use Rattle.std.proofs.lemmas.List.Elements.{All-nil, All-cons}
use Rattle.mixed_radix.specs.Basis.{IsBasis, IsInverse}

abbrev pub moduli : List ℕ
moduli = 2305843009213693951 ∷ 2305843009213693921 ∷ 2305843009213693907 ∷ []

abbrev table : List (List ℕ)
table = [] ∷ (2228981575573237457 ∷ []) ∷ (1100515981670172092 ∷ 164703072086692422 ∷ []) ∷ []

entries : (j : ℕ) → j < 3 → length (get_or table j []) ≡ j
entries zero l = refl
entries (suc zero) l = refl
entries (suc (suc zero)) l = refl
entries (suc (suc (suc j))) l = absurd (omega arith)

right : (i j : ℕ) → i < j → j < 3 → IsInverse (get_or moduli j 0) (get_or moduli i 0) (get_or (get_or table j []) i 0)
right i zero l m = absurd (omega arith)
right zero (suc zero) l m = record { below = lit< tt; one = refl }
right (suc i) (suc zero) l m = absurd (omega arith)
right zero (suc (suc zero)) l m = record { below = lit< tt; one = refl }
right (suc zero) (suc (suc zero)) l m = record { below = lit< tt; one = refl }
right (suc (suc i)) (suc (suc zero)) l m = absurd (omega arith)
right i (suc (suc (suc j))) l m = absurd (omega arith)

abbrev IsInRange : ℕ → Type 0
IsInRange q = (3 ≤ q) × (q < 2 ^ 62)

basis : IsBasis (record { moduli = moduli; inverse = [] ∷ (2228981575573237457 ∷ []) ∷ (1100515981670172092 ∷ 164703072086692422 ∷ []) ∷ [] })
basis = record {
  odd = All-cons (λ q. q % 2 ≡ 1) 2305843009213693951 (2305843009213693921 ∷ 2305843009213693907 ∷ []) refl (All-cons (λ q. q % 2 ≡ 1) 2305843009213693921 (2305843009213693907 ∷ []) refl (All-cons (λ q. q % 2 ≡ 1) 2305843009213693907 [] refl (All-nil (λ q. q % 2 ≡ 1))));
  range = All-cons IsInRange 2305843009213693951 (2305843009213693921 ∷ 2305843009213693907 ∷ []) (lit≤ tt, lit< tt) (All-cons IsInRange 2305843009213693921 (2305843009213693907 ∷ []) (lit≤ tt, lit< tt) (All-cons IsInRange 2305843009213693907 [] (lit≤ tt, lit< tt) (All-nil IsInRange)));
  lists = refl;
  entries = entries;
  right = right;
}

pub large_basis : (xs ys zs : List ℕ) → xs ≡ [] → ys ≡ 2228981575573237457 ∷ [] → zs ≡ 1100515981670172092 ∷ 164703072086692422 ∷ [] → IsBasis (record { moduli = moduli; inverse = xs ∷ ys ∷ zs ∷ [] })
large_basis xs ys zs e f g =
    subst (λ z. IsBasis (record { moduli = moduli; inverse = z ∷ ys ∷ zs ∷ [] })) (sym e)
    (subst (λ z. IsBasis (record { moduli = moduli; inverse = [] ∷ z ∷ zs ∷ [] })) (sym f)
    (subst (λ z. IsBasis (record { moduli = moduli; inverse = [] ∷ (2228981575573237457 ∷ []) ∷ z ∷ [] })) (sym g) basis))
