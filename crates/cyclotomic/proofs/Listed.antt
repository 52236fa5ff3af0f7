-- The list of the first n places of a series.
use Rattle.std.specs.Prelude.{◌≡◌, ℕ, zero, suc, ◌<◌, List, [], ◌∷◌, length, get_or, refl}
use Rattle.std.proofs.Common.{ap, arith}
use Rattle.algebra.specs.Series.{Series, tail}

unfoldable pub listed : {C : Type 0} → ℕ → Series C → List C
listed zero f = []
listed (suc n) f = f 0 ∷ listed n (tail f)

pub length-listed : {C : Type 0} (n : ℕ) (f : Series C) → length (listed n f) ≡ n
unfolding listed
length-listed zero f = refl
length-listed (suc n) f = ap suc (length-listed n (tail f))

pub listed_at : {C : Type 0} (n : ℕ) (f : Series C) (d : C) (i : ℕ) → i < n → get_or (listed n f) i d ≡ f i
unfolding listed
listed_at zero f d i l = absurd (omega arith)
listed_at (suc n) f d zero l = refl
listed_at (suc n) f d (suc i) l = listed_at n (tail f) d i (omega arith)
