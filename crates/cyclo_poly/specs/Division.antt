-- Division by a monic polynomial has one answer.
use Rattle.std.specs.Prelude.{◌≡◌, Bool, IsTrue, List}
use Rattle.algebra.specs.Ring.{Ops}
use Rattle.algebra.specs.Poly.{all_held, IsMonic, IsDivided, quotient_by, remainder}

-- A list f of held elements has one quotient q and one remainder r by a monic list g of such elements.
abbrev pub DividesOnce : {C : Type 0} → (C → Bool) → Ops C → Type 0
DividesOnce {C} held o = (g f q r : List C) → IsTrue (all_held held g) → IsTrue (all_held held f) → IsTrue (all_held held q) → IsTrue (all_held held r) → IsMonic o g → IsDivided o g f q r → (q ≡ quotient_by o g f) × (r ≡ remainder o g f)
