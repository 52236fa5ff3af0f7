-- Expressions in the operations of a ring, and their normal forms: two sorted lists of monomials, those to add and those
-- to take away. Expressions with one normal form are equal in every commutative ring.
use Rattle.std.specs.Prelude.{◌≡◌, ℕ, Bool, true, false, cond, eqb, ltb, List, [], ◌∷◌}
use Rattle.algebra.specs.Ring.{Ops}

infixl 70 ◌:+◌
infixl 70 ◌:-◌
infixl 75 ◌:*◌
pub data Expr : Type 0 where
  var : ℕ → Expr
  :0 : Expr
  :1 : Expr
  ◌:+◌ : Expr → Expr → Expr
  ◌:*◌ : Expr → Expr → Expr
  minus : Expr → Expr

abbrev pub ◌:-◌ : Expr → Expr → Expr
a :- b = a :+ minus b

-- A monomial is a sorted list of variables, a sum a sorted list of monomials.
abbrev pub Monomials : Type 0
Monomials = List (List ℕ)

abbrev pub before : List ℕ → List ℕ → Bool
before [] ys = true
before (x ∷ xs) [] = false
before (x ∷ xs) (y ∷ ys) = cond (ltb x y) true (cond (eqb x y) (before xs ys) false)

abbrev pub put : ℕ → List ℕ → List ℕ
put x [] = x ∷ []
put x (y ∷ ys) = cond (ltb y x) (y ∷ put x ys) (x ∷ y ∷ ys)

abbrev pub times : List ℕ → List ℕ → List ℕ
times [] ys = ys
times (x ∷ xs) ys = put x (times xs ys)

abbrev pub ins : List ℕ → Monomials → Monomials
ins m [] = m ∷ []
ins m (k ∷ ks) = cond (before m k) (m ∷ k ∷ ks) (k ∷ ins m ks)

abbrev pub join : Monomials → Monomials → Monomials
join [] ks = ks
join (m ∷ ms) ks = ins m (join ms ks)

abbrev pub scale : List ℕ → Monomials → Monomials
scale m [] = []
scale m (k ∷ ks) = ins (times m k) (scale m ks)

abbrev pub cross : Monomials → Monomials → Monomials
cross [] ks = []
cross (m ∷ ms) ks = join (scale m ks) (cross ms ks)

-- what is added, and what is taken away
abbrev pub Normal : Type 0
Normal = Monomials × Monomials

abbrev pub both_plus : Normal → Normal → Normal
both_plus a b = (join a.0 b.0, join a.1 b.1)

abbrev pub both_times : Normal → Normal → Normal
both_times a b = (join (cross a.0 b.0) (cross a.1 b.1), join (cross a.0 b.1) (cross a.1 b.0))

abbrev pub turned : Normal → Normal
turned a = (a.1, a.0)

abbrev pub normal : Expr → Normal
normal (var n) = ((n ∷ []) ∷ [], [])
normal :0 = ([], [])
normal :1 = ([] ∷ [], [])
normal (a :+ b) = both_plus (normal a) (normal b)
normal (a :* b) = both_times (normal a) (normal b)
normal (minus a) = turned (normal a)

abbrev pub Same : Expr → Expr → Type 0
Same a b = join (normal a).0 (normal b).1 ≡ join (normal b).0 (normal a).1

-- the value of an expression, of the values of its variables
module _ {C : Type 0} (o : Ops C) (ρ : ℕ → C) where
  abbrev pub value : Expr → C
  value (var n) = ρ n
  value :0 = o.zero
  value :1 = o.one
  value (a :+ b) = o.add (value a) (value b)
  value (a :* b) = o.mul (value a) (value b)
  value (minus a) = o.neg (value a)
