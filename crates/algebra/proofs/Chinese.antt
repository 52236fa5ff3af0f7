-- The Chinese remainder law, without primes: residues modulo moduli with inverses of one another
-- and the one residue modulo their product determine each other.
use Rattle.std.specs.Prelude.{◌≡◌, ℕ, suc, ◌+◌, ◌*◌, ◌/◌, ◌%◌, ◌<◌, All, AllPairs, List, [], ◌∷◌, map, length, ℤ, pos, ◌+ℤ◌, ◌*ℤ◌, neg_ℤ, refl}
use Rattle.std.specs.List.{AllZip}
use Rattle.std.proofs.Common.{arith, sym, ◌∙◌, ap, mod-eq_of_lt, mul-pos, div-add-mod'}
use Rattle.std.proofs.lemmas.List.Elements.{All-nil, All-cons}
use Rattle.algebra.specs.Ring.{whole_numbers}
use Rattle.algebra.specs.Power.{Divides, Meets, less}
use Rattle.algebra.specs.Divisor.{HasInverse}
use Rattle.algebra.specs.Whole.{residue, quotient, SameModulo, product_of, AreInvertible, IsChinese}
use Rattle.algebra.proofs.Integers.{whole_ring}
use Rattle.algebra.proofs.Powers.{product_divides, Meets_product, Meets_sym}
use Rattle.algebra.proofs.WholeResidues.{residue_lt, same_residue, same_modulo, residue_quotient}
use Rattle.algebra.specs.Expression.{◌:+◌, ◌:-◌, ◌:*◌, :0, :1, minus}
use Rattle.algebra.proofs.Solver.{solve1, solve2, solve3, solve4}

-- a number with an inverse modulo n, from the test of it
pub inverse_of_residue : (n a u : ℕ) → 1 < n → (a * u) % n ≡ 1 → HasInverse n a
inverse_of_residue n a u l e = (u, a * u / n, whole (a * u / n) ((a * u) % n) (div-add-mod' (a * u) n) e)
  where
    whole : (k r : ℕ) → k * n + r ≡ a * u → r ≡ 1 → a * u ≡ n * k + 1
    whole k r f e = omega arith

same_divides : (n : ℕ) (a b : ℤ) → SameModulo n a b → Divides whole_numbers (pos n) (less whole_numbers a b)
same_divides n a b (k, e) = (k, ap (λ z. z +ℤ neg_ℤ b) e ∙ solve2 whole_ring (λ b m. b :+ m :- b) (λ b m. m) refl b (pos n *ℤ k))

divides_same : (n : ℕ) (a b : ℤ) → Divides whole_numbers (pos n) (less whole_numbers a b) → SameModulo n a b
divides_same n a b (k, e) = (k, solve2 whole_ring (λ a b. a) (λ a b. b :+ (a :- b)) refl a b ∙ ap (λ z. b +ℤ z) e)

pub same_refl : (n : ℕ) (a : ℤ) → SameModulo n a a
same_refl n a = (pos 0, solve2 whole_ring (λ a n. a) (λ a n. a :+ n :* :0) refl a (pos n))

pub same_sym : (n : ℕ) (a b : ℤ) → SameModulo n a b → SameModulo n b a
same_sym n a b (k, e) = (neg_ℤ k, solve3 whole_ring (λ b n k. b) (λ b n k. b :+ n :* k :+ n :* minus k) refl b (pos n) k ∙ ap (λ z. z +ℤ pos n *ℤ neg_ℤ k) (sym e))

pub same_trans : (n : ℕ) (a b c : ℤ) → SameModulo n a b → SameModulo n b c → SameModulo n a c
same_trans n a b c (k, e) (l, f) = (l +ℤ k, e ∙ ap (λ z. z +ℤ pos n *ℤ k) f ∙ solve4 whole_ring (λ c n k l. c :+ n :* l :+ n :* k) (λ c n k l. c :+ n :* (l :+ k)) refl c (pos n) k l)

inverse_meets : (r q : ℕ) → HasInverse r q → Meets whole_numbers (pos r) (pos q) (pos 1)
inverse_meets r q (u, v, e) = (neg_ℤ (pos v), pos u, solve2 whole_ring (λ a b. b) (λ a b. minus a :+ (a :+ b)) refl (pos r *ℤ pos v) (pos 1) ∙ ap (λ z. neg_ℤ (pos r *ℤ pos v) +ℤ z) (sym (ap pos e)) ∙ solve4 whole_ring (λ r v q u. minus (r :* v) :+ q :* u) (λ r v q u. minus v :* r :+ u :* q) refl (pos r) (pos v) (pos q) (pos u))

pairs_first : (R : ℕ → ℕ → Type 0) (q : ℕ) (qs : List ℕ) → AllPairs R (q ∷ qs) → All (R q) qs
pairs_first R q qs h k d l = h 0 (suc k) d (omega arith) (omega arith)

pub pairs_rest : (R : ℕ → ℕ → Type 0) (q : ℕ) (qs : List ℕ) → AllPairs R (q ∷ qs) → AllPairs R qs
pairs_rest R q qs h i j d l m = h (suc i) (suc j) d (omega arith) (omega arith)

pub all_rest : (P : ℕ → Type 0) (q : ℕ) (qs : List ℕ) → All P (q ∷ qs) → All P qs
all_rest P q qs h k d l = h (suc k) d (omega arith)

-- the product of moduli that each meet q in 1 meets q in 1
product_meets : (q : ℕ) (qs : List ℕ) → All (λ r. HasInverse r q) qs → Meets whole_numbers (pos (product_of qs)) (pos q) (pos 1)
product_meets q [] h = (pos 1, pos 0, solve1 whole_ring (λ q. :1) (λ q. :1 :* :1 :+ :0 :* q) refl (pos q))
product_meets q (r ∷ rs) h = Meets_product whole_ring (pos r) (pos (product_of rs)) (pos q) (pos 1) (pos 1) (inverse_meets r q (h 0 0 (omega arith))) (product_meets q rs (all_rest (λ r. HasInverse r q) r rs h))

-- equal modulo each: equal modulo the product
pub same_product : (qs : List ℕ) (a b : ℤ) → AreInvertible qs → All (λ q. SameModulo q a b) qs → SameModulo (product_of qs) a b
same_product [] a b m h = (a +ℤ neg_ℤ b, solve2 whole_ring (λ a b. a) (λ a b. b :+ :1 :* (a :- b)) refl a b)
same_product (q ∷ qs) a b m h = divides_same (q * product_of qs) a b (one (product_divides whole_ring (pos q) (pos (product_of qs)) (less whole_numbers a b) (pos 1) (same_divides q a b (h 0 0 (omega arith))) (same_divides (product_of qs) a b (same_product qs a b (pairs_rest (λ q r. HasInverse r q) q qs m) (all_rest (λ q. SameModulo q a b) q qs h))) (Meets_sym whole_ring (pos (product_of qs)) (pos q) (pos 1) (product_meets q qs (pairs_first (λ q r. HasInverse r q) q qs m)))))
  where
    one : Divides whole_numbers (pos q *ℤ pos (product_of qs)) (pos 1 *ℤ less whole_numbers a b) → Divides whole_numbers (pos (q * product_of qs)) (less whole_numbers a b)
    one (k, e) = (k, sym (whole_ring.one_mul (less whole_numbers a b)) ∙ e)

-- equal modulo the product: equal modulo each
pub same_each : (qs : List ℕ) (a b : ℤ) → SameModulo (product_of qs) a b → All (λ q. SameModulo q a b) qs
same_each [] a b s = All-nil (λ q. SameModulo q a b)
same_each (q ∷ qs) a b (k, e) = All-cons (λ q. SameModulo q a b) q qs (pos (product_of qs) *ℤ k, e ∙ ap (λ z. b +ℤ z) (whole_ring.mul_assoc (pos q) (pos (product_of qs)) k)) (same_each qs a b (pos q *ℤ k, e ∙ ap (λ z. b +ℤ z) (solve3 whole_ring (λ q p k. q :* p :* k) (λ q p k. p :* (q :* k)) refl (pos q) (pos (product_of qs)) k)))

-- some number has given residues
pub chinese_whole : (qs : List ℕ) (rs : List ℤ) → length rs ≡ length qs → AreInvertible qs → (x : ℤ) × AllZip (λ q r. SameModulo q x r) qs rs
chinese_whole [] [] e m = (pos 0, tt)
chinese_whole [] (r ∷ rs) e m = absurd (omega arith)
chinese_whole (q ∷ qs) [] e m = absurd (omega arith)
chinese_whole (q ∷ qs) (r ∷ rs) e m = go (product_meets q qs (pairs_first (λ q r. HasInverse r q) q qs m)) (chinese_whole qs rs (omega arith) (pairs_rest (λ q r. HasInverse r q) q qs m))
  where
    p : ℤ
    p = pos (product_of qs)

    along : (ks : List ℕ) (ss : List ℤ) (x y : ℤ) → All (λ k. SameModulo k x y) ks → AllZip (λ k s. SameModulo k y s) ks ss → AllZip (λ k s. SameModulo k x s) ks ss
    along [] [] x y h z = tt
    along [] (s ∷ ss) x y h z = z
    along (k ∷ ks) [] x y h z = z
    along (k ∷ ks) (s ∷ ss) x y h z = (same_trans k x y s (h 0 0 (omega arith)) z.0, along ks ss x y (all_rest (λ k. SameModulo k x y) k ks h) z.1)

    go : Meets whole_numbers p (pos q) (pos 1) → (y : ℤ) × AllZip (λ q r. SameModulo q y r) qs rs → (x : ℤ) × AllZip (λ q r. SameModulo q x r) (q ∷ qs) (r ∷ rs)
    go (u, v, f) (y, z) = (x, (at_q, along qs rs x y (same_each qs x y at_p) z))
      where
        x : ℤ
        x = r *ℤ (u *ℤ p) +ℤ y *ℤ (v *ℤ pos q)

        up : u *ℤ p ≡ pos 1 +ℤ neg_ℤ (v *ℤ pos q)
        up = solve2 whole_ring (λ a b. a) (λ a b. a :+ b :- b) refl (u *ℤ p) (v *ℤ pos q) ∙ ap (λ z. z +ℤ neg_ℤ (v *ℤ pos q)) (sym f)

        vq : v *ℤ pos q ≡ pos 1 +ℤ neg_ℤ (u *ℤ p)
        vq = solve2 whole_ring (λ a b. b) (λ a b. a :+ b :- a) refl (u *ℤ p) (v *ℤ pos q) ∙ ap (λ z. z +ℤ neg_ℤ (u *ℤ p)) (sym f)

        at_q : SameModulo q x r
        at_q = (y *ℤ v +ℤ neg_ℤ (r *ℤ v), ap (λ z. r *ℤ z +ℤ y *ℤ (v *ℤ pos q)) up ∙ solve4 whole_ring (λ r v q y. r :* (:1 :- v :* q) :+ y :* (v :* q)) (λ r v q y. r :+ q :* (y :* v :- r :* v)) refl r v (pos q) y)

        at_p : SameModulo (product_of qs) x y
        at_p = (r *ℤ u +ℤ neg_ℤ (y *ℤ u), ap (λ z. r *ℤ (u *ℤ p) +ℤ y *ℤ z) vq ∙ solve4 whole_ring (λ r u p y. r :* (u :* p) :+ y :* (:1 :- u :* p)) (λ r u p y. y :+ p :* (r :* u :- y :* u)) refl r u p y)

pub product_positive : (qs : List ℕ) → All (λ q. 0 < q) qs → 0 < product_of qs
product_positive [] h = omega arith
product_positive (q ∷ qs) h = mul-pos (h 0 0 (omega arith)) (product_positive qs (all_rest (λ q. 0 < q) q qs h))

-- residues below the moduli are those of some number below the product
pub chinese : (qs rs : List ℕ) → AreInvertible qs → AllZip (λ q r. r < q) qs rs → (x : ℕ) × IsChinese qs rs x
chinese qs rs m h = go (chinese_whole qs (map pos rs) (long qs rs h) m)
  where
    long : (qs rs : List ℕ) → AllZip (λ q r. r < q) qs rs → length (map pos rs) ≡ length qs
    long [] [] h = refl
    long [] (r ∷ rs) h = absurd h
    long (q ∷ qs) [] h = absurd h
    long (q ∷ qs) (r ∷ rs) h = ap suc (long qs rs h.1)

    positive : (qs rs : List ℕ) → AllZip (λ q r. r < q) qs rs → All (λ q. 0 < q) qs
    positive [] rs h = All-nil (λ q. 0 < q)
    positive (q ∷ qs) [] h = absurd h
    positive (q ∷ qs) (r ∷ rs) h = All-cons (λ q. 0 < q) q qs (first h.0) (positive qs rs h.1)
      where
        first : r < q → 0 < q
        first l = omega arith

    p : ℕ
    p = product_of qs

    pp : 0 < p
    pp = product_positive qs (positive qs rs h)

    each : (ks ss : List ℕ) (x : ℤ) (n : ℕ) → AllZip (λ k s. s < k) ks ss → AllZip (λ k s. SameModulo k x s) ks (map pos ss) → All (λ k. SameModulo k (pos n) x) ks → AllZip (λ k s. n % k ≡ s) ks ss
    each [] [] x n h z w = tt
    each [] (s ∷ ss) x n h z w = absurd h
    each (k ∷ ks) [] x n h z w = absurd h
    each (k ∷ ks) (s ∷ ss) x n h z w = (same_residue k (first h.0) (pos n) (pos s) (same_trans k (pos n) x (pos s) (w 0 0 (omega arith)) z.0) ∙ mod-eq_of_lt h.0, each ks ss x n h.1 z.1 (all_rest (λ k. SameModulo k (pos n) x) k ks w))
      where
        first : s < k → 0 < k
        first l = omega arith

    go : (x : ℤ) × AllZip (λ q r. SameModulo q x r) qs (map pos rs) → (x : ℕ) × IsChinese qs rs x
    go (x, z) = (residue p x, record { small = residue_lt p pp x; residues = each qs rs x (residue p x) h z (same_each qs (pos (residue p x)) x (same_sym p x (pos (residue p x)) (quotient p x, residue_quotient p pp x))) })

-- and of one alone
pub chinese_only : (qs rs : List ℕ) (x y : ℕ) → AreInvertible qs → All (λ q. 0 < q) qs → IsChinese qs rs x → IsChinese qs rs y → x ≡ y
chinese_only qs rs x y m h X Y = sym (mod-eq_of_lt X.small) ∙ same_residue (product_of qs) (product_positive qs h) (pos x) (pos y) (same_product qs (pos x) (pos y) m (each qs rs h X.residues Y.residues)) ∙ mod-eq_of_lt Y.small
  where
    each : (qs rs : List ℕ) → All (λ q. 0 < q) qs → AllZip (λ q r. x % q ≡ r) qs rs → AllZip (λ q r. y % q ≡ r) qs rs → All (λ q. SameModulo q (pos x) (pos y)) qs
    each [] rs h v w = All-nil (λ q. SameModulo q (pos x) (pos y))
    each (q ∷ qs) [] h v w = absurd v
    each (q ∷ qs) (r ∷ rs) h v w = All-cons (λ q. SameModulo q (pos x) (pos y)) q qs (same_modulo q (h 0 0 (omega arith)) (pos x) (pos y) (v.0 ∙ sym w.0)) (each qs rs (all_rest (λ q. 0 < q) q qs h) v.1 w.1)
