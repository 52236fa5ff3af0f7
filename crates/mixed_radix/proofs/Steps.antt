-- Garner's steps: the rest of a number at a later modulus, one digit after another.
use Rattle.std.specs.Prelude.{◌≡◌, ℕ, ◌+◌, ◌-◌, ◌*◌, ◌%◌, ◌<◌, ◌≤◌, List, [], ◌∷◌, length, get_or, drop, ℤ, pos, ◌+ℤ◌, ◌*ℤ◌, neg_ℤ, refl}
use Rattle.std.specs.List.{AllZip}
use Rattle.std.proofs.Common.{arith, sym, ◌∙◌, ap, ap₂, mod-lt, mod-eq_of_lt}
use Rattle.std.proofs.Math.Nat.{mod-add-mod, add-mod-mod}
use Rattle.std.proofs.lemmas.Nat.{mul-mod_second}
use Rattle.std.proofs.lemmas.List.{drop_more, drop_all}
use Rattle.algebra.specs.Whole.{residue, product_of}
use Rattle.algebra.proofs.Integers.{whole_ring}
use Rattle.algebra.specs.Expression.{◌:+◌, ◌:-◌, ◌:*◌, :0, :1}
use Rattle.algebra.proofs.Solver.{solve1, solve2, solve4}
use Rattle.algebra.proofs.WholeResidues.{residue_lt, residue-add, residue-mul, residue-neg}
use Rattle.mixed_radix.specs.Mixed.{mixed}

-- the residue r less the digit v, times the inverse e
abbrev pub step : ℕ → ℕ → ℤ → ℕ → ℕ
step q e v r = ((r + (q - residue q v)) % q * e) % q

abbrev pub steps : ℕ → List ℕ → List ℤ → ℕ → ℕ
steps q [] vs r = r
steps q (e ∷ es) [] r = r
steps q (e ∷ es) (v ∷ vs) r = steps q es vs (step q e v r)

pub residue_sum : (q : ℕ) → 0 < q → (a b c : ℤ) → residue q b ≡ residue q c → residue q (a +ℤ b) ≡ residue q (a +ℤ c)
residue_sum q p a b c e = residue-add q p a b ∙ ap (λ z. (residue q a + z) % q) e ∙ sym (residue-add q p a c)

pub residue_product : (q : ℕ) → 0 < q → (a b c : ℤ) → residue q b ≡ residue q c → residue q (a *ℤ b) ≡ residue q (a *ℤ c)
residue_product q p a b c e = residue-mul q p a b ∙ ap (λ z. (residue q a * z) % q) e ∙ sym (residue-mul q p a c)

residue_less : (q : ℕ) → 0 < q → (r : ℕ) (v : ℤ) → residue q (pos r +ℤ neg_ℤ v) ≡ (r + (q - residue q v)) % q
residue_less q p r v = residue-add q p (pos r) (neg_ℤ v) ∙ ap (λ z. (r % q + z) % q) (residue-neg q p v ∙ ap (λ z. (q - z) % q) (mod-eq_of_lt (residue_lt q p v))) ∙ mod-add-mod r q ((q - residue q v) % q) ∙ add-mod-mod r (q - residue q v) q

residue_step : (q e r : ℕ) (v : ℤ) → 0 < q → residue q (pos (step q e v r)) ≡ residue q ((pos r +ℤ neg_ℤ v) *ℤ pos e)
residue_step q e r v p = mod-eq_of_lt (mod-lt ((r + (q - residue q v)) % q * e) p) ∙ sym (residue-mul q p (pos r +ℤ neg_ℤ v) (pos e) ∙ ap (λ z. (z * (e % q)) % q) (residue_less q p r v) ∙ mul-mod_second ((r + (q - residue q v)) % q) e q)

step_is : (q k e r : ℕ) (v : ℤ) → 0 < q → r < q → (k * e) % q ≡ 1 → residue q (v +ℤ pos k *ℤ pos (step q e v r)) ≡ r
step_is q k e r v p l one =
    residue_sum q p v (pos k *ℤ pos (step q e v r)) (pos k *ℤ (d *ℤ pos e)) (residue_product q p (pos k) (pos (step q e v r)) (d *ℤ pos e) (residue_step q e r v p))
    ∙ ap (residue q) (solve4 whole_ring (λ v k r e. v :+ k :* ((r :- v) :* e)) (λ v k r e. v :+ (r :- v) :* (k :* e)) refl v (pos k) (pos r) (pos e))
    ∙ residue_sum q p v (d *ℤ (pos k *ℤ pos e)) (d *ℤ pos 1) (residue_product q p d (pos k *ℤ pos e) (pos 1) (one ∙ sym (mod-eq_of_lt (above one (mod-lt (k * e) p)))))
    ∙ ap (residue q) (solve2 whole_ring (λ v r. v :+ (r :- v) :* :1) (λ v r. r) refl v (pos r))
    ∙ mod-eq_of_lt l
  where
    d : ℤ
    d = pos r +ℤ neg_ℤ v

    above : {m : ℕ} → m ≡ 1 → m < q → 1 < q
    above e l = omega arith

-- the steps lead to the next digit
pub steps_is : (q : ℕ) (ks es : List ℕ) (vs : List ℤ) (r : ℕ) → 0 < q → r < q → length vs ≡ length es → AllZip (λ k e. (k * e) % q ≡ 1) ks es → residue q (mixed ks vs +ℤ pos (product_of ks) *ℤ pos (steps q es vs r)) ≡ r
steps_is q [] [] [] r p l n h = ap (residue q) (solve1 whole_ring (λ r. :0 :+ :1 :* r) (λ r. r) refl (pos r)) ∙ mod-eq_of_lt l
steps_is q [] [] (v ∷ vs) r p l n h = absurd (omega arith)
steps_is q [] (e ∷ es) vs r p l n h = absurd h
steps_is q (k ∷ ks) [] vs r p l n h = absurd h
steps_is q (k ∷ ks) (e ∷ es) [] r p l n h = absurd (omega arith)
steps_is q (k ∷ ks) (e ∷ es) (v ∷ vs) r p l n h =
    ap (residue q) (ap (λ z. v +ℤ pos k *ℤ mixed ks vs +ℤ z) (whole_ring.mul_assoc (pos k) (pos (product_of ks)) (pos rest)) ∙ solve4 whole_ring (λ v k m t. v :+ k :* m :+ k :* t) (λ v k m t. v :+ k :* (m :+ t)) refl v (pos k) (mixed ks vs) (pos (product_of ks) *ℤ pos rest))
    ∙ residue_sum q p v (pos k *ℤ later) (pos k *ℤ pos s) (residue_product q p (pos k) later (pos s) (steps_is q ks es vs s p in_range (omega arith) h.1 ∙ sym (mod-eq_of_lt in_range)))
    ∙ step_is q k e r v p l h.0
  where
    s : ℕ
    s = step q e v r

    in_range : s < q
    in_range = mod-lt ((r + (q - residue q v)) % q * e) p

    rest : ℕ
    rest = steps q es vs s

    later : ℤ
    later = mixed ks vs +ℤ pos (product_of ks) *ℤ pos rest

pub next_digit : (q : ℕ) (ks es : List ℕ) (vs : List ℤ) (r : ℕ) (v : ℤ) → 0 < q → r < q → length vs ≡ length es → residue q v ≡ steps q es vs r → AllZip (λ k e. (k * e) % q ≡ 1) ks es → residue q (mixed ks vs +ℤ pos (product_of ks) *ℤ v) ≡ r
next_digit q ks es vs r v p l n e h = residue_sum q p (mixed ks vs) (pos (product_of ks) *ℤ v) (pos (product_of ks) *ℤ pos (steps q es vs r)) (residue_product q p (pos (product_of ks)) v (pos (steps q es vs r)) (sym (mod-eq_of_lt (residue_lt q p v)) ∙ ap (λ z. z % q) e)) ∙ steps_is q ks es vs r p l n h

-- one step on, in the lists of what is left
pub steps_more : (q : ℕ) (es : List ℕ) (vs : List ℤ) (i r : ℕ) → i < length es → i < length vs → steps q (drop i es) (drop i vs) r ≡ steps q (drop (i + 1) es) (drop (i + 1) vs) (step q (get_or es i 0) (get_or vs i (pos 0)) r)
steps_more q es vs i r l m = ap₂ (λ x y. steps q x y r) (drop_more es i 0 l) (drop_more vs i (pos 0) m)

-- one step of Horner's rule modulo t
pub residue_place : (t : ℕ) → 0 < t → (v : ℤ) (q : ℕ) (m : ℤ) → residue t (v +ℤ pos q *ℤ m) ≡ (residue t v + (residue t (pos q) * residue t m) % t) % t
residue_place t p v q m = residue-add t p v (pos q *ℤ m) ∙ ap (λ z. (residue t v + z) % t) (residue-mul t p (pos q) m)

pub mixed_more : (qs : List ℕ) (vs : List ℤ) (k i : ℕ) → k < length qs → i < length vs → mixed (drop k qs) (drop i vs) ≡ get_or vs i (pos 0) +ℤ pos (get_or qs k 0) *ℤ mixed (drop (k + 1) qs) (drop (i + 1) vs)
mixed_more qs vs k i l m = ap₂ mixed (drop_more qs k 0 l) (drop_more vs i (pos 0) m)

pub steps_end : (q : ℕ) (es : List ℕ) (vs : List ℤ) (i r s : ℕ) → length es ≤ i → steps q (drop i es) (drop i vs) r ≡ s → r ≡ s
steps_end q es vs i r s l e = sym (ap (λ x. steps q x (drop i vs) r) (drop_all i es l)) ∙ e

mixed_none : (qs : List ℕ) → mixed qs [] ≡ pos 0
mixed_none [] = refl
mixed_none (q ∷ qs) = refl

pub horner_none : (t : ℕ) (qs : List ℕ) (vs : List ℤ) (i : ℕ) → 0 < t → length vs ≤ i → 0 ≡ residue t (mixed qs (drop i vs))
horner_none t qs vs i p l = sym (ap (λ z. residue t (mixed qs z)) (drop_all i vs l) ∙ ap (residue t) (mixed_none qs) ∙ mod-eq_of_lt p)

-- one step of Horner's rule modulo t, from place m + 1 to place m
pub horner_more : (t : ℕ) (qs : List ℕ) (vs : List ℤ) (f i m : ℕ) (sum a p r : ℕ) → 0 < t → m + 1 ≡ i → f + m < length qs → m < length vs → sum ≡ residue t (mixed (drop (f + i) qs) (drop i vs)) → a ≡ residue t (get_or vs m (pos 0)) → p ≡ (get_or qs (f + m) 0 % t * sum) % t → r ≡ (a + p) % t → r ≡ residue t (mixed (drop (f + m) qs) (drop m vs))
horner_more t qs vs f i m sum a p r pt e l n s h k j =
    j
    ∙ ap₂ (λ x y. (x + y) % t) h (k ∙ ap (λ z. (get_or qs (f + m) 0 % t * z) % t) (s ∙ ap₂ (λ x y. residue t (mixed (drop x qs) (drop y vs))) next (sym e)))
    ∙ sym (ap (residue t) (mixed_more qs vs (f + m) m l n) ∙ residue_place t pt (get_or vs m (pos 0)) (get_or qs (f + m) 0) (mixed (drop (f + m + 1) qs) (drop (m + 1) vs)))
  where
    next : f + i ≡ f + m + 1
    next = omega arith
