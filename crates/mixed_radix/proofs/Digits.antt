-- One more digit.
use Rattle.std.specs.Prelude.{◌≡◌, ℕ, ◌+◌, ◌*◌, ◌<◌, All, List, [], ◌∷◌, ◌++◌, length, get_or, set, take, ℤ, pos, ◌+ℤ◌, ◌*ℤ◌, nat_abs, refl}
use Rattle.std.specs.List.{AllZip}
use Rattle.std.proofs.Common.{sym, ◌∙◌, ap, subst}
use Rattle.std.proofs.lemmas.List.{take_more, take_more_set}
use Rattle.std.proofs.lemmas.List.Elements.{All-head, All-tail, AllZip-push}
use Rattle.algebra.specs.Whole.{residue, SameModulo, product_of}
use Rattle.algebra.proofs.Integers.{whole_ring}
use Rattle.algebra.specs.Expression.{◌:+◌, ◌:*◌, :0, :1}
use Rattle.algebra.proofs.Solver.{solve2, solve4}
use Rattle.algebra.proofs.Chinese.{same_each}
use Rattle.algebra.proofs.WholeResidues.{same_residue}
use Rattle.mixed_radix.specs.Mixed.{mixed, AreBalanced, AreDigits}
use Rattle.mixed_radix.proofs.Sums.{moduli_positive}

mixed_push : (qs : List ℕ) (vs : List ℤ) (q : ℕ) (v : ℤ) → AreBalanced qs vs → mixed (qs ++ q ∷ []) (vs ++ v ∷ []) ≡ mixed qs vs +ℤ pos (product_of qs) *ℤ v
mixed_push [] [] q v h = solve2 whole_ring (λ v q. v :+ q :* :0) (λ v q. :0 :+ :1 :* v) refl v (pos q)
mixed_push [] (w ∷ vs) q v h = absurd h
mixed_push (k ∷ qs) [] q v h = absurd h
mixed_push (k ∷ qs) (w ∷ vs) q v h = ap (λ z. w +ℤ pos k *ℤ z) (mixed_push qs vs q v h.1) ∙ solve4 whole_ring (λ w k m t. w :+ k :* (m :+ t)) (λ w k m t. w :+ k :* m :+ k :* t) refl w (pos k) (mixed qs vs) (pos (product_of qs) *ℤ v) ∙ ap (λ z. w +ℤ pos k *ℤ mixed qs vs +ℤ z) (sym (whole_ring.mul_assoc (pos k) (pos (product_of qs)) v))

balanced_push : (qs : List ℕ) (vs : List ℤ) (q : ℕ) (v : ℤ) → AreBalanced qs vs → 2 * nat_abs v < q → AreBalanced (qs ++ q ∷ []) (vs ++ v ∷ [])
balanced_push [] [] q v h l = (l, tt)
balanced_push [] (w ∷ vs) q v h l = absurd h
balanced_push (k ∷ qs) [] q v h l = absurd h
balanced_push (k ∷ qs) (w ∷ vs) q v h l = (h.0, balanced_push qs vs q v h.1 l)

residues_kept : (qs rs : List ℕ) (a b : ℤ) → All (λ q. 0 < q) qs → All (λ q. SameModulo q a b) qs → AllZip (λ q r. residue q b ≡ r) qs rs → AllZip (λ q r. residue q a ≡ r) qs rs
residues_kept [] [] a b h s z = tt
residues_kept [] (r ∷ rs) a b h s z = z
residues_kept (q ∷ qs) [] a b h s z = z
residues_kept (q ∷ qs) (r ∷ rs) a b h s z = (same_residue q (All-head (λ q. 0 < q) q qs h) a b (All-head (λ q. SameModulo q a b) q qs s) ∙ z.0, residues_kept qs rs a b (All-tail (λ q. 0 < q) q qs h) (All-tail (λ q. SameModulo q a b) q qs s) z.1)

pub AreDigits-push : (qs rs : List ℕ) (vs : List ℤ) (q r : ℕ) (v : ℤ) → AreDigits qs rs vs → 2 * nat_abs v < q → residue q (mixed qs vs +ℤ pos (product_of qs) *ℤ v) ≡ r → AreDigits (qs ++ q ∷ []) (rs ++ r ∷ []) (vs ++ v ∷ [])
AreDigits-push qs rs vs q r v D l e = record {
  balanced = balanced_push qs vs q v D.balanced l;
  residues = at (mixed (qs ++ q ∷ []) (vs ++ v ∷ [])) (mixed_push qs vs q v D.balanced);
}
  where
    more : ℤ
    more = mixed qs vs +ℤ pos (product_of qs) *ℤ v

    at : (m : ℤ) → m ≡ more → AllZip (λ q r. residue q m ≡ r) (qs ++ q ∷ []) (rs ++ r ∷ [])
    at m f = AllZip-push (λ q r. residue q m ≡ r) qs rs q r (residues_kept qs rs m (mixed qs vs) (moduli_positive qs vs D.balanced) (same_each qs m (mixed qs vs) (v, f)) D.residues) (ap (residue q) f ∙ e)

pub AreDigits-more : (qs rs : List ℕ) (vs : List ℤ) (j q : ℕ) (v : ℤ) → j < length qs → j < length rs → j < length vs → get_or qs j 0 ≡ q → AreDigits (take j qs) (take j rs) (take j vs) → 2 * nat_abs v < q → residue q (mixed (take j qs) (take j vs) +ℤ pos (product_of (take j qs)) *ℤ v) ≡ get_or rs j 0 → AreDigits (take (j + 1) qs) (take (j + 1) rs) (take (j + 1) (set vs j v))
AreDigits-more qs rs vs j q v lq lr lv e D l h =
    subst (λ z. AreDigits z (take (j + 1) rs) (take (j + 1) (set vs j v))) (sym (take_more qs j 0 lq ∙ ap (λ z. take j qs ++ z ∷ []) e))
    (subst (λ z. AreDigits (take j qs ++ q ∷ []) z (take (j + 1) (set vs j v))) (sym (take_more rs j 0 lr))
    (subst (λ z. AreDigits (take j qs ++ q ∷ []) (take j rs ++ get_or rs j 0 ∷ []) z) (sym (take_more_set vs j v lv))
    (AreDigits-push (take j qs) (take j rs) (take j vs) q (get_or rs j 0) v D l h)))
