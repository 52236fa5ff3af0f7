-- A quotient that passes modulo q find is the one over the whole numbers, where all products are small.
use Rattle.std.specs.Prelude.{◌≡◌, ℕ, zero, suc, ◌+◌, ◌-◌, ◌*◌, ◌%◌, ◌<◌, ◌≤◌, ◌⊎◌, List, [], ◌∷◌, ◌++◌, ◌^◌, map, length, take, drop, replicate, get_or, ℤ, pos, ◌+ℤ◌, ◌*ℤ◌, nat_abs, refl}
use Rattle.std.specs.List.{All}
use Rattle.std.specs.Prelude.{Option, Some, None, IfSome}
use Rattle.std.proofs.Common.{sym, ◌∙◌, ap, ap₂, subst, inl, inr, arith, mod-eq_of_lt}
use Rattle.std.proofs.lemmas.List.{take_more, map-append, get_or_past, get_or-drop, get_or-take, length-take, length-drop, length-map, length-replicate}
use Rattle.std.proofs.lemmas.Bool.{cases_lt}
use Rattle.std.proofs.lemmas.Int.{ints}
use Rattle.std.proofs.Math.ListN.{get_or-map}
use Rattle.std.proofs.Math.Nat.{mul-le-mul_left}
use mathlib.Core.Path.{fun_ext}
use Rattle.algebra.specs.Ring.{whole_numbers}
use Rattle.algebra.specs.Series.{tail, product, shifted, Below}
use Rattle.algebra.specs.Poly.{coeff, times, quotient_by}
use Rattle.algebra.specs.Whole.{residue, balanced}
use Rattle.algebra.proofs.Basic.{add_zero}
use Rattle.algebra.proofs.Integers.{whole_ring}
use Rattle.algebra.proofs.SeriesRing.{product_head, product_tail, product_zeros, product_comm}
use Rattle.algebra.proofs.Degrees.{Below-zero, Below-tail}
use Rattle.algebra.proofs.Spread.{shifted_high, shifted_low, product-shifted}
use Rattle.algebra.proofs.Lists.{coeff-plus, coeff-times}
use Rattle.algebra.proofs.Dividing.{divided_only, coeff-none}
use Rattle.algebra.proofs.WholeResidues.{residue_lt, residue-add, residue-mul, same_residue, same_modulo}
use Rattle.algebra.proofs.Balanced.{balanced_is, balanced_only}
use Rattle.cyclotomic.specs.Cyclotomic.{phi, degree}
use Rattle.cyclotomic.specs.Norm.{one_norm}
use Rattle.cyclotomic.proofs.Norms.{norm, norm_first, abs_add, abs_mul}
use Rattle.cyclotomic.proofs.PhiLists.{phi_monic}
use Rattle.cyclo_poly.specs.Strides.{AreStrides, IsLess, IsPassed}
use Rattle.cyclo_poly.specs.Tall.{AllSmall}
use Rattle.cyclo_poly.proofs.Shifts.{Whole, Same, from_top, lift, by_passes}

-- ---- what passes give
pub passed_is : (q : ℕ) → 0 < q → (d : ℕ) (above below : List ℕ) (a : List ℤ) (f mid s : List ℕ) → 0 < d → AreStrides d above below → f ≡ map (residue q) a → All (λ v. v < q) f → IsLess q below f mid → IsLess q above s mid → IsPassed q d a s
passed_is q p zero above below a f mid s l S e h g t i = absurd (omega arith)
passed_is q p (suc k) above below a f mid s l S e h g t i = sym own ∙ by_passes q p k above below S f mid s g t i
  where
    own : residue q (pos (get_or f i 0)) ≡ residue q (coeff whole_numbers a i)
    own = ap (λ z. get_or f i z % q) (sym (mod-eq_of_lt p)) ∙ ap (λ z. get_or z i (0 % q) % q) e ∙ ap (λ z. z % q) (get_or-map (residue q) a i (pos 0)) ∙ mod-eq_of_lt (residue_lt q p (coeff whole_numbers a i))

-- ---- a row of numbers that are small
pub small_push : (list new : List ℤ) (x : ℤ) → new ≡ list ++ x ∷ [] → nat_abs x < 2 ^ 31 → AllSmall list → AllSmall new
small_push list new x e l h = subst AllSmall (sym e) (go list h)
  where
    go : (list : List ℤ) → AllSmall list → AllSmall (list ++ x ∷ [])
    go [] h zero = l
    go [] h (suc i) = omega arith
    go (y ∷ list) h zero = h 0
    go (y ∷ list) h (suc i) = go list (λ j. h (suc j)) i

pub map_push : (f : ℕ → ℤ) (row : List ℕ) (list new : List ℤ) (i : ℕ) (x : ℤ) → new ≡ list ++ x ∷ [] → i < length row → x ≡ f (get_or row i 0) → list ≡ map f (take i row) → new ≡ map f (take (i + 1) row)
map_push f row list new i x e l h k = e ∙ ap₂ (λ y z. y ++ z ∷ []) k h ∙ sym (map-append f (take i row) (get_or row i 0 ∷ [])) ∙ ap (map f) (sym (take_more row i 0 l))

-- ---- products of small coefficients
abs_product : (n i B : ℕ) (f g : Whole) → Below whole_numbers n f → ((j : ℕ) → nat_abs (g j) ≤ B) → nat_abs (product whole_numbers f g i) ≤ norm n f * B
abs_product zero i B f g b h = subst (λ z. nat_abs z ≤ 0 * B) (sym (ap (λ z. product whole_numbers z g i) (Below-zero whole_ring f b) ∙ product_zeros whole_ring g i)) (omega arith)
abs_product (suc n) zero B f g b h = omega (arith, norm_first n f, ap nat_abs (product_head whole_ring f g) ∙ abs_mul (f 0) (g 0), mul-le-mul_left (nat_abs (f 0)) (h 0), ap (λ z. z * B) (norm_first n f), mul-le-mul_left (norm n (tail f)) (let z : 0 ≤ B = omega arith in z))
abs_product (suc n) (suc i) B f g b h = omega (arith, ap nat_abs (product_tail whole_ring f g i), abs_add (f 0 *ℤ g (suc i)) (product whole_numbers (tail f) g i), abs_mul (f 0) (g (suc i)), mul-le-mul_left (nat_abs (f 0)) (h (suc i)), abs_product n i B (tail f) g (Below-tail whole_ring n f b) h, ap (λ z. z * B) (norm_first n f))

pub norm-coeff : (f : List ℤ) → norm (length f) (coeff whole_numbers f) ≡ one_norm f
norm-coeff [] = refl
norm-coeff (x ∷ f) = norm_first (length f) (coeff whole_numbers (x ∷ f)) ∙ ap (λ z. nat_abs x + z) (norm-coeff f)

-- two small numbers with one residue are equal
pub same_small : (q : ℕ) → 0 < q → (x y : ℤ) → 2 * nat_abs x < q → 2 * nat_abs y < q → residue q x ≡ residue q y → x ≡ y
same_small q p x y l h e = balanced_only q p y x (record { same = same_modulo q p y x (sym e); high = omega (arith, ints, l); low = omega (arith, ints, l) }) ∙ sym (balanced_only q p y y (record { same = same_modulo q p y y refl; high = omega (arith, ints, h); low = omega (arith, ints, h) }))

module _ (q : ℕ) (positive : 0 < q) where
  -- products see residues
  same_product : (f g h : Whole) → Same q f g → Same q (product whole_numbers f h) (product whole_numbers g h)
  same_product f g h s zero = ap (residue q) (product_head whole_ring f h) ∙ residue-mul q positive (f 0) (h 0) ∙ ap (λ z. z * residue q (h 0) % q) (s 0) ∙ sym (residue-mul q positive (g 0) (h 0)) ∙ sym (ap (residue q) (product_head whole_ring g h))
  same_product f g h s (suc i) = ap (residue q) (product_tail whole_ring f h i) ∙ residue-add q positive (f 0 *ℤ h (suc i)) (product whole_numbers (tail f) h i) ∙ ap₂ (λ y z. (y + z) % q) (residue-mul q positive (f 0) (h (suc i)) ∙ ap (λ z. z * residue q (h (suc i)) % q) (s 0) ∙ sym (residue-mul q positive (g 0) (h (suc i)))) (same_product (tail f) (tail g) h (λ j. s (suc j)) i) ∙ sym (residue-add q positive (g 0 *ℤ h (suc i)) (product whole_numbers (tail g) h i)) ∙ sym (ap (residue q) (product_tail whole_ring g h i))

  residue-balanced : (x : ℕ) → residue q (balanced q (pos x)) ≡ x % q
  residue-balanced x = sym (same_residue q positive (pos x) (balanced q (pos x)) (balanced_is q positive (pos x)).same)

  module _ (k : ℕ) (a : List ℤ) (s : List ℕ) where
    abbrev n : ℕ
    n = degree (suc k)

    abbrev Psi : Whole
    Psi = coeff whole_numbers (phi (suc k))

    -- the row from place n on
    abbrev high : Whole
    high i = pos (get_or s (n + i) 0)

    abbrev quotient_row : List ℤ
    quotient_row = map (λ x. balanced q (pos x)) (drop n s)

    shifts : ((i : ℕ) → i < n → get_or s i 0 ≡ 0) → (i : ℕ) → lift q positive s i ≡ shifted whole_numbers n high i
    shifts z i = go (cases_lt i n)
      where
        go : (i < n) ⊎ (n ≤ i) → lift q positive s i ≡ shifted whole_numbers n high i
        go (inl l) = ap pos (z i l) ∙ sym (shifted_low whole_ring n high i l)
        go (inr l) = let e : n + (i - n) ≡ i = omega arith in ap (lift q positive s) (sym e) ∙ sym (shifted_high whole_ring n high (i - n)) ∙ ap (shifted whole_numbers n high) e

    top_is : ((i : ℕ) → i < n → get_or s i 0 ≡ 0) → (i : ℕ) → from_top Psi n (lift q positive s) i ≡ product whole_numbers high Psi i
    top_is z i = product_comm whole_ring Psi (lift q positive s) (i + n) ∙ ap (λ f. product whole_numbers f Psi (i + n)) (fun_ext (shifts z)) ∙ product-shifted whole_ring n high Psi (i + n) ∙ ap (shifted whole_numbers n (product whole_numbers high Psi)) (let e : i + n ≡ n + i = omega arith in e) ∙ shifted_high whole_ring n (product whole_numbers high Psi) i

    quotient_at : (i : ℕ) → coeff whole_numbers quotient_row i ≡ balanced q (high i)
    quotient_at i = ap (get_or quotient_row i) (sym none) ∙ get_or-map (λ x. balanced q (pos x)) (drop n s) i 0 ∙ ap (λ x. balanced q (pos x)) (get_or-drop n s i 0)
      where
        none : balanced q (pos 0) ≡ pos 0
        none = sym (balanced_only q positive (pos 0) (pos 0) (record { same = same_modulo q positive (pos 0) (pos 0) refl; high = omega (arith, ints); low = omega (arith, ints, positive) }))

    same_row : Same q high (coeff whole_numbers quotient_row)
    same_row i = sym (ap (residue q) (quotient_at i) ∙ residue-balanced (get_or s (n + i) 0))

    pub exact_is : length s ≡ length a → n ≤ length s → ((i : ℕ) → i < n → get_or s i 0 ≡ 0) → IsPassed q (suc k) a s → (B : ℕ) → ((j : ℕ) → nat_abs (coeff whole_numbers quotient_row j) ≤ B) → 2 * (one_norm (phi (suc k)) * B) < q → ((j : ℕ) → 2 * nat_abs (coeff whole_numbers a j) < q) → quotient_row ≡ quotient_by whole_numbers (phi (suc k)) a
    exact_is long room z P B small products own = (divided_only whole_ring (phi (suc k)) (phi_monic k) a quotient_row (replicate n (pos 0)) (record {
      quotient_long = length-map (drop n s) (λ x. balanced q (pos x)) ∙ length-drop n s ∙ ap (λ z. z - n) long;
      remainder_long = length-replicate n (pos 0);
      sum_is = λ i. coeff-plus whole_ring (times whole_numbers quotient_row (phi (suc k))) (replicate n (pos 0)) i ∙ ap₂ (λ y z. y +ℤ z) (coeff-times whole_ring quotient_row (phi (suc k)) i) (coeff-none whole_ring n i) ∙ add_zero whole_ring (product whole_numbers (coeff whole_numbers quotient_row) Psi i) ∙ sym (each i);
    })).0
      where
        each : (i : ℕ) → coeff whole_numbers a i ≡ product whole_numbers (coeff whole_numbers quotient_row) Psi i
        each i = same_small q positive (coeff whole_numbers a i) (product whole_numbers (coeff whole_numbers quotient_row) Psi i) (own i) (omega (arith, products, ap nat_abs (product_comm whole_ring (coeff whole_numbers quotient_row) Psi i), abs_product (length (phi (suc k))) i B Psi (coeff whole_numbers quotient_row) (λ j l. get_or_past (phi (suc k)) j (pos 0) l) small, ap (λ z. z * B) (norm-coeff (phi (suc k))))) (P i ∙ ap (residue q) (top_is z i) ∙ same_product high (coeff whole_numbers quotient_row) Psi same_row i)

-- what is found is M, and small; and M is Y where it is small and two facts hold
pub some_equal : {T : Type 0} (items : T → List ℤ) (M Y : List ℤ) (A B : Type 0) (o : Option T) → IfSome o (λ c. items c ≡ M) → IfSome o (λ c. AllSmall (items c)) → IfSome o (λ _. A) → IfSome o (λ _. B) → (A → B → AllSmall M → M ≡ Y) → IfSome o (λ c. items c ≡ Y)
some_equal items M Y A B (Some c) h s a b e = h ∙ e a b (subst AllSmall h s)
some_equal items M Y A B None h s a b e = tt

-- ---- what the code finds
pub found_is : (q d : ℕ) (above below : List ℕ) (a : List ℤ) (old s : List ℕ) → q ≡ 2305843009213693951 → 0 < d → AreStrides d above below → old ≡ map (residue q) a → All (λ v. v < q) old → ((mid : List ℕ) × (IsLess q below old mid) × (IsLess q above s mid)) → length s ≡ length a → degree d ≤ length s → All (λ x. x ≡ 0) (take (degree d) s) → one_norm (phi d) < 2 ^ 28 → AllSmall a → AllSmall (map (λ x. balanced q (pos x)) (drop (degree d) s)) → map (λ x. balanced q (pos x)) (drop (degree d) s) ≡ quotient_by whole_numbers (phi d) a
found_is q zero above below a old s e l S f g P long room z norm own small = absurd (omega arith)
found_is q (suc k) above below a old s e l S f g P long room z norm own small = exact_is q positive k a s long room zeros (passed_is q positive (suc k) above below a old P.0 s l S f g P.1 P.2) (2 ^ 31) (λ j. omega (arith, small j)) (omega (arith, norm, e)) (λ j. omega (arith, own j, e))
  where
    positive : 0 < q
    positive = omega (arith, e)

    zeros : (i : ℕ) → i < degree (suc k) → get_or s i 0 ≡ 0
    zeros i m = sym (get_or-take (degree (suc k)) s i 0 m) ∙ z i 0 (omega (arith, length-take (degree (suc k)) s, m, room))
