-- Rows determine whole polynomials up to multiples of the product of the moduli, and the whole polynomial behind them.
use Rattle.std.specs.Prelude.{◌≡◌, ℕ, zero, suc, ◌*◌, ◌%◌, ◌<◌, ◌≤◌, Bool, true, false, cond, eqb, All, List, [], ◌∷◌, map, length, get_or, ℤ, pos, negsuc, nat_abs, refl}
use Rattle.std.specs.List.{AllZip}
use Rattle.std.proofs.Common.{arith, sym, ◌∙◌, ap, ap₂, subst, eq-eqb, eqb-true, div-add-mod'}
use Rattle.std.proofs.lemmas.Bool.{and_parts, and_from}
use Rattle.std.proofs.lemmas.Int.{ints}
use Rattle.std.proofs.lemmas.Nat.{mul-mod_first}
use Rattle.std.proofs.lemmas.List.{length-map, get_or-map, ext_get_or}
use Rattle.algebra.specs.Ring.{whole_numbers}
use Rattle.algebra.specs.Poly.{coeff}
use Rattle.algebra.specs.Whole.{residue, balanced, SameModulo, IsBalanced, product_of, AreInvertible, IsChinese, below}
use Rattle.algebra.proofs.Balanced.{balanced_is, balanced_only}
use Rattle.algebra.proofs.Chinese.{all_rest, same_each, same_trans, chinese, product_positive}
use Rattle.algebra.proofs.ChineseRows.{rows_product, rows_each}
use Rattle.algebra.proofs.Maps.{map_coeff}
use Rattle.algebra.proofs.Sums.{length-below, get_or-below}
use Rattle.algebra.proofs.WholeResidues.{residue_preserves, same_residue, same_modulo}
use Rattle.cyclotomic.specs.Cyclotomic.{degree}
use Rattle.residue_rows.specs.Rows.{row_of, rows_of, AreRows}
use Rattle.residue_rows.specs.Whole.{has_residues, first_of, number_with, residues_at, whole, IsWhole}
use Rattle.residue_rows.specs.RowLaws.{RowsDetermine, WholeIs, WholeLaw}

-- ---- rows and the product of the moduli
abbrev SameRows : List ℤ → List ℤ → ℕ → Type 0
SameRows a b q = row_of q a ≡ row_of q b

rows_same : (a b : List ℤ) (qs : List ℕ) → rows_of qs a ≡ rows_of qs b → All (SameRows a b) qs
rows_same a b [] e k d l = absurd (omega arith)
rows_same a b (q ∷ qs) e zero d l = head e
  where
    head : {x y : List ℕ} {xs ys : List (List ℕ)} → x ∷ xs ≡ y ∷ ys → x ≡ y
    head e = cc
rows_same a b (q ∷ qs) e (suc k) d l = rows_same a b qs (rest e) k d (omega arith)
  where
    rest : {x y : List ℕ} {xs ys : List (List ℕ)} → x ∷ xs ≡ y ∷ ys → xs ≡ ys
    rest e = cc

same_rows : (a b : List ℤ) (qs : List ℕ) → All (SameRows a b) qs → rows_of qs a ≡ rows_of qs b
same_rows a b [] h = refl
same_rows a b (q ∷ qs) h = ap₂ (λ y z. y ∷ z) (h 0 0 (omega arith)) (same_rows a b qs (all_rest (SameRows a b) q qs h))

pub rows_determine : RowsDetermine
rows_determine qs a b invertible positive long = (forth, back)
  where
    P : ℕ
    P = product_of qs

    some : 0 < P
    some = product_positive qs positive

    at : (c : List ℤ) (i : ℕ) → residue P (coeff whole_numbers c i) ≡ get_or (map (residue P) c) i 0
    at c i = map_coeff (residue_preserves P some) c i

    forth : rows_of qs a ≡ rows_of qs b → (i : ℕ) → SameModulo P (coeff whole_numbers a i) (coeff whole_numbers b i)
    forth e i = same_modulo P some (coeff whole_numbers a i) (coeff whole_numbers b i) (at a i ∙ ap (λ r. get_or r i 0) (rows_product qs a b long invertible positive (rows_same a b qs e)) ∙ sym (at b i))

    back : ((i : ℕ) → SameModulo P (coeff whole_numbers a i) (coeff whole_numbers b i)) → rows_of qs a ≡ rows_of qs b
    back h = same_rows a b qs (rows_each qs a b long positive (ext_get_or 0 (map (residue P) a) (map (residue P) b) (length-map a (residue P) ∙ long ∙ sym (length-map b (residue P))) (λ i l. sym (at a i) ∙ same_residue P some (coeff whole_numbers a i) (coeff whole_numbers b i) (h i) ∙ at b i)))

-- ---- the number with given residues
test_from : (qs rs : List ℕ) (x : ℕ) → AllZip (λ q r. x % q ≡ r) qs rs → has_residues qs rs x ≡ true
unfolding has_residues
test_from [] rs x h = refl
test_from (q ∷ qs) [] x h = absurd h
test_from (q ∷ qs) (r ∷ rs) x h = and_from (eqb (x % q) r) (has_residues qs rs x) (eq-eqb (x % q) r h.0) (test_from qs rs x h.1)

test_to : (qs rs : List ℕ) (x : ℕ) → length rs ≡ length qs → has_residues qs rs x ≡ true → AllZip (λ q r. x % q ≡ r) qs rs
unfolding has_residues
test_to [] [] x e h = tt
test_to [] (r ∷ rs) x e h = absurd (omega arith)
test_to (q ∷ qs) [] x e h = absurd (omega arith)
test_to (q ∷ qs) (r ∷ rs) x e h = (eqb-true (x % q) r (and_parts (eqb (x % q) r) (has_residues qs rs x) h).0, test_to qs rs x (omega arith) (and_parts (eqb (x % q) r) (has_residues qs rs x) h).1)

-- the search finds what there is
found : (test : ℕ → Bool) (xs : List ℕ) (i : ℕ) → i < length xs → test (get_or xs i 0) ≡ true → test (first_of test xs) ≡ true
unfolding first_of
found test [] i l h = absurd (omega arith)
found test (x ∷ xs) i l h = go (test x) refl i l h (found test xs)
  where
    go : (b : Bool) → test x ≡ b → (i : ℕ) → i < suc (length xs) → test (get_or (x ∷ xs) i 0) ≡ true → ((i : ℕ) → i < length xs → test (get_or xs i 0) ≡ true → test (first_of test xs) ≡ true) → test (cond b x (first_of test xs)) ≡ true
    go true e i l h later = e
    go false e zero l h later = absurd (cc)
    go false e (suc i) l h later = later i (omega arith) h

number_found : (qs rs : List ℕ) → AreInvertible qs → AllZip (λ q r. r < q) qs rs → AllZip (λ q r. number_with qs rs % q ≡ r) qs rs
unfolding number_with
number_found qs rs invertible small = go (chinese qs rs invertible small)
  where
    long : (qs rs : List ℕ) → AllZip (λ q r. r < q) qs rs → length rs ≡ length qs
    long [] [] h = refl
    long [] (r ∷ rs) h = absurd h
    long (q ∷ qs) [] h = absurd h
    long (q ∷ qs) (r ∷ rs) h = ap suc (long qs rs h.1)

    go : (x : ℕ) × IsChinese qs rs x → AllZip (λ q r. number_with qs rs % q ≡ r) qs rs
    go (x, X) = test_to qs rs (number_with qs rs) (long qs rs small) (found (has_residues qs rs) (below (product_of qs)) x (omega (arith, length-below (product_of qs), X.small)) (ap (has_residues qs rs) (get_or-below (product_of qs) x 0 X.small) ∙ test_from qs rs x X.residues))

residues_small : (n i : ℕ) → i < n → (qs : List ℕ) (rows : List (List ℕ)) → AllZip (λ q row. (length row ≡ n) × All (λ c. c < q) row) qs rows → AllZip (λ q r. r < q) qs (residues_at i rows)
residues_small n i l [] [] h = tt
residues_small n i l [] (row ∷ rows) h = absurd h
residues_small n i l (q ∷ qs) [] h = absurd h
residues_small n i l (q ∷ qs) (row ∷ rows) h = (h.0.1 i 0 (omega (arith, h.0.0)), residues_small n i l qs rows h.1)

-- ---- the whole polynomial
-- rows are those of a polynomial whose coefficients have their residues
rows_are : (n : ℕ) (w : List ℤ) → length w ≡ n → (qs : List ℕ) (rows : List (List ℕ)) → AllZip (λ q row. (length row ≡ n) × All (λ c. c < q) row) qs rows → ((i : ℕ) → i < n → AllZip (λ q r. residue q (coeff whole_numbers w i) ≡ r) qs (residues_at i rows)) → rows_of qs w ≡ rows
rows_are n w e [] [] h r = refl
rows_are n w e [] (row ∷ rows) h r = absurd h
rows_are n w e (q ∷ qs) [] h r = absurd h
rows_are n w e (q ∷ qs) (row ∷ rows) h r = ap₂ (λ y z. y ∷ z) (ext_get_or 0 (row_of q w) row (length-map w (residue q) ∙ e ∙ sym h.0.0) (λ i l. get_or-map (residue q) w i (pos 0) 0 (omega (arith, length-map w (residue q), l)) ∙ (r i (omega (arith, length-map w (residue q), l, e))).0)) (rows_are n w e qs rows h.1 (λ i l. (r i l).1))

along : (x : ℕ) (z : ℤ) (qs rs : List ℕ) → AllZip (λ q r. x % q ≡ r) qs rs → All (λ q. residue q (pos x) ≡ residue q z) qs → AllZip (λ q r. residue q z ≡ r) qs rs
along x z [] [] h s = tt
along x z [] (r ∷ rs) h s = absurd h
along x z (q ∷ qs) [] h s = absurd h
along x z (q ∷ qs) (r ∷ rs) h s = (sym (s 0 0 (omega arith)) ∙ h.0, along x z qs rs h.1 (all_rest (λ q. residue q (pos x) ≡ residue q z) q qs s))

odd_some : (q : ℕ) → q % 2 ≡ 1 → 0 < q
odd_some zero e = absurd (cc)
odd_some (suc q) e = omega arith

odd_product : (qs : List ℕ) → All (λ q. q % 2 ≡ 1) qs → product_of qs % 2 ≡ 1
odd_product [] h = refl
odd_product (q ∷ qs) h = sym (mul-mod_first q (product_of qs) 2) ∙ ap (λ z. (z * product_of qs) % 2) (h 0 0 (omega arith)) ∙ ap (λ z. z % 2) (once (product_of qs)) ∙ odd_product qs (all_rest (λ q. q % 2 ≡ 1) q qs h)
  where
    once : (z : ℕ) → 1 * z ≡ z
    once z = omega arith

-- for an odd n the balanced residues are those below half of n
below_half : (n : ℕ) (z r : ℤ) → n % 2 ≡ 1 → IsBalanced n z r → 2 * nat_abs r < n
below_half n z (pos a) o B = odd (2 * a) a refl (omega (arith, ints, B.high))
  where
    odd : (b a : ℕ) → b ≡ 2 * a → b ≤ n → b < n
    odd b a e l = omega (arith, div-add-mod' n 2, o, e, l)
below_half n z (negsuc a) o B = omega (arith, ints, B.low)

half_balanced : (n : ℕ) (z r : ℤ) → SameModulo n z r → 2 * nat_abs r < n → IsBalanced n z r
half_balanced n z (pos a) s l = record { same = s; high = omega (arith, ints, l); low = omega (arith, ints, l) }
half_balanced n z (negsuc a) s l = record { same = s; high = omega (arith, ints, l); low = omega (arith, ints, l) }

module _ (m : ℕ) (qs : List ℕ) (rows : List (List ℕ)) (invertible : AreInvertible qs) (odd : All (λ q. q % 2 ≡ 1) qs) (rows_in : AreRows m qs rows) where
  positive : All (λ q. 0 < q) qs
  positive k d l = odd_some (get_or qs k d) (odd k d l)

  some : 0 < product_of qs
  some = product_positive qs positive

  abbrev x : ℕ → ℕ
  x i = number_with qs (residues_at i rows)

  long : length (whole m qs rows) ≡ degree m
  unfolding whole
  long = length-map (below (degree m)) (λ i. balanced (product_of qs) (pos (x i))) ∙ length-below (degree m)

  coefficient : (i : ℕ) (d : ℤ) → i < degree m → get_or (whole m qs rows) i d ≡ balanced (product_of qs) (pos (x i))
  unfolding whole
  coefficient i d l = get_or-map (λ i. balanced (product_of qs) (pos (x i))) (below (degree m)) i 0 d (omega (arith, length-below (degree m), l)) ∙ ap (λ i. balanced (product_of qs) (pos (x i))) (get_or-below (degree m) i 0 l)

  balanced_at : (i : ℕ) (d : ℤ) → i < degree m → IsBalanced (product_of qs) (pos (x i)) (get_or (whole m qs rows) i d)
  balanced_at i d l = subst (IsBalanced (product_of qs) (pos (x i))) (sym (coefficient i d l)) (balanced_is (product_of qs) some (pos (x i)))

  residues_of : (i : ℕ) → i < degree m → AllZip (λ q r. residue q (coeff whole_numbers (whole m qs rows) i) ≡ r) qs (residues_at i rows)
  residues_of i l = along (x i) (coeff whole_numbers (whole m qs rows) i) qs (residues_at i rows) (number_found qs (residues_at i rows) invertible (residues_small (degree m) i l qs rows rows_in)) (λ k d h. same_residue (get_or qs k d) (positive k d h) (pos (x i)) (coeff whole_numbers (whole m qs rows) i) (same_each qs (pos (x i)) (coeff whole_numbers (whole m qs rows) i) (balanced_at i (pos 0) l).same k d h))

  is_whole : IsWhole m qs rows (whole m qs rows)
  is_whole = record {
    long = long;
    residues = rows_are (degree m) (whole m qs rows) long qs rows rows_in residues_of;
    small = λ k d l. below_half (product_of qs) (pos (x k)) (get_or (whole m qs rows) k d) (odd_product qs odd) (balanced_at k d (omega (arith, long, l)));
  }

  only_whole : (a : List ℤ) → IsWhole m qs rows a → a ≡ whole m qs rows
  only_whole a A = ext_get_or (pos 0) a (whole m qs rows) (A.long ∙ sym long) (λ i l. at i (omega (arith, A.long, l)))
    where
      at : (i : ℕ) → i < degree m → coeff whole_numbers a i ≡ coeff whole_numbers (whole m qs rows) i
      at i l = balanced_only (product_of qs) some (pos (x i)) (coeff whole_numbers a i) (half_balanced (product_of qs) (pos (x i)) (coeff whole_numbers a i) same (A.small i (pos 0) (omega (arith, A.long, l)))) ∙ sym (coefficient i (pos 0) l)
        where
          same : SameModulo (product_of qs) (pos (x i)) (coeff whole_numbers a i)
          same = same_trans (product_of qs) (pos (x i)) (coeff whole_numbers (whole m qs rows) i) (coeff whole_numbers a i) (balanced_at i (pos 0) l).same ((rows_determine qs (whole m qs rows) a invertible positive (long ∙ sym A.long)).0 (is_whole.residues ∙ sym A.residues) i)

  pub whole_is : WholeIs m qs rows
  whole_is = record { is = is_whole; only = only_whole }

pub whole_law : WholeLaw
whole_law m qs rows p invertible odd rows_in = whole_is m qs rows invertible odd rows_in
