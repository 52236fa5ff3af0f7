-- The residues of whole polynomials keep the operations, and so do multiples and substitutions of rows.
use Rattle.std.specs.Prelude.{◌≡◌, ℕ, ◌<◌, All, List, [], ◌∷◌, map, length, get_or, ℤ, pos, refl}
use Rattle.std.proofs.Common.{arith, sym, ◌∙◌, ap, ap₂, mod-eq_of_lt, subst}
use Rattle.std.proofs.lemmas.List.{length-map, get_or-map}
use mathlib.Core.Path.{fun_ext}
use Rattle.algebra.specs.Ring.{whole_numbers, residues}
use Rattle.algebra.specs.Hom.{Preserves}
use Rattle.algebra.specs.Series.{product}
use Rattle.algebra.specs.Poly.{plus, scaled, times, at_power, remainder, coeff}
use Rattle.algebra.specs.Whole.{residue}
use Rattle.algebra.proofs.Chinese.{all_rest}
use Rattle.algebra.proofs.Integers.{whole_ring}
use Rattle.algebra.proofs.Lists.{coeff-scaled, coeff-times}
use Rattle.algebra.proofs.Basic.{mul_add}
use Rattle.algebra.proofs.SeriesRing.{product-scaled}
use Rattle.algebra.proofs.Maps.{map_scaled, map_at_power, map_remainder, map_modulo}
use Rattle.algebra.proofs.Quotients.{remainder_same, remainder-scaled}
use Rattle.algebra.proofs.WholeResidues.{residue_lt, residue_preserves}
use Rattle.cyclotomic.specs.Cyclotomic.{phi, degree, R, IsElement, substituted, multiple}
use Rattle.cyclotomic.proofs.PhiLaws.{phi_is_monic}
use Rattle.cyclotomic.proofs.RingR.{fold_element}
use Rattle.residue_rows.specs.Rows.{phi_modulo, R_modulo, row_of, rows_of, AreRows, each, both, R_each, multiple_each}
use Rattle.residue_rows.specs.RowLaws.{ResiduesKeep, ResiduesLaw, MultiplesLaw}

-- ---- one modulus
module _ (q : ℕ) (positive : 0 < q) where
  abbrev K : Preserves whole_numbers (residues q) (residue q)
  K = residue_preserves q positive

  pub row_small : (a : List ℤ) → All (λ c. c < q) (row_of q a)
  row_small a k d l = subst (λ z. z < q) (sym (get_or-map (residue q) a k (pos 0) d (omega (arith, length-map a (residue q), l)))) (residue_lt q positive (get_or a k (pos 0)))

  -- residues below q are those of themselves as whole numbers
  pub row_lifted : (row : List ℕ) → All (λ c. c < q) row → row_of q (map pos row) ≡ row
  row_lifted [] h = refl
  row_lifted (c ∷ row) h = ap₂ (λ y z. y ∷ z) (mod-eq_of_lt (h 0 0 (omega arith))) (row_lifted row (all_rest (λ c. c < q) c row h))

  -- what holds of the residues of whole polynomials holds of every row
  pub each_row : (P : List ℕ → Type 0) → ((a : List ℤ) → P (row_of q a)) → (row : List ℕ) → All (λ c. c < q) row → P row
  each_row P k row h = subst P (row_lifted row h) (k (map pos row))

  pub row_multiple : (k : ℤ) (a : List ℤ) → row_of q (multiple k a) ≡ scaled (residues q) (residue q k) (row_of q a)
  row_multiple k a = map_scaled K k a

  pub row_substituted : (m k : ℕ) (a : List ℤ) → row_of q (substituted m k a) ≡ remainder (residues q) (phi_modulo m q) (at_power (residues q) k (row_of q a))
  row_substituted m k a = map_remainder K (phi m) (at_power whole_numbers k a) ∙ ap (remainder (residues q) (phi_modulo m q)) (map_at_power K k a)

-- ---- multiples of whole polynomials
pub multiple-plus : (k : ℤ) (a b : List ℤ) → multiple k (plus whole_numbers a b) ≡ plus whole_numbers (multiple k a) (multiple k b)
multiple-plus k [] b = refl
multiple-plus k (x ∷ a) [] = refl
multiple-plus k (x ∷ a) (y ∷ b) = ap₂ (λ y z. y ∷ z) (mul_add whole_ring k x y) (multiple-plus k a b)

pub multiple-mul : (m : ℕ) → 0 < m → (k : ℤ) (a b : List ℤ) → multiple k ((R m).mul a b) ≡ (R m).mul (multiple k a) b
multiple-mul m some k a b = sym (remainder-scaled whole_ring (phi m) (phi_is_monic m some) k (times whole_numbers a b)) ∙ remainder_same whole_ring (phi m) (phi_is_monic m some) (multiple k (times whole_numbers a b)) (times whole_numbers (multiple k a) b) at
  where
    at : (i : ℕ) → coeff whole_numbers (multiple k (times whole_numbers a b)) i ≡ coeff whole_numbers (times whole_numbers (multiple k a) b) i
    at i = coeff-scaled whole_ring k (times whole_numbers a b) i ∙ ap (whole_ring.mul k) (coeff-times whole_ring a b i) ∙ sym (product-scaled whole_ring k (coeff whole_numbers a) (coeff whole_numbers b) i) ∙ ap (λ s. product whole_numbers s (coeff whole_numbers b) i) (sym (fun_ext (coeff-scaled whole_ring k a))) ∙ sym (coeff-times whole_ring (multiple k a) b i)

-- ---- all moduli
rows_all : (f : ℕ → List ℕ) (c : List ℤ) (qs : List ℕ) → All (λ q. row_of q c ≡ f q) qs → rows_of qs c ≡ map f qs
rows_all f c [] h = refl
rows_all f c (q ∷ qs) h = ap₂ (λ y z. y ∷ z) (h 0 0 (omega arith)) (rows_all f c qs (all_rest (λ q. row_of q c ≡ f q) q qs h))

rows_each : (f : ℕ → List ℕ → List ℕ) (a c : List ℤ) (qs : List ℕ) → All (λ q. row_of q c ≡ f q (row_of q a)) qs → rows_of qs c ≡ each f qs (rows_of qs a)
unfolding each
rows_each f a c [] h = refl
rows_each f a c (q ∷ qs) h = ap₂ (λ y z. y ∷ z) (h 0 0 (omega arith)) (rows_each f a c qs (all_rest (λ q. row_of q c ≡ f q (row_of q a)) q qs h))

rows_both : (f : ℕ → List ℕ → List ℕ → List ℕ) (a b c : List ℤ) (qs : List ℕ) → All (λ q. row_of q c ≡ f q (row_of q a) (row_of q b)) qs → rows_of qs c ≡ both f qs (rows_of qs a) (rows_of qs b)
unfolding both
rows_both f a b c [] h = refl
rows_both f a b c (q ∷ qs) h = ap₂ (λ y z. y ∷ z) (h 0 0 (omega arith)) (rows_both f a b c qs (all_rest (λ q. row_of q c ≡ f q (row_of q a) (row_of q b)) q qs h))

rows_held : (m : ℕ) (qs : List ℕ) → All (λ q. 0 < q) qs → (a : List ℤ) → IsElement m a → AreRows m qs (rows_of qs a)
rows_held m [] positive a e = tt
rows_held m (q ∷ qs) positive a e = ((length-map a (residue q) ∙ e, row_small q (positive 0 0 (omega arith)) a), rows_held m qs (all_rest (λ q. 0 < q) q qs positive) a e)

module _ (m : ℕ) (qs : List ℕ) (positive : All (λ q. 0 < q) qs) where
  at : (k d : ℕ) → k < length qs → Preserves (R m) (R_modulo m (get_or qs k d)) (row_of (get_or qs k d))
  at k d l = map_modulo (residue_preserves (get_or qs k d) (positive k d l)) (phi m)

  pub residues_keep : ResiduesKeep m qs
  residues_keep = record {
    held = rows_held m qs positive;
    operations = record {
      keeps_zero = rows_all (λ q. (R_modulo m q).zero) (R m).zero qs (λ k d l. (at k d l).keeps_zero);
      keeps_one = rows_all (λ q. (R_modulo m q).one) (R m).one qs (λ k d l. (at k d l).keeps_one);
      keeps_add = λ a b. rows_both (λ q. (R_modulo m q).add) a b ((R m).add a b) qs (λ k d l. (at k d l).keeps_add a b);
      keeps_mul = λ a b. rows_both (λ q. (R_modulo m q).mul) a b ((R m).mul a b) qs (λ k d l. (at k d l).keeps_mul a b);
      keeps_neg = λ a. rows_each (λ q. (R_modulo m q).neg) a ((R m).neg a) qs (λ k d l. (at k d l).keeps_neg a);
    };
    multiples = λ k a. rows_each (λ q row. scaled (residues q) (residue q k) row) a (multiple k a) qs (λ i d l. row_multiple (get_or qs i d) (positive i d l) k a);
    substitutions = λ k a. rows_each (λ q row. remainder (residues q) (phi_modulo m q) (at_power (residues q) k row)) a (substituted m k a) qs (λ i d l. row_substituted (get_or qs i d) (positive i d l) m k a);
  }

pub residues_law : ResiduesLaw
residues_law m qs some positive = residues_keep m qs positive

-- ---- multiples and substitutions of rows
abbrev Row : ℕ → ℕ → List ℕ → Type 0
Row m q row = (length row ≡ degree m) × All (λ c. c < q) row

module _ (m q : ℕ) (some : 0 < m) (positive : 0 < q) where
  abbrev Fits : List ℕ → Type 0
  Fits row = Row m q row

  fits : (a : List ℤ) → IsElement m a → Fits (row_of q a)
  fits a e = (length-map a (residue q) ∙ e, row_small q positive a)

  fits_multiple : (k : ℤ) (row : List ℕ) → Fits row → Fits (scaled (residues q) (residue q k) row)
  fits_multiple k row (e, h) = (length-map row ((residues q).mul (residue q k)) ∙ e, each_row q positive (λ row. All (λ c. c < q) (scaled (residues q) (residue q k) row)) (λ a. subst (All (λ c. c < q)) (row_multiple q positive k a) (row_small q positive (multiple k a))) row h)

  fits_substituted : (k : ℕ) (row : List ℕ) → Fits row → Fits (remainder (residues q) (phi_modulo m q) (at_power (residues q) k row))
  fits_substituted k row (e, h) = each_row q positive (λ row. Fits (remainder (residues q) (phi_modulo m q) (at_power (residues q) k row))) (λ a. subst Fits (row_substituted q positive m k a) (fits (substituted m k a) (fold_element m (at_power whole_numbers k a)))) row h

  abbrev P : Preserves (R m) (R_modulo m q) (row_of q)
  P = map_modulo (residue_preserves q positive) (phi m)

  abbrev times_k : ℤ → List ℕ → List ℕ
  times_k k row = scaled (residues q) (residue q k) row

  row_multiple-plus : (k : ℤ) (a b : List ℕ) → Fits a → Fits b → times_k k ((R_modulo m q).add a b) ≡ (R_modulo m q).add (times_k k a) (times_k k b)
  row_multiple-plus k a b (e, h) (f, i) = each_row q positive (λ a. times_k k ((R_modulo m q).add a b) ≡ (R_modulo m q).add (times_k k a) (times_k k b)) (λ a. each_row q positive (λ b. times_k k ((R_modulo m q).add (row_of q a) b) ≡ (R_modulo m q).add (times_k k (row_of q a)) (times_k k b)) (of_whole a) b i) a h
    where
      of_whole : (a b : List ℤ) → times_k k ((R_modulo m q).add (row_of q a) (row_of q b)) ≡ (R_modulo m q).add (times_k k (row_of q a)) (times_k k (row_of q b))
      of_whole a b = ap (times_k k) (sym (P.keeps_add a b)) ∙ sym (row_multiple q positive k ((R m).add a b)) ∙ ap (row_of q) (multiple-plus k a b) ∙ P.keeps_add (multiple k a) (multiple k b) ∙ ap₂ (R_modulo m q).add (row_multiple q positive k a) (row_multiple q positive k b)

  row_multiple-mul : (k : ℤ) (a b : List ℕ) → Fits a → Fits b → times_k k ((R_modulo m q).mul a b) ≡ (R_modulo m q).mul (times_k k a) b
  row_multiple-mul k a b (e, h) (f, i) = each_row q positive (λ a. times_k k ((R_modulo m q).mul a b) ≡ (R_modulo m q).mul (times_k k a) b) (λ a. each_row q positive (λ b. times_k k ((R_modulo m q).mul (row_of q a) b) ≡ (R_modulo m q).mul (times_k k (row_of q a)) b) (of_whole a) b i) a h
    where
      of_whole : (a b : List ℤ) → times_k k ((R_modulo m q).mul (row_of q a) (row_of q b)) ≡ (R_modulo m q).mul (times_k k (row_of q a)) (row_of q b)
      of_whole a b = ap (times_k k) (sym (P.keeps_mul a b)) ∙ sym (row_multiple q positive k ((R m).mul a b)) ∙ ap (row_of q) (multiple-mul m some k a b) ∙ P.keeps_mul (multiple k a) b ∙ ap (λ z. (R_modulo m q).mul z (row_of q b)) (row_multiple q positive k a)

module _ (m : ℕ) (some : 0 < m) where
  abbrev rest : (q : ℕ) (qs : List ℕ) → All (λ q. 0 < q) (q ∷ qs) → All (λ q. 0 < q) qs
  rest q qs p = all_rest (λ q. 0 < q) q qs p

  abbrev first : (q : ℕ) (qs : List ℕ) → All (λ q. 0 < q) (q ∷ qs) → 0 < q
  first q qs p = p 0 0 (omega arith)

  -- f keeps rows at each modulus
  each_fits : (f : ℕ → List ℕ → List ℕ) → ((q : ℕ) → 0 < q → (row : List ℕ) → Row m q row → Row m q (f q row)) → (qs : List ℕ) → All (λ q. 0 < q) qs → (a : List (List ℕ)) → AreRows m qs a → AreRows m qs (each f qs a)
  unfolding each
  each_fits f k [] p a h = tt
  each_fits f k (q ∷ qs) p [] h = absurd h
  each_fits f k (q ∷ qs) p (row ∷ a) h = (k q (first q qs p) row h.0, each_fits f k qs (rest q qs p) a h.1)

  multiple_each-add : (k : ℤ) (qs : List ℕ) → All (λ q. 0 < q) qs → (a b : List (List ℕ)) → AreRows m qs a → AreRows m qs b → multiple_each qs k ((R_each m qs).add a b) ≡ (R_each m qs).add (multiple_each qs k a) (multiple_each qs k b)
  unfolding each both
  multiple_each-add k [] p a b h i = refl
  multiple_each-add k (q ∷ qs) p [] b h i = absurd h
  multiple_each-add k (q ∷ qs) p (row ∷ a) [] h i = absurd i
  multiple_each-add k (q ∷ qs) p (row ∷ a) (other ∷ b) h i = ap₂ (λ y z. y ∷ z) (row_multiple-plus m q some (first q qs p) k row other h.0 i.0) (multiple_each-add k qs (rest q qs p) a b h.1 i.1)

  multiple_each-mul : (k : ℤ) (qs : List ℕ) → All (λ q. 0 < q) qs → (a b : List (List ℕ)) → AreRows m qs a → AreRows m qs b → multiple_each qs k ((R_each m qs).mul a b) ≡ (R_each m qs).mul (multiple_each qs k a) b
  unfolding each both
  multiple_each-mul k [] p a b h i = refl
  multiple_each-mul k (q ∷ qs) p [] b h i = absurd h
  multiple_each-mul k (q ∷ qs) p (row ∷ a) [] h i = absurd i
  multiple_each-mul k (q ∷ qs) p (row ∷ a) (other ∷ b) h i = ap₂ (λ y z. y ∷ z) (row_multiple-mul m q some (first q qs p) k row other h.0 i.0) (multiple_each-mul k qs (rest q qs p) a b h.1 i.1)

pub multiples_law : MultiplesLaw
multiples_law m qs some positive = record {
  held = λ k. each_fits m some (λ q row. scaled (residues q) (residue q k) row) (λ q p. fits_multiple m q some p k) qs positive;
  sum = λ k. multiple_each-add m some k qs positive;
  product = λ k. multiple_each-mul m some k qs positive;
  substituted = λ k. each_fits m some (λ q row. remainder (residues q) (phi_modulo m q) (at_power (residues q) k row)) (λ q p. fits_substituted m q some p k) qs positive;
}
