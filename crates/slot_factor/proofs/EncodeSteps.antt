-- Steps towards the polynomial that has given slots.
use Rattle.std.proofs.Common.{◌≡◌, ℕ, zero, suc, ◌+◌, ◌%◌, ◌<◌, List, [], ◌∷◌, map, length, get_or, replicate, pos, refl, sym, subst, ap, ap₂, ◌∙◌, arith}
use Rattle.std.specs.Prelude.{ℤ}
use Rattle.std.proofs.Math.Numerals.{add-one}
use Rattle.algebra.specs.Ring.{residues}
use Rattle.algebra.specs.Range.{total, adds}
use Rattle.algebra.specs.Poly.{times}
use Rattle.algebra.specs.Whole.{residue}
use Rattle.cyclotomic.specs.Cyclotomic.{R, fold, substituted}
use Rattle.hyper_cube.specs.Torus.{Torus, slot_count, T_of, index}
use Rattle.ext_field.specs.Element.{Extension, IsElement}
use Rattle.slot_array.specs.Arrays.{Array, IsArray}
use Rattle.slot_laws.specs.Slots.{balanced_row, inverse_modulo, lifted, eps, placed, encode}
use Rattle.slot_laws.specs.Checks.{IsPacking, residue_row}
use Rattle.slot_laws.proofs.Decoding.{inverse_at_unit}
use Rattle.slot_laws.proofs.Encoding.{same-add, same_substituted}
use Rattle.slot_laws.proofs.EncodeSums.{fold_zeros, product_row, encode_total}
use Rattle.slot_laws.proofs.FoldSums.{substituted_fold}
use Rattle.slot_laws.proofs.Roots.{unit_positive}
use Rattle.slot_laws.proofs.SlotMaps.{m_positive, m_above}
use Rattle.slot_laws.proofs.WholeValue.{p_positive}
use Rattle.slot_factor.proofs.LazySteps.{reduced_fold}

-- where a place is in, what stands for a place past the end does not count
pub element_at : (xs : List (List ℕ)) (i : ℕ) (y : List ℕ) → i < length xs → y ≡ get_or xs i y → y ≡ get_or xs i []
element_at xs i y l y_is = y_is ∙ any xs i l
  where
    any : (xs : List (List ℕ)) (i : ℕ) → i < length xs → get_or xs i y ≡ get_or xs i []
    any [] i l = absurd (omega (arith, l))
    any (x ∷ xs) zero l = refl
    any (x ∷ xs) (suc i) l = any xs i (omega (arith, l))

module _ (f : Extension) (c : Torus) (P : IsPacking f c) where
  p_pos : 0 < f.p
  p_pos = p_positive f P.extension.factor

  m_pos : 0 < c.m
  m_pos = m_positive f c P

  -- k for the slot j
  abbrev k_of : ℕ → ℕ
  k_of j = inverse_modulo c.m (T_of c (index c.dimensions j))

  -- what is placed for the slot j
  abbrev image : Array → ℕ → List ℤ
  image x j = placed f c (lifted f c (get_or x j [])) (index c.dimensions j)

  pub k_low : (j : ℕ) → j < slot_count c → 0 < inverse_modulo c.m (T_of c (index c.dimensions j))
  k_low j l = unit_positive c.m (k_of j) (m_above f c P) (inverse_at_unit f c P j l)

  pub array_element : (x : Array) (j : ℕ) → IsArray f c x → j < slot_count c → IsElement f (get_or x j [])
  array_element x j A l = A.elements j [] (omega (arith, A.long, l))

  pub zeros_start : (n : ℕ) (x : Array) (zs : List ℕ) → zs ≡ replicate n 0 → residue_row f c (fold c.m (map pos zs)) ≡ residue_row f c (total (adds (R c.m)) 0 (λ j. placed f c (lifted f c (get_or x j [])) (index c.dimensions j)))
  zeros_start n x zs zs_is = ap (λ z. residue_row f c (fold c.m (map pos z))) zs_is ∙ fold_zeros f.p c.m p_pos m_pos n

  -- the product of residues has the image of the slot
  image_is : (x : Array) (j : ℕ) (y u r : List ℕ) → IsArray f c x → j < slot_count c → y ≡ get_or x j [] → u ≡ residue_row f c (eps f c) → r ≡ times (residues f.p) y u → residue_row f c (substituted c.m (inverse_modulo c.m (T_of c (index c.dimensions j))) (map pos r)) ≡ residue_row f c (placed f c (lifted f c (get_or x j [])) (index c.dimensions j))
  image_is x j y u r A l y_is u_is r_is =
      ap (residue_row f c) (sym (substituted_fold c.m (k_of j) m_pos (k_low j l) (inverse_at_unit f c P j l) (map pos r)))
      ∙ same_substituted f.p c.m p_pos m_pos (k_of j) (fold c.m (map pos r)) ((R c.m).mul (lifted f c (get_or x j [])) (eps f c)) (
      ap (λ z. residue_row f c (fold c.m (map pos z))) (r_is ∙ ap₂ (times (residues f.p)) y_is u_is)
      ∙ product_row f c P (get_or x j []) (array_element x j A l))

  -- one more slot
  pub slot_more : (x : Array) (j q m k : ℕ) (y u r : List ℕ) (s t : List ℤ) → IsArray f c x → j < slot_count c → q ≡ f.p → m ≡ c.m → k ≡ inverse_modulo c.m (T_of c (index c.dimensions j)) → y ≡ get_or x j [] → u ≡ residue_row f c (eps f c) → r ≡ times (residues q) y u → map (residue q) (fold m t) ≡ map (residue q) ((R m).add (fold m s) (substituted m k (map pos r))) → residue_row f c (fold c.m s) ≡ residue_row f c (total (adds (R c.m)) j (λ j. placed f c (lifted f c (get_or x j [])) (index c.dimensions j))) → residue_row f c (fold c.m t) ≡ residue_row f c (total (adds (R c.m)) (j + 1) (λ j. placed f c (lifted f c (get_or x j [])) (index c.dimensions j)))
  slot_more x j q m k y u r s t A l q_is m_is k_is y_is u_is r_is t_is s_is =
      ap₂ (λ a b. map (residue a) (fold b t)) (sym q_is) (sym m_is)
      ∙ t_is
      ∙ ap₂ (λ a b. map (residue a) ((R b).add (fold b s) (substituted b k (map pos r)))) q_is m_is
      ∙ ap (λ a. residue_row f c ((R c.m).add (fold c.m s) (substituted c.m a (map pos r)))) k_is
      ∙ same-add f.p c.m p_pos m_pos (fold c.m s) (total (adds (R c.m)) j (image x)) (substituted c.m (k_of j) (map pos r)) (image x j) s_is (image_is x j y u r A l y_is u_is (r_is ∙ ap (λ z. times (residues z) y u) q_is))
      ∙ ap (λ n. residue_row f c (total (adds (R c.m)) n (image x))) (sym (add-one j))

  -- the residues of what is summed up
  pub encoded_reduced : (q : ℕ) → q ≡ f.p → 0 < q → (L M : List ℕ) → length M ≡ length L → ((i : ℕ) → get_or M i 0 ≡ get_or L i 0 % q) → residue_row f c (fold c.m (map pos M)) ≡ residue_row f c (fold c.m (map pos L))
  encoded_reduced q q_is q_pos L M long h = subst (λ z. map (residue z) (fold c.m (map pos M)) ≡ map (residue z) (fold c.m (map pos L))) q_is (reduced_fold q c.m q_pos m_pos L M long h)

  pub encoded_is : (x : Array) (q m n : ℕ) (L : List ℕ) (r : List ℤ) → q ≡ f.p → m ≡ c.m → n ≡ slot_count c → r ≡ balanced_row q (fold m (map pos L)) → residue_row f c (fold c.m (map pos L)) ≡ residue_row f c (total (adds (R c.m)) n (λ j. placed f c (lifted f c (get_or x j [])) (index c.dimensions j))) → r ≡ encode f c x
  encoded_is x q m n L r q_is m_is n_is r_is s =
      r_is
      ∙ ap₂ (λ a b. balanced_row a (fold b (map pos L))) q_is m_is
      ∙ sym (encode_total f c P x (map pos L) (s ∙ ap (λ a. residue_row f c (total (adds (R c.m)) a (image x))) n_is))
