-- Balanced residues of what is computed with residues.
use Rattle.std.proofs.Common.{◌≡◌, ℕ, ◌<◌, List, map, pos, sym, ap, ap₂, ◌∙◌}
use Rattle.std.specs.Prelude.{ℤ}
use Rattle.algebra.specs.Ring.{residues}
use Rattle.algebra.specs.Power.{less}
use Rattle.algebra.specs.Poly.{plus, negated}
use Rattle.algebra.specs.Whole.{residue}
use Rattle.algebra.proofs.Maps.{map_plus, map_negated}
use Rattle.algebra.proofs.WholeResidues.{residue_preserves}
use Rattle.cyclotomic.specs.Cyclotomic.{R, substituted}
use Rattle.slot_laws.specs.Slots.{balanced_row}
use Rattle.slot_laws.proofs.EncodeSums.{balanced_residues}
use Rattle.slot_laws.proofs.Encoding.{balanced_same, same_substituted, same-mul}
use Rattle.slot_laws.proofs.SlotMaps.{residues_balanced}
use Rattle.slot_laws.proofs.WholeValue.{residues_lifted, residues_held}

module _ (q m : ℕ) (q_pos : 0 < q) where
  -- r from the row t of residues of z
  pub balanced_from : (z : List ℤ) (r : List ℤ) (s t : List ℕ) → r ≡ balanced_row q (map pos s) → s ≡ t → t ≡ map (residue q) z → r ≡ balanced_row q z
  balanced_from z r s t r_is s_is t_is = r_is ∙ ap (λ y. balanced_row q (map pos y)) (s_is ∙ t_is) ∙ balanced_residues q q_pos z

  pub sum_row : (a b : List ℤ) (t x y u v : List ℕ) → t ≡ plus (residues q) x y → x ≡ u → u ≡ map (residue q) a → y ≡ v → v ≡ map (residue q) b → t ≡ map (residue q) ((R m).add a b)
  sum_row a b t x y u v t_is x_is u_is y_is v_is = t_is ∙ ap₂ (plus (residues q)) (x_is ∙ u_is) (y_is ∙ v_is) ∙ sym (map_plus (residue_preserves q q_pos) a b)

  pub negative_row : (a : List ℤ) (t x u : List ℕ) → t ≡ negated (residues q) x → x ≡ u → u ≡ map (residue q) a → t ≡ map (residue q) ((R m).neg a)
  negative_row a t x u t_is x_is u_is = t_is ∙ ap (negated (residues q)) (x_is ∙ u_is) ∙ sym (map_negated (residue_preserves q q_pos) a)

  pub image_row : 0 < m → (k : ℕ) (a : List ℤ) (t x u : List ℕ) → t ≡ map (residue q) (substituted m k (map pos x)) → x ≡ u → u ≡ map (residue q) a → t ≡ map (residue q) (substituted m k a)
  image_row m_pos k a t x u t_is x_is u_is = t_is ∙ ap (λ y. map (residue q) (substituted m k (map pos y))) (x_is ∙ u_is) ∙ same_substituted q m q_pos m_pos k (map pos (map (residue q) a)) a (residues_lifted q (map (residue q) a) (residues_held q q_pos a))

  pub product_row : 0 < m → (a b : List ℤ) (t x y u v : List ℕ) → t ≡ map (residue q) ((R m).mul (map pos x) (map pos y)) → x ≡ u → u ≡ map (residue q) a → y ≡ v → v ≡ map (residue q) b → t ≡ map (residue q) ((R m).mul a b)
  product_row m_pos a b t x y u v t_is x_is u_is y_is v_is = t_is ∙ ap₂ (λ g h. map (residue q) ((R m).mul (map pos g) (map pos h))) (x_is ∙ u_is) (y_is ∙ v_is) ∙ same-mul q m q_pos m_pos (map pos (map (residue q) a)) a (map pos (map (residue q) b)) b (residues_lifted q (map (residue q) a) (residues_held q q_pos a)) (residues_lifted q (map (residue q) b) (residues_held q q_pos b))

  pub difference_is : (a b z w : List ℤ) (r : List ℤ) → r ≡ balanced_row q ((R m).add a z) → z ≡ w → w ≡ balanced_row q ((R m).neg b) → r ≡ balanced_row q (less (R m) a b)
  difference_is a b z w r r_is z_is w_is = r_is ∙ ap (λ y. balanced_row q ((R m).add a y)) (z_is ∙ w_is) ∙ balanced_same q ((R m).add a (balanced_row q ((R m).neg b))) (less (R m) a b) (map_plus (residue_preserves q q_pos) a (balanced_row q ((R m).neg b)) ∙ ap (plus (residues q) (map (residue q) a)) (residues_balanced q q_pos ((R m).neg b)) ∙ sym (map_plus (residue_preserves q q_pos) a ((R m).neg b)))
