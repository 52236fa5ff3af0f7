-- What is done to the values at each modulus is done to the polynomial that has them.
use Rattle.std.specs.Prelude.{◌≡◌, ℕ, ◌+◌, ◌-◌, ◌*◌, ◌%◌, ◌<◌, List, [], ◌∷◌, map, length, ℤ, refl, get_or}
use Rattle.std.specs.List.{AllZip}
use Rattle.std.proofs.Common.{◌∙◌, ap, ap₂, mod-lt}
use Rattle.std.proofs.lemmas.List.Elements.{All-head, All-tail}
use Rattle.algebra.specs.Divisor.{UnitModulo, units}
use Rattle.algebra.specs.Ring.{residues}
use Rattle.algebra.specs.Poly.{scaled, at_power, remainder}
use Rattle.algebra.specs.Whole.{residue}
use Rattle.moduli_table.specs.declared.rows.ModRow.{ModRow}
use Rattle.residue_rows.specs.Rows.{AreRows, phi_modulo, R_modulo, each, both, R_each, multiple_each, substituted_each}
use Rattle.residue_rows.specs.Values.{IsRow, interpolated}
use Rattle.residue_rows.specs.ValueLaws.{IsAcceptedRoot, pointwise}
use Rattle.residue_rows.specs.Kept.{root_of, values_each, interpolated_each}
use Rattle.residue_rows.proofs.KeptValues.{moduli_of_rows, AreRoots}
use Rattle.residue_rows.proofs.ValuesMean.{values_are}
use Rattle.residue_rows.proofs.ValuesActions.{IsMoved, pointwise_row, map_row, row_in, interpolated-sum, interpolated-negative, interpolated-difference, interpolated-product, interpolated-multiple, interpolated-moved, placed, placed_row, placed_moved}
use Rattle.residue_rows.proofs.ValuesRows.{on}

-- the entries at each modulus are moved from the places of the units j to those of j k
abbrev pub AreMoved : ℕ → ℕ → List (List ℕ) → List (List ℕ) → Type 0
AreMoved m k v w = AllZip (IsMoved m k) v w

-- one step for each modulus after another
pub both-each : (f : ℕ → List ℕ → List ℕ → List ℕ) (g : ℕ → List ℕ → List ℕ) (qs : List ℕ) (a b : List (List ℕ)) → both (λ q x y. f q x (g q y)) qs a b ≡ both f qs a (each g qs b)
unfolding both each
both-each f g [] a b = refl
both-each f g (q ∷ qs) [] b = refl
both-each f g (q ∷ qs) (x ∷ a) [] = refl
both-each f g (q ∷ qs) (x ∷ a) (y ∷ b) = ap (λ z. f q x (g q y) ∷ z) (both-each f g qs a b)

module _ (m : ℕ) where
  abbrev Rooted : ModRow → Type 0
  Rooted r = IsAcceptedRoot m (root_of r)

  pub interpolated_in : (rs : List ModRow) → AreRoots m rs → (v : List (List ℕ)) → AreRows m (moduli_of_rows rs) v → AreRows m (moduli_of_rows rs) (interpolated_each m rs v)
  unfolding interpolated_each
  interpolated_in [] A [] h = h
  interpolated_in [] A (x ∷ v) h = absurd h
  interpolated_in (r ∷ rs) A [] h = absurd h
  interpolated_in (r ∷ rs) A (x ∷ v) h = (row_in m (root_of r) (All-head Rooted r rs A) x h.0, interpolated_in rs (All-tail Rooted r rs A) v h.1)

  pub values_in : (rs : List ModRow) → AreRoots m rs → (a : List (List ℕ)) → AreRows m (moduli_of_rows rs) a → AreRows m (moduli_of_rows rs) (values_each m rs a)
  unfolding values_each
  values_in [] A [] h = h
  values_in [] A (x ∷ a) h = absurd h
  values_in (r ∷ rs) A [] h = absurd h
  values_in (r ∷ rs) A (x ∷ a) h = ((values_are m (root_of r) (All-head Rooted r rs A)).values_in x h.0, values_in rs (All-tail Rooted r rs A) a h.1)

  -- values of what is interpolated, and the other way round
  pub each_forth : (rs : List ModRow) → AreRoots m rs → (v : List (List ℕ)) → AreRows m (moduli_of_rows rs) v → values_each m rs (interpolated_each m rs v) ≡ v
  unfolding values_each interpolated_each
  each_forth [] A [] h = refl
  each_forth [] A (x ∷ v) h = absurd h
  each_forth (r ∷ rs) A [] h = absurd h
  each_forth (r ∷ rs) A (x ∷ v) h = ap₂ (λ x v. x ∷ v) ((values_are m (root_of r) (All-head Rooted r rs A)).forth x h.0) (each_forth rs (All-tail Rooted r rs A) v h.1)

  pub each_back : (rs : List ModRow) → AreRoots m rs → (a : List (List ℕ)) → AreRows m (moduli_of_rows rs) a → interpolated_each m rs (values_each m rs a) ≡ a
  unfolding values_each interpolated_each
  each_back [] A [] h = refl
  each_back [] A (x ∷ a) h = absurd h
  each_back (r ∷ rs) A [] h = absurd h
  each_back (r ∷ rs) A (x ∷ a) h = ap₂ (λ x a. x ∷ a) ((values_are m (root_of r) (All-head Rooted r rs A)).back x h.0) (each_back rs (All-tail Rooted r rs A) a h.1)

  -- what goes row by row
  pub each_both : (f g : ℕ → List ℕ → List ℕ → List ℕ) → ((r : ModRow) → IsAcceptedRoot m (root_of r) → (x y : List ℕ) → IsRow m r.q x → IsRow m r.q y → interpolated m (root_of r) (f r.q x y) ≡ g r.q (interpolated m (root_of r) x) (interpolated m (root_of r) y)) → (rs : List ModRow) → AreRoots m rs → (v w : List (List ℕ)) → AreRows m (moduli_of_rows rs) v → AreRows m (moduli_of_rows rs) w → interpolated_each m rs (both f (moduli_of_rows rs) v w) ≡ both g (moduli_of_rows rs) (interpolated_each m rs v) (interpolated_each m rs w)
  unfolding interpolated_each both
  each_both f g s [] A v w h k = refl
  each_both f g s (r ∷ rs) A [] w h k = absurd h
  each_both f g s (r ∷ rs) A (x ∷ v) [] h k = absurd k
  each_both f g s (r ∷ rs) A (x ∷ v) (y ∷ w) h k = ap₂ (λ x a. x ∷ a) (s r (All-head Rooted r rs A) x y h.0 k.0) (each_both f g s rs (All-tail Rooted r rs A) v w h.1 k.1)

  pub each_each : (f g : ℕ → List ℕ → List ℕ) → ((r : ModRow) → IsAcceptedRoot m (root_of r) → (x : List ℕ) → IsRow m r.q x → interpolated m (root_of r) (f r.q x) ≡ g r.q (interpolated m (root_of r) x)) → (rs : List ModRow) → AreRoots m rs → (v : List (List ℕ)) → AreRows m (moduli_of_rows rs) v → interpolated_each m rs (each f (moduli_of_rows rs) v) ≡ each g (moduli_of_rows rs) (interpolated_each m rs v)
  unfolding interpolated_each each
  each_each f g s [] A v h = refl
  each_each f g s (r ∷ rs) A [] h = absurd h
  each_each f g s (r ∷ rs) A (x ∷ v) h = ap₂ (λ x a. x ∷ a) (s r (All-head Rooted r rs A) x h.0) (each_each f g s rs (All-tail Rooted r rs A) v h.1)

  module _ (rs : List ModRow) (A : AreRoots m rs) where
    pub each-sum : (v w : List (List ℕ)) → AreRows m (moduli_of_rows rs) v → AreRows m (moduli_of_rows rs) w → interpolated_each m rs (both (λ q. pointwise (λ x y. (x + y) % q)) (moduli_of_rows rs) v w) ≡ (R_each m (moduli_of_rows rs)).add (interpolated_each m rs v) (interpolated_each m rs w)
    each-sum = each_both (λ q. pointwise (λ x y. (x + y) % q)) (λ q. (R_modulo m q).add) (λ r B. interpolated-sum m (root_of r) B) rs A

    pub each-product : (v w : List (List ℕ)) → AreRows m (moduli_of_rows rs) v → AreRows m (moduli_of_rows rs) w → interpolated_each m rs (both (λ q. pointwise (λ x y. (x * y) % q)) (moduli_of_rows rs) v w) ≡ (R_each m (moduli_of_rows rs)).mul (interpolated_each m rs v) (interpolated_each m rs w)
    each-product = each_both (λ q. pointwise (λ x y. (x * y) % q)) (λ q. (R_modulo m q).mul) (λ r B. interpolated-product m (root_of r) B) rs A

    pub each-negative : (v : List (List ℕ)) → AreRows m (moduli_of_rows rs) v → interpolated_each m rs (each (λ q. map (λ x. (q - x) % q)) (moduli_of_rows rs) v) ≡ (R_each m (moduli_of_rows rs)).neg (interpolated_each m rs v)
    each-negative = each_each (λ q. map (λ x. (q - x) % q)) (λ q. (R_modulo m q).neg) (λ r B. interpolated-negative m (root_of r) B) rs A

    pub each-difference : (v w : List (List ℕ)) → AreRows m (moduli_of_rows rs) v → AreRows m (moduli_of_rows rs) w → interpolated_each m rs (both (λ q. pointwise (λ x y. (x + (q - y)) % q)) (moduli_of_rows rs) v w) ≡ (R_each m (moduli_of_rows rs)).add (interpolated_each m rs v) ((R_each m (moduli_of_rows rs)).neg (interpolated_each m rs w))
    each-difference v w h k = each_both (λ q. pointwise (λ x y. (x + (q - y)) % q)) (λ q a b. (R_modulo m q).add a ((R_modulo m q).neg b)) (λ r B. interpolated-difference m (root_of r) B) rs A v w h k ∙ both-each (λ q. (R_modulo m q).add) (λ q. (R_modulo m q).neg) (moduli_of_rows rs) (interpolated_each m rs v) (interpolated_each m rs w)

    pub each-multiple : (c : ℤ) (v : List (List ℕ)) → AreRows m (moduli_of_rows rs) v → interpolated_each m rs (each (λ q. map (λ x. (residue q c * x) % q)) (moduli_of_rows rs) v) ≡ multiple_each (moduli_of_rows rs) c (interpolated_each m rs v)
    each-multiple c = each_each (λ q. map (λ x. (residue q c * x) % q)) (λ q row. scaled (residues q) (residue q c) row) (λ r B. interpolated-multiple m (root_of r) B c) rs A

  pub each-moved : (k : ℕ) → 0 < k → UnitModulo m k → (rs : List ModRow) → AreRoots m rs → (v w : List (List ℕ)) → AreRows m (moduli_of_rows rs) v → AreRows m (moduli_of_rows rs) w → AreMoved m k v w → interpolated_each m rs w ≡ substituted_each m (moduli_of_rows rs) k (interpolated_each m rs v)
  unfolding interpolated_each each
  each-moved k p u [] A v w h s t = refl
  each-moved k p u (r ∷ rs) A [] w h s t = absurd h
  each-moved k p u (r ∷ rs) A (x ∷ v) [] h s t = absurd s
  each-moved k p u (r ∷ rs) A (x ∷ v) (y ∷ w) h s t = ap₂ (λ x a. x ∷ a) (interpolated-moved m (root_of r) (All-head Rooted r rs A) k x y p u h.0 s.0 t.0) (each-moved k p u rs (All-tail Rooted r rs A) v w h.1 s.1 t.1)

  -- rows that are made row by row
  pub both_in : (f : ℕ → List ℕ → List ℕ → List ℕ) → ((r : ModRow) → IsAcceptedRoot m (root_of r) → (x y : List ℕ) → IsRow m r.q x → IsRow m r.q y → IsRow m r.q (f r.q x y)) → (rs : List ModRow) → AreRoots m rs → (v w : List (List ℕ)) → AreRows m (moduli_of_rows rs) v → AreRows m (moduli_of_rows rs) w → AreRows m (moduli_of_rows rs) (both f (moduli_of_rows rs) v w)
  unfolding both
  both_in f s [] A v w h k = tt
  both_in f s (r ∷ rs) A [] w h k = absurd h
  both_in f s (r ∷ rs) A (x ∷ v) [] h k = absurd k
  both_in f s (r ∷ rs) A (x ∷ v) (y ∷ w) h k = (s r (All-head Rooted r rs A) x y h.0 k.0, both_in f s rs (All-tail Rooted r rs A) v w h.1 k.1)

  pub each_in : (f : ℕ → List ℕ → List ℕ) → ((r : ModRow) → IsAcceptedRoot m (root_of r) → (x : List ℕ) → IsRow m r.q x → IsRow m r.q (f r.q x)) → (rs : List ModRow) → AreRoots m rs → (v : List (List ℕ)) → AreRows m (moduli_of_rows rs) v → AreRows m (moduli_of_rows rs) (each f (moduli_of_rows rs) v)
  unfolding each
  each_in f s [] A v h = tt
  each_in f s (r ∷ rs) A [] h = absurd h
  each_in f s (r ∷ rs) A (x ∷ v) h = (s r (All-head Rooted r rs A) x h.0, each_in f s rs (All-tail Rooted r rs A) v h.1)

  module _ (rs : List ModRow) (A : AreRoots m rs) where
    pub sum_in : (v w : List (List ℕ)) → AreRows m (moduli_of_rows rs) v → AreRows m (moduli_of_rows rs) w → AreRows m (moduli_of_rows rs) (both (λ q. pointwise (λ x y. (x + y) % q)) (moduli_of_rows rs) v w)
    sum_in = both_in (λ q. pointwise (λ x y. (x + y) % q)) (λ r B x y h k. pointwise_row m r.q (λ x y. (x + y) % r.q) (λ x y. mod-lt (x + y) (on m (root_of r) B)) x y h) rs A

    pub product_in : (v w : List (List ℕ)) → AreRows m (moduli_of_rows rs) v → AreRows m (moduli_of_rows rs) w → AreRows m (moduli_of_rows rs) (both (λ q. pointwise (λ x y. (x * y) % q)) (moduli_of_rows rs) v w)
    product_in = both_in (λ q. pointwise (λ x y. (x * y) % q)) (λ r B x y h k. pointwise_row m r.q (λ x y. (x * y) % r.q) (λ x y. mod-lt (x * y) (on m (root_of r) B)) x y h) rs A

    pub difference_in : (v w : List (List ℕ)) → AreRows m (moduli_of_rows rs) v → AreRows m (moduli_of_rows rs) w → AreRows m (moduli_of_rows rs) (both (λ q. pointwise (λ x y. (x + (q - y)) % q)) (moduli_of_rows rs) v w)
    difference_in = both_in (λ q. pointwise (λ x y. (x + (q - y)) % q)) (λ r B x y h k. pointwise_row m r.q (λ x y. (x + (r.q - y)) % r.q) (λ x y. mod-lt (x + (r.q - y)) (on m (root_of r) B)) x y h) rs A

    pub negative_in : (v : List (List ℕ)) → AreRows m (moduli_of_rows rs) v → AreRows m (moduli_of_rows rs) (each (λ q. map (λ x. (q - x) % q)) (moduli_of_rows rs) v)
    negative_in = each_in (λ q. map (λ x. (q - x) % q)) (λ r B. map_row m r.q (λ x. (r.q - x) % r.q) (λ x. mod-lt (r.q - x) (on m (root_of r) B))) rs A

    pub multiple_in : (c : ℤ) (v : List (List ℕ)) → AreRows m (moduli_of_rows rs) v → AreRows m (moduli_of_rows rs) (each (λ q. map (λ x. (residue q c * x) % q)) (moduli_of_rows rs) v)
    multiple_in c = each_in (λ q. map (λ x. (residue q c * x) % q)) (λ r B. map_row m r.q (λ x. (residue r.q c * x) % r.q) (λ x. mod-lt (residue r.q c * x) (on m (root_of r) B))) rs A

    -- values moved by the place of each unit
    module _ (k : ℕ) (places : List ℕ) (known : (u : ℕ) → u < length (units m) → get_or places (get_or (units m) u 0) 0 ≡ u) where
      pub substituted_in : (v : List (List ℕ)) → AreRows m (moduli_of_rows rs) v → AreRows m (moduli_of_rows rs) (each (λ q row. map (λ j. get_or row (get_or places ((j * k) % m) 0) 0) (units m)) (moduli_of_rows rs) v)
      substituted_in = each_in (λ q row. map (λ j. get_or row (get_or places ((j * k) % m) 0) 0) (units m)) (λ r B. placed_row m (root_of r) B k places known) rs A

      pub each-substituted : 0 < k → UnitModulo m k → (v : List (List ℕ)) → AreRows m (moduli_of_rows rs) v → interpolated_each m rs (each (λ q row. map (λ j. get_or row (get_or places ((j * k) % m) 0) 0) (units m)) (moduli_of_rows rs) v) ≡ substituted_each m (moduli_of_rows rs) k (interpolated_each m rs v)
      each-substituted p u = each_each (λ q row. map (λ j. get_or row (get_or places ((j * k) % m) 0) 0) (units m)) (λ q row. remainder (residues q) (phi_modulo m q) (at_power (residues q) k row)) (λ r B x h. interpolated-moved m (root_of r) B k x (placed m (root_of r) B k places known x h) p u h (placed_row m (root_of r) B k places known x h) (placed_moved m (root_of r) B k places known x h)) rs A
