-- Lists of residues as held lists, and what an accepted root is among the residues.
use Rattle.std.specs.Prelude.{◌≡◌, ℕ, zero, suc, ◌-◌, ◌*◌, ◌/◌, ◌%◌, ◌<◌, ◌≤◌, nat_lt, Bool, IsTrue, All, List, map, length, get_or, ℤ, pos, ◌⊎◌, ◌+◌}
use Rattle.std.proofs.Common.{sym, ◌∙◌, ap, subst, arith, div-add-mod', lt-ltb, ltb-true, mod-eq_of_lt, inl, inr}
use Rattle.std.proofs.lemmas.Bool.{cases_lt}
use Rattle.std.proofs.lemmas.List.{length-map, get_or-map, get_or_past, ext_get_or}
use Rattle.std.proofs.lemmas.List.Elements.{All-from_get_or}
use Rattle.std.proofs.lemmas.Nat.{div-mul-add}
use Rattle.std.proofs.Math.Nat.{mul-le-mul_left, add-mul-mod_self_right, mod-add-mod, add-mod-mod}
use Rattle.algebra.specs.Ring.{HeldLaws, CommRing, residues}
use Rattle.algebra.specs.HeldRing.{Held}
use Rattle.algebra.specs.Power.{power, number}
use Rattle.algebra.specs.Poly.{all_held, value_at, remainder}
use Rattle.algebra.specs.Divisor.{UnitModulo, units}
use Rattle.algebra.specs.Whole.{below, residue}
use Rattle.algebra.proofs.Residues.{residue_laws}
use Rattle.algebra.proofs.WholeResidues.{residue_lt, residue_preserves}
use Rattle.algebra.proofs.Held.{held_ring}
use Rattle.algebra.proofs.Homs.{keeps_power}
use Rattle.algebra.proofs.HeldLists.{all_from, all_to, values, lifted, values-lifted, held_preserves, remainder_held}
use Rattle.algebra.proofs.HeldPowers.{held_power}
use Rattle.algebra.proofs.Maps.{map_value_at, map_degree_of}
use Rattle.algebra.proofs.Dividing.{length-remainder}
use Rattle.algebra.proofs.Sums.{length-below, get_or-below}
use Rattle.algebra.proofs.UnitList.{length-units, unit_at, unit_positive, unit_is}
use Rattle.cyclotomic.specs.Cyclotomic.{phi, degree}
use Rattle.cyclotomic.specs.RootLaws.{IsRootPair, KeepsValues}
use Rattle.cyclotomic.proofs.PhiLaws.{degree_is_units}
use Rattle.cyclotomic.proofs.HeldRoots.{value_law}
use Rattle.residue_rows.specs.Rows.{phi_modulo}
use Rattle.residue_rows.specs.Values.{Root, value_of, values_of, IsRow, share}
use Rattle.residue_rows.specs.ValueLaws.{IsAcceptedRoot}

-- lists made over the numbers below n
pub get_or-over : {A : Type 0} (f : ℕ → A) (n i : ℕ) (d : A) → i < n → get_or (map f (below n)) i d ≡ f i
get_or-over f n i d l = get_or-map f (below n) i 0 d (omega (arith, length-below n)) ∙ ap f (get_or-below n i 0 l)

pub length-over : {A : Type 0} (f : ℕ → A) (n : ℕ) → length (map f (below n)) ≡ n
length-over f n = length-map (below n) f ∙ length-below n

-- a multiple of m and 1: the multiple
pub multiple_is : (m q : ℕ) → 1 < m → 1 < q → q % m ≡ 1 → ((q - 1) / m * m + 1 ≡ q) × (0 < (q - 1) / m)
multiple_is m q big more e = whole (q / m) (div-add-mod' q m)
  where
    whole : (t : ℕ) → t * m + q % m ≡ q → ((q - 1) / m * m + 1 ≡ q) × (0 < (q - 1) / m)
    whole t f = subst (λ k. (k * m + 1 ≡ q) × (0 < k)) (sym quotient) (g, positive t g)
      where
        g : t * m + 1 ≡ q
        g = omega (arith, f, e)

        quotient : (q - 1) / m ≡ t
        quotient = ap (λ z. z / m) (let p : q - 1 ≡ t * m + 0 = omega (arith, g) in p) ∙ div-mul-add t m 0 (omega arith)

        positive : (t : ℕ) → t * m + 1 ≡ q → 0 < t
        positive zero h = absurd (omega (arith, h))
        positive (suc t) h = omega arith

-- the inverse of m
pub share_in : (m q : ℕ) → 1 < m → 1 < q → q % m ≡ 1 → share m q < q
share_in m q big more e = let h : 0 < (q - 1) / m = (multiple_is m q big more e).1 in omega arith

pub share_is : (m q : ℕ) → 1 < m → 1 < q → q % m ≡ 1 → (share m q * m) % q ≡ 1 % q
share_is m q big more e = ap (λ z. z % q) (spread ((q - 1) / m) (q - (q - 1) / m) g (omega (arith, g, mul-le-mul_left ((q - 1) / m) big))) ∙ add-mul-mod_self_right 1 (m - 1) q
  where
    g : (q - 1) / m * m + 1 ≡ q
    g = (multiple_is m q big more e).0

    spread : (t k : ℕ) → t * m + 1 ≡ q → k + t ≡ q → k * m ≡ 1 + (m - 1) * q
    spread t k f h = let n : m ≡ (m - 1) + 1 = omega arith in omega (arith, ap (λ z. z * m) h, ap (λ z. q * z) n)

-- the residues modulo q as held elements
module _ (q : ℕ) (on : 0 < q) where
  abbrev pub laws_of : HeldLaws (λ a. nat_lt a q) (residues q)
  laws_of = residue_laws q on

  abbrev pub ring_of : CommRing
  ring_of = held_ring laws_of

  pub to_held : (a : List ℕ) → All (λ c. c < q) a → IsTrue (all_held (λ a. nat_lt a q) a)
  to_held a h = all_from (λ a. nat_lt a q) a (λ k d l. lt-ltb (get_or a k d) q (h k d l))

  pub from_held : (a : List ℕ) → IsTrue (all_held (λ a. nat_lt a q) a) → All (λ c. c < q) a
  from_held a h k d l = ltb-true (get_or a k d) q (all_to (λ a. nat_lt a q) a h k d l)

  pub entry_in : (a : List ℕ) → All (λ c. c < q) a → (i : ℕ) → get_or a i 0 < q
  entry_in a h i = go (cases_lt i (length a))
    where
      go : (i < length a) ⊎ (length a ≤ i) → get_or a i 0 < q
      go (inl l) = h i 0 l
      go (inr l) = omega (arith, get_or_past a i 0 l)

  pub residue_held_of : (a : ℤ) → IsTrue (nat_lt (residue q a) q)
  residue_held_of a = lt-ltb (residue q a) q (residue_lt q on a)

  pub number_is : (m : ℕ) → number (residues q) m ≡ m % q
  number_is zero = sym (mod-eq_of_lt on)
  number_is (suc m) = ap (λ a. (a + 1 % q) % q) (number_is m) ∙ simp (mod-add-mod, add-mod-mod) (ap (λ z. z % q) (grow m))
    where
      grow : (m : ℕ) → m + 1 ≡ suc m
      grow m = omega arith

  -- the value at a power of w of a held list
  pub value_is : (w : Held (λ a. nat_lt a q)) (j : ℕ) (a : List (Held (λ a. nat_lt a q))) → (value_at ring_of.ops (power ring_of.ops w j) a).0 ≡ value_at (residues q) (power (residues q) w.0 j) (values (λ a. nat_lt a q) a)
  value_is w j a = map_value_at (held_preserves laws_of) (power ring_of.ops w j) a ∙ ap (λ x. value_at (residues q) x (values (λ a. nat_lt a q) a)) (keeps_power (held_preserves laws_of) w j)

  pub value_in : (w : ℕ) → IsTrue (nat_lt w q) → (j : ℕ) (a : List ℕ) → All (λ c. c < q) a → value_at (residues q) (power (residues q) w j) a < q
  value_in w hw j a h = ltb-true (value_at (residues q) (power (residues q) w j) a) q (subst (λ z. IsTrue (nat_lt z q)) (value_is (w, hw) j (lifted (λ a. nat_lt a q) a (to_held a h)) ∙ ap (value_at (residues q) (power (residues q) w j)) (values-lifted (λ a. nat_lt a q) a (to_held a h))) (value_at ring_of.ops (power ring_of.ops (w, hw) j) (lifted (λ a. nat_lt a q) a (to_held a h))).1)

module _ (m : ℕ) (r : Root) (A : IsAcceptedRoot m r) where
  abbrev held : ℕ → Bool
  held a = nat_lt a r.q

  abbrev pub back : ℕ
  back = power (residues r.q) r.omega (m - 1)

  pub on : 0 < r.q
  on = let l = A.above in omega arith

  pub some : 0 < m
  some = let l = A.some in omega arith

  pub omega_in : IsTrue (nat_lt r.omega r.q)
  omega_in = A.is_root.held_root

  pub back_held : IsTrue (nat_lt back r.q)
  back_held = held_power (laws_of r.q on) r.omega omega_in (m - 1)

  pub are_pair : IsRootPair (λ a. nat_lt a r.q) (residues r.q) r.omega back m
  are_pair = record {
    is_root = A.is_root;
    held_inverse = back_held;
    inverse = let e : suc (m - 1) ≡ m = omega (arith, some) in ap (power (residues r.q) r.omega) e ∙ A.is_root.root;
  }

  pub count_is : length (units m) ≡ degree m
  count_is = length-units m ∙ sym (degree_is_units m some)

  pub place_in : (i : ℕ) → i < degree m → i < length (units m)
  place_in i l = omega (arith, count_is)

  pub phi_held : IsTrue (all_held (λ a. nat_lt a r.q) (phi_modulo m r.q))
  phi_held = all_from (λ a. nat_lt a r.q) (phi_modulo m r.q) (λ k d l. let k' : k < length (phi m) = omega (arith, length-map (phi m) (residue r.q)) in subst (λ z. IsTrue (nat_lt z r.q)) (sym (get_or-map (residue r.q) (phi m) k (pos 0) d k')) (residue_held_of r.q on (get_or (phi m) k (pos 0))))

  -- the remainder by Phi_m keeps the values at the units
  pub keeps_at : (j : ℕ) → 0 < j → UnitModulo m j → (a : List ℕ) → All (λ c. c < r.q) a → value_of r j (remainder (residues r.q) (phi_modulo m r.q) a) ≡ value_of r j a
  keeps_at j p u a h = keeps.remainder a (to_held r.q on a h)
    where
      keeps : KeepsValues (λ a. nat_lt a r.q) (residues r.q) (residue r.q) r.omega m j
      keeps = value_law (laws_of r.q on) (residue r.q) r.omega back m j (residue_preserves r.q on) (residue_held_of r.q on) some are_pair p u

  -- the remainder is a row
  pub remainder_row : (a : List ℕ) → All (λ c. c < r.q) a → IsRow m r.q (remainder (residues r.q) (phi_modulo m r.q) a)
  remainder_row a h = (length-remainder (residues r.q) (phi_modulo m r.q) a ∙ map_degree_of (residue_preserves r.q on) (phi m), from_held r.q on (remainder (residues r.q) (phi_modulo m r.q) a) (remainder_held (laws_of r.q on) (phi_modulo m r.q) a phi_held (to_held r.q on a h)))

  pub length-values_of : (a : List ℕ) → length (values_of m r a) ≡ degree m
  unfolding values_of
  length-values_of a = length-map (units m) (λ j. value_of r j a) ∙ count_is

  pub get_or-values_of : (a : List ℕ) (i : ℕ) → i < degree m → get_or (values_of m r a) i 0 ≡ value_of r (unit_at m i) a
  unfolding values_of
  get_or-values_of a i l = get_or-map (λ j. value_of r j a) (units m) i 0 0 (place_in i l)

  pub values_row : (a : List ℕ) → All (λ c. c < r.q) a → IsRow m r.q (values_of m r a)
  values_row a h = (length-values_of a, All-from_get_or (λ c. c < r.q) (values_of m r a) 0 (λ i l. let k : i < degree m = omega (arith, length-values_of a) in subst (λ z. z < r.q) (sym (get_or-values_of a i k)) (value_in r.q on r.omega omega_in (unit_at m i) a h)))

  -- what holds at each unit
  pub same_values_of : (a b : List ℕ) → ((j : ℕ) → 0 < j → UnitModulo m j → value_of r j a ≡ value_of r j b) → values_of m r a ≡ values_of m r b
  same_values_of a b h = ext_get_or 0 (values_of m r a) (values_of m r b) (length-values_of a ∙ sym (length-values_of b)) (λ i l. let k : i < degree m = omega (arith, length-values_of a) in get_or-values_of a i k ∙ h (unit_at m i) (unit_positive m i (place_in i k)) (unit_is m i some (place_in i k)) ∙ sym (get_or-values_of b i k))
