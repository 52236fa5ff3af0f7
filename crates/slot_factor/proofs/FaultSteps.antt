-- The first check that fails.
use Rattle.std.proofs.Common.{◌≡◌, ℕ, ◌<◌, ◌≤◌, Bool, true, false, not, refl, sym, ap, ap₂, subst, ◌∙◌, arith}
use Rattle.std.specs.Prelude.{nat_lt, Option, None, Some, option_map, if◌then◌else◌}
use Rattle.std.proofs.lemmas.Bool.{lt-ltb, ltb-true}
use Rattle.hyper_cube.specs.Torus.{Torus, slot_count}
use Rattle.hyper_cube.specs.Checks.{IsCube}
use Rattle.ext_field.specs.Checks.{dual_fault}
use Rattle.ext_field.specs.Element.{Extension, IsExtension}
use Rattle.ext_field.specs.Element as field
use Rattle.slot_laws.specs.Checks.{is_phi_factor, bad_slot, is_annihilated, is_complete, IsPhiFactor, IsPacking}
use Rattle.slot_laws.proofs.Tests.{checks_decide, packing_from}
use Rattle.slot_factor.specs.Checks.{first_fault}
use Rattle.slot_factor.specs.Packing.{Packing}
use Rattle.slot_factor.specs.declared.faults.SlotFault.{SlotFault}
use Rattle.slot_factor.specs.declared.faults.SlotFault.TheVariants.{NotDivisor, Idempotent, NotAnnihilated, NotComplete, Dual}
use Rattle.slot_factor.proofs.CubeJoin.{slot_cube}

chain : Bool → Bool → ℕ → Bool → Bool → Option (ℕ × ℕ) → Option SlotFault
chain a l b n o d =
    if not a then Some NotDivisor
    else (if l then Some (Idempotent b)
    else (if not n then Some NotAnnihilated
    else (if not o then Some NotComplete
    else option_map (λ at. Dual at.0 at.1) d)))

module _ (s : Packing) where
  A : Bool
  A = is_phi_factor s.field s.cube

  L : Bool
  L = nat_lt (bad_slot s.field s.cube) (slot_count s.cube)

  B : ℕ
  B = bad_slot s.field s.cube

  N : Bool
  N = is_annihilated s.field s.cube

  O : Bool
  O = is_complete s.field s.cube

  D : Option (ℕ × ℕ)
  D = dual_fault s.field s.dual

  fault_is : first_fault s ≡ chain A L B N O D
  unfolding first_fault chain A L B N O D
  fault_is = refl

  module _ (a l n o : Bool) (d : Option (ℕ × ℕ)) (a_is : A ≡ a) (l_is : L ≡ l) (n_is : N ≡ n) (o_is : O ≡ o) (d_is : D ≡ d) where
    all : first_fault s ≡ chain a l B n o d
    all = fault_is ∙ ap₂ (λ x y. chain x y B N O D) a_is l_is ∙ ap₂ (λ x y. chain a l B x y D) n_is o_is ∙ ap (chain a l B n o) d_is

pub fault_divisor : (s : Packing) → is_phi_factor s.field s.cube ≡ false → first_fault s ≡ Some NotDivisor
unfolding A L B N O D chain
fault_divisor s a = all s false (L s) (N s) (O s) (D s) a refl refl refl refl

pub low_test : (b n : ℕ) → n ≤ b → nat_lt b n ≡ false
low_test b n l = go (nat_lt b n) refl
  where
    go : (t : Bool) → nat_lt b n ≡ t → nat_lt b n ≡ false
    go true e = absurd (omega (arith, l, ltb-true b n e))
    go false e = e

pub fault_idempotent : (s : Packing) (b : ℕ) → is_phi_factor s.field s.cube ≡ true → b ≡ bad_slot s.field s.cube → b < slot_count s.cube → first_fault s ≡ Some (Idempotent b)
unfolding A L B N O D chain
fault_idempotent s b a b_is l = all s true true (N s) (O s) (D s) a (lt-ltb (bad_slot s.field s.cube) (slot_count s.cube) (subst (λ z. z < slot_count s.cube) b_is l)) refl refl refl ∙ ap (λ z. Some (Idempotent z)) (sym b_is)

module _ (s : Packing) (b : ℕ) (a : is_phi_factor s.field s.cube ≡ true) (b_is : b ≡ bad_slot s.field s.cube) (l : slot_count s.cube ≤ b) where
  low : nat_lt (bad_slot s.field s.cube) (slot_count s.cube) ≡ false
  low = low_test (bad_slot s.field s.cube) (slot_count s.cube) (subst (λ z. slot_count s.cube ≤ z) b_is l)

  pub fault_annihilated : is_annihilated s.field s.cube ≡ false → first_fault s ≡ Some NotAnnihilated
  unfolding A L B N O D chain
  fault_annihilated n = all s true false false (O s) (D s) a low n refl refl

  pub fault_complete : is_annihilated s.field s.cube ≡ true → is_complete s.field s.cube ≡ false → first_fault s ≡ Some NotComplete
  unfolding A L B N O D chain
  fault_complete n o = all s true false true false (D s) a low n o refl

  pub fault_dual : is_annihilated s.field s.cube ≡ true → is_complete s.field s.cube ≡ true → (i k : ℕ) → dual_fault s.field s.dual ≡ Some (i, k) → first_fault s ≡ Some (Dual i k)
  unfolding A L B N O D chain
  fault_dual n o i k d = all s true false true true (Some (i, k)) a low n o d

  pub fault_none : is_annihilated s.field s.cube ≡ true → is_complete s.field s.cube ≡ true → dual_fault s.field s.dual ≡ None → first_fault s ≡ None
  unfolding A L B N O D chain
  fault_none n o d = all s true false true true None a low n o d

  pub packing_made : IsExtension s.field → IsCube s.cube → s.field.p ≡ s.cube.p → field.degree s.field ≡ s.cube.d → is_annihilated s.field s.cube ≡ true → is_complete s.field s.cube ≡ true → IsPacking s.field s.cube
  packing_made E C p_is d_is n o = packing_from s.field s.cube E (slot_cube s.cube C) p_is d_is a (omega (arith, (checks_decide s.field s.cube).low, subst (λ z. slot_count s.cube ≤ z) b_is l)) n o

pub root_holds : (f : Extension) (c : Torus) → is_phi_factor f c ≡ true → IsPhiFactor f c
root_holds f c e = (checks_decide f c).phi_factor.0 e
