-- What holds where the checks of a table pass.
use Rattle.std.proofs.Common.{◌≡◌, ℕ, Bool, true, false, Option, None, Some, Result, Ok, Err, List, refl, sym, ap, ◌∙◌}
use Rattle.std.specs.Prelude.{not, nat_lt, option_map, if◌then◌else◌}
use Rattle.cyclo_poly.specs.Tall.{is_tall}
use Rattle.ext_field.specs.Checks.{dual_fault, frobenius_holds}
use Rattle.hyper_cube.specs.Torus.{slot_count}
use Rattle.hyper_cube.specs.Checks.{first_fault as cube_fault}
use Rattle.moduli_table.specs.Checks.{first_fault as moduli_fault}
use Rattle.residue_rows.specs.Kept.{RingSetting}
use Rattle.slot_laws.specs.Checks.{bad_slot, is_annihilated, is_complete, is_phi_factor}
use Rattle.slot_factor.specs.Checks.{first_fault as slots_fault}
use Rattle.slot_factor.specs.Packing.{Packing}
use Rattle.slot_factor.specs.declared.faults.SlotFault.TheVariants.{NotDivisor, Idempotent, NotAnnihilated, NotComplete, Dual}
use Rattle.table_keys.specs.Documents.{Document, Moduli, document_of}
use Rattle.table_file.specs.declared.faults.TableFault.{TableFault}
use Rattle.table_file.specs.Accepted.{accepted, chain_of, chained, cube_of, field_of, packing_of, passing, ring_for, table_of, weighed}
use Rattle.table_file.specs.Faults.{◌>>=◌, of_cube, of_document, of_moduli, of_slots, or_fault, passed, unless}
use Rattle.table_file.specs.Setting.{Setting}

-- what a step gave that the next one went on from
record GoesOn {A B : Type 0} (first : Result A TableFault) (next : A → Result B TableFault) (y : B) : Type 0 where
  value : A
  gave : first ≡ Ok value
  rest : next value ≡ Ok y

goes_on : {A B : Type 0} (first : Result A TableFault) (next : A → Result B TableFault) (y : B) → (first >>= next) ≡ Ok y → GoesOn first next y
goes_on (Ok x) next y e = record { value = x; gave = refl; rest = e }
goes_on (Err fault) next y e = absurd (cc)

passed_ok : (b : Bool) (fault : TableFault) (u : Unit {0}) → passed b fault ≡ Ok u → b ≡ true
passed_ok true fault u e = refl
passed_ok false fault u e = absurd (cc)

unless_ok : {E : Type 0} (fault : E → TableFault) (o : Option E) (u : Unit {0}) → unless fault o ≡ Ok u → o ≡ None
unless_ok fault None u e = refl
unless_ok fault (Some x) u e = absurd (cc)

or_fault_ok : {A E : Type 0} (fault : E → TableFault) (r : Result A E) (x : A) → or_fault fault r ≡ Ok x → r ≡ Ok x
or_fault_ok fault (Ok y) x e = cc
or_fault_ok fault (Err f) x e = absurd (cc)

-- the checks of the slots, where none fails
pub record SlotsPass (s : Packing) : Type 0 where
  pub divides : is_phi_factor s.field s.cube ≡ true
  pub none_bad : nat_lt (bad_slot s.field s.cube) (slot_count s.cube) ≡ false
  pub annihilated : is_annihilated s.field s.cube ≡ true
  pub complete : is_complete s.field s.cube ≡ true

slots_by : (divides bad annihilated complete : Bool) (slot : ℕ) (dual : Option (ℕ × ℕ))
    → (if not divides then Some NotDivisor
    else (if bad then Some (Idempotent slot)
    else (if not annihilated then Some NotAnnihilated
    else (if not complete then Some NotComplete
    else option_map (λ at. Dual at.0 at.1) dual)))) ≡ None
    → (divides ≡ true) × (bad ≡ false) × (annihilated ≡ true) × (complete ≡ true)
slots_by false bad annihilated complete slot dual e = absurd (cc)
slots_by true true annihilated complete slot dual e = absurd (cc)
slots_by true false false complete slot dual e = absurd (cc)
slots_by true false true false slot dual e = absurd (cc)
slots_by true false true true slot dual e = (refl, refl, refl, refl)

pub slots_pass : (s : Packing) → slots_fault s ≡ None → SlotsPass s
unfolding slots_fault
slots_pass s e =
    let parts = slots_by (is_phi_factor s.field s.cube) (nat_lt (bad_slot s.field s.cube) (slot_count s.cube)) (is_annihilated s.field s.cube) (is_complete s.field s.cube) (bad_slot s.field s.cube) (dual_fault s.field s.dual) e in
    record { divides = parts.0; none_bad = parts.1; annihilated = parts.2; complete = parts.3 }

-- the checks before those of the moduli, where none fails
pub record Passes (t : Document) : Type 0 where
  pub light : weighed t.m t.moduli ≡ Ok tt
  pub cubed : cube_fault (cube_of t) ≡ None
  pub framed : frobenius_holds (field_of t) ≡ true
  pub packed : slots_fault (packing_of t) ≡ None

passes : (t : Document) → passing t ≡ Ok tt → Passes t
unfolding passing
passes t e =
    let light = goes_on (weighed t.m t.moduli) _ tt e in
    let cubed = goes_on (unless of_cube (cube_fault (cube_of t))) _ tt light.rest in
    let small = goes_on (passed (not (is_tall t.m)) _) _ tt cubed.rest in
    let framed = goes_on (passed (frobenius_holds (field_of t)) _) _ tt small.rest in
    record {
      light = light.gave;
      cubed = unless_ok of_cube (cube_fault (cube_of t)) cubed.value cubed.gave;
      framed = passed_ok (frobenius_holds (field_of t)) _ framed.value framed.gave;
      packed = unless_ok of_slots (slots_fault (packing_of t)) tt framed.rest;
    }

some_same : {A : Type 0} (x y : A) → (let given : Result (Option A) TableFault = Ok (Some y) in given ≡ Ok (Some x)) → x ≡ y
some_same x y e = cc

-- the moduli of an accepted table
pub record Chains (t : Document) (ring : RingSetting) : Type 0 where
  pub moduli : Moduli
  pub there : t.moduli ≡ Some moduli
  pub sound : moduli_fault (chain_of t.m t.p moduli) ≡ None
  pub ring_is : ring ≡ ring_for t.m t.p moduli

chains : (t : Document) (ring : RingSetting) (o : Option Moduli) → t.moduli ≡ o → chained t.m t.p o ≡ Ok (Some ring) → Chains t ring
unfolding chained
chains t ring None there e = absurd (cc)
chains t ring (Some k) there e =
    let sound = goes_on (unless of_moduli (moduli_fault (chain_of t.m t.p k))) _ (Some ring) e in
    record { moduli = k; there = there; sound = unless_ok of_moduli (moduli_fault (chain_of t.m t.p k)) sound.value sound.gave; ring_is = some_same ring _ sound.rest }

-- the document of an accepted table that has moduli
pub record IsTableOf (text : List ℕ) (s : Setting) (ring : RingSetting) : Type 0 where
  pub document : Document
  pub reads : document_of text ≡ Ok document
  pub passes : Passes document
  pub chains : Chains document ring
  pub packing : s.packing ≡ packing_of document

ok_same : {A : Type 0} (x y : A) → (let given : Result A TableFault = Ok x in given ≡ Ok y) → x ≡ y
ok_same x y e = cc

table_made : (text : List ℕ) (t : Document) (s : Setting) (ring : RingSetting) → document_of text ≡ Ok t → accepted t ≡ Ok s → s.chain ≡ Some ring
    → IsTableOf text s ring
unfolding accepted
table_made text t s ring reads e there =
    let sound = goes_on (passing t) _ s e in
    let chain = goes_on (chained t.m t.p t.moduli) _ s sound.rest in
    let same : record { packing = packing_of t; chain = chain.value } ≡ s = ok_same _ s chain.rest in
    record {
      document = t;
      reads = reads;
      passes = passes t sound.gave;
      chains = chains t ring t.moduli refl (chain.gave ∙ ap Ok (ap (λ s. s.chain) same ∙ there));
      packing = sym (ap (λ s. s.packing) same);
    }

pub is_table : (text : List ℕ) (s : Setting) (ring : RingSetting) → table_of text ≡ Ok s → s.chain ≡ Some ring → IsTableOf text s ring
unfolding table_of
is_table text s ring e there =
    let read = goes_on (or_fault of_document (document_of text)) accepted s e in
    table_made text read.value s ring (or_fault_ok of_document (document_of text) read.value read.gave) read.rest there
