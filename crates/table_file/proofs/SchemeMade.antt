-- The ring and the slots of an accepted table make a scheme.
use Rattle.std.proofs.Common.{◌≡◌, ◌↔◌, IsTrue, length, map, Some, None, refl, subst, arith}
use Rattle.std.specs.Prelude.{IfSome}
use Rattle.std.proofs.lemmas.Bool.{ltb-false}
use Rattle.std.proofs.lemmas.List.{length-map}
use Rattle.cyclotomic.specs.CyclotomicLaws.{DegreeIsUnits}
use Rattle.ext_field.specs.Element.{Extension, IsFrobenius, IsMonicFactor}
use Rattle.ext_field.specs.Checks.{frobenius_holds}
use Rattle.hyper_cube.specs.CubeLaws.{PassesWhereCube}
use Rattle.hyper_cube.specs.Torus.{slot_count}
use Rattle.moduli_table.specs.Accepted.{AreModuli}
use Rattle.moduli_table.specs.Chain.{Chain, IsShaped}
use Rattle.moduli_table.specs.Checks.{first_fault as moduli_fault}
use Rattle.residue_rows.specs.Kept.{RingSetting, IsSetting}
use Rattle.scheme_laws.specs.Scheme.{IsScheme}
use Rattle.slot_factor.specs.Packing.{Packing}
use Rattle.slot_factor.proofs.FaultSteps.{packing_made}
use Rattle.slot_laws.specs.Checks.{bad_slot, IsPacking}
use Rattle.table_keys.specs.Documents.{Document, Moduli}
use Rattle.table_keys.specs.Shapes.{DocumentsAreShaped, IsDocument, IsModuli}
use Rattle.table_file.specs.Accepted.{chain_of, cube_of, field_of, packing_of, ring_for, row_of}
use Rattle.table_file.specs.SchemeLaw.{AcceptedIsScheme}
use Rattle.table_file.specs.Setting.{Setting, scheme_of}
use Rattle.table_file.proofs.Checks.{light_weight, shape_of}
use Rattle.table_file.proofs.Passing.{is_table, slots_pass, Passes}

-- the tests of extensions and of moduli say what they are named for
abbrev pub FrobeniusDecides : Type 0
FrobeniusDecides = (f : Extension) → IsTrue (frobenius_holds f) ↔ IsFrobenius f

abbrev pub ModuliDecide : Type 0
ModuliDecide = (c : Chain) → IsShaped c → (moduli_fault c ≡ None) ↔ AreModuli c

module _ (t : Document) (D : IsDocument t) where
  monic : IsMonicFactor (field_of t)
  monic = record {
    p_low = D.p.0;
    p_high = omega (arith, D.p.1);
    degree_low = omega (arith, D.factor.count.0);
    degree_high = omega (arith, D.factor.count.1);
    below = D.factor.below;
    monic = D.factor.monic;
  }

  packing_is : FrobeniusDecides → PassesWhereCube → Passes t → IsPacking (field_of t) (cube_of t)
  packing_is framed cubed P =
      let slots = slots_pass (packing_of t) P.packed in
      packing_made (packing_of t) (bad_slot (field_of t) (cube_of t)) slots.divides refl (ltb-false (bad_slot (field_of t) (cube_of t)) (slot_count (cube_of t)) slots.none_bad)
      (record { factor = monic; frobenius = (framed (field_of t)).0 P.framed })
      ((cubed (cube_of t) (shape_of t D)).0 P.cubed) refl refl slots.annihilated slots.complete

  module _ (k : Moduli) (K : IsModuli k) where
    chain_long : length (map row_of k.chain) ≡ length k.chain
    chain_long = length-map k.chain row_of

    special_long : length (map row_of k.special) ≡ length k.special
    special_long = length-map k.special row_of

    shaped : IsShaped (chain_of t.m t.p k)
    shaped = record {
      m_low = D.m.0;
      m_high = D.m.1;
      p_low = D.p.0;
      p_high = D.p.1;
      chain_low = omega (arith, chain_long, K.chain.count.0);
      chain_high = omega (arith, chain_long, K.chain.count.1);
      special_low = omega (arith, special_long, K.special.count.0);
      special_high = omega (arith, special_long, K.special.count.1);
      lists = omega (arith, chain_long, special_long, K.inverse.count);
      entries = λ j l. K.inverse.rows j (omega (arith, l, chain_long, special_long, K.inverse.count));
    }

    setting : ModuliDecide → DegreeIsUnits → Passes t → t.moduli ≡ Some k → moduli_fault (chain_of t.m t.p k) ≡ None → IsSetting (ring_for t.m t.p k)
    setting sound counted P there none = record {
      accepted = record { shaped = shaped; moduli = (sound (chain_of t.m t.p k) shaped).0 none };
      weight_some = K.weight.0;
      weight_most = omega (arith, light_weight t.m t.moduli k there P.light, counted t.m (omega (arith, D.m.0)));
      digits_some = K.digits.positive;
      digits_sum = omega (arith, K.digits.total, chain_long);
    }

-- a setting with the slots and the ring of a document
seen : (s : Setting) (ring r : RingSetting) (packing : Packing) → s.packing ≡ packing → ring ≡ r
    → IsScheme (record { ring = r; field = packing.field; cube = packing.cube }) → IsScheme (scheme_of s ring)
seen s ring r packing packing_is ring_is is = rw (packing_is, ring_is) is

pub scheme_made : DocumentsAreShaped → DegreeIsUnits → PassesWhereCube → FrobeniusDecides → ModuliDecide → AcceptedIsScheme
scheme_made documents counted cubed framed sound text s ring e there =
    let table = is_table text s ring e there in
    let t = table.document in
    let D = documents text t table.reads in
    let k = table.chains.moduli in
    let K : IsModuli k = subst (λ o. IfSome o IsModuli) table.chains.there D.moduli in
    seen s ring (ring_for t.m t.p k) (packing_of t) table.packing table.chains.ring_is
    (record {
      setting = setting t D k K sound counted table.passes table.chains.there table.chains.sound;
      packing = packing_is t D framed cubed table.passes;
      same_m = refl;
      same_p = refl;
    })
