use Rattle.std.proofs.Common.{◌<◌, ℕ, Bool, List, [], length, map, All, arith, ap, sym, ◌∙◌, subst, Vec, Global}
use Rattle.std.proofs.lemmas.List.{length-map}
use Rattle.mod_ring.specs.Zq.{modulus_of}
use Rattle.residue_rows.specs.Kept.{RingSetting, rows_kept, moduli_kept}
use Rattle.double_crt.specs.ModuloRows.{ModuloRow}
use Rattle.double_crt.proofs.HeldSteps.{pushed, all_taken, moduli_long, line_modulus, given_long, given_at, given_in}
use Rattle.double_crt.proofs.fills.given_rows.Goals as goal

pub bounds-given-i : goal.bounds-given-i
bounds-given-i c = omega (arith, given_long c.args.tables.now c.args.chain_rows c.args.special c.args.given.now c.requires.given)

pub of-requires : goal.of-requires
of-requires c = subst (All (λ x. x < modulus_of c.ring-ring.result)) (sym c.deref.ensures.value) (given_in t n b c.args.given.now c.requires.given c.loop-i.i (modulus_of c.ring-ring.result) c.index-given-i.result (omega (arith, given_long t n b c.args.given.now c.requires.given)) c.index-given-i.is (line_modulus t n b c.loop-i.i (modulus_of c.ring-ring.result) c.line.result.now c.line.ensures c.ring-ring.ensures (omega arith)))
  where
    t : RingSetting
    t = c.args.tables.now

    n : ℕ
    n = c.args.chain_rows

    b : Bool
    b = c.args.special

pub loop-i-preserved : goal.loop-i-preserved
loop-i-preserved c = record {
  moduli = pushed (λ (r : ModuloRow). r.q) c.loop-i.rows.items c.push.new.self.items c.in_ok-of.field-0 (moduli_kept t n b) c.loop-i.i 0 c.in_ok-push.ensures.items c.loop-i.invariant.moduli (omega (arith, within, moduli_long t n b)) (ap (λ (r : ModuloRow). r.q) c.in_ok-of.ensures ∙ line_modulus t n b c.loop-i.i (modulus_of c.ring-ring.result) c.line.result.now c.line.ensures c.ring-ring.ensures within);
  entries = pushed (λ (r : ModuloRow). r.entries) c.loop-i.rows.items c.push.new.self.items c.in_ok-of.field-0 lists c.loop-i.i [] c.in_ok-push.ensures.items c.loop-i.invariant.entries (omega (arith, within, given_long t n b c.args.given.now c.requires.given, length-map c.args.given.now (λ (list : Vec ℕ Global). list.items))) (ap (λ (r : ModuloRow). r.entries) c.in_ok-of.ensures ∙ c.deref.ensures.value ∙ sym (given_at t n b c.args.given.now c.requires.given c.loop-i.i c.index-given-i.result (omega (arith, given_long t n b c.args.given.now c.requires.given)) c.index-given-i.is));
}
  where
    t : RingSetting
    t = c.args.tables.now

    n : ℕ
    n = c.args.chain_rows

    b : Bool
    b = c.args.special

    lists : List (List ℕ)
    lists = map (λ (list : Vec ℕ Global). list.items) c.args.given.now

    within : c.loop-i.i < length (rows_kept t n b)
    within = omega arith

pub returns-clause-entries : goal.returns-clause-entries
returns-clause-entries c = all_taken (map (λ (list : Vec ℕ Global). list.items) c.args.given.now) _ c.loop-i.i c.loop-i.invariant.entries (omega (arith, given_long c.args.tables.now c.args.chain_rows c.args.special c.args.given.now c.requires.given, length-map c.args.given.now (λ (list : Vec ℕ Global). list.items)))
