use Rattle.std.proofs.Common.{◌≡◌, ◌<◌, ℕ, Bool, [], get_or, length, arith, ap, ◌∙◌}
use Rattle.mod_ring.specs.Zq.{modulus_of}
use Rattle.residue_rows.specs.Rows.{rows_of}
use Rattle.residue_rows.specs.Kept.{RingSetting, rows_kept, moduli_kept}
use Rattle.double_crt.specs.ModuloRows.{ModuloRow}
use Rattle.double_crt.proofs.HeldSteps.{pushed, moduli_long, line_modulus, small_at, small_long}
use Rattle.double_crt.proofs.fills.small_rows.Goals as goal

pub loop-i-preserved : goal.loop-i-preserved
loop-i-preserved c = record {
  moduli = pushed (λ (r : ModuloRow). r.q) c.loop-i.rows.items c.push.new.self.items c.in_ok-of_small.field-0 (moduli_kept t n b) c.loop-i.i 0 c.in_ok-push.ensures.items c.loop-i.invariant.moduli (omega (arith, within, moduli_long t n b)) (ap (λ (r : ModuloRow). r.q) c.in_ok-of_small.ensures ∙ modulus);
  entries = pushed (λ (r : ModuloRow). r.entries) c.loop-i.rows.items c.push.new.self.items c.in_ok-of_small.field-0 (rows_of (moduli_kept t n b) c.args.coeffs.now) c.loop-i.i [] c.in_ok-push.ensures.items c.loop-i.invariant.entries (omega (arith, within, small_long t n b c.args.coeffs.now)) (ap (λ (r : ModuloRow). r.entries) c.in_ok-of_small.ensures ∙ small_at t n b c.args.coeffs.now c.loop-i.i (modulus_of c.ring-ring.result) within modulus);
}
  where
    t : RingSetting
    t = c.args.tables.now

    n : ℕ
    n = c.args.chain_rows

    b : Bool
    b = c.args.special

    within : c.loop-i.i < length (rows_kept t n b)
    within = omega arith

    modulus : modulus_of c.ring-ring.result ≡ get_or (moduli_kept t n b) c.loop-i.i 0
    modulus = line_modulus t n b c.loop-i.i (modulus_of c.ring-ring.result) c.line.result.now c.line.ensures c.ring-ring.ensures within
