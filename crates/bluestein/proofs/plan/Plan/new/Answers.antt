use Rattle.std.proofs.Common.{◌≡◌, ◌+◌, ◌-◌, ◌*◌, ◌/◌, ◌%◌, ◌^◌, ◌<◌, ap, sym, ◌∙◌, subst, arith, All}
use Rattle.two_power.specs.Tree.{AreFactors}
use Rattle.bluestein.specs.Plan.{IsLeastPower}
use Rattle.bluestein.specs.Chirps.{AreChirps, IsMirrored}
use Rattle.bluestein.proofs.Powers.{psi_half_power, half_power, scaled_share, share_in, inverse_root}
use Rattle.bluestein.proofs.plan.Plan.new.Goals as goal

pub new-requires-clause-psi_half : goal.new-requires-clause-psi_half
new-requires-clause-psi_half c = psi_half_power c.args.q c.args.psi (2 * c.args.m - 1) c.requires.size c.levels_for-levels.result c.levels_for-levels.ensures.low c.requires.is_size c.levels_for-levels.ensures.size c.requires.psi_half

pub quotients_of-requires : goal.quotients_of-requires
quotients_of-requires c = subst (λ z. All (λ a. a < c.args.q) z) (sym c.deref.ensures.value) (subst (λ z. All (λ a. a < z) c.in_ok-before.before.items) c.residues_modulo-ring.ensures c.in_ok-before.ensures.below)

pub quotients_of-requires-2 : goal.quotients_of-requires-2
quotients_of-requires-2 c = subst (λ z. All (λ a. a < c.args.q) z) (sym c.deref-2.ensures.value) (subst (λ z. All (λ a. a < z) c.in_ok-forth.forth.items) c.residues_modulo-ring.ensures c.in_ok-forth.ensures.below)

pub quotients_of-requires-3 : goal.quotients_of-requires-3
quotients_of-requires-3 c = subst (λ z. All (λ a. a < c.args.q) z) (sym c.deref-3.ensures.value) (subst (λ z. All (λ a. a < z) c.in_ok-back.back.items) c.residues_modulo-ring.ensures c.in_ok-back.ensures.below)

pub invariant_of-result : goal.invariant_of-result
invariant_of-result c =
    let q = c.args.q in
    let m = c.args.m in
    let zeta = c.args.zeta in
    let levels = c.levels_for-levels.result in
    let v = c.power_word-inverse_zeta.result in
    let s = c.power_word-forth_scale.result in
    let t = c.mul_word-back_scale.result in
    let q_is = c.residues_modulo-ring.ensures in
    let levels_is = c.in_ok-cyclic.ensures.levels in
    let one : (s * 2 ^ levels) % q ≡ 1 = half_power q levels s (omega (arith, c.requires.above)) c.requires.odd (c.power_word-forth_scale.ensures.value ∙ ap (λ z. ((q + 1) / 2) ^ levels % z) q_is) in
    record {
      roots = c.requires;
      modulus = c.in_ok-cyclic.ensures.modulus;
      size = subst (λ z. IsLeastPower (2 * m - 1) (2 ^ z)) (sym levels_is) c.levels_for-levels.ensures.size;
      inverse_zeta = v;
      zeta_one = inverse_root q zeta m v (omega (arith, c.requires.some)) c.requires.zeta_order (c.power_word-inverse_zeta.ensures.value ∙ ap (λ z. zeta ^ (2 * m - 1) % z) q_is);
      row = c.in_ok-row.row.items;
      has_row = c.in_ok-cyclic.ensures.row;
      is_mirrored = subst (λ z. IsMirrored z v m c.in_ok-row.row.items) q_is c.in_ok-row.ensures.mirrored;
      before = subst (λ z. AreChirps z zeta 1 m c.in_ok-before.before.items) q_is c.in_ok-before.ensures.powers;
      before_factors = subst (λ z. AreFactors q z c.in_ok-chirp_quotients.chirp_quotients.items) c.deref.ensures.value c.in_ok-chirp_quotients.ensures;
      forth_scale = s;
      forth_one = subst (λ z. (s * 2 ^ z) % q ≡ 1) (sym levels_is) one;
      forth = subst (λ z. AreChirps z zeta s m c.in_ok-forth.forth.items) q_is c.in_ok-forth.ensures.powers;
      forth_factors = subst (λ z. AreFactors q z c.in_ok-forth_quotients.forth_quotients.items) c.deref-2.ensures.value c.in_ok-forth_quotients.ensures;
      back_scale = t;
      back_share = subst (λ z. (t * 2 ^ z) % q ≡ q - (q - 1) / m) (sym levels_is) (scaled_share q s (2 ^ levels) (q - (q - 1) / m) t (omega (arith, c.requires.above)) one (share_in q m c.requires.some c.requires.above c.requires.one_more) (c.mul_word-back_scale.ensures.value ∙ ap (λ z. (s * (q - (q - 1) / m)) % z) q_is));
      back = subst (λ z. AreChirps z zeta t m c.in_ok-back.back.items) q_is c.in_ok-back.ensures.powers;
      back_factors = subst (λ z. AreFactors q z c.in_ok-back_quotients.back_quotients.items) c.deref-3.ensures.value c.in_ok-back_quotients.ensures;
    }
