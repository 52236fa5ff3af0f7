use Rattle.std.proofs.Common.{◌≡◌, ◌-◌, ◌*◌, ◌%◌, refl, ap, sym, ◌∙◌, arith, eq-eqb, ne_eqb}
use Rattle.mod_ring.specs.Zq.{modulus_of}
use Rattle.algebra.specs.Divisor.{is_divisor}
use Rattle.moduli_table.specs.Checks.{two_power, is_half_root, is_root, is_two_root}
use Rattle.moduli_table.specs.Search.{zeta_by, psi_by}
use Rattle.moduli_table.proofs.TwoPowers.{two_power_next}
use Rattle.moduli_table.proofs.Bases.{power_by, no_double, no_length, no_half, no_two, no_whole, passed}
use Rattle.moduli_table.proofs.search.roots_by.Goals as goal
use Rattle.moduli_table.proofs.search.roots_by.Goals.{then-q-double-ne0-via-then-q-double-ne0, then-q-double-ne0-via-else-q-double-ne0+then-q-length-ne0}
use Rattle.moduli_table.proofs.search.roots_by.Goals.{else-is_half_root-via-then-is_half_root+then-is_two_root+else-is_root, else-is_half_root-via-then-is_half_root+else-is_two_root, else-is_half_root-via-else-is_half_root}

pub nonzero_rem-q-else-q-double-ne0 : goal.nonzero_rem-q-else-q-double-ne0
nonzero_rem-q-else-q-double-ne0 c = omega (arith, c.two_power-length.ensures, (two_power_next c.args.m c.requires.m_low).1)

pub returns-then-q-double-ne0 : goal.returns-then-q-double-ne0
returns-then-q-double-ne0 c =
    let q = modulus_of c.args.ring.now in
    let m = c.args.m in
    let s = c.modulus-q.result in
    let same : s ≡ q = c.modulus-q.ensures in
    elim c.then-q-double-ne0.branch [
      | then-q-double-ne0-via-then-q-double-ne0 w ↦ no_double m q c.args.g (ap (λ r. is_divisor (2 * m) (r - 1)) (sym same) ∙ ne_eqb ((s - 1) % (2 * m)) 0 w.if-q-double-ne0.true)
      | then-q-double-ne0-via-else-q-double-ne0+then-q-length-ne0 w ↦ no_length m q c.args.g (ap (λ r. is_divisor (two_power m) (r - 1)) (sym same) ∙ ap (λ n. is_divisor n (s - 1)) (sym c.two_power-length.ensures) ∙ ne_eqb ((s - 1) % c.two_power-length.result) 0 w.if-q-length-ne0.true)
    ]

pub returns-then-is_root : goal.returns-then-is_root
returns-then-is_root c =
    let q = modulus_of c.args.ring.now in
    let m = c.args.m in
    let g = c.args.g in
    let s = c.modulus-q.result in
    let same : s ≡ q = c.modulus-q.ensures in
    let zeta : c.power_word-zeta.result ≡ zeta_by m q g = power_by q s g (2 * m) (2 * m) c.power_word-zeta.result same refl c.power_word-zeta.ensures.value in
    let psi : c.power_word-psi.result ≡ psi_by m q g = power_by q s g c.two_power-length.result (two_power m) c.power_word-psi.result same c.two_power-length.ensures c.power_word-psi.ensures.value in
    passed m q g c.power_word-zeta.result c.power_word-psi.result zeta psi (ap (λ r. is_divisor (2 * m) (r - 1)) (sym same) ∙ eq-eqb ((s - 1) % (2 * m)) 0 c.if-q-double-ne0.false) (ap (λ r. is_divisor (two_power m) (r - 1)) (sym same) ∙ ap (λ n. is_divisor n (s - 1)) (sym c.two_power-length.ensures) ∙ eq-eqb ((s - 1) % c.two_power-length.result) 0 c.if-q-length-ne0.false) (sym (c.is_half_root.ensures ∙ ap (is_half_root m q) zeta) ∙ c.if-is_half_root.true) (sym (c.is_two_root.ensures ∙ ap (is_two_root m q) psi) ∙ c.if-is_two_root.true) (sym (c.is_root.ensures ∙ ap (is_root m q) zeta) ∙ c.if-is_root.true)

pub returns-else-is_half_root : goal.returns-else-is_half_root
returns-else-is_half_root c =
    let q = modulus_of c.args.ring.now in
    let m = c.args.m in
    let g = c.args.g in
    let s = c.modulus-q.result in
    let same : s ≡ q = c.modulus-q.ensures in
    let zeta : c.power_word-zeta.result ≡ zeta_by m q g = power_by q s g (2 * m) (2 * m) c.power_word-zeta.result same refl c.power_word-zeta.ensures.value in
    let psi : c.power_word-psi.result ≡ psi_by m q g = power_by q s g c.two_power-length.result (two_power m) c.power_word-psi.result same c.two_power-length.ensures c.power_word-psi.ensures.value in
    elim c.else-is_half_root.branch [
      | else-is_half_root-via-then-is_half_root+then-is_two_root+else-is_root w ↦ no_whole m q g (sym (w.is_root.ensures ∙ ap (is_root m q) zeta) ∙ w.if-is_root.false)
      | else-is_half_root-via-then-is_half_root+else-is_two_root w ↦ no_two m q g (sym (w.is_two_root.ensures ∙ ap (is_two_root m q) psi) ∙ w.if-is_two_root.false)
      | else-is_half_root-via-else-is_half_root w ↦ no_half m q g (sym (c.is_half_root.ensures ∙ ap (is_half_root m q) zeta) ∙ w.if-is_half_root.false)
    ]
