use Rattle.std.proofs.Common.{◌≡◌, true, false, sym, ◌∙◌, ap, rules, eq-eqb, ne_eqb, ◌%◌}
use Rattle.mod_ring.specs.Zq.{modulus_of}
use Rattle.moduli_table.specs.Checks.{is_size, is_residue, is_half_root, is_root, is_two_root}
use Rattle.moduli_table.proofs.FirstFaults.{size_fault, residue_fault, half_root_fault, root_fault, two_root_fault, no_row_fault}
use Rattle.moduli_table.proofs.unchecked.row_fault.Goals as goal

pub returns-then-not-is_size : goal.returns-then-not-is_size
returns-then-not-is_size c =
    sym (size_fault c.args.m c.args.i c.args.row (sym c.is_size.ensures ∙ c.if-not-is_size.true))

pub returns-then-row-m-ne1 : goal.returns-then-row-m-ne1
returns-then-row-m-ne1 c =
    let r = c.args.row in
    let size : is_size r ≡ true = sym c.is_size.ensures ∙ c.if-not-is_size.false in
    sym (residue_fault c.args.m c.args.i r size (ne_eqb (r.q % c.args.m) 1 c.if-row-m-ne1.true))

pub returns-then-not-is_half_root : goal.returns-then-not-is_half_root
returns-then-not-is_half_root c =
    let r = c.args.row in
    let m = c.args.m in
    let same : modulus_of c.unwrap-ring.result ≡ r.q = search rules in
    let size : is_size r ≡ true = sym c.is_size.ensures ∙ c.if-not-is_size.false in
    let residue : is_residue m r ≡ true = eq-eqb (r.q % m) 1 c.if-row-m-ne1.false in
    let half : is_half_root m r.q r.zeta ≡ false = sym (c.is_half_root.ensures ∙ ap (λ q. is_half_root m q r.zeta) same) ∙ c.if-not-is_half_root.true in
    sym (half_root_fault m c.args.i r size residue half)

pub returns-then-not-is_root : goal.returns-then-not-is_root
returns-then-not-is_root c =
    let r = c.args.row in
    let m = c.args.m in
    let same : modulus_of c.unwrap-ring.result ≡ r.q = search rules in
    let size : is_size r ≡ true = sym c.is_size.ensures ∙ c.if-not-is_size.false in
    let residue : is_residue m r ≡ true = eq-eqb (r.q % m) 1 c.if-row-m-ne1.false in
    let half : is_half_root m r.q r.zeta ≡ true = sym (c.is_half_root.ensures ∙ ap (λ q. is_half_root m q r.zeta) same) ∙ c.if-not-is_half_root.false in
    let root : is_root m r.q r.zeta ≡ false = sym (c.is_root.ensures ∙ ap (λ q. is_root m q r.zeta) same) ∙ c.if-not-is_root.true in
    sym (root_fault m c.args.i r size residue half root)

pub returns-then-not-is_two_root : goal.returns-then-not-is_two_root
returns-then-not-is_two_root c =
    let r = c.args.row in
    let m = c.args.m in
    let same : modulus_of c.unwrap-ring.result ≡ r.q = search rules in
    let size : is_size r ≡ true = sym c.is_size.ensures ∙ c.if-not-is_size.false in
    let residue : is_residue m r ≡ true = eq-eqb (r.q % m) 1 c.if-row-m-ne1.false in
    let half : is_half_root m r.q r.zeta ≡ true = sym (c.is_half_root.ensures ∙ ap (λ q. is_half_root m q r.zeta) same) ∙ c.if-not-is_half_root.false in
    let root : is_root m r.q r.zeta ≡ true = sym (c.is_root.ensures ∙ ap (λ q. is_root m q r.zeta) same) ∙ c.if-not-is_root.false in
    let two : is_two_root m r.q r.psi ≡ false = sym (c.is_two_root.ensures ∙ ap (λ q. is_two_root m q r.psi) same) ∙ c.if-not-is_two_root.true in
    sym (two_root_fault m c.args.i r size residue half root two)

pub returns : goal.returns
returns c =
    let r = c.args.row in
    let m = c.args.m in
    let same : modulus_of c.unwrap-ring.result ≡ r.q = search rules in
    let size : is_size r ≡ true = sym c.is_size.ensures ∙ c.if-not-is_size.false in
    let residue : is_residue m r ≡ true = eq-eqb (r.q % m) 1 c.if-row-m-ne1.false in
    let half : is_half_root m r.q r.zeta ≡ true = sym (c.is_half_root.ensures ∙ ap (λ q. is_half_root m q r.zeta) same) ∙ c.if-not-is_half_root.false in
    let root : is_root m r.q r.zeta ≡ true = sym (c.is_root.ensures ∙ ap (λ q. is_root m q r.zeta) same) ∙ c.if-not-is_root.false in
    let two : is_two_root m r.q r.psi ≡ true = sym (c.is_two_root.ensures ∙ ap (λ q. is_two_root m q r.psi) same) ∙ c.if-not-is_two_root.false in
    sym (no_row_fault m c.args.i r size residue half root two)
