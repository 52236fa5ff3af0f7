use Rattle.std.proofs.Common.{◌≡◌, ℕ, ◌<◌, ◌≤◌, ◌∙◌, sym, subst, ap, map, take, length, get_or, List, Result, arith}
use Rattle.std.proofs.lemmas.Result.{err_from_is_err_and}
use Rattle.std.proofs.lemmas.List.{map_push}
use Rattle.he_files.specs.Form.{several}
use Rattle.he_files.specs.Polynomial.{residue}
use Rattle.he_files.specs.Reads.{Fails}
use Rattle.he_files.proofs.ChainModuli.{moduli_length, modulus_is}
use Rattle.he_files.proofs.Loops.{each-more, each-done, each-fault}
use Rattle.he_files.proofs.polynomials.rows_at.Goals as goal

pub returns-in_err-row-clause-value : goal.returns-in_err-row-clause-value
returns-in_err-row-clause-value c =
    let p = err_from_is_err_and c.from_residual.result c.from_residual.ensures.1 in
    let fault = c.in_err-row.field-0.0 in
    let chain = c.args.moduli.now in
    let qs = map (λ r. r.q) (take c.args.count chain.chain) in
    let q = c.row.result.q in
    let inside : c.loop-i.i < length qs = omega (arith, moduli_length chain c.args.count c.requires.few) in
    let is : get_or qs c.loop-i.i q ≡ q = modulus_is chain c.args.count c.loop-i.i q c.loop-i-test.true c.requires.few ∙ sym (ap (λ r. r.q) c.row.ensures.value) in
    rw (p.1, p.2) (subst (λ (r : Result (List (List ℕ) × ℕ) ℕ). Fails fault r) c.loop-i.invariant.told
    (each-fault (λ q. several c.args.n (residue q)) qs c.args.bytes.now fault (map (λ row. row.items) c.loop-i.rows.items) c.loop-i.i c.loop-i.at q inside is c.in_err-row.ensures.value))

pub loop-i-preserved : goal.loop-i-preserved
loop-i-preserved c =
    let chain = c.args.moduli.now in
    let qs = map (λ r. r.q) (take c.args.count chain.chain) in
    let q = c.row.result.q in
    let row = c.in_ok-row.row in
    let inside : c.loop-i.i < length qs = omega (arith, moduli_length chain c.args.count c.requires.few) in
    let is : get_or qs c.loop-i.i q ≡ q = modulus_is chain c.args.count c.loop-i.i q c.loop-i-test.true c.requires.few ∙ sym (ap (λ r. r.q) c.row.ensures.value) in
    record {
      told = rw (c.in_ok-push.ensures.items, map_push (λ row. row.items) c.loop-i.rows.items row) (sym (each-more (λ q. several c.args.n (residue q)) qs c.args.bytes.now (map (λ row. row.items) c.loop-i.rows.items) c.loop-i.i c.loop-i.at c.in_ok-row.after q row.items inside is c.in_ok-row.ensures.value) ∙ c.loop-i.invariant.told);
      inside = omega (arith, c.in_ok-row.ensures.inside);
    }

pub returns-clause-value : goal.returns-clause-value
returns-clause-value c =
    let chain = c.args.moduli.now in
    let qs = map (λ r. r.q) (take c.args.count chain.chain) in
    let past : length qs ≤ c.loop-i.i = omega (arith, moduli_length chain c.args.count c.requires.few) in
    sym c.loop-i.invariant.told ∙ each-done (λ q. several c.args.n (residue q)) qs c.args.bytes.now (map (λ row. row.items) c.loop-i.rows.items) c.loop-i.i c.loop-i.at past
