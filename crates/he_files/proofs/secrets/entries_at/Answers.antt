use Rattle.std.proofs.Common.{ℕ, ℤ, ◌+◌, ◌∙◌, sym, subst, List, Result, arith, rules}
use Rattle.std.proofs.lemmas.Result.{err_from_is_err_and}
use Rattle.std.proofs.lemmas.Int.{to_z-of_z}
use mir.Val.{SFits}
use mir.Syntax.{w64}
use Rattle.he_files.specs.Reads.{Fails}
use Rattle.he_files.proofs.Loops.{entries-more, entries-done, entries-fault}
use Rattle.he_files.proofs.secrets.entries_at.Goals as goal

pub returns-in_err-entry-clause-value : goal.returns-in_err-entry-clause-value
returns-in_err-entry-clause-value c =
    let p = err_from_is_err_and c.from_residual.result c.from_residual.ensures.1 in
    let fault = c.in_err-entry.field-0.0 in
    rw (p.1, p.2) (subst (λ (r : Result (List ℤ × ℕ) ℕ). Fails fault r) c.loop-i.invariant.told
    (entries-fault fault c.loop-i.entries.items c.args.bytes.now c.args.n c.loop-i.i c.loop-i.weight c.loop-i.at c.loop-i-test.true c.in_err-entry.ensures.value))

pub loop-i-preserved : goal.loop-i-preserved
loop-i-preserved c =
    let x = c.in_ok-entry.entry in
    let fits : SFits w64 x = search rules in
    record {
      told = rw (c.in_ok-push.ensures.items, to_z-of_z w64 x fits, c.in_ok-entry.ensures.rest) (sym (entries-more c.loop-i.entries.items c.args.bytes.now c.args.n c.loop-i.i c.loop-i.weight c.loop-i.at (c.loop-i.at + 1) x c.loop-i-test.true c.in_ok-entry.ensures.value) ∙ c.loop-i.invariant.told);
      inside = omega (arith, c.in_ok-entry.ensures.inside);
    }

pub returns-clause-value : goal.returns-clause-value
returns-clause-value c = sym c.loop-i.invariant.told ∙ entries-done c.loop-i.entries.items c.args.bytes.now c.args.n c.loop-i.i c.loop-i.weight c.loop-i.at c.loop-i-test.false
