use Rattle.std.proofs.Common.{◌∙◌, ◌+◌, subst, sym, ℕ, Ok, Result}
use Rattle.std.proofs.lemmas.Result.{err_from_is_err_and}
use Rattle.noise_bound.specs.Value.{value}
use Rattle.scheme_laws.specs.Ciphers.{Cipher}
use Rattle.he_files.specs.Polynomial.{polynomial}
use Rattle.he_files.specs.Reads.{Fails}
use Rattle.he_files.proofs.CipherSteps.{level_read, after_steps, all_steps, fails_then, ended_before}
use Rattle.he_files.proofs.FileForms.{ended_at}
use Rattle.he_files.proofs.ciphers.read_cipher.Goals as goal

pub returns-in_err-c1-clause-value : goal.returns-in_err-c1-clause-value
returns-in_err-c1-clause-value c =
    let t = c.args.tables.now.value in
    let bytes = c.args.bytes.now in
    let l = c.in_ok-level in
    let b = c.in_ok-bound in
    let x = c.in_ok-c0 in
    let p = err_from_is_err_and c.from_residual-in_err-c1.result c.from_residual-in_err-c1.ensures.1 in
    let fault = c.in_err-c1.field-0.0 in
    let steps = after_steps t bytes c.args.from (l.level, l.at) (value b.bound, b.at) x.c0.rows x.at (level_read t c.deref.result.now c.chain_len.result bytes c.args.from (Ok (l.level, l.at)) c.deref.ensures c.chain_len.ensures.value l.ensures.value) b.ensures.value x.ensures.value in
    rw (p.1, p.2) (subst (λ (r : Result Cipher ℕ). Fails fault r) (sym steps) (fails_then fault ((polynomial t (l.level + 1)).read bytes x.at) _ c.in_err-c1.ensures.value))

pub returns-then-end-bytes-clause-value : goal.returns-then-end-bytes-clause-value
returns-then-end-bytes-clause-value c =
    let t = c.args.tables.now.value in
    let bytes = c.args.bytes.now in
    let l = c.in_ok-level in
    let b = c.in_ok-bound in
    let x = c.in_ok-c0 in
    let y = c.in_ok-c1 in
    let made : Cipher = record { level = l.level; bound = value b.bound; c0 = x.c0.rows; c1 = y.c1.rows } in
    all_steps t bytes c.args.from (l.level, l.at) (value b.bound, b.at) x.c0.rows y.c1.rows x.at y.end (level_read t c.deref.result.now c.chain_len.result bytes c.args.from (Ok (l.level, l.at)) c.deref.ensures c.chain_len.ensures.value l.ensures.value) b.ensures.value x.ensures.value y.ensures.value
    ∙ ended_before bytes made y.end c.if-end-bytes.true

pub returns-clause-value : goal.returns-clause-value
returns-clause-value c =
    let t = c.args.tables.now.value in
    let bytes = c.args.bytes.now in
    let l = c.in_ok-level in
    let b = c.in_ok-bound in
    let x = c.in_ok-c0 in
    let y = c.in_ok-c1 in
    let made : Cipher = record { level = l.level; bound = value b.bound; c0 = x.c0.rows; c1 = y.c1.rows } in
    all_steps t bytes c.args.from (l.level, l.at) (value b.bound, b.at) x.c0.rows y.c1.rows x.at y.end (level_read t c.deref.result.now c.chain_len.result bytes c.args.from (Ok (l.level, l.at)) c.deref.ensures c.chain_len.ensures.value l.ensures.value) b.ensures.value x.ensures.value y.ensures.value
    ∙ ended_at bytes made y.end (sym c.if-end-bytes.false)
