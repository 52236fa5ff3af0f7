use Rattle.std.proofs.Common.{◌≡◌, ◌∙◌, ◌+◌, ◌≤◌, ℕ, List, false, length, map, sym, ap, ap₂, subst}
use Rattle.std.specs.Prelude.{Vec, ℤ}
use Rattle.std.specs.declared.alloc.Global.{Global}
use Rattle.std.proofs.lemmas.Result.{IfOk-weaker}
use Rattle.std.proofs.lemmas.List.{length-map}
use Rattle.residue_rows.specs.Rows.{AreRows, rows_of}
use Rattle.residue_rows.specs.Kept.{Residues, moduli_kept}
use Rattle.scheme_laws.specs.Scheme.{moduli_at}
use Rattle.cipher_core.specs.Masked.{opened_parts}
use Rattle.cipher_core.proofs.Columns.{items}
use Rattle.cipher_core.proofs.OpenSteps.{level_fits, rows_count, sum_rows, sum_is_opened}
use Rattle.cipher_core.proofs.decryption.opened.Goals as goal

abbrev Rows : Type 0
Rows = Vec (Vec ℕ Global) Global

-- these rows are the sum's
abbrev AreOf : Residues → Rows → Type 0
AreOf sum v = map items v.items ≡ sum.rows

pub returns-clause-value : goal.returns-clause-value
returns-clause-value c =
    let t = c.args.tables.now.value in
    let x = c.args.c.now in
    let sum = c.add_in.new.self in
    let secret : c.in_ok-s.s.rows ≡ rows_of (moduli_kept t x.c0.chain_rows false) c.args.secret.now.coeffs.items =
    ap (λ (a : Residues). a.rows) c.in_ok-s.ensures.value ∙ ap₂ (λ k list. rows_of (moduli_kept t k false) list) c.chain_rows-rows.ensures.value c.deref.ensures.value in
    let is =
    sum_is_opened t x.level x.c0 x.c1 c.requires.tables x.rows x.no_special x.alike c.chain_rows-rows.ensures.kept c.copy.ensures.kept
    c.args.secret.now.coeffs.items c.in_ok-s.s c.in_ok-opened.opened c.mul_in.new.self sum c.in_ok-opened.ensures.value c.mul_in.ensures.value c.add_in.ensures.value c.requires.long secret in
    IfOk-weaker c.to_residues.result (AreOf sum) (λ v. map items v.items ≡ opened_parts t x.level x.c0.rows x.c1.rows c.args.secret.now.coeffs.items) (λ v h. h ∙ is) c.to_residues.ensures.value

pub returns-clause-rows : goal.returns-clause-rows
returns-clause-rows c =
    let t = c.args.tables.now.value in
    let x = c.args.c.now in
    let sum = c.add_in.new.self in
    let are =
    sum_rows t x.level x.c0 x.c1 c.requires.tables x.rows x.no_special x.alike c.chain_rows-rows.ensures.kept c.copy.ensures.kept
    c.args.secret.now.coeffs.items c.in_ok-s.s c.in_ok-opened.opened c.mul_in.new.self sum c.in_ok-opened.ensures.value c.mul_in.ensures.value c.add_in.ensures.value c.add_in.ensures.kept in
    IfOk-weaker c.to_residues.result (AreOf sum) (λ v. AreRows t.moduli.m (moduli_at t x.level) (map items v.items)) (λ v h. subst (AreRows t.moduli.m (moduli_at t x.level)) (sym h) are) c.to_residues.ensures.value

pub returns-clause-count : goal.returns-clause-count
returns-clause-count c =
    let t = c.args.tables.now.value in
    let x = c.args.c.now in
    let sum = c.add_in.new.self in
    let are =
    sum_rows t x.level x.c0 x.c1 c.requires.tables x.rows x.no_special x.alike c.chain_rows-rows.ensures.kept c.copy.ensures.kept
    c.args.secret.now.coeffs.items c.in_ok-s.s c.in_ok-opened.opened c.mul_in.new.self sum c.in_ok-opened.ensures.value c.mul_in.ensures.value c.add_in.ensures.value c.add_in.ensures.kept in
    let count = rows_count t x.level sum.rows (level_fits t x.level x.c0 c.chain_rows-rows.ensures.kept c.requires.tables x.rows) are in
    IfOk-weaker c.to_residues.result (AreOf sum) (λ v. length v.items ≡ x.level + 1) (λ v h. sym (length-map v.items items) ∙ ap length h ∙ count) c.to_residues.ensures.value

pub returns-clause-fits : goal.returns-clause-fits
returns-clause-fits c =
    let t = c.args.tables.now.value in
    let x = c.args.c.now in
    let fits = level_fits t x.level x.c0 c.chain_rows-rows.ensures.kept c.requires.tables x.rows in
    IfOk-weaker c.to_residues.result (AreOf c.add_in.new.self) (λ v. x.level + 1 ≤ length t.moduli.chain) (λ v h. fits) c.to_residues.ensures.value
