-- What holds of a whole document that is read.
use Rattle.std.proofs.Common.{◌≡◌, ℕ, Bool, true, false, List, length, ◌-◌, ◌+◌, Option, Some, None, Result, Ok, Err, IfOk, IfSome, if◌then◌else◌}
use Rattle.line_text.specs.declared.kinds.TableKey.TheVariants.{M, P, Weight, Chain, Special, Other}
use Rattle.toml.specs.Data.{Members}
use Rattle.table_keys.specs.declared.faults.DocumentFault.{DocumentFault}
use Rattle.table_keys.specs.Values.{◌>>=◌, Gives}
use Rattle.table_keys.specs.Keys.{digits_of, dual_of, factor_of, generators_of, m_of, p_of, weight_of}
use Rattle.table_keys.specs.Documents.{Document, Moduli, all_moduli_of, document_of, has_moduli, has_only, inverse_of, members_of, moduli_at, moduli_of, table_keys, table_of}
use Rattle.table_keys.specs.Templates.{Template, or_bad, plain_moduli_at, template_in, template_keys, template_of}
use Rattle.table_keys.specs.Shapes.{IsDocument, IsModuli, IsTemplate}
use Rattle.table_keys.proofs.ChainLaws.{bind_ok, passed_ok}
use Rattle.table_keys.proofs.ShapeLaws.{chain_count-moduli, chain_count-plain, digits_of-shape, dual_of-shape, factor_of-shape, generators_of-shape, inverse_of-shape, moduli_at-shape, number_within-shape, plain_moduli_at-shape}

pub all_moduli_of-shape : (moduli : Moduli) (doc : Members) → all_moduli_of doc ≡ Ok moduli → IsModuli moduli
unfolding all_moduli_of
all_moduli_of-shape moduli doc is =
    let weight = bind_ok (weight_of doc) _ moduli is in
    let digits = bind_ok (digits_of doc) _ moduli weight.2 in
    let chain = bind_ok (moduli_at Chain 32 doc) _ moduli digits.2 in
    let special = bind_ok (moduli_at Special 16 doc) _ moduli chain.2 in
    let inverse = bind_ok (inverse_of (length chain.0 + length special.0) doc) _ moduli special.2 in
    let same : record { weight = weight.0; digits = digits.0; chain = chain.0; special = special.0; inverse = inverse.0 } ≡ moduli = cc (inverse.2) in
    rw (← same) (record {
      weight = number_within-shape Weight 1 65536 weight.0 doc weight.1;
      digits = digits_of-shape (length chain.0) digits.0 doc (chain_count-moduli 32 chain.0 doc chain.1) digits.1;
      chain = moduli_at-shape Chain 32 chain.0 doc chain.1;
      special = moduli_at-shape Special 16 special.0 doc special.1;
      inverse = inverse_of-shape (length chain.0 + length special.0) inverse.0 doc inverse.1;
    })

some_of_moduli : (doc : Members) (moduli : Option Moduli) (b : Bool)
    → (if b then (all_moduli_of doc >>= λ found. Ok (Some found)) else Ok None) ≡ Ok moduli → IfSome moduli IsModuli
some_of_moduli doc moduli true is =
    let found = bind_ok (all_moduli_of doc) _ moduli is in
    let same : Some found.0 ≡ moduli = cc (found.2) in
    rw (← same) (all_moduli_of-shape found.0 doc found.1)
some_of_moduli doc moduli false is =
    let same : None ≡ moduli = cc in
    rw (← same) tt

pub moduli_of-shape : (moduli : Option Moduli) (doc : Members) → moduli_of doc ≡ Ok moduli → IfSome moduli IsModuli
unfolding moduli_of
moduli_of-shape moduli doc is = some_of_moduli doc moduli (has_moduli doc) is

pub table_of-shape : (table : Document) (doc : Members) → table_of doc ≡ Ok table → IsDocument table
unfolding table_of
table_of-shape table doc is =
    let m = bind_ok (m_of doc) _ table is in
    let p = bind_ok (p_of doc) _ table m.2 in
    let factor = bind_ok (factor_of p.0 doc) _ table p.2 in
    let dual = bind_ok (dual_of p.0 (length factor.0 - 1) doc) _ table factor.2 in
    let generators = bind_ok (generators_of m.0 doc) _ table dual.2 in
    let moduli = bind_ok (moduli_of doc) _ table generators.2 in
    let whole = passed_ok Other (λ _. has_only table_keys doc) (record { m = m.0; p = p.0; factor = factor.0; dual = dual.0; generators = generators.0; moduli = moduli.0 }) table moduli.2 in
    rw (← whole.1) (record {
      m = number_within-shape M 3 65536 m.0 doc m.1;
      p = number_within-shape P 2 131071 p.0 doc p.1;
      factor = factor_of-shape p.0 factor.0 doc factor.1;
      dual = dual_of-shape p.0 (length factor.0 - 1) dual.0 doc dual.1;
      generators = generators_of-shape m.0 generators.0 doc generators.1;
      moduli = moduli_of-shape moduli.0 doc moduli.1;
    })

pub document_of-shape : (text : List ℕ) (table : Document) → document_of text ≡ Ok table → IsDocument table
unfolding document_of
document_of-shape text table is =
    let doc = bind_ok (members_of text) _ table is in
    table_of-shape table doc.0 doc.2

pub template_in-shape : (template : Template) (doc : Members) → template_in doc ≡ Ok template → IsTemplate template
unfolding template_in
template_in-shape template doc is =
    let m = bind_ok (m_of doc) _ template is in
    let p = bind_ok (p_of doc) _ template m.2 in
    let factor = bind_ok (factor_of p.0 doc) _ template p.2 in
    let dual = bind_ok (dual_of p.0 (length factor.0 - 1) doc) _ template factor.2 in
    let generators = bind_ok (generators_of m.0 doc) _ template dual.2 in
    let weight = bind_ok (weight_of doc) _ template generators.2 in
    let digits = bind_ok (digits_of doc) _ template weight.2 in
    let chain = bind_ok (plain_moduli_at Chain 32 doc) _ template digits.2 in
    let special = bind_ok (plain_moduli_at Special 16 doc) _ template chain.2 in
    let whole = passed_ok Other (λ _. has_only template_keys doc)
    (record { m = m.0; p = p.0; factor = factor.0; dual = dual.0; generators = generators.0; weight = weight.0; digits = digits.0; chain = chain.0; special = special.0 })
    template special.2 in
    rw (← whole.1) (record {
      m = number_within-shape M 3 65536 m.0 doc m.1;
      p = number_within-shape P 2 131071 p.0 doc p.1;
      factor = factor_of-shape p.0 factor.0 doc factor.1;
      dual = dual_of-shape p.0 (length factor.0 - 1) dual.0 doc dual.1;
      generators = generators_of-shape m.0 generators.0 doc generators.1;
      weight = number_within-shape Weight 1 65536 weight.0 doc weight.1;
      digits = digits_of-shape (length chain.0) digits.0 doc (chain_count-plain 32 chain.0 doc chain.1) digits.1;
      chain = plain_moduli_at-shape Chain 32 chain.0 doc chain.1;
      special = plain_moduli_at-shape Special 16 special.0 doc special.1;
    })

or_bad_ok : {A : Type 0} (r : Result A DocumentFault) (x : A) → or_bad r ≡ Ok x → r ≡ Ok x
or_bad_ok (Ok y) x is = cc
or_bad_ok (Err fault) x is = absurd (cc)

pub template_of-shape : (text : List ℕ) (template : Template) → template_of text ≡ Ok template → IsTemplate template
unfolding template_of
template_of-shape text template is =
    let doc = bind_ok (members_of text) _ template (or_bad_ok (members_of text >>= template_in) template is) in
    template_in-shape template doc.0 doc.2

pub shape_of_given : (r : Result Document DocumentFault) (doc : Members) → Gives (λ table. table) r (table_of doc) → IfOk r IsDocument
shape_of_given (Ok table) doc is = table_of-shape table doc is
shape_of_given (Err fault) doc is = tt
