use Rattle.std.proofs.Common.{◌≡◌, ◌<◌, ◌≤◌, ◌∙◌, [], ◌∷◌, ◌++◌, arith, false, get_or, length, map, ap, pos}
use Rattle.std.specs.Int.{w64}
use Rattle.std.proofs.lemmas.Int.{to_z-of_z}
use Rattle.algebra.specs.Whole.{balanced}
use Rattle.cyclotomic.specs.Cyclotomic.{degree}
use Rattle.mod_ring.specs.Zq.{modulus_of}
use Rattle.residue_rows.specs.Whole.{whole}
use Rattle.residue_rows.specs.Kept.{moduli_kept}
use Rattle.cipher_core.proofs.Columns.{items}
use Rattle.cipher_core.proofs.PlainSteps.{row_more, row_all}
use Rattle.cipher_core.proofs.plain_rows.plain_row.Goals as goal

pub loop-place-preserved : goal.loop-place-preserved
loop-place-preserved c =
    let t = c.args.tables.now in
    let rows = c.args.rows.now in
    let v = c.plain_coefficient-value.result in
    let place = c.loop-place.place in
    let x = get_or (whole t.moduli.m (moduli_kept t (length rows) false) (map items rows)) place (pos 0) in
    let made = rw c.unwrap-plain.ensures at c.new.ensures.value in
    let same : modulus_of c.unwrap-plain.result ≡ t.moduli.p = made ∙ c.from.ensures ∙ c.p.ensures.value in
    let inside : place < degree t.moduli.m = omega (arith, c.n-place-end.ensures.value, c.loop-place-test.true) in
    c.in_ok-push.ensures.items ∙ ap (λ x. c.loop-place.list.items ++ x ∷ []) (to_z-of_z w64 v (record { sfits = c.plain_coefficient-value.type_inv }))
    ∙ row_more t c.p.ensures.setting (length rows) c.requires.few (map items rows) c.requires.rows t.moduli.p place c.loop-place.list.items v
    inside c.loop-place.invariant (c.plain_coefficient-value.ensures ∙ ap (λ p. balanced p x) same)

pub returns : goal.returns
returns c =
    let rows = c.args.rows.now in
    let past : degree c.args.tables.now.moduli.m ≤ c.loop-place.place = omega (arith, c.n-place-end.ensures.value, c.loop-place-test.false) in
    row_all c.args.tables.now c.p.ensures.setting (length rows) c.requires.few (map items rows) c.requires.rows c.args.tables.now.moduli.p c.loop-place.place c.loop-place.list.items past c.loop-place.invariant
