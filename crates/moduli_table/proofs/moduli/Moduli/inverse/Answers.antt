use Rattle.std.proofs.Common.{◌≡◌, refl, ap, sym, ◌∙◌, arith}
use Rattle.moduli_table.specs.declared.rows.ModRow.{ModRow}
use Rattle.moduli_table.specs.Chain.{Chain, count, modulus_at}
use Rattle.moduli_table.specs.Accepted.{IsInverse}
use Rattle.moduli_table.specs.Inside.{chain_of}
use Rattle.moduli_table.proofs.Turned.{turned_inverse, quotient_below, same_inverse_of}
use Rattle.moduli_table.proofs.moduli.Moduli.inverse.Goals as goal

pub overflow_cast-result : goal.overflow_cast-result
overflow_cast-result c =
    let s : Chain = chain_of c.self.inside.numbers in
    let i = c.args.i in
    let j = c.args.j in
    let modulus : c.row-modulus.result.q ≡ modulus_at s i = ap (λ (r : ModRow). r.q) c.row-modulus.ensures in
    let target : c.row-target.result.q ≡ modulus_at s j = ap (λ (r : ModRow). r.q) c.row-target.ensures in
    let size : count s ≡ count c.args.self.now = ap count c.self.view_is in
    let entry : IsInverse c.row-modulus.result.q c.row-target.result.q c.entry-entry.result = same_inverse_of _ _ _ _ _ _ (sym modulus) (sym target) (sym c.entry-entry.ensures) (c.self.invariant.moduli.inverses j i (omega (arith, c.requires.apart)) (omega (arith, size))) in
    omega (arith, quotient_below c.row-modulus.result.q c.row-target.result.q c.entry-entry.result (omega (arith, modulus, (c.self.invariant.moduli.rows i (omega (arith, size))).low)) (omega (arith, target, (c.self.invariant.moduli.rows j (omega (arith, size))).low)) entry)

pub overflow_sub-result : goal.overflow_sub-result
overflow_sub-result c =
    let s : Chain = chain_of c.self.inside.numbers in
    let i = c.args.i in
    let j = c.args.j in
    let modulus : c.row-modulus.result.q ≡ modulus_at s i = ap (λ (r : ModRow). r.q) c.row-modulus.ensures in
    let target : c.row-target.result.q ≡ modulus_at s j = ap (λ (r : ModRow). r.q) c.row-target.ensures in
    let size : count s ≡ count c.args.self.now = ap count c.self.view_is in
    let entry : IsInverse c.row-modulus.result.q c.row-target.result.q c.entry-entry.result = same_inverse_of _ _ _ _ _ _ (sym modulus) (sym target) (sym c.entry-entry.ensures) (c.self.invariant.moduli.inverses j i (omega (arith, c.requires.apart)) (omega (arith, size))) in
    omega (arith, quotient_below c.row-modulus.result.q c.row-target.result.q c.entry-entry.result (omega (arith, modulus, (c.self.invariant.moduli.rows i (omega (arith, size))).low)) (omega (arith, target, (c.self.invariant.moduli.rows j (omega (arith, size))).low)) entry)

pub returns : goal.returns
returns c =
    let s : Chain = chain_of c.self.inside.numbers in
    let i = c.args.i in
    let j = c.args.j in
    let modulus : c.row-modulus.result.q ≡ modulus_at s i = ap (λ (r : ModRow). r.q) c.row-modulus.ensures in
    let target : c.row-target.result.q ≡ modulus_at s j = ap (λ (r : ModRow). r.q) c.row-target.ensures in
    let size : count s ≡ count c.args.self.now = ap count c.self.view_is in
    let entry : IsInverse c.row-modulus.result.q c.row-target.result.q c.entry-entry.result = same_inverse_of _ _ _ _ _ _ (sym modulus) (sym target) (sym c.entry-entry.ensures) (c.self.invariant.moduli.inverses j i (omega (arith, c.requires.apart)) (omega (arith, size))) in
    same_inverse_of _ _ _ _ _ _ (target ∙ ap (λ (c : Chain). modulus_at c j) c.self.view_is) (modulus ∙ ap (λ (c : Chain). modulus_at c i) c.self.view_is) refl (turned_inverse c.row-modulus.result.q c.row-target.result.q c.entry-entry.result (omega (arith, modulus, (c.self.invariant.moduli.rows i (omega (arith, size))).low)) (omega (arith, target, (c.self.invariant.moduli.rows j (omega (arith, size))).low)) entry)
