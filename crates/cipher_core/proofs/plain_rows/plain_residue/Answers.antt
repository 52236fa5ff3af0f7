use Rattle.std.proofs.Common.{◌∙◌, arith}
use Rattle.std.specs.Int.{w64}
use Rattle.std.proofs.lemmas.Int.{to_z-of_z}
use Rattle.cipher_core.proofs.PlainSteps.{plain_is}
use Rattle.cipher_core.proofs.plain_rows.plain_residue.Goals as goal

pub returns : goal.returns
returns c = λ x zip small.
    to_z-of_z w64 c.balanced.result (record { sfits = c.balanced.type_inv })
    ∙ plain_is c.args.plain.now.q c.args.radix.now c.requires.basis c.args.residues.now c.digits.new.out c.residue_from_digits-residue.result c.balanced.result
    (omega (arith, c.args.plain.now.in_range)) c.requires.count (c.digits.auto.out ∙ c.requires.room) c.digits.ensures c.residue_from_digits-residue.ensures.value c.balanced.ensures.value x zip small
