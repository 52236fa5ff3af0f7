use Rattle.std.proofs.Common.{◌+◌, ◌-◌, ◌%◌, ap, sym, ◌∙◌}
use Rattle.std.proofs.Math.Nat.{add-mod-mod}
use Rattle.algebra.proofs.Residues.{residue_same}
use Rattle.mod_ring.proofs.residues.ZqRing.sub.Goals as goal

pub returns-clause-value : goal.returns-clause-value
returns-clause-value c =
    let q = c.args.self.now.q in
    let a = c.args.a.now in
    let b = c.args.b.now in
    c.sub_word.ensures.value ∙ sym (add-mod-mod a (q - b) q) ∙ ap (λ n. (a + (q - n) % q) % q) (sym (residue_same q b c.requires.b_held))
