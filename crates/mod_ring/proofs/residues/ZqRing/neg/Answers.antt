use Rattle.std.proofs.Common.{◌-◌, ◌%◌, ap, sym, ◌∙◌}
use Rattle.algebra.proofs.Residues.{residue_same}
use Rattle.mod_ring.proofs.residues.ZqRing.neg.Goals as goal

pub returns-clause-value : goal.returns-clause-value
returns-clause-value c =
    let q = c.args.self.now.q in
    c.neg_word.ensures.value ∙ ap (λ n. (q - n) % q) (sym (residue_same q c.args.a.now c.requires.a_held))
