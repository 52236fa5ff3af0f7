use Rattle.std.proofs.Common.{◌≡◌, ◌∙◌, arith}
use Rattle.draw_stream.specs.Draw.{uniform_of}
use Rattle.draw_stream.proofs.Words.{uniform_from_halves, uniform_from_words}
use Rattle.draw_stream.proofs.Draws.uniform.Goals as goal

pub returns-clause-value : goal.returns-clause-value
returns-clause-value c =
    let h : c.residue.result ≡ uniform_of c.args.q c.from-a.result c.from-b.result c.from-c.result c.from-d.result =
    uniform_from_halves c.set_modulus.new.self.modulus c.args.q c.residue.result c.from-a.result c.from-b.result c.from-c.result c.from-d.result (omega arith) (omega arith) c.set_modulus.ensures c.residue.ensures.value in
    uniform_from_words c.args.self.now c.next.new.self c.next-2.new.self c.next-3.new.self c.args.q c.residue.result c.from-a.result c.from-b.result c.from-c.result c.from-d.result c.next.ensures.moved c.next-2.ensures.moved c.next-3.ensures.moved (c.from-a.ensures ∙ c.next.ensures.value) (c.from-b.ensures ∙ c.next-2.ensures.value) (c.from-c.ensures ∙ c.next-3.ensures.value) (c.from-d.ensures ∙ c.next-4.ensures.value) h
