use Rattle.std.proofs.Common.{ℕ, List}
use Rattle.std.proofs.Math.Path.{fun_ext}
use Rattle.slot_program.specs.Names.{naming, named}
use Rattle.slot_program.proofs.NameLemmas.{lookup_named}
use Rattle.slot_program.proofs.names.Names.insert.Goals as goal

pub returns : goal.returns
unfolding naming named
returns c = fun_ext (λ (word : List ℕ).
    lookup_named word c.args.name c.args.number c.args.self.now.numbers.entries c.insert.new.self.entries c.in_ok-insert.ensures.entries)
