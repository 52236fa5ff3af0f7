use Rattle.std.proofs.Common.{◌≡◌, Ok, subst, sym}
use Rattle.table_file.specs.Accepted.{weighed}
use Rattle.table_file.proofs.Checks.{light_weight}
use Rattle.table_file.proofs.accepting.scheme.Goals as goal

pub scheme_of-requires-clause-light : goal.scheme_of-requires-clause-light
scheme_of-requires-clause-light c = light_weight c.document.inside.m c.document.inside.moduli c.in-Some.moduli c.in-Some.is (subst (λ t. weighed t.m t.moduli ≡ Ok tt) (sym c.document.view_is) c.requires.light)
