use Rattle.std.proofs.Common.{◌≡◌, length, subst, sym, rules}
use Rattle.table_keys.specs.Shapes.{IsDocument}
use Rattle.table_file.proofs.Checks.{shape_at}
use Rattle.table_file.proofs.accepting.cube.Goals as goal

pub new-requires : goal.new-requires
new-requires c =
    let long : c.len.result ≡ length c.document.inside.factor.items = search rules in
    shape_at _ c.len.result c.as_slice.result.now (subst IsDocument (sym c.document.view_is) c.requires) long c.as_slice.ensures.value
