use Rattle.std.proofs.Common.{◌<◌, ◌≡◌, subst, sym, length, get_or, ◌∙◌}
use Rattle.hyper_cube.specs.Torus.{Torus, index}
use Rattle.hyper_cube.proofs.Axed.{size_above, stride_above, coordinate_is}
use Rattle.hyper_cube.proofs.cubes.Cube.coordinate.Goals as goal

pub place_of-requires : goal.place_of-requires
place_of-requires c =
    let within = subst (λ (t : Torus). c.args.i < length t.dimensions) (sym c.self.view_is) c.requires.i in
    record {
      stride = stride_above c.self.inside c.self.invariant c.args.i c.index.result.now within c.index.ensures;
      size = size_above c.self.inside c.self.invariant c.args.i c.index.result.now within c.index.ensures;
    }

pub returns-clause-value : goal.returns-clause-value
returns-clause-value c =
    let within = subst (λ (t : Torus). c.args.i < length t.dimensions) (sym c.self.view_is) c.requires.i in
    subst (λ (t : Torus). c.place_of.result ≡ get_or (index t.dimensions c.args.slot) c.args.i 0) c.self.view_is (c.place_of.ensures ∙ coordinate_is c.self.inside c.self.invariant c.args.i c.index.result.now within c.index.ensures c.args.slot)
