use Rattle.std.proofs.Common.{◌+◌, ◌-◌, ◌*◌, ◌<◌, ◌≡◌, subst, sym, length, set, arith}
use Rattle.hyper_cube.specs.Torus.{Torus, index, place, slot_count, size}
use Rattle.hyper_cube.proofs.Axed.{size_above, stride_above, moved_is, moved_in, moved_small, step_small}
use Rattle.hyper_cube.proofs.cubes.Cube.moved.Goals as goal

pub place_of-requires : goal.place_of-requires
place_of-requires c =
    let within = subst (λ (t : Torus). c.args.i < length t.dimensions) (sym c.self.view_is) c.requires.i in
    record {
      stride = stride_above c.self.inside c.self.invariant c.args.i c.index.result.now within c.index.ensures;
      size = size_above c.self.inside c.self.invariant c.args.i c.index.result.now within c.index.ensures;
    }

pub overflow_mul-result-2 : goal.overflow_mul-result-2
overflow_mul-result-2 c =
    let within = subst (λ (t : Torus). c.args.i < length t.dimensions) (sym c.self.view_is) c.requires.i in
    let below = subst (λ (t : Torus). c.args.slot < slot_count t) (sym c.self.view_is) c.requires.slot in
    let to_in = subst (λ (t : Torus). c.args.to < size t c.args.i) (sym c.self.view_is) c.requires.to in
    omega (arith, step_small c.self.inside c.self.invariant c.args.i c.index.result.now within c.index.ensures c.args.slot c.args.to c.place_of.result below to_in c.place_of.ensures)

pub overflow_add-result : goal.overflow_add-result
overflow_add-result c =
    let within = subst (λ (t : Torus). c.args.i < length t.dimensions) (sym c.self.view_is) c.requires.i in
    let below = subst (λ (t : Torus). c.args.slot < slot_count t) (sym c.self.view_is) c.requires.slot in
    let to_in = subst (λ (t : Torus). c.args.to < size t c.args.i) (sym c.self.view_is) c.requires.to in
    omega (arith, moved_small c.self.inside c.self.invariant c.args.i c.index.result.now within c.index.ensures c.args.slot c.args.to c.place_of.result below to_in c.place_of.ensures)

pub returns-clause-value : goal.returns-clause-value
returns-clause-value c =
    let within = subst (λ (t : Torus). c.args.i < length t.dimensions) (sym c.self.view_is) c.requires.i in
    let below = subst (λ (t : Torus). c.args.slot < slot_count t) (sym c.self.view_is) c.requires.slot in
    let to_in = subst (λ (t : Torus). c.args.to < size t c.args.i) (sym c.self.view_is) c.requires.to in
    subst (λ (t : Torus). c.args.slot - c.place_of.result * c.index.result.now.stride + c.args.to * c.index.result.now.stride ≡ place t.dimensions (set (index t.dimensions c.args.slot) c.args.i c.args.to)) c.self.view_is (moved_is c.self.inside c.self.invariant c.args.i c.index.result.now within c.index.ensures c.args.slot c.args.to c.place_of.result below to_in c.place_of.ensures)

pub returns-clause-below : goal.returns-clause-below
returns-clause-below c =
    let within = subst (λ (t : Torus). c.args.i < length t.dimensions) (sym c.self.view_is) c.requires.i in
    let below = subst (λ (t : Torus). c.args.slot < slot_count t) (sym c.self.view_is) c.requires.slot in
    let to_in = subst (λ (t : Torus). c.args.to < size t c.args.i) (sym c.self.view_is) c.requires.to in
    subst (λ (t : Torus). c.args.slot - c.place_of.result * c.index.result.now.stride + c.args.to * c.index.result.now.stride < slot_count t) c.self.view_is (moved_in c.self.inside c.self.invariant c.args.i c.index.result.now within c.index.ensures c.args.slot c.args.to c.place_of.result below to_in c.place_of.ensures)
