-- Each instruction is that of the polynomials in whose slots its operands stand.
use Rattle.std.proofs.Common.{rules, ap, ◌∙◌, subst, length}
use Rattle.slot_program.specs.Kinds.{is_input}
use Rattle.slot_program.specs.Program.{value_of}
use Rattle.packed_clear.specs.Packed.{IsOver, arrays_in}
use Rattle.packed_clear.proofs.PackedSteps.{first_input, first_is, operand, returned, encoded, sum, difference, product, negative, moved, unit_modulo}
use Rattle.packed_clear.proofs.running.value_of.Goals as goal

pub auto_packed-requires-clause-unit : goal.auto_packed-requires-clause-unit
auto_packed-requires-clause-unit c =
    let over = subst (IsOver c.args.slots.now.field c.args.slots.now.cube (length c.args.values.now)) c.in-Auto.is c.requires.over in
    unit_modulo c.args.slots.now.field c.args.slots.now.cube c.cube-cube.ensures.valid c.in-Auto.k over.0

pub returns-in-Input : goal.returns-in-Input
returns-in-Input c =
    let f = c.args.slots.now.field in
    let cube = c.args.slots.now.cube in
    let inputs = c.args.inputs.now in
    let some = c.requires.input (ap is_input c.in-Input.is) in
    let first = c.index-inputs-0.result in
    returned f cube _ _ first _
    (ap (value_of f cube (arrays_in f cube c.args.values.now) inputs) c.in-Input.is ∙ first_input inputs first some c.index-inputs-0.is)
    (encoded f cube c.cube-cube.ensures.valid first (first_is f cube inputs first some c.index-inputs-0.is c.requires.arrays))
    (search rules)

pub returns-in-Const : goal.returns-in-Const
returns-in-Const c =
    let f = c.args.slots.now.field in
    let cube = c.args.slots.now.cube in
    let values = c.args.values.now in
    let over = subst (IsOver f cube (length values)) c.in-Const.is c.requires.over in
    returned f cube _ _ _ _
    (ap (value_of f cube (arrays_in f cube values) c.args.inputs.now) c.in-Const.is)
    (encoded f cube c.cube-cube.ensures.valid c.in-Const.elems over)
    (search rules)

pub returns-in-Add : goal.returns-in-Add
returns-in-Add c =
    let f = c.args.slots.now.field in
    let cube = c.args.slots.now.cube in
    let values = c.args.values.now in
    let over = subst (IsOver f cube (length values)) c.in-Add.is c.requires.over in
    returned f cube _ _ _ _
    (ap (value_of f cube (arrays_in f cube values) c.args.inputs.now) c.in-Add.is)
    (sum f cube c.cube-cube.ensures.valid _ _ _ _
    (operand f cube values c.in-Add.a c.index-values-a.result c.deref.result.now c.requires.packed over.0 c.index-values-a.is c.deref.ensures.value)
    (operand f cube values c.in-Add.b c.index-values-b.result c.deref-in-Add.result.now c.requires.packed over.1 c.index-values-b.is c.deref-in-Add.ensures.value))
    (search rules)

pub returns-in-Sub : goal.returns-in-Sub
returns-in-Sub c =
    let f = c.args.slots.now.field in
    let cube = c.args.slots.now.cube in
    let values = c.args.values.now in
    let over = subst (IsOver f cube (length values)) c.in-Sub.is c.requires.over in
    returned f cube _ _ _ _
    (ap (value_of f cube (arrays_in f cube values) c.args.inputs.now) c.in-Sub.is)
    (difference f cube c.cube-cube.ensures.valid _ _ _ _
    (operand f cube values c.in-Sub.a c.index-values-a-in-Sub.result c.deref-in-Sub.result.now c.requires.packed over.0 c.index-values-a-in-Sub.is c.deref-in-Sub.ensures.value)
    (operand f cube values c.in-Sub.b c.index-values-b-in-Sub.result c.deref-in-Sub-2.result.now c.requires.packed over.1 c.index-values-b-in-Sub.is c.deref-in-Sub-2.ensures.value))
    (search rules)

pub returns-in-Mul : goal.returns-in-Mul
returns-in-Mul c =
    let f = c.args.slots.now.field in
    let cube = c.args.slots.now.cube in
    let values = c.args.values.now in
    let over = subst (IsOver f cube (length values)) c.in-Mul.is c.requires.over in
    returned f cube _ _ _ _
    (ap (value_of f cube (arrays_in f cube values) c.args.inputs.now) c.in-Mul.is)
    (product f cube c.cube-cube.ensures.valid _ _ _ _
    (operand f cube values c.in-Mul.a c.index-values-a-in-Mul.result c.deref-in-Mul.result.now c.requires.packed over.0 c.index-values-a-in-Mul.is c.deref-in-Mul.ensures.value)
    (operand f cube values c.in-Mul.b c.index-values-b-in-Mul.result c.deref-in-Mul-2.result.now c.requires.packed over.1 c.index-values-b-in-Mul.is c.deref-in-Mul-2.ensures.value))
    (search rules)

pub returns-in-AddC : goal.returns-in-AddC
returns-in-AddC c =
    let f = c.args.slots.now.field in
    let cube = c.args.slots.now.cube in
    let values = c.args.values.now in
    let over = subst (IsOver f cube (length values)) c.in-AddC.is c.requires.over in
    returned f cube _ _ _ _
    (ap (value_of f cube (arrays_in f cube values) c.args.inputs.now) c.in-AddC.is)
    (sum f cube c.cube-cube.ensures.valid _ _ _ _
    (operand f cube values c.in-AddC.a c.index-values-a-in-AddC.result c.deref-in-AddC.result.now c.requires.packed over.0 c.index-values-a-in-AddC.is c.deref-in-AddC.ensures.value)
    (operand f cube values c.in-AddC.c c.index-values-c.result c.deref-in-AddC-2.result.now c.requires.packed over.1 c.index-values-c.is c.deref-in-AddC-2.ensures.value))
    (search rules)

pub returns-in-MulC : goal.returns-in-MulC
returns-in-MulC c =
    let f = c.args.slots.now.field in
    let cube = c.args.slots.now.cube in
    let values = c.args.values.now in
    let over = subst (IsOver f cube (length values)) c.in-MulC.is c.requires.over in
    returned f cube _ _ _ _
    (ap (value_of f cube (arrays_in f cube values) c.args.inputs.now) c.in-MulC.is)
    (product f cube c.cube-cube.ensures.valid _ _ _ _
    (operand f cube values c.in-MulC.a c.index-values-a-in-MulC.result c.deref-in-MulC.result.now c.requires.packed over.0 c.index-values-a-in-MulC.is c.deref-in-MulC.ensures.value)
    (operand f cube values c.in-MulC.c c.index-values-c-in-MulC.result c.deref-in-MulC-2.result.now c.requires.packed over.1 c.index-values-c-in-MulC.is c.deref-in-MulC-2.ensures.value))
    (search rules)

pub returns-in-Neg : goal.returns-in-Neg
returns-in-Neg c =
    let f = c.args.slots.now.field in
    let cube = c.args.slots.now.cube in
    let values = c.args.values.now in
    let over = subst (IsOver f cube (length values)) c.in-Neg.is c.requires.over in
    returned f cube _ _ _ _
    (ap (value_of f cube (arrays_in f cube values) c.args.inputs.now) c.in-Neg.is)
    (negative f cube c.cube-cube.ensures.valid _ _
    (operand f cube values c.in-Neg.a c.index-values-a-in-Neg.result c.deref-in-Neg.result.now c.requires.packed over c.index-values-a-in-Neg.is c.deref-in-Neg.ensures.value))
    (search rules)

pub returns-in-Auto : goal.returns-in-Auto
returns-in-Auto c =
    let f = c.args.slots.now.field in
    let cube = c.args.slots.now.cube in
    let values = c.args.values.now in
    let over = subst (IsOver f cube (length values)) c.in-Auto.is c.requires.over in
    returned f cube _ _ _ _
    (ap (value_of f cube (arrays_in f cube values) c.args.inputs.now) c.in-Auto.is)
    (moved f cube c.cube-cube.ensures.valid _ _
    (operand f cube values c.in-Auto.a c.index-values-a-in-Auto.result c.deref-in-Auto.result.now c.requires.packed over.1 c.index-values-a-in-Auto.is c.deref-in-Auto.ensures.value)
    c.in-Auto.k (unit_modulo f cube c.cube-cube.ensures.valid c.in-Auto.k over.0))
    (search rules)
