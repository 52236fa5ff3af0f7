use Rattle.slot_tests.proofs.packings.image.Goals as goal

pub auto_packed-requires-clause-unit : goal.auto_packed-requires-clause-unit
auto_packed-requires-clause-unit g c = rw c.cube.ensures.value at c.assert_unit.ensures.unit
