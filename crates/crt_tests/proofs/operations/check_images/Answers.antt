use Rattle.crt_tests.proofs.operations.check_images.Goals as goal

pub permute_into-requires-clause-unit : goal.permute_into-requires-clause-unit
permute_into-requires-clause-unit g c = c.assert_unit.ensures.unit

pub permute_into-requires-2-clause-unit : goal.permute_into-requires-2-clause-unit
permute_into-requires-2-clause-unit g c = c.assert_unit-2.ensures.unit
