use Rattle.crt_tests.proofs.worked.image_of_x.Goals as goal

pub permute_into-requires-clause-unit : goal.permute_into-requires-clause-unit
permute_into-requires-clause-unit g c = c.assert_unit.ensures.unit
