use Rattle.hyper_cube.proofs.Shapes.{T_first}
use Rattle.hyper_cube.proofs.Numbering.{units_stand, stands_once, is_one_pair}
use Rattle.hyper_cube.proofs.laws.law_located.Goals as goal

pub returns-clause-units : goal.returns-clause-units
returns-clause-units c = units_stand

pub returns-clause-once : goal.returns-clause-once
returns-clause-once c = stands_once

pub returns-clause-pair : goal.returns-clause-pair
returns-clause-pair c = is_one_pair

pub returns-clause-first : goal.returns-clause-first
returns-clause-first c = λ t C. T_first t C.shape
