use Rattle.mod_ring.specs.Zq.{modulus_of}
use Rattle.hyper_cube.specs.Tables.{product_at}
use Rattle.hyper_cube.proofs.Tabled.{IsTableUpto}
use Rattle.hyper_cube.proofs.tables.places.Given as goal

abbrev pub invariant-loop-place : goal.invariant-loop-place
invariant-loop-place l = IsTableUpto (product_at (modulus_of l.ring) l.elements l.powers) l.count (modulus_of l.ring) l.place l.table.items
