-- The residues modulo q, from 2 on, meet the laws of a ring.
use Rattle.std.specs.Prelude.{ℕ, ◌≤◌, nat_lt}
use Rattle.std.proofs.Common.{lit<, lt_of_lt_of_le}
use Rattle.algebra.specs.Ring.{HeldLaws, residues}
use Rattle.algebra.proofs.Residues.{residue_laws}

pub word_laws : (q : ℕ) → 2 ≤ q → HeldLaws (λ a. nat_lt a q) (residues q)
word_laws q low = residue_laws q (lt_of_lt_of_le (lit< {m = 0} {n = 2} tt) low)
