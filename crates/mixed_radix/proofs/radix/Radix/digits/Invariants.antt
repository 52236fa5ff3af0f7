use Rattle.std.proofs.Common.{take}
use Rattle.mixed_radix.specs.Mixed.{AreDigits}
use Rattle.mixed_radix.specs.Places.{basis_of}
use Rattle.mixed_radix.proofs.radix.Radix.digits.Given as goal

abbrev pub invariant-loop-j : goal.invariant-loop-j
invariant-loop-j l =
    AreDigits (take l.j (basis_of l.self-inside).moduli) (take l.j l.residues) (take l.j l.out)
