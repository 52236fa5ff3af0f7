-- The laws of the cyclotomic polynomials, for m above 0.
use Rattle.std.specs.Prelude.{zero, suc}
use Rattle.std.proofs.Common.{arith}
use Rattle.cyclotomic.specs.CyclotomicLaws.{ProductIsPowerLessOne, PhiIsOnly, PhiIsMonic, DegreeIsUnits}
use Rattle.cyclotomic.proofs.PhiLists.{phi_product, phi_only, phi_monic, phi_degree}

pub phi_is_cyclotomic : ProductIsPowerLessOne
phi_is_cyclotomic zero p = absurd (omega arith)
phi_is_cyclotomic (suc k) p = phi_product k

pub phi_is_only : PhiIsOnly
phi_is_only psi n h zero p l = absurd (omega arith)
phi_is_only psi n h (suc k) p l = phi_only psi n (λ k l. h (suc k) (omega arith) l) k l

pub phi_is_monic : PhiIsMonic
phi_is_monic zero p = absurd (omega arith)
phi_is_monic (suc k) p = phi_monic k

pub degree_is_units : DegreeIsUnits
degree_is_units zero p = absurd (omega arith)
degree_is_units (suc k) p = phi_degree k
