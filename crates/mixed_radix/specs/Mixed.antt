-- Whole numbers in mixed radix: sums of digits times products of moduli.
use Rattle.std.specs.List.{AllZip}
use Rattle.algebra.specs.Whole.{residue}
use Rattle.std.specs.Prelude.{◌≡◌, ℕ, ◌*◌, ◌<◌, List, [], ◌∷◌, ℤ, pos, ◌+ℤ◌, ◌*ℤ◌, nat_abs}

-- v_0 + v_1*q_0 + v_2*q_0*q_1 + ..
abbrev pub mixed : List ℕ → List ℤ → ℤ
mixed [] vs = pos 0
mixed (q ∷ qs) [] = pos 0
mixed (q ∷ qs) (v ∷ vs) = v +ℤ pos q *ℤ mixed qs vs

-- as many digits as moduli, |v_i| < q_i / 2
abbrev pub AreBalanced : List ℕ → List ℤ → Type 0
AreBalanced qs vs = AllZip (λ q v. 2 * nat_abs v < q) qs vs

-- vs are the balanced digits of a number with the residues rs modulo qs
pub record AreDigits (qs rs : List ℕ) (vs : List ℤ) : Type 0 where
  pub balanced : AreBalanced qs vs
  pub residues : AllZip (λ q r. residue q (mixed qs vs) ≡ r) qs rs
