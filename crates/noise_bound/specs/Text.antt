-- How a bound is printed.
use Rattle.std.specs.Prelude.{ℕ, List, ◌++◌, ◌==◌, if◌then◌else◌, codes}
use Rattle.std.specs.Fmt.{decimal}
use Rattle.noise_bound.specs.declared.rounding.Bound.{Bound}

-- the mantissa, and the exponent where it is not 0
abbrev pub text_of : Bound → List ℕ
text_of b = if b.exp == 0 then decimal b.man else decimal b.man ++ codes "*2^" ++ decimal b.exp
