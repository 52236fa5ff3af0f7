-- How a bound is printed, by its form and by its number.
use Rattle.std.proofs.Common.{◌≡◌, ℕ, List, ◌++◌, decimal, codes, ap, ◌∙◌}
use Rattle.std.proofs.lemmas.List.{append_assoc}
use Rattle.std.specs.Prelude.{◌==◌, if◌then◌else◌}
use Rattle.noise_bound.specs.Rounding.{mantissa, exponent}
use Rattle.noise_bound.specs.Text.{text_of}
use Rattle.noise_bound.specs.Value.{value}
use Rattle.noise_bound.specs.declared.rounding.Bound.{Bound}
use Rattle.table_file.specs.Summary.{bound_text, bounded}

abbrev printed : ℕ → ℕ → List ℕ
printed exp man = if exp == 0 then decimal man else decimal man ++ codes "*2^" ++ decimal exp

text_is : (b : Bound) → b.exp ≡ exponent (value b) → b.man ≡ mantissa (value b) → text_of b ≡ bound_text (value b)
unfolding bound_text
text_is b exp man = ap (λ e. printed e b.man) exp ∙ ap (λ m. printed (exponent (value b)) m) man

-- a word, and then a bound
pub put_two : ((b : Bound) → b.exp ≡ exponent (value b)) → ((b : Bound) → b.man ≡ mantissa (value b)) → (b : Bound) (word t0 t1 t2 : List ℕ) → t1 ≡ t0 ++ word → t2 ≡ t1 ++ text_of b → t2 ≡ t0 ++ bounded word (value b)
put_two exp man b word t0 t1 t2 first second =
    second ∙ ap (λ t. t ++ text_of b) first ∙ append_assoc t0 word (text_of b) ∙ ap (λ t. t0 ++ (word ++ t)) (text_is b (exp b) (man b))
