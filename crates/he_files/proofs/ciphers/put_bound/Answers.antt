use Rattle.std.proofs.Common.{◌≡◌, List, ℕ, ◌++◌, ◌∙◌, ap, append_assoc}
use Rattle.std.specs.Int.{w32}
use Rattle.noise_bound.specs.Rounding.{mantissa, exponent}
use Rattle.noise_bound.specs.Value.{value}
use Rattle.noise_bound.proofs.Steps.{mantissa_of_form, exponent_of_form}
use Rattle.he_files.specs.Form.{number_bytes}
use Rattle.he_files.proofs.Results.{ok_then}
use Rattle.he_files.proofs.ciphers.put_bound.Goals as goal

pub returns : goal.returns
returns c =
    let b = c.args.b in
    let man : b.man ≡ mantissa (value b) = mantissa_of_form b.man b.exp b.fits b.normal in
    let exp : b.exp ≡ exponent (value b) = exponent_of_form b.man b.exp b.fits b.normal in
    let old = c.args.out.now.items in
    let mid : c.put_u32.new.out.items ≡ old ++ number_bytes w32 b.man = c.in_ok-put_u32.ensures in
    let bytes : old ++ number_bytes w32 b.man ++ number_bytes w32 b.exp ≡ old ++ (number_bytes w32 (mantissa (value b)) ++ number_bytes w32 (exponent (value b))) =
    append_assoc old (number_bytes w32 b.man) (number_bytes w32 b.exp) ∙ ap (λ (x : ℕ). old ++ (number_bytes w32 x ++ number_bytes w32 b.exp)) man ∙ ap (λ (x : ℕ). old ++ (number_bytes w32 (mantissa (value b)) ++ number_bytes w32 x)) exp in
    ok_then c.put_u32-2.result (λ e. e ∙ ap (λ (x : List ℕ). x ++ number_bytes w32 b.exp) mid ∙ bytes) c.put_u32-2.ensures
