-- The file of a ciphertext: its level, the mantissa and the exponent of its bound, and its polynomials c0 and c1 over the moduli
-- of its level.
use Rattle.std.specs.Prelude.{ℕ, suc, ◌*◌, ◌^◌, ◌==◌, ◌&&◌, ◌||◌, nat_le, nat_lt, true, List, ◌++◌, Result, Ok}
use Rattle.std.specs.Int.{w32}
use Rattle.line_text.specs.declared.kinds.FileKind.TheVariants as kinds
use Rattle.noise_bound.specs.Rounding.{mantissa, exponent}
use Rattle.residue_rows.specs.Kept.{RingSetting}
use Rattle.scheme_laws.specs.Scheme.{top}
use Rattle.scheme_laws.specs.Ciphers.{Cipher}
use Rattle.he_files.specs.declared.headers.Header.{Header}
use Rattle.he_files.specs.Form.{◌>>=◌, Form, number, ended}
use Rattle.he_files.specs.Header.{header_bytes}
use Rattle.he_files.specs.Polynomial.{polynomial}

-- a level, at most the top one
abbrev pub level : RingSetting → Form ℕ
level t = number w32 (λ l. nat_le l (top t))

abbrev pub bound_mantissa : Form ℕ
bound_mantissa = number w32 (λ man. true)

-- an exponent below 4096 beside a mantissa, and 0 beside one below 2^31
abbrev pub bound_exponent : ℕ → Form ℕ
bound_exponent man = number w32 (λ exp. nat_lt exp 4096 && (nat_le (2 ^ 31) man || exp == 0))

-- a bound man * 2^exp
unfoldable pub bound_at : List ℕ → ℕ → Result (ℕ × ℕ) ℕ
bound_at bytes at = do
  man ← bound_mantissa.read bytes at
  exp ← (bound_exponent man.0).read bytes man.1
  Ok (man.0 * 2 ^ exp.0, exp.1)

abbrev pub bound : Form ℕ
bound = record {
  spelled = λ b. bound_mantissa.spelled (mantissa b) ++ (bound_exponent (mantissa b)).spelled (exponent b);
  read = bound_at;
}

-- a polynomial over the moduli q_0 to q_level
abbrev pub at_level : RingSetting → ℕ → Form (List (List ℕ))
at_level t l = polynomial t (suc l)

-- the file of a ciphertext
unfoldable pub cipher_bytes : RingSetting → Header → Cipher → List ℕ
cipher_bytes t header c =
    header_bytes kinds.Cipher header ++ (level t).spelled c.level ++ bound.spelled c.bound
    ++ (at_level t c.level).spelled c.c0 ++ (at_level t c.level).spelled c.c1

-- the ciphertext behind the header, whose length is given; or the offset of the first field that is cut short or not allowed,
-- or of the first byte too many
unfoldable pub cipher_of_bytes : RingSetting → List ℕ → ℕ → Result Cipher ℕ
cipher_of_bytes t bytes from = do
  l ← (level t).read bytes from
  b ← bound.read bytes l.1
  c0 ← (at_level t l.0).read bytes b.1
  c1 ← (at_level t l.0).read bytes c0.1
  ended bytes (record { level = l.0; bound = b.0; c0 = c0.0; c1 = c1.0 }) c1.1
