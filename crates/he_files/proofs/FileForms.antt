-- Whole files: a header and a body.
use Rattle.std.proofs.Common.{◌≡◌, ℕ, ◌+◌, ◌≤◌, cond, eqb, List, [], ◌++◌, length, drop, Ok, Err, sym, ap, ◌∙◌, arith}
use Rattle.std.specs.Prelude.{IsSome}
use Rattle.std.proofs.lemmas.Bool.{eqb-true, eq-eqb}
use Rattle.std.proofs.lemmas.List.{length-append, append-nil, drop_at, nil_from_length}
use Rattle.line_text.specs.declared.kinds.FileKind.{FileKind}
use Rattle.he_files.specs.declared.headers.Header.{Header}
use Rattle.he_files.specs.Form.{ended}
use Rattle.he_files.specs.Header.{kind_byte, header_bytes}
use Rattle.he_files.specs.FileLaws.{header_length, BeginsWith}
use Rattle.he_files.proofs.Forms.{StandsAt, length_here, passed}
use Rattle.he_files.proofs.HeaderForms.{header-long}

-- no byte follows a value that ends where the file does
pub ended_at : {A : Type 0} (bytes : List ℕ) (x : A) (at : ℕ) → length bytes ≡ at → ended bytes x at ≡ Ok x
ended_at bytes x at e = ap (λ b. cond b (Ok x) (Err at)) (eq-eqb (length bytes) at e)

pub ended_found : {A : Type 0} (bytes : List ℕ) (x y : A) (at : ℕ) → ended bytes x at ≡ Ok y → (length bytes ≡ at) × (x ≡ y)
ended_found bytes x y at e = let g = passed (eqb (length bytes) at) at x y e in (eqb-true (length bytes) at g.0, g.1)

module _ (k : FileKind) (some : IsSome (kind_byte k)) (h : Header) where
  -- the body stands behind the header
  pub body_stands : (body : List ℕ) → StandsAt (header_bytes k h ++ body) (header_length h) body []
  body_stands body =
      let long = header-long k h some in
      record { inside = omega (arith, long, length-append (header_bytes k h) body); here = drop_at (header_bytes k h) body (header_length h) long ∙ sym (append-nil body) }

  -- the body begins in the file
  pub body_inside : (bytes : List ℕ) (from : ℕ) → BeginsWith k bytes h from → from ≤ length bytes
  body_inside bytes from b = omega (arith, header-long k h some, b.offset, ap length b.parts, length-append (header_bytes k h) b.rest)

  -- a body that goes to the end is all that stands behind the header
  pub body_is : (bytes : List ℕ) (from : ℕ) (text rest : List ℕ) → BeginsWith k bytes h from → StandsAt bytes from text rest → length bytes ≡ from + length text → bytes ≡ header_bytes k h ++ text
  body_is bytes from text rest b s e =
      let long : length (header_bytes k h) ≡ from = header-long k h some ∙ sym b.offset in
      let none : rest ≡ [] = nil_from_length rest (omega (arith, length_here bytes from text rest s)) in
      let behind : b.rest ≡ text = sym (drop_at (header_bytes k h) b.rest from long) ∙ ap (drop from) (sym b.parts) ∙ s.here ∙ ap (λ (r : List ℕ). text ++ r) none ∙ append-nil text in
      b.parts ∙ ap (λ (r : List ℕ). header_bytes k h ++ r) behind
