-- The steps of reading and writing a ciphertext.
use Rattle.std.proofs.Common.{◌≡◌, ℕ, suc, ◌+◌, ◌-◌, cond, leb, List, [], ◌++◌, length, Result, Ok, Err, sym, ap, subst, ◌∙◌, add-one}
use Rattle.std.specs.Int.{w32}
use Rattle.std.proofs.lemmas.Bool.{ne_eqb}
use Rattle.line_text.specs.declared.kinds.FileKind.TheVariants as kinds
use Rattle.residue_rows.specs.Kept.{RingSetting, Residues}
use Rattle.he_files.specs.declared.faults.ReadFault.{ReadFault}
use Rattle.he_files.specs.declared.faults.ReadFault.TheVariants.{Bad, Memory}
use Rattle.he_files.specs.declared.headers.Header.{Header}
use Rattle.he_files.specs.Form.{◌>>=◌, number, number_bytes, ended}
use Rattle.he_files.specs.Header.{header_bytes}
use Rattle.he_files.specs.Polynomial.{polynomial}
use Rattle.he_files.specs.CipherFile.{level, bound, at_level, cipher_bytes, cipher_of_bytes}
use Rattle.he_files.specs.Reads.{Fails}

-- the top level is one less than the length of the chain
pub level_read : (t u : RingSetting) (n : ℕ) (bytes : List ℕ) (at : ℕ) (r : Result (ℕ × ℕ) ℕ) → u ≡ t → n ≡ length u.moduli.chain → (number w32 (λ l. leb l (n - 1))).read bytes at ≡ r → (level t).read bytes at ≡ r
level_read t u n bytes at r same long e = subst (λ k. (number w32 (λ l. leb l (k - 1))).read bytes at ≡ r) (long ∙ ap (λ (z : RingSetting). length z.moduli.chain) same) e

-- after the level, the bound and the first part, the second part decides
pub after_steps : (t : RingSetting) (bytes : List ℕ) (from : ℕ) (l b : ℕ × ℕ) (part : List (List ℕ)) (end : ℕ) → (level t).read bytes from ≡ Ok l → bound.read bytes l.1 ≡ Ok b → (polynomial t (l.0 + 1)).read bytes b.1 ≡ Ok (part, end)
    → cipher_of_bytes t bytes from ≡ ((polynomial t (l.0 + 1)).read bytes end >>= λ c1. ended bytes (record { level = l.0; bound = b.0; c0 = part; c1 = c1.0 }) c1.1)
unfolding cipher_of_bytes
after_steps t bytes from l b part end e0 e1 e2 =
    let first : (at_level t l.0).read bytes b.1 ≡ Ok (part, end) = subst (λ k. (polynomial t k).read bytes b.1 ≡ Ok (part, end)) (add-one l.0) e2 in
    rw (e0, e1, first) (ap (λ k. (polynomial t k).read bytes end >>= λ c1. ended bytes (record { level = l.0; bound = b.0; c0 = part; c1 = c1.0 }) c1.1) (sym (add-one l.0)))

-- a fault of a step is the fault of all
pub fails_then : {A B : Type 0} (fault : ReadFault) (read : Result A ℕ) (f : A → Result B ℕ) → Fails fault read → Fails fault (read >>= f)
fails_then (Bad place) read f e = ap (λ r. r >>= f) e
fails_then Memory read f e = tt

-- what is written, piece by piece
pub cipher_text : (h : Header) (l b : ℕ) (c0 c1 : Residues) (o0 o1 o2 o3 o4 o5 : List ℕ) → o0 ≡ [] → o1 ≡ o0 ++ header_bytes kinds.Cipher h → o2 ≡ o1 ++ number_bytes w32 l → o3 ≡ o2 ++ bound.spelled b
    → o4 ≡ o3 ++ (polynomial c0.tables c0.chain_rows).spelled c0.rows → o5 ≡ o4 ++ (polynomial c1.tables c1.chain_rows).spelled c1.rows
    → c0.chain_rows ≡ l + 1 → c1.tables ≡ c0.tables → c1.chain_rows ≡ c0.chain_rows
    → o5 ≡ cipher_bytes c0.tables h (record { level = l; bound = b; c0 = c0.rows; c1 = c1.rows })
unfolding cipher_bytes
cipher_text h l b c0 c1 o0 o1 o2 o3 o4 o5 e0 e1 e2 e3 e4 e5 rows tables alike =
    let t = c0.tables in
    let count : c0.chain_rows ≡ suc l = rows ∙ add-one l in
    let x : (polynomial t c0.chain_rows).spelled c0.rows ≡ (at_level t l).spelled c0.rows = ap (λ n. (polynomial t n).spelled c0.rows) count in
    let y : (polynomial c1.tables c1.chain_rows).spelled c1.rows ≡ (at_level t l).spelled c1.rows = ap (λ (z : RingSetting). (polynomial z c1.chain_rows).spelled c1.rows) tables ∙ ap (λ n. (polynomial t n).spelled c1.rows) (alike ∙ count) in
    let p1 : o1 ≡ header_bytes kinds.Cipher h = e1 ∙ ap (λ (o : List ℕ). o ++ header_bytes kinds.Cipher h) e0 in
    let p2 : o2 ≡ header_bytes kinds.Cipher h ++ number_bytes w32 l = e2 ∙ ap (λ (o : List ℕ). o ++ number_bytes w32 l) p1 in
    let p3 : o3 ≡ header_bytes kinds.Cipher h ++ number_bytes w32 l ++ bound.spelled b = e3 ∙ ap (λ (o : List ℕ). o ++ bound.spelled b) p2 in
    let p4 : o4 ≡ header_bytes kinds.Cipher h ++ number_bytes w32 l ++ bound.spelled b ++ (at_level t l).spelled c0.rows = e4 ∙ ap (λ (o : List ℕ). o3 ++ o) x ∙ ap (λ (o : List ℕ). o ++ (at_level t l).spelled c0.rows) p3 in
    e5 ∙ ap (λ (o : List ℕ). o4 ++ o) y ∙ ap (λ (o : List ℕ). o ++ (at_level t l).spelled c1.rows) p4

-- after all parts, only the end of the file is left to see
pub all_steps : (t : RingSetting) (bytes : List ℕ) (from : ℕ) (l b : ℕ × ℕ) (part other : List (List ℕ)) (mid end : ℕ) → (level t).read bytes from ≡ Ok l → bound.read bytes l.1 ≡ Ok b → (polynomial t (l.0 + 1)).read bytes b.1 ≡ Ok (part, mid)
    → (polynomial t (l.0 + 1)).read bytes mid ≡ Ok (other, end) → cipher_of_bytes t bytes from ≡ ended bytes (record { level = l.0; bound = b.0; c0 = part; c1 = other }) end
all_steps t bytes from l b part other mid end e0 e1 e2 e3 =
    after_steps t bytes from l b part mid e0 e1 e2 ∙ ap (λ r. r >>= λ c1. ended bytes (record { level = l.0; bound = b.0; c0 = part; c1 = c1.0 }) c1.1) e3

-- where bytes follow, the first of them is the fault
pub ended_before : {A : Type 0} (bytes : List ℕ) (x : A) (at : ℕ) → (at ≡ length bytes → ⊥) → ended bytes x at ≡ Err at
ended_before bytes x at more = ap (λ b. cond b (Ok x) (Err at)) (ne_eqb (length bytes) at (λ e. more (sym e)))
