-- The files of secrets.
use Rattle.std.proofs.Common.{◌≡◌, ℕ, ◌+◌, ◌<◌, ◌≤◌, List, [], ◌++◌, length, get_or, map, Ok, ℤ, refl, ap, subst, ◌∙◌, arith}
use Rattle.std.specs.Prelude.{IsSome}
use Rattle.line_text.specs.declared.kinds.FileKind.TheVariants as kinds
use Rattle.cyclotomic.specs.Cyclotomic.{degree}
use Rattle.residue_rows.specs.Kept.{RingSetting, IsSetting}
use Rattle.draw_stream.specs.Sparse.{IsSparse}
use Rattle.scheme_laws.specs.Keys.{IsSecret}
use Rattle.he_files.specs.declared.headers.Header.{Header}
use Rattle.he_files.specs.Header.{kind_byte, header_bytes}
use Rattle.he_files.specs.Secret.{entry_byte, entries, secret_bytes, secret_of}
use Rattle.he_files.specs.FileLaws.{AreBytes, header_length, BeginsWith, SecretLaw}
use Rattle.he_files.proofs.Forms.{step_ok, length_here, bytes_are}
use Rattle.he_files.proofs.FileForms.{ended_at, ended_found, body_stands, body_inside, body_is}
use Rattle.he_files.proofs.SecretForms.{entries_is, entries_of_sparse, sparse_of_entries}

-- secrets have a byte
some_kind : IsSome (kind_byte kinds.Secret)
unfolding kind_byte
some_kind = refl

secret_again : (t : RingSetting) (h : Header) (s : List ℤ) → IsSetting t → IsSecret t s → secret_of t (secret_bytes h s) (header_length h) ≡ Ok s
unfolding secret_of secret_bytes
secret_again t h s setting secret =
    let n = degree t.moduli.m in
    let body = map entry_byte s in
    let bytes = header_bytes kinds.Secret h ++ body in
    let stands = body_stands kinds.Secret some_kind h body in
    let fits = entries_of_sparse n t.weight s secret in
    let read = (entries_is n t.weight setting.weight_most).again bytes (header_length h) s [] fits stands in
    rw read (ended_at bytes s (header_length h + length body) (omega (arith, length_here bytes (header_length h) body [] stands)))

secret_found : (t : RingSetting) (h : Header) (bytes : List ℕ) (from : ℕ) (s : List ℤ) → IsSetting t → AreBytes bytes → BeginsWith kinds.Secret bytes h from → secret_of t bytes from ≡ Ok s → IsSecret t s × (bytes ≡ secret_bytes h s)
unfolding secret_of secret_bytes
secret_found t h bytes from s setting all begins e =
    let n = degree t.moduli.m in
    let a = step_ok ((entries n t.weight).read bytes from) _ s e in
    let end = ended_found bytes a.0.0 s a.0.1 a.2 in
    let f = (entries_is n t.weight setting.weight_most).found bytes from a.0 all (body_inside kinds.Secret some_kind h bytes from begins) a.1 in
    subst (λ (x : List ℤ). IsSecret t x × (bytes ≡ header_bytes kinds.Secret h ++ map entry_byte x)) end.1
    (sparse_of_entries n t.weight a.0.0 f.fits, body_is kinds.Secret some_kind h bytes from (map entry_byte a.0.0) f.rest begins f.stands (omega (arith, end.0, f.end)))

pub secret_law : SecretLaw
secret_law t h setting names = record {
  again = λ s secret. secret_again t h s setting secret;
  spelled = λ bytes from s all begins e. secret_found t h bytes from s setting all begins e;
}

-- entries that are read with the degree and the weight of tables are a secret
pub read_is_secret : (t r u : RingSetting) (bytes : List ℕ) (from n weight : ℕ) (s : List ℤ) (end : ℕ) → r ≡ t → u ≡ t → IsSetting r → n ≡ degree r.moduli.m → weight ≡ u.weight → ((i : ℕ) → get_or bytes i 0 < 256) → from ≤ length bytes
    → (entries n weight).read bytes from ≡ Ok (s, end) → IsSecret t s
read_is_secret t r u bytes from n weight s end r-is u-is setting n-is weight-is fits inside e =
    let own : IsSetting t = subst IsSetting r-is setting in
    let n-same : n ≡ degree t.moduli.m = n-is ∙ ap (λ (z : RingSetting). degree z.moduli.m) r-is in
    let weight-same : weight ≡ t.weight = weight-is ∙ ap (λ (z : RingSetting). z.weight) u-is in
    let f = (entries_is n weight (omega (arith, n-same, weight-same, own.weight_most))).found bytes from (s, end) (bytes_are bytes fits) inside e in
    subst (λ k. IsSparse k t.weight s) n-same (subst (λ w. IsSparse n w s) weight-same (sparse_of_entries n weight s f.fits))
