-- The draws of a command take few words.
use Rattle.std.proofs.Common.{◌≡◌, ℕ, suc, ◌+◌, ◌-◌, ◌*◌, ◌^◌, ◌<◌, ◌≤◌, length, arith}
use Rattle.std.proofs.lemmas.Nat.{mul-le}
use Rattle.cyclotomic.specs.Cyclotomic.{degree}
use Rattle.cyclotomic.specs.CyclotomicLaws.{DegreeIsUnits}
use Rattle.draw_stream.specs.Sparse.{sparse_words}
use Rattle.residue_rows.specs.Kept.{RingSetting, IsSetting}
use Rattle.scheme_laws.specs.Ciphers.{encryption_words}
use Rattle.scheme_laws.specs.Keys.{public_words}
use Rattle.scheme_laws.specs.Scheme.{SchemeSetting, IsScheme, top}
use Rattle.plain_machine.proofs.FreshBound.{degree_small}

-- a secret
pub secret_room : DegreeIsUnits → (r : RingSetting) → IsSetting r → sparse_words r.weight < 2 ^ 60
secret_room degrees r is = omega (arith, degree_small degrees r is, is.weight_most)

-- a public key
pub public_room : DegreeIsUnits → (r : RingSetting) → IsSetting r → public_words r < 2 ^ 60
public_room degrees r is =
    let n = degree_small degrees r is in
    let t : suc (top r) ≤ 32 = omega (arith, is.accepted.shaped.chain_low, is.accepted.shaped.chain_high) in
    let product = mul-le (4 * degree r.moduli.m) (suc (top r)) (4 * 65536) 32 (omega (arith, n)) t in
    omega (arith, n, product)

-- a ciphertext
pub cipher_room : DegreeIsUnits → (t : SchemeSetting) → IsScheme t → encryption_words t < 2 ^ 60
cipher_room degrees t is = omega (arith, degree_small degrees t.ring is.setting)
