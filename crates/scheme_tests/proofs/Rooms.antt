-- The draws of keys and ciphertexts take few words.
use Rattle.std.proofs.Common.{suc, ◌*◌, ◌^◌, ◌<◌, ◌≤◌, arith}
use Rattle.std.proofs.lemmas.Nat.{mul-le}
use Rattle.cyclotomic.specs.Cyclotomic.{degree}
use Rattle.double_crt.proofs.UnitSteps.{degree_most}
use Rattle.draw_stream.specs.Sparse.{sparse_words}
use Rattle.residue_rows.specs.Kept.{RingSetting, IsSetting}
use Rattle.scheme_laws.specs.Ciphers.{encryption_words}
use Rattle.scheme_laws.specs.Keys.{public_words}
use Rattle.scheme_laws.specs.Scheme.{SchemeSetting, top}

-- the degree is at most 65536
few : (r : RingSetting) → IsSetting r → degree r.moduli.m ≤ 65536
few r is =
    let shaped = is.accepted.shaped in
    omega (arith, degree_most r.moduli.m (omega (arith, shaped.m_low)), shaped.m_high)

-- a secret
pub secret_room : (r : RingSetting) → IsSetting r → sparse_words r.weight < 2 ^ 60
secret_room r is = omega (arith, few r is, is.weight_most)

-- a public key
pub public_room : (r : RingSetting) → IsSetting r → public_words r < 2 ^ 60
public_room r is =
    let n = few r is in
    let t : suc (top r) ≤ 32 = omega (arith, is.accepted.shaped.chain_low, is.accepted.shaped.chain_high) in
    let product = mul-le (4 * degree r.moduli.m) (suc (top r)) (4 * 65536) 32 (omega (arith, n)) t in
    omega (arith, n, product)

-- a ciphertext
pub cipher_room : (t : SchemeSetting) → IsSetting t.ring → encryption_words t < 2 ^ 60
cipher_room t is = omega (arith, few t.ring is)
