-- The sizes of the bounds of a ring.
use Rattle.std.proofs.Common.{◌≡◌, ℕ, List, map}
use Rattle.cyclotomic.specs.Cyclotomic.{degree}
use Rattle.cyclotomic.specs.Norm.{height}
use Rattle.noise_bound.specs.Machine.{IsSizes}
use Rattle.residue_rows.specs.Kept.{RingSetting}
use Rattle.scheme_laws.specs.Scheme.{sizes_of}

-- numbers that were read one by one are the sizes
pub sizes_read : (r : RingSetting) (n p weight h : ℕ) (chain special digits : List ℕ) → n ≡ degree r.moduli.m → p ≡ r.moduli.p → weight ≡ r.weight
    → h ≡ height r.moduli.m → chain ≡ map (λ row. row.q) r.moduli.chain → special ≡ map (λ row. row.q) r.moduli.special → digits ≡ r.digits
    → IsSizes (sizes_of r) → IsSizes (record { n = n; p = p; weight = weight; height = h; chain = chain; special = special; digits = digits })
sizes_read r n p weight h chain special digits n_is p_is weight_is h_is chain_is special_is digits_is is =
    rw (n_is, p_is, weight_is, h_is, chain_is, special_is, digits_is) is
