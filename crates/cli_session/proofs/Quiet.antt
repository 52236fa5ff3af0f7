-- Whether a fresh ciphertext is quiet, from its bound and its limit.
use Rattle.std.proofs.Common.{◌≡◌, ℕ, ◌<◌, ◌≤◌, Bool, true, false, cond, Result, Ok, Err, ◌⊎◌, inl, inr, refl, sym, ap, ◌∙◌, arith}
use Rattle.std.specs.Prelude.{nat_le}
use Rattle.std.proofs.lemmas.Bool.Decides.{leb_tells}
use Rattle.noise_bound.specs.declared.rounding.Bound.{Bound}
use Rattle.noise_bound.specs.Form.{bound_of}
use Rattle.noise_bound.specs.Machine.{fresh, limit}
use Rattle.noise_bound.specs.Value.{value}
use Rattle.residue_rows.specs.Kept.{RingSetting}
use Rattle.scheme_laws.specs.Scheme.{sizes_of, top}
use Rattle.cli_machine.specs.declared.cause.Cause.{Cause}
use Rattle.cli_machine.specs.declared.cause.Cause.TheVariants.{TooNoisy}
use Rattle.cli_machine.specs.Machine.{quiet}

abbrev answer : Bool → Cause → Result Unit Cause
answer noisy cause = cond noisy (Err cause) (Ok tt)

answer-below : (bound most : ℕ) (cause : Cause) → bound < most → answer (nat_le most bound) cause ≡ Ok tt
answer-below bound most cause below = go (nat_le most bound) (leb_tells most bound)
  where
    go : (b : Bool) → ((b ≡ true) × (most ≤ bound)) ⊎ ((b ≡ false) × (bound < most)) → answer b cause ≡ Ok tt
    go b (inl p) = absurd (omega (arith, p.1))
    go b (inr p) = rw p.0 refl

answer-above : (bound most : ℕ) (cause : Cause) → most ≤ bound → answer (nat_le most bound) cause ≡ Err cause
answer-above bound most cause above = go (nat_le most bound) (leb_tells most bound)
  where
    go : (b : Bool) → ((b ≡ true) × (most ≤ bound)) ⊎ ((b ≡ false) × (bound < most)) → answer b cause ≡ Err cause
    go b (inl p) = rw p.0 refl
    go b (inr p) = absurd (omega (arith, p.1))

-- a bound below the limit
pub passes : (ring : RingSetting) → fresh (sizes_of ring) < limit (sizes_of ring) (top ring) → quiet ring ≡ Ok tt
unfolding quiet
passes ring below = answer-below (fresh (sizes_of ring)) (limit (sizes_of ring) (top ring)) _ below

abbrev noisy : Bound → Bound → Result Unit Cause
noisy bound most = Err (TooNoisy 0 bound most)

-- a bound that is not
pub refuses : ((b : Bound) → bound_of (value b) ≡ b) → (ring : RingSetting) (bound most : Bound) → value bound ≡ fresh (sizes_of ring) → value most ≡ limit (sizes_of ring) (top ring)
    → limit (sizes_of ring) (top ring) ≤ fresh (sizes_of ring) → quiet ring ≡ Err (TooNoisy 0 bound most)
unfolding quiet
refuses back ring bound most is_fresh is_limit above =
    answer-above (fresh (sizes_of ring)) (limit (sizes_of ring) (top ring)) (TooNoisy 0 (bound_of (fresh (sizes_of ring))) (bound_of (limit (sizes_of ring) (top ring)))) above
    ∙ ap (λ b. noisy b (bound_of (limit (sizes_of ring) (top ring)))) (ap bound_of (sym is_fresh) ∙ back bound)
    ∙ ap (λ b. noisy bound b) (ap bound_of (sym is_limit) ∙ back most)
