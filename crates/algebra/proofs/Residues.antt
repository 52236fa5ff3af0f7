-- The numbers below q are a ring under sum and product modulo q.
use Rattle.std.specs.Prelude.{◌≡◌, ℕ, ◌+◌, ◌-◌, ◌*◌, ◌%◌, ◌<◌, ltb, IsTrue}
use Rattle.std.proofs.Common.{arith, ap, sym, ◌∙◌, mod-lt, mod-eq_of_lt, lt-ltb, ltb-true}
use Rattle.std.proofs.lemmas.Nat.{mul-mod_first, mul-mod_second}
use Rattle.std.proofs.Math.Nat.{mod-add-mod, add-mod-mod, mod_self}
use Rattle.algebra.specs.Ring.{HeldLaws, residues}

pub residue_held : (q a : ℕ) → 0 < q → IsTrue (ltb (a % q) q)
residue_held q a p = lt-ltb (a % q) q (mod-lt a p)

-- a residue is its own remainder
pub residue_same : (q a : ℕ) → IsTrue (ltb a q) → a % q ≡ a
residue_same q a h = mod-eq_of_lt (ltb-true a q h)

pub residue_laws : (q : ℕ) → 0 < q → HeldLaws (λ a. ltb a q) (residues q)
residue_laws q p = record {
  zero_held = lt-ltb 0 q p;
  one_held = residue_held q 1 p;
  add_held = λ a b h k. residue_held q (a + b) p;
  mul_held = λ a b h k. residue_held q (a * b) p;
  neg_held = λ a h. residue_held q (q - a % q) p;
  add_assoc = λ a b c h k l. simp (mod-add-mod, add-mod-mod) (ap (λ z. z % q) (sum a b c));
  add_comm = λ a b h k. ap (λ z. z % q) (swap a b);
  zero_add = λ a h. ap (λ z. z % q) (none a) ∙ residue_same q a h;
  neg_add = λ a h. simp mod-add-mod (back a);
  mul_assoc = λ a b c h k l. simp (mul-mod_first, mul-mod_second) (ap (λ z. z % q) (product a b c));
  mul_comm = λ a b h k. ap (λ z. z % q) (turn a b);
  one_mul = λ a h. mul-mod_first 1 a q ∙ ap (λ z. z % q) (single a) ∙ residue_same q a h;
  add_mul = λ a b c h k l. simp (mul-mod_first, mod-add-mod, add-mod-mod) (ap (λ z. z % q) (spread a b c));
}
  where
    sum : (a b c : ℕ) → (a + b) + c ≡ a + (b + c)
    sum a b c = omega arith

    swap : (a b : ℕ) → a + b ≡ b + a
    swap a b = omega arith

    none : (a : ℕ) → 0 + a ≡ a
    none a = omega arith

    single : (a : ℕ) → 1 * a ≡ a
    single a = omega arith

    product : (a b c : ℕ) → (a * b) * c ≡ a * (b * c)
    product a b c = omega arith

    turn : (a b : ℕ) → a * b ≡ b * a
    turn a b = omega arith

    spread : (a b c : ℕ) → (a + b) * c ≡ a * c + b * c
    spread a b c = omega arith

    fill : (a : ℕ) → q - a % q + a % q ≡ q
    fill a = omega (arith, mod-lt a p)

    back : (a : ℕ) → (q - a % q + a) % q ≡ 0
    back a = sym (add-mod-mod (q - a % q) a q) ∙ ap (λ z. z % q) (fill a) ∙ mod_self q
