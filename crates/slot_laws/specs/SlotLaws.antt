-- What is said of the slots of polynomials, for a table that has passed its checks.
use Rattle.std.specs.Prelude.{◌≡◌, ◌↔◌, ◌<◌, IsTrue, ℕ, ◌*◌, ◌/◌, ◌%◌, ◌≤◌, List, length, ℤ}
use Rattle.algebra.specs.Divisor.{UnitModulo}
use Rattle.algebra.specs.Ring.{whole_numbers, residues}
use Rattle.algebra.specs.Power.{power, less}
use Rattle.algebra.specs.Poly.{coeff, scaled, times, monomial}
use Rattle.algebra.specs.Range.{total, adds}
use Rattle.algebra.specs.Whole.{residue}
use Rattle.cyclotomic.specs.Cyclotomic.{phi, degree, R, IsElement, fold, substituted, multiple}
use Rattle.cyclotomic.specs.Norm.{one_norm}
use Rattle.hyper_cube.specs.Torus.{Torus, slot_count, T_of, index}
use Rattle.ext_field.specs.Element.{Extension, elements, eta, eta_power}
use Rattle.slot_array.specs.Arrays.{Array, IsArray, array}
use Rattle.slot_array.specs.Instructions as instructions
use Rattle.slot_laws.specs.Slots.{balanced_row, inverse_modulo, whole_value, slot_of, slots, lifted, eps, placed, encode}
use Rattle.slot_laws.specs.Checks.{IsPhiFactor, is_phi_factor, IsIdempotentAt, bad_slot, IsAnnihilated, is_annihilated, IsComplete, is_complete, residue_row, IsPacking}

-- the inverse modulo n of a unit, and the only number below n that is one
pub record IsInverse (n a u : ℕ) : Type 0 where
  pub low : u < n
  pub product : (a * u) % n ≡ 1 % n
  pub only : (v : ℕ) → v < n → (a * v) % n ≡ 1 % n → v ≡ u

abbrev pub InverseLaw : Type 0
InverseLaw = (n a : ℕ) → 1 < n → UnitModulo n a → IsInverse n a (inverse_modulo n a)

module _ (f : Extension) (c : Torus) where
  -- Each test says whether its check passes; bad_slot is the least slot of eps that fails, or the number of slots.
  pub record ChecksDecide : Type 0 where
    pub phi_factor : IsTrue (is_phi_factor f c) ↔ IsPhiFactor f c
    pub low : bad_slot f c ≤ slot_count c
    pub before : (j : ℕ) → j < bad_slot f c → IsIdempotentAt f c j
    pub bad : bad_slot f c < slot_count c → IsIdempotentAt f c (bad_slot f c) → ⊥
    pub annihilated : IsTrue (is_annihilated f c) ↔ IsAnnihilated f c
    pub complete : IsTrue (is_complete f c) ↔ IsComplete f c

  -- Phi_m is 0 at the powers of eta whose exponents are units modulo m; and only the residue of an exponent modulo m counts
  pub record PowersOfEta : Type 0 where
    pub root : (t : ℕ) → UnitModulo c.m t → whole_value f c (power (elements f) (eta f) t) (phi c.m) ≡ (elements f).zero
    pub order : power (elements f) (eta f) c.m ≡ (elements f).one
    pub by_residue : (s t : ℕ) → s % c.m ≡ t % c.m → power (elements f) (eta f) s ≡ power (elements f) (eta f) t

  -- the slots see the coefficients modulo p, of the remainder by Phi_m
  pub record SlotsSee : Type 0 where
    pub is_array : (a : List ℤ) → IsArray f c (slots f c a)
    pub remainder : (a : List ℤ) → slots f c (fold c.m a) ≡ slots f c a
    pub residues : (a b : List ℤ) → residue_row f c a ≡ residue_row f c b → slots f c a ≡ slots f c b
    pub balanced : (a : List ℤ) → slots f c (balanced_row f.p a) ≡ slots f c a

  -- the operations of R are those of arrays
  pub record SlotsKeep : Type 0 where
    pub zero : slots f c (R c.m).zero ≡ array c (λ e. (elements f).zero)
    pub one : slots f c (R c.m).one ≡ array c (λ e. (elements f).one)
    pub sum : (a b : List ℤ) → slots f c ((R c.m).add a b) ≡ instructions.add f c (slots f c a) (slots f c b)
    pub difference : (a b : List ℤ) → slots f c (less (R c.m) a b) ≡ instructions.sub f c (slots f c a) (slots f c b)
    pub negative : (a : List ℤ) → slots f c ((R c.m).neg a) ≡ instructions.neg f c (slots f c a)
    pub product : (a b : List ℤ) → slots f c ((R c.m).mul a b) ≡ instructions.mul f c (slots f c a) (slots f c b)

  -- a(X^k) moves the slots, for a unit k
  abbrev pub SlotsMove : Type 0
  SlotsMove = (k : ℕ) (a : List ℤ) → UnitModulo c.m k → slots f c (substituted c.m k a) ≡ instructions.auto f c k (slots f c a)

  -- encode gives n balanced residues modulo p
  pub record IsPlaintext (a : List ℤ) : Type 0 where
    pub long : IsElement c.m a
    pub own : balanced_row f.p a ≡ a
    pub small : one_norm a ≤ degree c.m * (f.p / 2)

  -- encode and slots undo each other, up to multiples of p
  pub record EncodesSlots : Type 0 where
    pub plaintext : (x : Array) → IsPlaintext (encode f c x)
    pub back : (x : Array) → IsArray f c x → slots f c (encode f c x) ≡ x
    pub forth : (a : List ℤ) → IsElement c.m a → encode f c (slots f c a) ≡ balanced_row f.p a
    pub determine : (a b : List ℤ) → IsElement c.m a → IsElement c.m b → slots f c a ≡ slots f c b → residue_row f c a ≡ residue_row f c b

  -- a slot, and what encode places for a slot, as sums over tables of remainders of powers of X
  pub record SlotSums : Type 0 where
    pub value : (a : List ℤ) (e : List ℕ) → slot_of f c a e ≡ total (adds (elements f)) (length a) (λ i. scaled (residues f.p) (residue f.p (coeff whole_numbers a i)) (eta_power f ((i * T_of c e) % c.m)))
    pub places : (x : List ℕ) (j : ℕ) → j < slot_count c → placed f c (lifted f c x) (index c.dimensions j) ≡ let a = times whole_numbers (lifted f c x) (eps f c) in total (adds (R c.m)) (length a) (λ i. multiple (coeff whole_numbers a i) (fold c.m (monomial whole_numbers ((i * inverse_modulo c.m (T_of c (index c.dimensions j))) % c.m))))

  -- the operations of R on plaintexts, with their results reduced
  pub record PlaintextsKeep : Type 0 where
    pub sum : (a b : List ℤ) → slots f c (balanced_row f.p ((R c.m).add a b)) ≡ instructions.add f c (slots f c a) (slots f c b)
    pub difference : (a b : List ℤ) → slots f c (balanced_row f.p (less (R c.m) a b)) ≡ instructions.sub f c (slots f c a) (slots f c b)
    pub negative : (a : List ℤ) → slots f c (balanced_row f.p ((R c.m).neg a)) ≡ instructions.neg f c (slots f c a)
    pub product : (a b : List ℤ) → slots f c (balanced_row f.p ((R c.m).mul a b)) ≡ instructions.mul f c (slots f c a) (slots f c b)
    pub moved : (k : ℕ) (a : List ℤ) → UnitModulo c.m k → slots f c (balanced_row f.p (substituted c.m k a)) ≡ instructions.auto f c k (slots f c a)

-- each of these for every table that has passed its checks
abbrev pub ForPackings : (Extension → Torus → Type 0) → Type 0
ForPackings P = (f : Extension) (c : Torus) → IsPacking f c → P f c
