-- Packed values under the operations of polynomials.
use Rattle.std.proofs.Common.{◌≡◌, ℕ, ◌<◌, List, [], ◌∷◌, length, get_or, sym, ap, ap₂, ◌∙◌, subst, arith}
use Rattle.std.specs.Prelude.{ℤ, Vec, Result, IfOk}
use Rattle.std.specs.List.{All}
use Rattle.std.specs.declared.alloc.AllocError.{AllocError}
use Rattle.std.specs.declared.alloc.Global.{Global}
use Rattle.std.proofs.lemmas.List.{length-map, get_or-map}
use Rattle.std.proofs.lemmas.Result.{IfOk-weaker}
use Rattle.algebra.specs.Divisor.{UnitModulo}
use Rattle.algebra.specs.Power.{less}
use Rattle.algebra.specs.Poly.{times, at_power}
use Rattle.algebra.specs.Ring.{whole_numbers}
use Rattle.algebra.specs.Whole.{balanced}
use Rattle.algebra.proofs.Lists.{length-plus}
use Rattle.algebra.proofs.Units.{unit_of_test}
use Rattle.cyclotomic.specs.Cyclotomic.{R, IsElement, substituted}
use Rattle.cyclotomic.proofs.RingR.{fold_element}
use Rattle.hyper_cube.specs.Torus.{Torus}
use Rattle.ext_field.specs.Element.{Extension}
use Rattle.slot_array.specs.Arrays.{Array, IsArray}
use Rattle.slot_array.specs.Instructions as instructions
use Rattle.slot_laws.specs.Slots.{balanced_row, slots, encode}
use Rattle.slot_laws.specs.Checks.{IsPacking}
use Rattle.slot_laws.proofs.Encoding.{balanced_own, encodes_slots}
use Rattle.slot_laws.proofs.SlotMaps.{plaintexts_keep}
use Rattle.slot_program.specs.WellFormed.{IsAuto}
use Rattle.packed_clear.specs.Packed.{IsPacked, Packs, arrays_in}

-- the k of an automorphism is a unit
pub unit_is : (c : Torus) (k : ℕ) → 0 < c.m → IsAuto c k → UnitModulo c.m k
unit_is c k positive is = unit_of_test c.m k positive (omega (arith, is.low)) is.unit

-- the first input
pub first_input : (inputs : List Array) (x : Array) → 0 < length inputs → x ≡ get_or inputs 0 x → get_or inputs 0 [] ≡ x
first_input [] x some is = absurd (omega (arith, some))
first_input (y ∷ inputs) x some is = sym is

pub first_is : (f : Extension) (c : Torus) (inputs : List Array) (x : Array) → 0 < length inputs → x ≡ get_or inputs 0 x → All (IsArray f c) inputs → IsArray f c x
first_is f c inputs x some is all = subst (IsArray f c) (sym is) (all 0 x some)

module _ (f : Extension) (c : Torus) where
  -- one of the values packs the array in its slots
  pub operand : (values : List (Vec ℤ Global)) (i : ℕ) (a : Vec ℤ Global) (xs : List ℤ) → All (λ (a : Vec ℤ Global). IsPacked f c a.items) values → i < length values
      → a ≡ get_or values i a → xs ≡ a.items → Packs f c (get_or (arrays_in f c values) i []) xs
  operand values i a xs all inside is same =
      let Q : List ℤ → Type 0 = λ xs. Packs f c (get_or (arrays_in f c values) i []) xs in
      let view : Vec ℤ Global → Array = λ a. slots f c a.items in
      subst Q (sym same) (record {
        packed = subst (λ (a : Vec ℤ Global). IsPacked f c a.items) (sym is) (all i a inside);
        value = ap view is ∙ sym (get_or-map view values i a [] inside);
      })

  -- what is returned, where the value is known in another form
  pub returned : (r : Result (Vec ℤ Global) AllocError) (x y : Array) (b : List ℤ) → x ≡ y → Packs f c y b → IfOk r (λ v. v.items ≡ b) → IfOk r (λ v. Packs f c x v.items)
  returned r x y b same packs given =
      IfOk-weaker r (λ v. v.items ≡ b) (λ v. Packs f c x v.items) (λ v is. subst (λ a. Packs f c x a) (sym is) (subst (λ x. Packs f c x b) (sym same) packs)) given

  module _ (P : IsPacking f c) where
    p_positive : 0 < f.p
    p_positive = omega (arith, P.extension.factor.p_low)

    reduced : (a : List ℤ) → IsElement c.m a → IsPacked f c (balanced_row f.p a)
    reduced a long = record { long = length-map a (balanced f.p) ∙ long; own = balanced_own f.p p_positive a }

    sum_long : (a b : List ℤ) → IsElement c.m a → IsElement c.m b → IsElement c.m ((R c.m).add a b)
    sum_long a b one two = omega (arith, length-plus whole_numbers a b, one, two)

    negative_long : (a : List ℤ) → IsElement c.m a → IsElement c.m ((R c.m).neg a)
    negative_long a one = length-map a whole_numbers.neg ∙ one

    pub unit_modulo : (k : ℕ) → IsAuto c k → UnitModulo c.m k
    unit_modulo k is = unit_is c k (omega (arith, P.cube.low)) is

    pub encoded : (x : Array) → IsArray f c x → Packs f c x (encode f c x)
    encoded x is =
        let plain = (encodes_slots f c P).plaintext x in
        record { packed = record { long = plain.long; own = plain.own }; value = (encodes_slots f c P).back x is }

    module _ (x y : Array) (a b : List ℤ) (one : Packs f c x a) (two : Packs f c y b) where
      pub sum : Packs f c (instructions.add f c x y) (balanced_row f.p ((R c.m).add a b))
      sum = record {
        packed = reduced ((R c.m).add a b) (sum_long a b one.packed.long two.packed.long);
        value = (plaintexts_keep f c P).sum a b ∙ ap₂ (instructions.add f c) one.value two.value;
      }

      pub difference : Packs f c (instructions.sub f c x y) (balanced_row f.p (less (R c.m) a b))
      difference = record {
        packed = reduced (less (R c.m) a b) (sum_long a ((R c.m).neg b) one.packed.long (negative_long b two.packed.long));
        value = (plaintexts_keep f c P).difference a b ∙ ap₂ (instructions.sub f c) one.value two.value;
      }

      pub product : Packs f c (instructions.mul f c x y) (balanced_row f.p ((R c.m).mul a b))
      product = record {
        packed = reduced ((R c.m).mul a b) (fold_element c.m (times whole_numbers a b));
        value = (plaintexts_keep f c P).product a b ∙ ap₂ (instructions.mul f c) one.value two.value;
      }

    module _ (x : Array) (a : List ℤ) (one : Packs f c x a) where
      pub negative : Packs f c (instructions.neg f c x) (balanced_row f.p ((R c.m).neg a))
      negative = record {
        packed = reduced ((R c.m).neg a) (negative_long a one.packed.long);
        value = (plaintexts_keep f c P).negative a ∙ ap (instructions.neg f c) one.value;
      }

      pub moved : (k : ℕ) → UnitModulo c.m k → Packs f c (instructions.auto f c k x) (balanced_row f.p (substituted c.m k a))
      moved k unit = record {
        packed = reduced (substituted c.m k a) (fold_element c.m (at_power whole_numbers k a));
        value = (plaintexts_keep f c P).moved k a unit ∙ ap (instructions.auto f c k) one.value;
      }

-- an array that is rotated, over other names of the extension and the torus
pub turned : (f g : Extension) (c t : Torus) → IsPacking f c → g ≡ f → t ≡ c → (i v : ℕ) (x y z : Array) → x ≡ z → y ≡ instructions.rotate g t i v x → IsArray g t y
    → (r : Result (Vec ℤ Global) AllocError) → IfOk r (λ a. a.items ≡ encode f c y) → IfOk r (λ a. Packs f c (instructions.rotate f c i v z) a.items)
turned f g c t P same_f same_c i v x y z same is held r given =
    let held_here = subst (λ t. IsArray f t y) same_c (subst (λ g. IsArray g t y) same_f held) in
    returned f c r (instructions.rotate f c i v z) y (encode f c y)
    (sym (is ∙ ap (λ g. instructions.rotate g t i v x) same_f ∙ ap (λ t. instructions.rotate f t i v x) same_c ∙ ap (instructions.rotate f c i v) same))
    (encoded f c P y held_here) given
