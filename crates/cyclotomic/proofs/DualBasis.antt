-- The trace of a map of rings, and the coefficients of a linear map by a dual basis.
use Rattle.std.specs.Prelude.{◌≡◌, ◌≢◌, ℕ, zero, suc, ◌<◌, refl}
use Rattle.std.proofs.Common.{sym, ◌∙◌, ap}
use Rattle.algebra.specs.Ring.{CommRing}
use Rattle.algebra.specs.Hom.{Hom}
use Rattle.algebra.specs.Range.{total, adds}
use Rattle.algebra.proofs.Basic.{mul_zero, mul_one}
use Rattle.algebra.proofs.Homs.{map_adds}
use Rattle.algebra.proofs.Ranges.{total_cong, total_exchange, total_single, total-mul, mul-total, add_laws}
use Rattle.algebra.specs.Expression.{◌:*◌}
use Rattle.algebra.proofs.Solver.{solve3}
use Rattle.cyclotomic.specs.Trace.{repeated, trace}

module _ (E : CommRing) (F : Hom E E) where
  open E use {Carrier as C, ops as o, add as ◌+◌, mul as ◌*◌, zero as 𝟘, one as 𝟙}

  infixl 70 ◌+◌
  infixl 75 ◌*◌
  abbrev frob : ℕ → C → C
  frob j x = repeated F.map j x

  pub repeated-add : (j : ℕ) (x y : C) → frob j (x + y) ≡ frob j x + frob j y
  repeated-add zero x y = refl
  repeated-add (suc j) x y = ap F.map (repeated-add j x y) ∙ F.map_add (frob j x) (frob j y)

  pub repeated-mul : (j : ℕ) (x y : C) → frob j (x * y) ≡ frob j x * frob j y
  repeated-mul zero x y = refl
  repeated-mul (suc j) x y = ap F.map (repeated-mul j x y) ∙ F.map_mul (frob j x) (frob j y)

  pub repeated_fixed : (j : ℕ) (c : C) → F.map c ≡ c → frob j c ≡ c
  repeated_fixed zero c e = refl
  repeated_fixed (suc j) c e = ap F.map (repeated_fixed j c e) ∙ e

  pub repeated-adds : (j n : ℕ) (f : ℕ → C) → frob j (total (adds o) n f) ≡ total (adds o) n (λ i. frob j (f i))
  repeated-adds zero n f = refl
  repeated-adds (suc j) n f = ap F.map (repeated-adds j n f) ∙ map_adds E E F n (λ i. frob j (f i))

  module _ (d : ℕ) where
    abbrev tr : C → C
    tr x = trace o F.map d x

    pub trace-adds : (n : ℕ) (f : ℕ → C) → tr (total (adds o) n f) ≡ total (adds o) n (λ i. tr (f i))
    trace-adds n f = total_cong (adds o) (add_laws E) d (λ j. frob j (total (adds o) n f)) (λ j. total (adds o) n (λ i. frob j (f i))) (λ j l. repeated-adds j n f) ∙ total_exchange (adds o) (add_laws E) d n (λ j i. frob j (f i))

    -- a fixed element is taken out
    pub trace_fixed : (c x : C) → F.map c ≡ c → tr (c * x) ≡ c * tr x
    trace_fixed c x e = total_cong (adds o) (add_laws E) d (λ j. frob j (c * x)) (λ j. c * frob j x) (λ j l. repeated-mul j c x ∙ ap (λ z. z * frob j x) (repeated_fixed j c e)) ∙ sym (mul-total E d (λ j. frob j x) c)

    module _ (base dual : ℕ → C) (is_one : (i : ℕ) → i < d → tr (dual i * base i) ≡ 𝟙) (is_zero : (i k : ℕ) → i < d → k < d → i ≢ k → tr (dual i * base k) ≡ 𝟘) where
      -- the coordinate of a combination of the basis
      pub coordinate : (c : ℕ → C) → ((k : ℕ) → F.map (c k) ≡ c k) → (i : ℕ) → i < d → tr (dual i * total (adds o) d (λ k. c k * base k)) ≡ c i
      coordinate c fixed i l =
          ap tr (mul-total E d (λ k. c k * base k) (dual i) ∙ total_cong (adds o) (add_laws E) d (λ k. dual i * (c k * base k)) (λ k. c k * (dual i * base k)) (λ k q. solve3 E (λ t c b. t :* (c :* b)) (λ t c b. c :* (t :* b)) refl (dual i) (c k) (base k)))
          ∙ trace-adds d (λ k. c k * (dual i * base k))
          ∙ total_cong (adds o) (add_laws E) d (λ k. tr (c k * (dual i * base k))) (λ k. c k * tr (dual i * base k)) (λ k q. trace_fixed (c k) (dual i * base k) (fixed k))
          ∙ total_single (adds o) (add_laws E) d i (λ k. c k * tr (dual i * base k)) l (λ k q n. ap (λ z. c k * z) (is_zero i k l q (λ e. n (sym e))) ∙ mul_zero E (c k))
          ∙ ap (λ z. c i * z) (is_one i l)
          ∙ mul_one E (c i)

      -- the map with the given images of the basis is the sum over j of the coefficient c_j times the jth repetition
      pub linear_is : (image c : ℕ → C) → ((k : ℕ) → F.map (c k) ≡ c k) → total (adds o) d (λ j. total (adds o) d (λ i. image i * frob j (dual i)) * frob j (total (adds o) d (λ k. c k * base k))) ≡ total (adds o) d (λ k. c k * image k)
      linear_is image c fixed =
          total_cong (adds o) (add_laws E) d (λ j. total (adds o) d (λ i. image i * frob j (dual i)) * frob j x) (λ j. total (adds o) d (λ i. image i * frob j (dual i * x))) (λ j l. total-mul E d (λ i. image i * frob j (dual i)) (frob j x) ∙ total_cong (adds o) (add_laws E) d (λ i. image i * frob j (dual i) * frob j x) (λ i. image i * frob j (dual i * x)) (λ i q. E.mul_assoc (image i) (frob j (dual i)) (frob j x) ∙ ap (λ z. image i * z) (sym (repeated-mul j (dual i) x))))
          ∙ total_exchange (adds o) (add_laws E) d d (λ j i. image i * frob j (dual i * x))
          ∙ total_cong (adds o) (add_laws E) d (λ i. total (adds o) d (λ j. image i * frob j (dual i * x))) (λ i. c i * image i) (λ i l. sym (mul-total E d (λ j. frob j (dual i * x)) (image i)) ∙ ap (λ z. image i * z) (coordinate c fixed i l) ∙ E.mul_comm (image i) (c i))
        where
          x : C
          x = total (adds o) d (λ k. c k * base k)
