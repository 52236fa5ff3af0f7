-- The coefficients of a linear map by a dual basis, over every ring: `held` tests the elements that count.
use Rattle.std.specs.Prelude.{◌≡◌, ◌≢◌, ℕ, ◌<◌, Bool, IsTrue}
use Rattle.algebra.specs.Ring.{Ops}
use Rattle.algebra.specs.Range.{total, adds}
use Rattle.cyclotomic.specs.Trace.{repeated, trace}

module _ {C : Type 0} (held : C → Bool) (o : Ops C) where
  -- a map of the held elements that keeps the operations
  pub record IsHeldMap (F : C → C) : Type 0 where
    pub stays : (a : C) → IsTrue (held a) → IsTrue (held (F a))
    pub keeps_sum : (a b : C) → IsTrue (held a) → IsTrue (held b) → F (o.add a b) ≡ o.add (F a) (F b)
    pub keeps_product : (a b : C) → IsTrue (held a) → IsTrue (held b) → F (o.mul a b) ≡ o.mul (F a) (F b)
    pub keeps_one : F o.one ≡ o.one

  -- d elements and their duals: the trace of dual i times base k is 1 where i is k, else 0
  pub record IsDualBasis (F : C → C) (d : ℕ) (base dual : ℕ → C) : Type 0 where
    pub base_held : (i : ℕ) → IsTrue (held (base i))
    pub dual_held : (i : ℕ) → IsTrue (held (dual i))
    pub own : (i : ℕ) → i < d → trace o F d (o.mul (dual i) (base i)) ≡ o.one
    pub other : (i k : ℕ) → i < d → k < d → i ≢ k → trace o F d (o.mul (dual i) (base k)) ≡ o.zero

  -- the sum of c_k times base k over k < d
  abbrev pub combination : ℕ → (ℕ → C) → (ℕ → C) → C
  combination d base c = total (adds o) d (λ k. o.mul (c k) (base k))

  -- the jth coefficient of the map that takes base i to image i: the sum of image i times dual i, j times mapped
  abbrev pub linear_coefficient : (C → C) → ℕ → (ℕ → C) → (ℕ → C) → ℕ → C
  linear_coefficient F d dual image j = total (adds o) d (λ i. o.mul (image i) (repeated F j (dual i)))

  -- that map takes each combination with fixed factors to the same combination of the images
  abbrev pub LinearMapLaw : Type 0
  LinearMapLaw = (F : C → C) (d : ℕ) (base dual image c : ℕ → C) → IsHeldMap F → IsDualBasis F d base dual → ((i : ℕ) → IsTrue (held (image i))) → ((k : ℕ) → IsTrue (held (c k))) → ((k : ℕ) → F (c k) ≡ c k) → total (adds o) d (λ j. o.mul (linear_coefficient F d dual image j) (repeated F j (combination d base c))) ≡ combination d image c
