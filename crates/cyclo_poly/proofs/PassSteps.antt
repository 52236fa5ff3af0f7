-- The passes with a stride, place by place.
use Rattle.std.specs.Prelude.{◌≡◌, ℕ, ◌+◌, ◌-◌, ◌%◌, ◌<◌, ◌≤◌, ◌⊎◌, List, [], ◌∷◌, ◌++◌, length, drop, replicate, get_or, pos, refl}
use Rattle.std.specs.List.{All}
use Rattle.std.proofs.Common.{sym, ◌∙◌, ap, ap₂, inl, inr, arith, mod-eq_of_lt, set, eq-or-lt_of_le}
use Rattle.std.proofs.lemmas.List.{drop_more, ext_get_or, get_or-replicate, length-replicate, get_or_past, get_or-set_same, get_or-set_other}
use Rattle.std.proofs.lemmas.Bool.{cases_lt}
use Rattle.std.proofs.Math.Nat.{mod-add-mod, add-mod-mod, add-mod_right}
use Rattle.algebra.specs.Ring.{whole_numbers}
use Rattle.algebra.specs.Power.{less}
use Rattle.algebra.specs.Whole.{residue}
use Rattle.cyclo_poly.specs.Strides.{less_next, less_all, IsLessNext, IsLess}
use Rattle.cyclo_poly.proofs.Shifts.{Whole, lift, residue-less, same_all}

less_all-append : (js : List ℕ) (j : ℕ) (f : Whole) → less_all (js ++ j ∷ []) f ≡ less_all js (less_next j f)
unfolding less_all
less_all-append [] j f = refl
less_all-append (i ∷ js) j f = ap (less_next i) (less_all-append js j f)

module _ (q : ℕ) (positive : 0 < q) where
  pub below_at : (v : List ℕ) → All (λ c. c < q) v → (i : ℕ) → get_or v i 0 < q
  below_at v h i = go (cases_lt i (length v))
    where
      go : (i < length v) ⊎ (length v ≤ i) → get_or v i 0 < q
      go (inl l) = h i 0 l
      go (inr l) = omega (arith, get_or_past v i 0 l)

  less_word : (a b : ℕ) → b < q → residue q (less whole_numbers (pos a) (pos b)) ≡ (a + (q - b)) % q
  less_word a b l = residue-less q positive (pos a) (pos b) ∙ ap (λ z. (a % q + (q - z) % q) % q) (ap (λ z. z % q) (mod-eq_of_lt l) ∙ mod-eq_of_lt l) ∙ mod-add-mod a q ((q - b) % q) ∙ add-mod-mod a (q - b) q

  next_is : (j : ℕ) (a b : List ℕ) → All (λ c. c < q) a → IsLessNext q j a b → (i : ℕ) → get_or b i 0 ≡ residue q (less_next j (lift q positive a) i)
  next_is j a b h n i = n i ∙ sym (less_word (get_or a i 0) (get_or a (i + j) 0) (below_at a h (i + j)))

  own : (v : List ℕ) → All (λ c. c < q) v → (i : ℕ) → residue q (lift q positive v i) ≡ get_or v i 0
  own v h i = mod-eq_of_lt (below_at v h i)

  pub less_none : (js : List ℕ) → js ≡ [] → (v : List ℕ) → All (λ c. c < q) v → IsLess q js v v
  unfolding less_all
  less_none js e v h i = sym (ap (λ z. residue q (less_all z (lift q positive v) i)) e ∙ at)
    where
      at : residue q (less_all [] (lift q positive v) i) ≡ get_or v i 0
      at = own v h i

  -- one stride more in front
  pub less_more : (js ks : List ℕ) (j : ℕ) → ks ≡ j ∷ js → (old cur new : List ℕ) → All (λ c. c < q) cur → IsLess q js old cur → IsLessNext q j cur new → IsLess q ks old new
  unfolding less_all
  less_more js ks j e old cur new h l n i = next_is j cur new h n i ∙ same_all q positive (j ∷ []) (lift q positive cur) (less_all js (lift q positive old)) (λ k. own cur h k ∙ l k) i ∙ ap (λ z. residue q (less_all z (lift q positive old) i)) (sym e)

  -- one stride more at the end
  pub raise_more : (js ks : List ℕ) (j : ℕ) → ks ≡ js ++ j ∷ [] → (old cur new : List ℕ) → All (λ c. c < q) cur → All (λ c. c < q) new → IsLess q js cur old → IsLessNext q j new cur → IsLess q ks new old
  raise_more js ks j e old cur new h g l n i = l i ∙ same_all q positive js (lift q positive cur) (less_next j (lift q positive new)) (λ k. own cur h k ∙ next_is j new cur g n k) i ∙ ap (λ f. residue q (f i)) (sym (less_all-append js j (lift q positive new))) ∙ ap (λ z. residue q (less_all z (lift q positive new) i)) (sym e)

  -- past the places that have one further on, a pass changes nothing
  stays : (x : ℕ) (b : ℕ) → x < q → b ≡ 0 → x ≡ (x + (q - b)) % q
  stays x b l e = sym ((let d : x + (q - b) ≡ x + q = omega arith in ap (λ z. z % q) d) ∙ add-mod_right x q ∙ mod-eq_of_lt l)

  pub lower_done : (j i : ℕ) (old new : List ℕ) → length old - j ≤ i → All (λ c. c < q) old → ((k : ℕ) → k < i → get_or new k 0 ≡ (get_or old k 0 + (q - get_or old (k + j) 0)) % q) → ((k : ℕ) → i ≤ k → get_or new k 0 ≡ get_or old k 0) → IsLessNext q j old new
  lower_done j i old new l h done rest k = go (cases_lt k i)
    where
      go : (k < i) ⊎ (i ≤ k) → get_or new k 0 ≡ (get_or old k 0 + (q - get_or old (k + j) 0)) % q
      go (inl m) = done k m
      go (inr m) = rest k m ∙ stays (get_or old k 0) (get_or old (k + j) 0) (below_at old h k) (get_or_past old (k + j) 0 (omega arith))

  pub raise_init : (j i : ℕ) (v : List ℕ) → length v - j ≤ i → All (λ c. c < q) v → (k : ℕ) → i ≤ k → get_or v k 0 ≡ (get_or v k 0 + (q - get_or v (k + j) 0)) % q
  raise_init j i v l h k m = stays (get_or v k 0) (get_or v (k + j) 0) (below_at v h k) (get_or_past v (k + j) 0 (omega arith))

  -- a sum less what was added
  back : (a b r : ℕ) → a < q → b < q → r ≡ (a + b) % q → a ≡ (r + (q - b)) % q
  back a b r l m e = sym (ap (λ z. (z + (q - b)) % q) e ∙ mod-add-mod (a + b) q (q - b) ∙ (let d : a + b + (q - b) ≡ a + q = omega arith in ap (λ z. z % q) d) ∙ add-mod_right a q ∙ mod-eq_of_lt l)

  pub raise_step : (j t i r : ℕ) (old cur new : List ℕ) → 0 < j → i + 1 ≡ t → i < length cur → All (λ c. c < q) cur → new ≡ set cur i r → r ≡ (get_or cur i 0 + get_or cur (i + j) 0) % q → ((k : ℕ) → t ≤ k → get_or old k 0 ≡ (get_or cur k 0 + (q - get_or cur (k + j) 0)) % q) → ((k : ℕ) → k < t → get_or cur k 0 ≡ get_or old k 0) → (k : ℕ) → i ≤ k → get_or old k 0 ≡ (get_or new k 0 + (q - get_or new (k + j) 0)) % q
  raise_step j t i r old cur new p s l h e f done rest k m = go (eq-or-lt_of_le m)
    where
      other : (k : ℕ) → i < k → get_or new k 0 ≡ get_or cur k 0
      other k n = ap (λ z. get_or z k 0) e ∙ get_or-set_other cur i k r 0 (λ d. omega arith)

      go : (i ≡ k) ⊎ (i < k) → get_or old k 0 ≡ (get_or new k 0 + (q - get_or new (k + j) 0)) % q
      go (inl d) = ap (λ z. get_or old z 0) (sym d) ∙ sym (rest i (omega arith)) ∙ back (get_or cur i 0) (get_or cur (i + j) 0) (get_or new i 0) (below_at cur h i) (below_at cur h (i + j)) (ap (λ z. get_or z i 0) e ∙ get_or-set_same cur i r 0 l ∙ f) ∙ ap (λ z. (get_or new i 0 + (q - z)) % q) (sym (other (i + j) (omega arith))) ∙ ap (λ z. (get_or new z 0 + (q - get_or new (z + j) 0)) % q) d
      go (inr n) = done k (omega arith) ∙ ap₂ (λ y z. (y + (q - z)) % q) (sym (other k n)) (sym (other (k + j) (omega arith)))

  pub raise_rest : (t i r : ℕ) (old cur new : List ℕ) → i + 1 ≡ t → new ≡ set cur i r → ((k : ℕ) → k < t → get_or cur k 0 ≡ get_or old k 0) → (k : ℕ) → k < i → get_or new k 0 ≡ get_or old k 0
  raise_rest t i r old cur new s e rest k m = ap (λ z. get_or z k 0) e ∙ get_or-set_other cur i k r 0 (λ d. omega arith) ∙ rest k (omega arith)

-- an element more that is small
pub all_set : (q i r : ℕ) (cur new : List ℕ) → new ≡ set cur i r → i < length cur → r < q → All (λ c. c < q) cur → length new ≡ length cur → All (λ c. c < q) new
all_set q i r cur new e l s h n k d m = go (cases_lt k i) (cases_lt i k)
  where
    go : (k < i) ⊎ (i ≤ k) → (i < k) ⊎ (k ≤ i) → get_or new k d < q
    go (inl a) b = rw (ap (λ z. get_or z k d) e ∙ get_or-set_other cur i k r d (λ d. omega arith)) (h k d (omega arith))
    go (inr a) (inl b) = rw (ap (λ z. get_or z k d) e ∙ get_or-set_other cur i k r d (λ d. omega arith)) (h k d (omega arith))
    go (inr a) (inr b) = let f : k ≡ i = omega arith in rw (ap (λ z. get_or z k d) e ∙ ap (λ z. get_or (set cur i r) z d) f ∙ get_or-set_same cur i r d l) s

pub drop_step : (s : List ℕ) (t : ℕ) → 0 < t → t ≤ length s → drop (t - 1) s ≡ get_or s (t - 1) 0 ∷ drop t s
drop_step s t p l = drop_more s (t - 1) 0 (omega arith) ∙ ap (λ z. get_or s (t - 1) 0 ∷ drop z s) (let e : t - 1 + 1 ≡ t = omega arith in e)

pub zeros_are : (v old : List ℕ) (t : ℕ) → length v ≡ length old → length old ≤ t → ((k : ℕ) → k < t → get_or v k 0 ≡ 0) → v ≡ replicate (length old) 0
zeros_are v old t e l h = ext_get_or 0 v (replicate (length old) 0) (e ∙ sym (length-replicate (length old) 0)) (λ i m. h i (omega (arith, e)) ∙ sym (get_or-replicate (length old) i 0 0 (omega (arith, e))))
