-- A tree of one level more: its second half is psi times the first.
use Rattle.std.proofs.Common.{◌≡◌, ℕ, suc, ◌+◌, ◌-◌, ◌*◌, ◌/◌, ◌%◌, ◌^◌, ◌<◌, ◌≤◌, List, ◌++◌, length, get_or, refl, sym, ◌∙◌, ap, ap₂, subst, arith, inl, inr, mod-eq_of_lt, All}
use Rattle.std.proofs.Math.Nat.{pow-zero, pow-succ', add-mod-mod, mod_self, mod-mod, mul-mod_left}
use Rattle.std.proofs.lemmas.Nat.{mul-mod, mul-mod_first, mul-mod_second, mul-pow, pow-mod, pow-add, pow_pos, mod_below}
use Rattle.std.proofs.lemmas.List.{length-append, get_or_append_left, get_or-append_right}
use Rattle.std.proofs.lemmas.List.Elements.{All-from_get_or}
use Rattle.std.proofs.lemmas.Bool.{cases_lt, cases_eq}
use Rattle.two_power.specs.Tree.{root, IsScaled, IsGrown}
use Rattle.two_power.proofs.Congruent.{mul_congruent, cancel}
use Rattle.two_power.proofs.Trees.{root_even, root_odd}

-- the roots of the smaller tree
pub psi_square_half : (q levels l psi p : ℕ) → levels ≡ suc l → p ≡ (psi * psi) % q → psi ^ (2 ^ levels) % q ≡ q - 1 → p ^ (2 ^ l) % q ≡ q - 1
psi_square_half q levels l psi p e f h = ap (λ z. z ^ (2 ^ l) % q) f ∙ pow-mod (psi * psi) (2 ^ l) q ∙ ap (λ z. z % q) (mul-pow psi psi (2 ^ l) ∙ sym (pow-add psi (2 ^ l) (2 ^ l)) ∙ ap (λ z. psi ^ z) (twice (2 ^ l) ∙ sym (ap (λ z. 2 ^ z) e ∙ pow-succ' 2 l))) ∙ h
  where
    twice : (a : ℕ) → a + a ≡ 2 * a
    twice a = omega arith

four_factors : (q a b c d : ℕ) → ((a * b) % q * ((c * d) % q)) % q ≡ (a * c * (b * d)) % q
four_factors q a b c d = mul-mod_first (a * b) ((c * d) % q) q ∙ mul-mod_second (a * b) (c * d) q ∙ ap (λ z. z % q) (turn a b c d)
  where
    turn : (a b c d : ℕ) → a * b * (c * d) ≡ a * c * (b * d)
    turn a b c d = omega arith

pub squares_one : (q psi inverse p v : ℕ) → 1 < q → p ≡ (psi * psi) % q → v ≡ (inverse * inverse) % q → (psi * inverse) % q ≡ 1 → (p * v) % q ≡ 1
squares_one q psi inverse p v big e f h = ap₂ (λ y z. (y * z) % q) e f ∙ four_factors q psi psi inverse inverse ∙ mul-mod (psi * inverse) (psi * inverse) q ∙ ap₂ (λ y z. (y * z) % q) h h ∙ mod-eq_of_lt big

pub grown_one : (q levels psi : ℕ) (ws vs : List ℕ) → 1 < q → levels ≡ 0 → length ws ≡ 2 ^ levels → length vs ≡ 2 ^ levels → get_or ws 0 0 ≡ 1 → get_or vs 0 0 ≡ 1 → psi ^ (2 ^ levels) % q ≡ q - 1 → IsGrown q levels psi ws vs
grown_one q levels psi ws vs big e nw nv w v h = record {
  ws_long = nw;
  vs_long = nv;
  first = w;
  tree = record { below = λ k l. subst (λ z. z < q) (sym (at_zero ws k (nw ∙ one) l ∙ w)) big; squares = λ k l. let f = none ws k (nw ∙ one) l in ap (λ z. (get_or ws z 0 * get_or ws z 0) % q) f ∙ ap (λ z. (z * z) % q) w ∙ sym (ap (λ z. root q ws z % q) f ∙ ap (λ z. z % q) (root_even q ws 0 0 refl ∙ w)) };
  inverses = record { long = nv ∙ sym nw; one = λ k l. ap₂ (λ y z. (y * z) % q) (at_zero ws k (nw ∙ one) l ∙ w) (ap (λ z. get_or vs z 0) (none ws k (nw ∙ one) l) ∙ v) };
  next = λ j l. next_one j (omega (arith, one));
}
  where
    one : 2 ^ levels ≡ 1
    one = ap (λ z. 2 ^ z) e

    none : (xs : List ℕ) (k : ℕ) → length xs ≡ 1 → k < length xs → k ≡ 0
    none xs k n l = omega arith

    at_zero : (xs : List ℕ) (k : ℕ) → length xs ≡ 1 → k < length xs → get_or xs k 0 ≡ get_or xs 0 0
    at_zero xs k n l = ap (λ z. get_or xs z 0) (none xs k n l)

    first : (a : ℕ) → a ^ 1 ≡ a * 1
    first a = pow-succ' a 0 ∙ rw (pow-zero a) refl

    next_one : (j : ℕ) → j ≡ 0 → root q ws (2 ^ levels + j) % q ≡ (psi * root q ws j) % q
    next_one j f =
        ap₂ (λ y z. root q ws (y + z) % q) one f ∙ ap (λ z. z % q) (root_odd q ws 1 0 refl ∙ ap (λ z. q - z) w) ∙ mod-eq_of_lt (omega arith)
        ∙ sym (ap (λ z. (psi * root q ws z) % q) f ∙ ap (λ z. (psi * z) % q) (root_even q ws 0 0 refl ∙ w) ∙ ap (λ z. z % q) (sym (first psi) ∙ ap (λ z. psi ^ z) (sym one)) ∙ h)

-- the negative of a product
negative_times : (q c u : ℕ) → 0 < q → u ≤ q → (q - (c * u) % q) % q ≡ (c * (q - u)) % q
negative_times q c u on l = cancel q (q - (c * u) % q) (c * (q - u)) (c * u) on (sym (add-mod-mod (q - (c * u) % q) (c * u) q) ∙ ap (λ z. z % q) (fill ((c * u) % q) (mod_below (c * u) q on)) ∙ mod_self q ∙ sym (ap (λ z. z % q) (whole (q - u) (omega arith)) ∙ mul-mod_left c q))
  where
    fill : (r : ℕ) → r < q → q - r + r ≡ q
    fill r l = omega arith

    whole : (d : ℕ) → d + u ≡ q → c * d + c * u ≡ c * q
    whole d e = omega (arith, ap (λ z. c * z) e)

-- a list and its scaled copy below it
both_entries : (q h : ℕ) (us vs : List ℕ) (c : ℕ) → length us ≡ h → IsScaled q c us vs → (j : ℕ) → j < h → get_or (us ++ vs) (h + j) 0 ≡ (c * get_or us j 0) % q
both_entries q h us vs c e s j l = get_or-append_right us vs h (h + j) 0 e (omega arith) ∙ ap (λ z. get_or vs z 0) (back h j) ∙ s j (omega arith)
  where
    back : (h j : ℕ) → h + j - h ≡ j
    back h j = omega arith

module _ (q l psi p inverse : ℕ) (us js vs ks : List ℕ) (on : 1 < q) (psi_square : p ≡ (psi * psi) % q) (pair : (psi * inverse) % q ≡ 1) (G : IsGrown q l p us js) (sv : IsScaled q psi us vs) (sk : IsScaled q inverse js ks) (nv : length vs ≡ length us) (nk : length ks ≡ length js) where
  h : ℕ
  h = 2 ^ l

  double : 2 ^ suc l ≡ 2 * 2 ^ l
  double = pow-succ' 2 l

  lower : (k : ℕ) → k < 2 ^ l → get_or (us ++ vs) k 0 ≡ get_or us k 0
  lower k m = get_or_append_left us vs 0 k (omega (arith, G.ws_long))

  upper : (j : ℕ) → j < 2 ^ l → get_or (us ++ vs) (2 ^ l + j) 0 ≡ (psi * get_or us j 0) % q
  upper = both_entries q (2 ^ l) us vs psi G.ws_long sv

  us_in : (k : ℕ) → k < 2 ^ l → get_or us k 0 < q
  us_in k m = G.tree.below k (omega (arith, G.ws_long))

  -- the nodes up to the leaves of the smaller tree have the same roots
  root_same : (k j b : ℕ) → k ≡ 2 * j + b → b < 2 → j < 2 ^ l → root q (us ++ vs) k ≡ root q us k
  root_same k j b e n m = elim (cases_eq b 0) [
    | inl f ↦ root_even q (us ++ vs) k j (omega arith) ∙ lower j m ∙ sym (root_even q us k j (omega arith))
    | inr f ↦ root_odd q (us ++ vs) k j (omega arith) ∙ ap (λ z. q - z) (lower j m) ∙ sym (root_odd q us k j (omega arith))
  ]

  same : (k : ℕ) → k < 2 * 2 ^ l → root q (us ++ vs) k ≡ root q us k
  same k m = root_same k (k / 2) (k % 2) (omega arith) (omega arith) (omega arith)

  root_next : (j i b : ℕ) → j ≡ 2 * i + b → b < 2 → i < 2 ^ l → root q (us ++ vs) (2 * 2 ^ l + j) % q ≡ (psi * root q us j) % q
  root_next j i b e n m = elim (cases_eq b 0) [
    | inl f ↦ ap (λ z. z % q) (root_even q (us ++ vs) (2 * 2 ^ l + j) (2 ^ l + i) (omega arith) ∙ upper i m) ∙ mod-mod (psi * get_or us i 0) q ∙ ap (λ z. (psi * z) % q) (sym (root_even q us j i (omega arith)))
    | inr f ↦ ap (λ z. z % q) (root_odd q (us ++ vs) (2 * 2 ^ l + j) (2 ^ l + i) (omega arith) ∙ ap (λ z. q - z) (upper i m)) ∙ negative_times q psi (get_or us i 0) (omega arith) (omega (arith, us_in i m)) ∙ ap (λ z. (psi * z) % q) (sym (root_odd q us j i (omega arith)))
  ]

  square_upper : (j : ℕ) → j < 2 ^ l → (get_or (us ++ vs) (2 ^ l + j) 0 * get_or (us ++ vs) (2 ^ l + j) 0) % q ≡ root q (us ++ vs) (2 ^ l + j) % q
  square_upper j m = ap (λ z. (z * z) % q) (upper j m) ∙ four_factors q psi (get_or us j 0) psi (get_or us j 0) ∙ mul_congruent q (psi * psi) p (get_or us j 0 * get_or us j 0) (root q us j) (sym (ap (λ z. z % q) psi_square ∙ mod-mod (psi * psi) q)) (G.tree.squares j (omega (arith, G.ws_long))) ∙ sym (G.next j m) ∙ ap (λ z. z % q) (sym (same (2 ^ l + j) (omega arith)))

  inverse_upper : (j : ℕ) → j < 2 ^ l → (get_or (us ++ vs) (2 ^ l + j) 0 * get_or (js ++ ks) (2 ^ l + j) 0) % q ≡ 1 % q
  inverse_upper j m = ap₂ (λ y z. (y * z) % q) (upper j m) (both_entries q (2 ^ l) js ks inverse G.vs_long sk j m) ∙ four_factors q psi (get_or us j 0) inverse (get_or js j 0) ∙ mul_congruent q (psi * inverse) 1 (get_or us j 0 * get_or js j 0) 1 (pair ∙ sym (mod-eq_of_lt on)) (G.inverses.one j (omega (arith, G.ws_long)))

  ws_length : length (us ++ vs) ≡ 2 ^ suc l
  ws_length = length-append us vs ∙ omega (arith, G.ws_long, double)

  vs_length : length (js ++ ks) ≡ 2 ^ suc l
  vs_length = length-append js ks ∙ omega (arith, G.vs_long, double)

  split : (P : ℕ → Type 0) → ((k : ℕ) → k < 2 ^ l → P k) → ((j : ℕ) → j < 2 ^ l → P (2 ^ l + j)) → (k : ℕ) → k < length (us ++ vs) → P k
  split P low high k m = elim (cases_lt k (2 ^ l)) [
    | inl n ↦ low k n
    | inr n ↦ let e : 2 ^ l + (k - 2 ^ l) ≡ k = omega arith in subst P e (high (k - 2 ^ l) (omega (arith, ws_length, double)))
  ]

  pub grown_more : IsGrown q (suc l) psi (us ++ vs) (js ++ ks)
  grown_more = record {
    ws_long = ws_length;
    vs_long = vs_length;
    first = lower 0 (pow_pos l) ∙ G.first;
    tree = record {
      below = split (λ k. get_or (us ++ vs) k 0 < q) (λ k m. subst (λ z. z < q) (sym (lower k m)) (us_in k m)) (λ j m. subst (λ z. z < q) (sym (upper j m)) (mod_below (psi * get_or us j 0) q (omega arith)));
      squares = split (λ k. (get_or (us ++ vs) k 0 * get_or (us ++ vs) k 0) % q ≡ root q (us ++ vs) k % q) (λ k m. ap (λ z. (z * z) % q) (lower k m) ∙ G.tree.squares k (omega (arith, G.ws_long)) ∙ ap (λ z. z % q) (sym (same k (omega arith)))) square_upper;
    };
    inverses = record {
      long = vs_length ∙ sym ws_length;
      one = split (λ k. (get_or (us ++ vs) k 0 * get_or (js ++ ks) k 0) % q ≡ 1 % q) (λ k m. ap₂ (λ y z. (y * z) % q) (lower k m) (get_or_append_left js ks 0 k (omega (arith, G.vs_long))) ∙ G.inverses.one k (omega (arith, G.ws_long))) inverse_upper;
    };
    next = λ j m. ap (λ z. root q (us ++ vs) (z + j) % q) double ∙ root_next j (j / 2) (j % 2) (omega arith) (omega arith) (omega (arith, double)) ∙ ap (λ z. (psi * z) % q) (sym (same j (omega (arith, double))));
  }

-- the same where the number of levels is a number above 0
pub grown_step : (q levels l psi p inverse : ℕ) (us js vs ks : List ℕ) → levels ≡ suc l → 1 < q → p ≡ (psi * psi) % q → (psi * inverse) % q ≡ 1 → IsGrown q l p us js → IsScaled q psi us vs → IsScaled q inverse js ks → length vs ≡ length us → length ks ≡ length js → IsGrown q levels psi (us ++ vs) (js ++ ks)
grown_step q levels l psi p inverse us js vs ks e on f g G sv sk nv nk = subst (λ z. IsGrown q z psi (us ++ vs) (js ++ ks)) (sym e) (grown_more q l psi p inverse us js vs ks on f g G sv sk nv nk)

-- each entry of both is below the bound
pub All_append : (b : ℕ) (xs ys : List ℕ) → All (λ a. a < b) xs → All (λ a. a < b) ys → All (λ a. a < b) (xs ++ ys)
All_append b xs ys h k = All-from_get_or (λ a. a < b) (xs ++ ys) 0 (λ i l. elim (cases_lt i (length xs)) [
  | inl m ↦ let e = get_or_append_left xs ys 0 i m in let f = h i 0 m in omega arith
  | inr m ↦ let e = get_or-append_right xs ys (length xs) i 0 (λ _. length xs) m in let f = k (i - length xs) 0 (omega (arith, length-append xs ys)) in omega arith
])
