-- What a pass has done to the places below i, and what it has left.
use Rattle.std.proofs.Common.{◌≡◌, ℕ, ◌+◌, ◌-◌, ◌*◌, ◌%◌, ◌<◌, ◌≤◌, List, length, set, get_or, sym, ◌∙◌, ap, arith, inl, inr}
use Rattle.std.proofs.Math.Nat.{add-mul-mod_self_left}
use Rattle.std.proofs.lemmas.List.{get_or-set_same, get_or-set_other, get_or_past}
use Rattle.std.proofs.lemmas.Bool.{cases_eq, cases_lt}
use Rattle.two_power.proofs.Congruent.{add_congruent, cancel}

pub record PassedDown (q w i : ℕ) (xs ys us vs : List ℕ) : Type 0 where
  pub low : (k : ℕ) → k < i → get_or us k 0 % q ≡ (get_or xs k 0 + w * get_or ys k 0) % q
  pub high : (k : ℕ) → k < i → get_or vs k 0 % q ≡ (get_or xs k 0 + (q - w) * get_or ys k 0) % q
  pub low_rest : (k : ℕ) → i ≤ k → get_or us k 0 ≡ get_or xs k 0
  pub high_rest : (k : ℕ) → i ≤ k → get_or vs k 0 ≡ get_or ys k 0
  pub low_in : (k : ℕ) → get_or us k 0 < 4 * q
  pub high_in : (k : ℕ) → get_or vs k 0 < 4 * q

-- u + (2q - v) is x - w y
minus_congruent : (q w x y u v d : ℕ) → 0 < q → w < q → d + v ≡ 2 * q → u % q ≡ x % q → v % q ≡ (w * y) % q → (u + d) % q ≡ (x + (q - w) * y) % q
minus_congruent q w x y u v d on w_in e f g = cancel q (u + d) (x + (q - w) * y) v on (ap (λ z. z % q) (turn e) ∙ add-mul-mod_self_left u q 2 ∙ f ∙ sym (add_congruent q (x + (q - w) * y) (x + (q - w) * y) v (w * y) (λ i. (x + (q - w) * y) % q) g ∙ ap (λ z. z % q) (fill (q - w) (omega arith)) ∙ add-mul-mod_self_left x q y))
  where
    turn : d + v ≡ 2 * q → u + d + v ≡ u + q * 2
    turn e = omega (arith, e)

    fill : (c : ℕ) → c + w ≡ q → x + c * y + w * y ≡ x + q * y
    fill c e = omega (arith, ap (λ z. z * y) e)

pub passed_down_more : (q w i x y u v : ℕ) (xs ys us vs : List ℕ) → 0 < q → w < q → i < length us → i < length vs → PassedDown q w i xs ys us vs → x ≡ get_or us i 0 → y ≡ get_or vs i 0 → u % q ≡ x % q → u < 2 * q → v % q ≡ (w * y) % q → v < 2 * q → PassedDown q w (i + 1) xs ys (set us i (u + v)) (set vs i (u + (2 * q - v)))
passed_down_more q w i x y u v xs ys us vs on w_in m n P xe ye ue u_in ve v_in = record {
  low = λ k l. elim (cases_eq k i) [
    | inl e ↦ ap (λ z. get_or (set us i (u + v)) z 0 % q) e ∙ ap (λ z. z % q) (get_or-set_same us i (u + v) 0 m) ∙ add_congruent q u x v (w * y) ue ve ∙ ap (λ z. (z + w * y) % q) (first_is k e) ∙ ap (λ z. (get_or xs k 0 + w * z) % q) (second_is k e)
    | inr e ↦ ap (λ z. z % q) (get_or-set_other us i k (u + v) 0 e) ∙ P.low k (omega arith)
  ];
  high = λ k l. elim (cases_eq k i) [
    | inl e ↦ ap (λ z. get_or (set vs i (u + (2 * q - v))) z 0 % q) e ∙ ap (λ z. z % q) (get_or-set_same vs i (u + (2 * q - v)) 0 n) ∙ minus_congruent q w x y u v (2 * q - v) on w_in (omega arith) ue ve ∙ ap (λ z. (z + (q - w) * y) % q) (first_is k e) ∙ ap (λ z. (get_or xs k 0 + (q - w) * z) % q) (second_is k e)
    | inr e ↦ ap (λ z. z % q) (get_or-set_other vs i k (u + (2 * q - v)) 0 e) ∙ P.high k (omega arith)
  ];
  low_rest = λ k l. get_or-set_other us i k (u + v) 0 (λ e. omega arith) ∙ P.low_rest k (omega arith);
  high_rest = λ k l. get_or-set_other vs i k (u + (2 * q - v)) 0 (λ e. omega arith) ∙ P.high_rest k (omega arith);
  low_in = λ k. elim (cases_eq k i) [
    | inl e ↦ let f = get_or-set_same us i (u + v) 0 m in let g : get_or (set us i (u + v)) k 0 ≡ get_or (set us i (u + v)) i 0 = ap (λ z. get_or (set us i (u + v)) z 0) e in omega arith
    | inr e ↦ let f = get_or-set_other us i k (u + v) 0 e in let g = P.low_in k in omega arith
  ];
  high_in = λ k. elim (cases_eq k i) [
    | inl e ↦ let f = get_or-set_same vs i (u + (2 * q - v)) 0 n in let g : get_or (set vs i (u + (2 * q - v))) k 0 ≡ get_or (set vs i (u + (2 * q - v))) i 0 = ap (λ z. get_or (set vs i (u + (2 * q - v))) z 0) e in omega arith
    | inr e ↦ let f = get_or-set_other vs i k (u + (2 * q - v)) 0 e in let g = P.high_in k in omega arith
  ];
}
  where
    first_is : (k : ℕ) → k ≡ i → x ≡ get_or xs k 0
    first_is k e = xe ∙ P.low_rest i (omega arith) ∙ ap (λ z. get_or xs z 0) (sym e)

    second_is : (k : ℕ) → k ≡ i → y ≡ get_or ys k 0
    second_is k e = ye ∙ P.high_rest i (omega arith) ∙ ap (λ z. get_or ys z 0) (sym e)

pub record PassedUp (q w i : ℕ) (xs ys us vs : List ℕ) : Type 0 where
  pub low : (k : ℕ) → k < i → get_or us k 0 % q ≡ (get_or xs k 0 + get_or ys k 0) % q
  pub high : (k : ℕ) → k < i → get_or vs k 0 % q ≡ (w * (get_or xs k 0 + (2 * q - get_or ys k 0))) % q
  pub low_rest : (k : ℕ) → i ≤ k → get_or us k 0 ≡ get_or xs k 0
  pub high_rest : (k : ℕ) → i ≤ k → get_or vs k 0 ≡ get_or ys k 0
  pub low_in : (k : ℕ) → get_or us k 0 < 2 * q
  pub high_in : (k : ℕ) → get_or vs k 0 < 2 * q

pub passed_up_more : (q w i x y u v : ℕ) (xs ys us vs : List ℕ) → i < length us → i < length vs → PassedUp q w i xs ys us vs → x ≡ get_or us i 0 → y ≡ get_or vs i 0 → u % q ≡ (x + y) % q → u < 2 * q → v % q ≡ (w * (x + (2 * q - y))) % q → v < 2 * q → PassedUp q w (i + 1) xs ys (set us i u) (set vs i v)
passed_up_more q w i x y u v xs ys us vs m n P xe ye ue u_in ve v_in = record {
  low = λ k l. elim (cases_eq k i) [
    | inl e ↦ ap (λ z. get_or (set us i u) z 0 % q) e ∙ ap (λ z. z % q) (get_or-set_same us i u 0 m) ∙ ue ∙ ap (λ z. (z + y) % q) (first_is k e) ∙ ap (λ z. (get_or xs k 0 + z) % q) (second_is k e)
    | inr e ↦ ap (λ z. z % q) (get_or-set_other us i k u 0 e) ∙ P.low k (omega arith)
  ];
  high = λ k l. elim (cases_eq k i) [
    | inl e ↦ ap (λ z. get_or (set vs i v) z 0 % q) e ∙ ap (λ z. z % q) (get_or-set_same vs i v 0 n) ∙ ve ∙ ap (λ z. (w * (z + (2 * q - y))) % q) (first_is k e) ∙ ap (λ z. (w * (get_or xs k 0 + (2 * q - z))) % q) (second_is k e)
    | inr e ↦ ap (λ z. z % q) (get_or-set_other vs i k v 0 e) ∙ P.high k (omega arith)
  ];
  low_rest = λ k l. get_or-set_other us i k u 0 (λ e. omega arith) ∙ P.low_rest k (omega arith);
  high_rest = λ k l. get_or-set_other vs i k v 0 (λ e. omega arith) ∙ P.high_rest k (omega arith);
  low_in = λ k. elim (cases_eq k i) [
    | inl e ↦ let f = get_or-set_same us i u 0 m in let g : get_or (set us i u) k 0 ≡ get_or (set us i u) i 0 = ap (λ z. get_or (set us i u) z 0) e in omega arith
    | inr e ↦ let f = get_or-set_other us i k u 0 e in let g = P.low_in k in omega arith
  ];
  high_in = λ k. elim (cases_eq k i) [
    | inl e ↦ let f = get_or-set_same vs i v 0 n in let g : get_or (set vs i v) k 0 ≡ get_or (set vs i v) i 0 = ap (λ z. get_or (set vs i v) z 0) e in omega arith
    | inr e ↦ let f = get_or-set_other vs i k v 0 e in let g = P.high_in k in omega arith
  ];
}
  where
    first_is : (k : ℕ) → k ≡ i → x ≡ get_or xs k 0
    first_is k e = xe ∙ P.low_rest i (omega arith) ∙ ap (λ z. get_or xs z 0) (sym e)

    second_is : (k : ℕ) → k ≡ i → y ≡ get_or ys k 0
    second_is k e = ye ∙ P.high_rest i (omega arith) ∙ ap (λ z. get_or ys z 0) (sym e)

-- past the end both sides are 0
pub passed_up_all : (q w i : ℕ) (xs ys us vs : List ℕ) → length xs ≤ i → length ys ≤ i → PassedUp q w i xs ys us vs → (k : ℕ) → get_or vs k 0 % q ≡ (w * (get_or xs k 0 + (2 * q - get_or ys k 0))) % q
passed_up_all q w i xs ys us vs m n P k = elim (cases_lt k i) [
  | inl l ↦ P.high k l
  | inr l ↦ let e : get_or ys k 0 ≡ 0 = get_or_past ys k 0 (omega arith) in let f : get_or xs k 0 ≡ 0 = get_or_past xs k 0 (omega arith) in ap (λ z. z % q) (P.high_rest k l ∙ e) ∙ sym (ap (λ z. z % q) (ap (λ z. w * (z + (2 * q - get_or ys k 0))) f ∙ ap (λ z. w * (0 + (2 * q - z))) e ∙ turn w q) ∙ add-mul-mod_self_left 0 q (2 * w))
]
  where
    turn : (w q : ℕ) → w * (0 + (2 * q - 0)) ≡ 0 + q * (2 * w)
    turn w q = let e : 0 + (2 * q - 0) ≡ 2 * q = omega arith in ap (λ z. w * z) e ∙ flip w q
      where
        flip : (w q : ℕ) → w * (2 * q) ≡ 0 + q * (2 * w)
        flip w q = omega arith
