-- One level of the transforms, as the functions take it.
use Rattle.std.proofs.Common.{◌≡◌, ℕ, zero, suc, ◌+◌, ◌-◌, ◌*◌, ◌%◌, ◌^◌, ◌<◌, ◌≤◌, List, [], ◌∷◌, ◌++◌, length, take, drop, get_or, refl, sym, ◌∙◌, ap, ap₂, subst, arith}
use Rattle.std.proofs.Math.Nat.{pow-succ', mul-le-mul_left}
use Rattle.std.proofs.lemmas.Nat.{pow_pos}
use Rattle.std.proofs.lemmas.List.{take-append-drop, length-take-le, length-drop, get_or_append_left, get_or-append_right}
use Rattle.std.proofs.lemmas.Bool.{cases_lt}
use Rattle.std.proofs.Common.{inl, inr}
use Rattle.two_power.specs.Tree.{value, root, IsTree, AreInverses, Combines, AreValues, AreMultiples}
use Rattle.two_power.proofs.Values.{combined, length-combined}
use Rattle.two_power.proofs.Descent.{descended}
use Rattle.two_power.proofs.Ascent.{left_values, right_values, low_multiples, high_multiples}

-- one coefficient is its value
pub leaf_values : (q : ℕ) (ws : List ℕ) (n : ℕ) (a : List ℕ) → length a ≡ 1 → AreValues q ws 0 n a a
leaf_values q ws n [] e j l = absurd (omega arith)
leaf_values q ws n (x ∷ []) e zero l = ap (λ z. z % q) (alone x (root q ws (n * 2 ^ 0 + 0)))
  where
    alone : (x r : ℕ) → x ≡ x + r * 0
    alone x r = omega arith
leaf_values q ws n (x ∷ []) e (suc j) l = absurd (omega arith)
leaf_values q ws n (x ∷ y ∷ a) e j l = absurd (omega arith)

pub leaf_multiples : (q : ℕ) (ws : List ℕ) (n : ℕ) (p a : List ℕ) → length a ≡ 1 → length p ≡ 1 → AreValues q ws 0 n p a → AreMultiples q (2 ^ 0) p a
leaf_multiples q ws n p [] e f h i = absurd (omega arith)
leaf_multiples q ws n [] (x ∷ []) e f h i = absurd (omega arith)
leaf_multiples q ws n (y ∷ []) (x ∷ []) e f h zero = h 0 (omega arith) ∙ ap (λ z. z % q) (alone y (root q ws (n * 2 ^ 0 + 0)))
  where
    alone : (x r : ℕ) → x + r * 0 ≡ 1 * x
    alone x r = omega arith
leaf_multiples q ws n (y ∷ []) (x ∷ []) e f h (suc i) = refl
leaf_multiples q ws n (y ∷ z ∷ p) (x ∷ []) e f h i = absurd (omega arith)
leaf_multiples q ws n p (x ∷ y ∷ a) e f h i = absurd (omega arith)

-- where a node and its children stand in the list
pub node_inside : (levels l n size : ℕ) → levels ≡ suc l → (n + 1) * 2 ^ levels ≤ 2 * size → n < size
node_inside levels l n size e f = go (2 ^ l) (2 ^ levels) (pow_pos l) (ap (λ z. 2 ^ z) e ∙ pow-succ' 2 l) f
  where
    go : (p p' : ℕ) → 0 < p → p' ≡ 2 * p → (n + 1) * p' ≤ 2 * size → n < size
    go p p' some e f = let k : n * 1 ≤ n * p = mul-le-mul_left n (omega arith) in omega (arith, ap (λ z. n * z) e, k)

pub left_inside : (levels l n size : ℕ) → levels ≡ suc l → (n + 1) * 2 ^ levels ≤ 2 * size → (2 * n + 1) * 2 ^ l ≤ 2 * size
left_inside levels l n size e f = go (2 ^ l) (2 ^ levels) (ap (λ z. 2 ^ z) e ∙ pow-succ' 2 l) f
  where
    go : (p p' : ℕ) → p' ≡ 2 * p → (n + 1) * p' ≤ 2 * size → (2 * n + 1) * p ≤ 2 * size
    go p p' e f = omega (arith, ap (λ z. n * z) e)

pub right_inside : (levels l n size : ℕ) → levels ≡ suc l → (n + 1) * 2 ^ levels ≤ 2 * size → (2 * n + 1 + 1) * 2 ^ l ≤ 2 * size
right_inside levels l n size e f = go (2 ^ l) (2 ^ levels) (ap (λ z. 2 ^ z) e ∙ pow-succ' 2 l) f
  where
    go : (p p' : ℕ) → p' ≡ 2 * p → (n + 1) * p' ≤ 2 * size → (2 * n + 1 + 1) * p ≤ 2 * size
    go p p' e f = omega (arith, ap (λ z. n * z) e)

-- a row and its halves
pub record AreHalves (levels : ℕ) (a xs ys : List ℕ) : Type 0 where
  pub low_long : length xs ≡ 2 ^ levels
  pub high_long : length ys ≡ 2 ^ levels
  pub whole : xs ++ ys ≡ a

pub halves_of : (levels l h : ℕ) (a xs ys : List ℕ) → levels ≡ suc l → length a ≡ 2 ^ levels → h ≡ 2 ^ l → xs ≡ take h a → ys ≡ drop h a → AreHalves l a xs ys
halves_of levels l h a xs ys d e f g k = record {
  low_long = ap length g ∙ length-take-le h a (omega (arith, twice)) ∙ f;
  high_long = ap length k ∙ length-drop h a ∙ omega (arith, twice);
  whole = ap₂ (λ y z. y ++ z) g k ∙ take-append-drop h a;
}
  where
    twice : length a ≡ 2 * 2 ^ l
    twice = e ∙ ap (λ z. 2 ^ z) d ∙ pow-succ' 2 l

one_down : (q : ℕ) (ws : List ℕ) → IsTree q ws → (l n : ℕ) (a xs ys us vs ss ts : List ℕ) → (n + 1) * 2 ^ suc l ≤ 2 * length ws → AreHalves l a xs ys → length us ≡ length xs → length vs ≡ length ys → length ss ≡ length us → Combines q (get_or ws n 0) xs ys us → Combines q (q - get_or ws n 0) xs ys vs → AreValues q ws l (2 * n) us ss → AreValues q ws l (2 * n + 1) vs ts → AreValues q ws (suc l) n a (ss ++ ts)
one_down q ws T l n a xs ys us vs ss ts fits H eu ev es f g left right = subst (λ z. AreValues q ws (suc l) n z (ss ++ ts)) H.whole (descended q ws T l n fits xs ys us vs ss ts H.low_long H.high_long (eu ∙ H.low_long) (ev ∙ H.high_long) (es ∙ eu ∙ H.low_long) f g left right)

pub step_down : (q : ℕ) (ws : List ℕ) → IsTree q ws → (levels l n : ℕ) (a xs ys us vs ss ts : List ℕ) → levels ≡ suc l → (n + 1) * 2 ^ levels ≤ 2 * length ws → AreHalves l a xs ys → length us ≡ length xs → length vs ≡ length ys → length ss ≡ length us → Combines q (get_or ws n 0) xs ys us → Combines q (q - get_or ws n 0) xs ys vs → AreValues q ws l (2 * n) us ss → AreValues q ws l (2 * n + 1) vs ts → AreValues q ws levels n a (ss ++ ts)
step_down q ws T levels l n a xs ys us vs ss ts e fits H eu ev es f g left right = subst (λ z. AreValues q ws z n a (ss ++ ts)) (sym e) (one_down q ws T l n a xs ys us vs ss ts (subst (λ z. (n + 1) * 2 ^ z ≤ 2 * length ws) e fits) H eu ev es f g left right)

-- xs, ys are the values, us, vs what comes back from the children, and ss, ts the result
one_up : (q : ℕ) → 0 < q → (ws is : List ℕ) → IsTree q ws → AreInverses q ws is → (l n : ℕ) (a xs ys us vs ss ts : List ℕ) → (n + 1) * 2 ^ suc l ≤ 2 * length ws → n < length ws → AreHalves l a xs ys → length us ≡ length xs → length ss ≡ length us → length ts ≡ length us
    → ((p : List ℕ) → length p ≡ 2 ^ l → AreValues q ws l (2 * n) p xs → AreMultiples q (2 ^ l) p us)
    → ((p : List ℕ) → length p ≡ 2 ^ l → AreValues q ws l (2 * n + 1) p ys → AreMultiples q (2 ^ l) p vs)
    → ((i : ℕ) → get_or vs i 0 < 2 * q)
    → ((i : ℕ) → get_or ss i 0 % q ≡ (get_or us i 0 + get_or vs i 0) % q)
    → ((i : ℕ) → get_or ts i 0 % q ≡ (get_or is n 0 * (get_or us i 0 + (2 * q - get_or vs i 0))) % q)
    → (p : List ℕ) → length p ≡ 2 ^ suc l → AreValues q ws (suc l) n p a → AreMultiples q (2 ^ suc l) p (ss ++ ts)
one_up q on ws is T I l n a xs ys us vs ss ts fits n_in H eu es et left right vs_in low high p long h i = elim (cases_lt i (length ss)) [
  | inl m ↦
      ap (λ z. z % q) (get_or_append_left ss ts 0 i m) ∙ low i ∙ low_multiples q on w v w_in one (2 ^ l) ps rs us vs same lefts rights i ∙ ap (λ z. (z * get_or ps i 0) % q) (sym (pow-succ' 2 l))
      ∙ ap (λ z. (2 ^ suc l * z) % q) (sym (get_or_append_left ps rs 0 i (omega (arith, P.low_long, H.low_long, eu, es, m))) ∙ ap (λ z. get_or z i 0) P.whole)
  | inr m ↦
      ap (λ z. z % q) (get_or-append_right ss ts (length ss) i 0 refl m) ∙ high (i - length ss) ∙ high_multiples q on w v w_in one (2 ^ l) ps rs us vs same lefts rights (i - length ss) (vs_in (i - length ss)) ∙ ap (λ z. (z * get_or rs (i - length ss) 0) % q) (sym (pow-succ' 2 l))
      ∙ ap (λ z. (2 ^ suc l * z) % q) (sym (get_or-append_right ps rs (length ss) i 0 (P.low_long ∙ sym (es ∙ eu ∙ H.low_long)) m) ∙ ap (λ z. get_or z i 0) P.whole)
]
  where
    w : ℕ
    w = get_or ws n 0

    v : ℕ
    v = get_or is n 0

    ps : List ℕ
    ps = take (2 ^ l) p

    rs : List ℕ
    rs = drop (2 ^ l) p

    P : AreHalves l p ps rs
    P = halves_of (suc l) l (2 ^ l) p ps rs refl long refl refl refl

    w_in : w < q
    w_in = T.below n n_in

    one : (w * v) % q ≡ 1 % q
    one = I.one n n_in

    same : length ps ≡ length rs
    same = P.low_long ∙ sym P.high_long

    whole : AreValues q ws (suc l) n (ps ++ rs) (xs ++ ys)
    whole j k = ap (λ z. get_or z j 0 % q) H.whole ∙ h j k ∙ ap (λ z. value z (root q ws (n * 2 ^ suc l + j)) % q) (sym P.whole)

    lefts : AreMultiples q (2 ^ l) (combined w ps rs) us
    lefts = left (combined w ps rs) (length-combined w ps rs same ∙ P.low_long) (left_values q ws T l n fits ps rs xs ys P.low_long P.high_long H.low_long whole)

    rights : AreMultiples q (2 ^ l) (combined (q - w) ps rs) vs
    rights = right (combined (q - w) ps rs) (length-combined (q - w) ps rs same ∙ P.low_long) (right_values q ws T l n fits ps rs xs ys P.low_long P.high_long H.low_long whole)

pub step_up : (q : ℕ) → 0 < q → (ws is : List ℕ) → IsTree q ws → AreInverses q ws is → (levels l n : ℕ) (a xs ys us vs ss ts : List ℕ) → levels ≡ suc l → (n + 1) * 2 ^ levels ≤ 2 * length is → AreHalves l a xs ys → length us ≡ length xs → length ss ≡ length us → length ts ≡ length us
    → ((p : List ℕ) → length p ≡ 2 ^ l → AreValues q ws l (2 * n) p xs → AreMultiples q (2 ^ l) p us)
    → ((p : List ℕ) → length p ≡ 2 ^ l → AreValues q ws l (2 * n + 1) p ys → AreMultiples q (2 ^ l) p vs)
    → ((i : ℕ) → get_or vs i 0 < 2 * q)
    → ((i : ℕ) → get_or ss i 0 % q ≡ (get_or us i 0 + get_or vs i 0) % q)
    → ((i : ℕ) → get_or ts i 0 % q ≡ (get_or is n 0 * (get_or us i 0 + (2 * q - get_or vs i 0))) % q)
    → (p : List ℕ) → length p ≡ 2 ^ levels → AreValues q ws levels n p a → AreMultiples q (2 ^ levels) p (ss ++ ts)
step_up q on ws is T I levels l n a xs ys us vs ss ts e fits H eu es et left right vs_in low high p long h =
    subst (λ z. AreMultiples q (2 ^ z) p (ss ++ ts)) (sym e) (one_up q on ws is T I l n a xs ys us vs ss ts (subst (λ z. (n + 1) * 2 ^ z ≤ 2 * length ws) e fitting) (omega (arith, I.long, node_inside levels l n (length is) e fits)) H eu es et left right vs_in low high p (subst (λ z. length p ≡ 2 ^ z) e long) (subst (λ z. AreValues q ws z n p a) e h))
  where
    fitting : (n + 1) * 2 ^ levels ≤ 2 * length ws
    fitting = omega (arith, I.long, fits)
