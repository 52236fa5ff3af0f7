-- What the loops of a table keep, and the bound of a drop.
use Rattle.std.proofs.Common.{lit≤, ◌≡◌, ℕ, suc, ◌+◌, ◌-◌, ◌*◌, ◌%◌, ◌<◌, ◌≤◌, inl, inr, List, [], ◌∷◌, ◌++◌, length, length-append, get_or, take, drop, fold, map, add-one, refl, sym, ap, subst, ◌∙◌, arith, min, nat_abs}
use Rattle.std.proofs.Math.Nat.{mul-le-mul_left}
use Rattle.std.proofs.Math.Seq.{get_or-append_seam}
use Rattle.std.proofs.Math.ListN.{get_or-append}
use Rattle.std.proofs.lemmas.List.{take_min, drop_min, get_or_default}
use Rattle.std.proofs.lemmas.List.Sums.{fold_more}
use Rattle.std.specs.Int.{div_ceil}
use Rattle.noise_bound.specs.Groups.{groups}
use Rattle.noise_bound.specs.Machine.{Sizes, product_up, product_down, group_added, groups_added, balanced, divided, settled, modulus_of, limit, switched, dropped}
use Rattle.noise_bound.specs.declared.rounding.Bound.{Bound}
use Rattle.noise_bound.specs.Rounding.{IsFloating, up, down, plus, times, over, ratio, scale_down, half_over}
use Rattle.noise_bound.specs.declared.table.BoundTable.TheInside.{Inside}
use Rattle.noise_bound.specs.Table.{HoldsBoundsOf, IsTable}
use Rattle.noise_bound.specs.Value.{value, IsBoundOf, AreBounds}
use Rattle.noise_bound.proofs.BalancedLaws.{abs-balanced}
use Rattle.noise_bound.proofs.GroupLaws.{fold-groups}
use Rattle.noise_bound.proofs.RoundingLaws.{IsDown-down, IsFloating-small, up-le, div_ceil_le, le_or_above}
use Rattle.noise_bound.proofs.Steps.{above_by_power}

-- a number above 0 is rounded down to one above 0
pub down_pos : (x : ℕ) → 0 < x → 0 < down x
down_pos x some = (IsDown-down x).greatest 1 (IsFloating-small 1 (lit≤ tt)) some

pub AreBounds-push : (f : ℕ → ℕ) (bs : List Bound) (b : Bound) → AreBounds f bs → IsBoundOf b (f (length bs)) → AreBounds f (bs ++ b ∷ [])
AreBounds-push f bs b all last i d in_range is =
    elim (le_or_above (length bs) i) [
      | inl at_end ↦
          let same : i ≡ length bs = omega (arith, in_range, length-append bs (b ∷ [])) in
          let value_there : d ≡ b = is ∙ ap (λ k. get_or (bs ++ b ∷ []) k d) same ∙ get_or-append_seam bs b [] d in
          subst (λ k. IsBoundOf d (f k)) (sym same) (subst (λ z. IsBoundOf z (f (length bs))) (sym value_there) last)
      | inr before ↦ all i d before (is ∙ get_or-append bs (b ∷ []) d i before)
    ]

-- a factor that is no larger than the modulus makes no number larger
pub over_le : (a factor modulus : ℕ) → IsFloating a → 0 < modulus → factor ≤ modulus → up (div_ceil (a * factor) modulus) ≤ a
over_le a factor modulus f pos small =
    up-le (div_ceil (a * factor) modulus) a f (div_ceil_le (a * factor) modulus a pos (mul-le-mul_left a small))

-- a bound that is no larger has no larger exponent
pub exp_mono : (a b : Bound) → value a ≤ value b → a.exp ≤ b.exp
exp_mono a b h =
    elim (le_or_above a.exp b.exp) [
      | inl small ↦ small
      | inr large ↦ absurd (omega (arith, above_by_power a.man a.exp b.man b.exp b.fits a.normal large, h))
    ]

pub exp_of_over : (a b : Bound) (factor modulus : ℕ) → value a ≡ over (value b) factor modulus → 0 < modulus → factor ≤ modulus → a.exp ≤ b.exp
exp_of_over a b factor modulus is pos small =
    let least = over_le (value b) factor modulus (record { man = b.man; exp = b.exp; fits = b.fits; is = refl }) pos small in
    exp_mono a b (omega (arith, is, least))

-- ---- the loops

pub product_down-more : (qs : List ℕ) (i : ℕ) → i < length qs → product_down (take (suc i) qs) ≡ scale_down (product_down (take i qs)) (get_or qs i 0)
product_down-more qs i in_range = ap (λ k. product_down (take k qs)) (sym (add-one i)) ∙ fold_more scale_down 1 qs i 0 in_range

-- one group of digits on
pub groups_added-more : (k s sum next i : ℕ) (digits qs group later : List ℕ) → i < length digits → 0 < length qs
    → group ≡ take (min (get_or digits i 0) (length qs)) qs → later ≡ drop (min (get_or digits i 0) (length qs)) qs
    → next ≡ plus sum (ratio (times k (product_up group)) s)
    → fold plus next (map (group_added k s) (groups (drop (i + 1) digits) later))
    ≡ fold plus sum (map (group_added k s) (groups (drop i digits) qs))
unfolding group_added
groups_added-more k s sum next i digits qs group later in_range some front back is =
    let size = get_or digits i 0 in
    let g : group ≡ take size qs = front ∙ take_min size qs in
    let l : later ≡ drop size qs = back ∙ drop_min size qs in
    let h = group_added k s in
    ap (λ z. fold plus z (map h (groups (drop (i + 1) digits) later))) (is ∙ ap (λ z. plus sum (h z)) g)
    ∙ ap (λ z. fold plus (plus sum (h (take size qs))) (map h (groups (drop (i + 1) digits) z))) l
    ∙ ap (λ z. fold plus (plus sum (h (take size qs))) (map h (groups (drop z digits) (drop size qs)))) (add-one i)
    ∙ sym (fold-groups plus h sum digits i qs in_range some)

-- no modulus, or no size, is left
pub groups_added-end : (k s sum total : ℕ) (sizes qs : List ℕ) → groups sizes qs ≡ []
    → fold plus sum (map (group_added k s) (groups sizes qs)) ≡ total → sum ≡ total
groups_added-end k s sum total sizes qs none is = sym (ap (λ gs. fold plus sum (map (group_added k s) gs)) none) ∙ is

-- ---- the drop of a modulus

pub dropped_is : (t : Sizes) (level b q m o d r : ℕ) → level < length t.chain → q ≡ get_or t.chain level q → 0 < t.p
    → m ≡ min (q % t.p) (t.p - q % t.p) → o ≡ over b m q → d ≡ divided t → r ≡ plus o d → r ≡ dropped t level b
unfolding dropped
dropped_is t level b q m o d r in_range at some distance first second is =
    let modulus : q ≡ get_or t.chain level 1 = at ∙ get_or_default t.chain level q 1 in_range in
    let absolute : m ≡ nat_abs (balanced t.p q) = distance ∙ sym (abs-balanced t.p q some) in
    is ∙ ap (λ z. plus o z) second ∙ ap (λ z. plus z (divided t)) first
    ∙ ap (λ z. plus (over b z q) (divided t)) absolute
    ∙ ap (λ z. plus (over b (nat_abs (balanced t.p z)) z) (divided t)) modulus

-- ---- a table

-- the bounds of what a table is made from, where its lists are copies
pub IsTable-of_copies : (a : Inside) (chain special digits : List ℕ) → a.chain.items ≡ chain → a.special.items ≡ special → a.digits.items ≡ digits
    → HoldsBoundsOf (record { n = a.n; p = a.p; weight = a.weight; height = a.height; chain = chain; special = special; digits = digits }) a
    → IsTable a
IsTable-of_copies a chain special digits one two three h =
    let sizes : List ℕ → List ℕ → List ℕ → Sizes = λ x y z. record { n = a.n; p = a.p; weight = a.weight; height = a.height; chain = x; special = y; digits = z } in
    subst (λ z. HoldsBoundsOf (sizes a.chain.items a.special.items z) a) (sym three)
    (subst (λ y. HoldsBoundsOf (sizes a.chain.items y digits) a) (sym two)
    (subst (λ x. HoldsBoundsOf (sizes x special digits) a) (sym one) h))

pub limits_are : (t : Sizes) (bs : List Bound) → AreBounds (λ level. half_over (product_down (take (suc level) t.chain)) t.height) bs → AreBounds (limit t) bs
unfolding limit modulus_of
limits_are t bs h = h

pub switches_are : (t : Sizes) (k s : ℕ) (bs : List Bound) → k ≡ up (5 * t.p * t.n * t.n) → s ≡ product_down t.special
    → AreBounds (λ level. groups_added k s t.digits (take (suc level) t.chain)) bs → AreBounds (switched t) bs
unfolding switched
switches_are t k s bs factor special h =
    subst (λ z. AreBounds (λ level. groups_added z (product_down t.special) t.digits (take (suc level) t.chain)) bs) factor
    (subst (λ z. AreBounds (λ level. groups_added k z t.digits (take (suc level) t.chain)) bs) special h)

pub settled_is : (t : Sizes) (d r : ℕ) → d ≡ divided t → r ≡ plus d d → r ≡ settled t
unfolding settled
settled_is t d r at is = is ∙ ap (λ z. plus z z) at
