-- What the links are after one node was made to follow another.
use Rattle.std.proofs.Common.{◌≡◌, ◌≢◌, ℕ, ◌<◌, List, length, set, inl, inr, sym, ap, subst, ◌∙◌, arith, length-set}
use Rattle.std.proofs.lemmas.Bool.{cases_eq}
use Rattle.std.proofs.lemmas.List.{get_or-set_same, get_or-set_other}
use Rattle.use_chain.specs.declared.Node.{Node}
use Rattle.use_chain.specs.Rings.{node_at, next_of, prev_of, linked}

-- these links differ in that b follows a
pub record Relinks (f g f' g' : ℕ → ℕ) (a b : ℕ) : Type 0 where
  pub ahead : f' a ≡ b
  pub back : g' b ≡ a
  pub other_ahead : (k : ℕ) → k ≢ a → f' k ≡ f k
  pub other_back : (k : ℕ) → k ≢ b → g' k ≡ g k

-- one write of `next`
next-write : (ns : List Node) (a b : ℕ) → a < length ns → next_of (set ns a (record (node_at ns a) { next = b })) a ≡ b
next-write ns a b h = ap (λ (n : Node). n.next) (get_or-set_same ns a (record (node_at ns a) { next = b }) (record { next = 0; prev = 0 }) h)

next-write_other : (ns : List Node) (a b k : ℕ) → k ≢ a → next_of (set ns a (record (node_at ns a) { next = b })) k ≡ next_of ns k
next-write_other ns a b k h = ap (λ (n : Node). n.next) (get_or-set_other ns a k (record (node_at ns a) { next = b }) (record { next = 0; prev = 0 }) h)

prev-write_next : (ns : List Node) (a b k : ℕ) → a < length ns → prev_of (set ns a (record (node_at ns a) { next = b })) k ≡ prev_of ns k
prev-write_next ns a b k h =
    elim (cases_eq k a) [
      | inl e ↦ subst (λ j. prev_of (set ns a (record (node_at ns a) { next = b })) j ≡ prev_of ns j) (sym e) (ap (λ (n : Node). n.prev) (get_or-set_same ns a (record (node_at ns a) { next = b }) (record { next = 0; prev = 0 }) h))
      | inr ne ↦ ap (λ (n : Node). n.prev) (get_or-set_other ns a k (record (node_at ns a) { next = b }) (record { next = 0; prev = 0 }) ne)
    ]

-- one write of `prev`
prev-write : (ns : List Node) (b a : ℕ) → b < length ns → prev_of (set ns b (record (node_at ns b) { prev = a })) b ≡ a
prev-write ns b a h = ap (λ (n : Node). n.prev) (get_or-set_same ns b (record (node_at ns b) { prev = a }) (record { next = 0; prev = 0 }) h)

prev-write_other : (ns : List Node) (b a k : ℕ) → k ≢ b → prev_of (set ns b (record (node_at ns b) { prev = a })) k ≡ prev_of ns k
prev-write_other ns b a k h = ap (λ (n : Node). n.prev) (get_or-set_other ns b k (record (node_at ns b) { prev = a }) (record { next = 0; prev = 0 }) h)

next-write_prev : (ns : List Node) (b a k : ℕ) → b < length ns → next_of (set ns b (record (node_at ns b) { prev = a })) k ≡ next_of ns k
next-write_prev ns b a k h =
    elim (cases_eq k b) [
      | inl e ↦ subst (λ j. next_of (set ns b (record (node_at ns b) { prev = a })) j ≡ next_of ns j) (sym e) (ap (λ (n : Node). n.next) (get_or-set_same ns b (record (node_at ns b) { prev = a }) (record { next = 0; prev = 0 }) h))
      | inr ne ↦ ap (λ (n : Node). n.next) (get_or-set_other ns b k (record (node_at ns b) { prev = a }) (record { next = 0; prev = 0 }) ne)
    ]

pub linked_relinks : (ns : List Node) (a b : ℕ) → a < length ns → b < length ns → Relinks (next_of ns) (prev_of ns) (next_of (linked ns a b)) (prev_of (linked ns a b)) a b
unfolding linked
linked_relinks ns a b ha hb =
    let ahead = set ns a (record (node_at ns a) { next = b }) in
    let hb' : b < length ahead = omega (arith, length-set ns a (record (node_at ns a) { next = b })) in
    record {
      ahead = next-write_prev ahead b a a hb' ∙ next-write ns a b ha;
      back = prev-write ahead b a hb';
      other_ahead = λ k ne. next-write_prev ahead b a k hb' ∙ next-write_other ns a b k ne;
      other_back = λ k ne. prev-write_other ahead b a k ne ∙ prev-write_next ns a b k ha;
    }

pub length-linked : (ns : List Node) (a b : ℕ) → length (linked ns a b) ≡ length ns
unfolding linked
length-linked ns a b =
    let ahead = set ns a (record (node_at ns a) { next = b }) in
    length-set ahead b (record (node_at ahead b) { prev = a }) ∙ length-set ns a (record (node_at ns a) { next = b })
