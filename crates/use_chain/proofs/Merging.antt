-- The loop that moves the nodes of one list into another.
use Rattle.std.proofs.Common.{◌≡◌, ◌≢◌, ℕ, suc, ◌+◌, ◌<◌, ◌≤◌, List, [], ◌∷◌, ◌++◌, length, set, inl, inr, refl, sym, ap, subst, ◌∙◌, arith, length-set, append_assoc}
use Rattle.std.proofs.lemmas.Bool.{cases_eq, cond_below, cond_above}
use Rattle.std.proofs.lemmas.List.{get_or-set_same, get_or-set_other, set-set, set_comm, set-get_or}
use Rattle.use_chain.specs.declared.Node.{Node}
use Rattle.use_chain.specs.Uses.{list_of, in_order, merged, replaced}
use Rattle.use_chain.specs.Rings.{next_of, prev_of, taken_out, put_before, Path, Rising, IsIn, Holds}
use Rattle.use_chain.proofs.Paths.{IsIn-append_right, rising_low, rising_high, rising_right, rising_before, rising_after, rising_join, head_or, head_or_cases, path_on, path_first}
use Rattle.use_chain.proofs.RingLemmas.{holds_taken, holds_put}

-- Some nodes of `from` were moved. The list of `into` is `before ++ after`, `at` leads on from `before`,
-- and each node of `before` is below the first node that `from` still has.
pub record IsMerging (places from into : ℕ) (start uses : List (List ℕ)) (nodes : List Node) (at node : ℕ) : Type 0 where
  pub holds : Holds places nodes uses
  pub values : length uses ≡ length start
  pub left : replaced uses from into ≡ replaced start from into
  pub next_node : node ≡ next_of nodes (places + from)
  pub before : List ℕ
  pub after : List ℕ
  pub split : list_of uses into ≡ before ++ after
  pub next_at : at ≡ head_or (places + into) after
  pub passed : Rising 0 before node

-- a list whose first element is k
head_split : (z k places : ℕ) (ks : List ℕ) → head_or z ks ≡ k → k < places → places ≤ z → (rest : List ℕ) × (ks ≡ k ∷ rest)
head_split z k places [] e hk hz = absurd (omega (arith, e))
head_split z k places (j ∷ js) e hk hz = (js, ap (λ i. i ∷ js) e)

head_none : (z k places : ℕ) (ks : List ℕ) → head_or z ks ≡ k → places ≤ k → Rising 0 ks places → ks ≡ []
head_none z k places [] e hk r = refl
head_none z k places (j ∷ js) e hk r = absurd (omega (arith, e, r.1))

-- where a ring leads from its head
head_leads : (places : ℕ) (ns : List Node) (uses : List (List ℕ)) (v : ℕ) → Holds places ns uses → v < length uses → next_of ns (places + v) ≡ head_or (places + v) (list_of uses v)
head_leads places ns uses v h hv = path_first (next_of ns) (prev_of ns) (places + v) (places + v) (list_of uses v) (h.rings.ring v hv)

-- the head of what follows is above what comes before it
head_above : (places k z : ℕ) (ks : List ℕ) → k < places → places ≤ z → Rising (suc k) ks places → k < head_or z ks
head_above places k z [] hk hz r = omega arith
head_above places k z (j ∷ js) hk hz r = omega (arith, r.0)

-- a node goes to its place
in_order_is : (low high node : ℕ) (l r : List ℕ) → Rising low l node → Rising (suc node) r high → in_order (l ++ r) node ≡ l ++ node ∷ r
unfolding in_order
in_order_is low high node [] [] a b = refl
in_order_is low high node [] (k ∷ ks) a b = sym (cond_below node k (node ∷ k ∷ ks) (k ∷ in_order ks node) (omega (arith, b.0)))
in_order_is low high node (k ∷ l) r a b =
    sym (cond_above node k (node ∷ k ∷ (l ++ r)) (k ∷ in_order (l ++ r) node) (k ∷ in_order (l ++ r) node) (omega (arith, a.1)) refl)
    ∙ ap (λ t. k ∷ t) (in_order_is (suc k) high node l r a.2 b)

merged_step : (node : ℕ) (rest into : List ℕ) → merged (node ∷ rest) into ≡ merged rest (in_order into node)
unfolding merged
merged_step node rest into = refl

merged_none : (into : List ℕ) → merged [] into ≡ into
unfolding merged
merged_none into = refl

-- the answer is the same before and after one node was moved
replaced_step : (uses : List (List ℕ)) (from into node : ℕ) (rest l r : List ℕ) → from ≢ into → from < length uses → into < length uses → list_of uses from ≡ node ∷ rest → list_of uses into ≡ l ++ r → in_order (l ++ r) node ≡ l ++ node ∷ r → replaced (set (set uses from rest) into (l ++ node ∷ r)) from into ≡ replaced uses from into
replaced_step uses from into node rest l r ne hf hi was_from was_into placed =
    let one = set uses from rest in
    let two = set one into (l ++ node ∷ r) in
    let from_list : list_of two from ≡ rest = get_or-set_other one into from (l ++ node ∷ r) [] ne ∙ get_or-set_same uses from rest [] hf in
    let into_list : list_of two into ≡ l ++ node ∷ r = get_or-set_same one into (l ++ node ∷ r) [] (omega (arith, length-set uses from rest)) in
    let sum : merged (list_of two from) (list_of two into) ≡ merged (list_of uses from) (list_of uses into) =
    ap (λ t. merged t (list_of two into)) from_list ∙ ap (merged rest) into_list ∙ ap (merged rest) (sym placed)
    ∙ sym (merged_step node rest (l ++ r)) ∙ ap (λ t. merged t (l ++ r)) (sym was_from) ∙ ap (merged (list_of uses from)) (sym was_into) in
    let emptied : set two from [] ≡ set (set uses from []) into (l ++ node ∷ r) =
    set_comm one into from (l ++ node ∷ r) [] (λ e. ne (sym e)) ∙ ap (λ t. set t into (l ++ node ∷ r)) (set-set uses from rest []) in
    ap (set (set two from []) into) sum
    ∙ ap (λ t. set t into (merged (list_of uses from) (list_of uses into))) emptied
    ∙ set-set (set uses from []) into (l ++ node ∷ r) (merged (list_of uses from) (list_of uses into))

-- ---- the loop

pub merging_starts : (places from into : ℕ) (uses : List (List ℕ)) (ns : List Node) (at node : ℕ) → Holds places ns uses → into < length uses → at ≡ next_of ns (places + into) → node ≡ next_of ns (places + from) → IsMerging places from into uses uses ns at node
merging_starts places from into uses ns at node h hi e f = record {
  holds = h;
  values = refl;
  left = refl;
  next_node = f;
  before = [];
  after = list_of uses into;
  split = refl;
  next_at = e ∙ head_leads places ns uses into h hi;
  passed = tt;
}

-- `at` goes on
pub merging_passes : (places from into : ℕ) (start uses : List (List ℕ)) (ns : List Node) (at node : ℕ) → into < length start → at < node → node < places → IsMerging places from into start uses ns at node → (at < next_of ns at) × IsMerging places from into start uses ns (next_of ns at) node
merging_passes places from into start uses ns at node hi passes hn m =
    let head = places + into in
    let s = head_split head at places m.after (sym m.next_at) (omega arith) (omega arith) in
    let is : list_of uses into ≡ m.before ++ at ∷ s.0 = m.split ∙ ap (λ t. m.before ++ t) s.1 in
    let ring = subst (λ ks. Path (next_of ns) (prev_of ns) head ks head) is (m.holds.rings.ring into (omega (arith, m.values))) in
    let rise = subst (λ ks. Rising 0 ks places) is (m.holds.rings.rising into) in
    let leads = path_first (next_of ns) (prev_of ns) at head s.0 (path_on (next_of ns) (prev_of ns) head at head m.before s.0 ring) in
    let above = head_above places at head s.0 (omega arith) (omega arith) (rising_after 0 places at m.before s.0 rise) in (
      omega (arith, leads, above),
      record {
        holds = m.holds;
        values = m.values;
        left = m.left;
        next_node = m.next_node;
        before = m.before ++ at ∷ [];
        after = s.0;
        split = is ∙ sym (append_assoc m.before (at ∷ []) s.0);
        next_at = leads;
        passed = rising_join 0 at node m.before (at ∷ []) (omega arith) (omega arith) (rising_before 0 places at m.before s.0 rise) (omega arith, passes, tt);
      },
    )

-- what follows `at` is above a node that is not above `at`
after_above : (places head at node : ℕ) (before after : List ℕ) → at ≡ head_or head after → Rising 0 (before ++ after) places → node ≤ at → (IsIn node after → ⊥) → Rising (suc node) after places
after_above places head at node before [] e r le out = tt
after_above places head at node before (k ∷ ks) e r le out =
    let right = rising_right 0 places before (k ∷ ks) r in
    let apart : node ≢ k = λ same. out (inl same) in
    (omega (arith, e, le, apart), right.1, right.2)

-- a node is moved before `at`
pub merging_moves : (places from into : ℕ) (start uses : List (List ℕ)) (ns : List Node) (at node : ℕ) → from ≢ into → from < length start → into < length start → node ≤ at → node < places → IsMerging places from into start uses ns at node
    → (uses' : List (List ℕ)) × (node < next_of (put_before (taken_out ns node) at node) (places + from)) × IsMerging places from into start uses' (put_before (taken_out ns node) at node) at (next_of (put_before (taken_out ns node) at node) (places + from))
merging_moves places from into start uses ns at node ne hf hi stays hn m =
    let head = places + into in
    let f_within : from < length uses = omega (arith, m.values) in
    let i_within : into < length uses = omega (arith, m.values) in
    let s = head_split (places + from) node places (list_of uses from) (sym (head_leads places ns uses from m.holds f_within) ∙ sym m.next_node) hn (omega arith) in
    let rest = s.0 in
    let rise_from = subst (λ ks. Rising 0 ks places) s.1 (m.holds.rings.rising from) in
    let one = set uses from rest in
    let ns₁ = taken_out ns node in
    let holds₁ : Holds places ns₁ one = holds_taken places ns uses from node [] rest m.holds f_within s.1 in
    let in_from : IsIn node (list_of uses from) = subst (IsIn node) (sym s.1) (inl refl) in
    let fresh : (u : ℕ) → IsIn node (list_of one u) → ⊥ = λ u i. elim (cases_eq u from) [
      | inl e ↦ omega (arith, rising_low (suc node) places node rest rise_from.2 (subst (IsIn node) (get_or-set_same uses from rest [] f_within) (subst (λ w. IsIn node (list_of one w)) e i)))
      | inr other ↦ other (m.holds.rings.apart u from node (subst (IsIn node) (get_or-set_other uses from u rest [] other) i) in_from)
    ] in
    let not_there : IsIn node m.after → ⊥ = λ i. ne (m.holds.rings.apart from into node in_from (subst (IsIn node) (sym m.split) (IsIn-append_right node m.before m.after i))) in
    let rise_after : Rising (suc node) m.after places = after_above places head at node m.before m.after m.next_at (subst (λ ks. Rising 0 ks places) m.split (m.holds.rings.rising into)) stays not_there in
    let rise : Rising 0 (m.before ++ node ∷ m.after) places = rising_join 0 node places m.before (node ∷ m.after) (omega arith) (omega arith) m.passed (omega arith, hn, rise_after) in
    let into_is : list_of one into ≡ m.before ++ m.after = get_or-set_other uses from into rest [] (λ e. ne (sym e)) ∙ m.split in
    let two = set one into (m.before ++ node ∷ m.after) in
    let ns₂ = put_before ns₁ at node in
    let holds₂ : Holds places ns₂ two = holds_put places ns₁ one into node at m.before m.after holds₁ (omega (arith, length-set uses from rest)) hn into_is m.next_at rise fresh in
    let from_list : list_of two from ≡ rest = get_or-set_other one into from (m.before ++ node ∷ m.after) [] ne ∙ get_or-set_same uses from rest [] f_within in
    let sizes : length two ≡ length uses = length-set one into (m.before ++ node ∷ m.after) ∙ length-set uses from rest in
    let leads : next_of ns₂ (places + from) ≡ head_or (places + from) rest = head_leads places ns₂ two from holds₂ (omega (arith, sizes)) ∙ ap (head_or (places + from)) from_list in
    let above = head_above places node (places + from) rest hn (omega arith) rise_from.2 in
    let next_above : node < next_of ns₂ (places + from) = omega (arith, leads, above) in (
      two,
      next_above,
      record {
        holds = holds₂;
        values = sizes ∙ m.values;
        left = replaced_step uses from into node rest m.before m.after ne f_within i_within s.1 m.split (in_order_is 0 places node m.before m.after m.passed rise_after) ∙ m.left;
        next_node = refl;
        before = m.before ++ node ∷ [];
        after = m.after;
        split = get_or-set_same one into (m.before ++ node ∷ m.after) [] (omega (arith, length-set uses from rest)) ∙ sym (append_assoc m.before (node ∷ []) m.after);
        next_at = m.next_at;
        passed = rising_join 0 node (next_of ns₂ (places + from)) m.before (node ∷ []) (omega arith) (omega (arith, next_above)) m.passed (omega arith, next_above, tt);
      },
    )

-- the nodes that a move reads are there
pub merging_room : (places from into : ℕ) (start uses : List (List ℕ)) (ns : List Node) (at node : ℕ) → from < length start → into < length start → node < places → IsMerging places from into start uses ns at node
    → (at < length (taken_out ns node)) × (prev_of (taken_out ns node) at < length (taken_out ns node)) × (length (taken_out ns node) ≡ length ns)
merging_room places from into start uses ns at node hf hi hn m =
    let f_within : from < length uses = omega (arith, m.values) in
    let s = head_split (places + from) node places (list_of uses from) (sym (head_leads places ns uses from m.holds f_within) ∙ sym m.next_node) hn (omega arith) in
    let taken = holds_taken places ns uses from node [] s.0 m.holds f_within s.1 in
    let size : length (taken_out ns node) ≡ length ns = omega (arith, taken.size, m.holds.size, length-set uses from s.0) in
    let within : at < length (taken_out ns node) = elim (head_or_cases (places + into) m.after) [
      | inl e ↦ omega (arith, size, m.next_at, e, m.holds.size, m.values)
      | inr i ↦ omega (arith, size, m.next_at, m.holds.size, rising_high 0 places (head_or (places + into) m.after) (list_of uses into) (m.holds.rings.rising into) (subst (IsIn (head_or (places + into) m.after)) (sym m.split) (IsIn-append_right (head_or (places + into) m.after) m.before m.after i)))
    ] in
    (within, (taken.inside at within).1, size)

-- nothing is left to move
pub merging_ends : (places from into : ℕ) (start uses : List (List ℕ)) (ns : List Node) (at node : ℕ) → from < length start → places ≤ node → IsMerging places from into start uses ns at node → uses ≡ replaced start from into
merging_ends places from into start uses ns at node hf hn m =
    let none : list_of uses from ≡ [] = head_none (places + from) node places (list_of uses from) (sym (head_leads places ns uses from m.holds (omega (arith, m.values))) ∙ sym m.next_node) hn (m.holds.rings.rising from) in
    let emptied : set uses from [] ≡ uses = ap (set uses from) (sym none) ∙ set-get_or uses from [] in
    let sum : merged (list_of uses from) (list_of uses into) ≡ list_of uses into = ap (λ t. merged t (list_of uses into)) none ∙ merged_none (list_of uses into) in
    let is : replaced uses from into ≡ uses = ap (λ t. set t into (merged (list_of uses from) (list_of uses into))) emptied ∙ ap (set uses into) sum ∙ set-get_or uses into [] in
    sym is ∙ m.left
