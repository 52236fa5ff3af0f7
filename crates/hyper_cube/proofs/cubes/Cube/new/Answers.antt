use Rattle.std.proofs.Common.{ℕ, ◌<◌, ◌≤◌, length, subst, sym, ◌∙◌}
use Rattle.std.proofs.lemmas.Result.{err_from_is_err_and}
use Rattle.mod_ring.specs.Zq.{modulus_of}
use Rattle.hyper_cube.specs.Torus.{count}
use Rattle.hyper_cube.specs.Checks.{dimensions_of}
use Rattle.hyper_cube.specs.Tables.{IsListed, wrapped_pair, AreStrides, AreElements}
use Rattle.hyper_cube.specs.Axes.{dimensions_held, strides_held}
use Rattle.hyper_cube.proofs.Axed.{few_slots, few_places}
use Rattle.hyper_cube.proofs.Making.{order_fails, order_holds, pair_sizes, pair_positive, power_fails, powers_below, count_fails, elements_below, places_are, distinct_fails, made_held, made_passes, places_held}
use Rattle.hyper_cube.proofs.cubes.Cube.new.Goals as goal

pub returns-then-power-ne1-clause-refused : goal.returns-then-power-ne1-clause-refused
returns-then-power-ne1-clause-refused c =
    λ _. order_fails c.args.m c.args.p c.args.d c.args.gens.now c.requires (modulus_of c.residues-ring.result) c.residues-ring.ensures c.power.result c.power.ensures c.if-power-ne1.true

pub returns-in-Some-clause-refused : goal.returns-in-Some-clause-refused
returns-in-Some-clause-refused c =
    λ _. power_fails c.args.m c.args.p c.args.d c.args.gens.now c.requires (modulus_of c.residues-ring.result) c.residues-ring.ensures c.in_ok-powers.powers.items c.deref.result.now c.in_ok-powers.ensures c.deref.ensures.value (order_holds c.args.m c.args.p c.args.d c.args.gens.now c.requires (modulus_of c.residues-ring.result) c.residues-ring.ensures c.power.result c.power.ensures c.if-power-ne1.false) c.in-Some.i c.in-Some.ensures.within c.in-Some.ensures.fails c.in-Some.ensures.before

pub counted_slots-requires-clause-sizes : goal.counted_slots-requires-clause-sizes
counted_slots-requires-clause-sizes c =
    pair_sizes c.args.m c.args.p c.args.d c.args.gens.now c.requires

pub returns-in_default-counted_slots-clause-refused : goal.returns-in_default-counted_slots-clause-refused
returns-in_default-counted_slots-clause-refused c =
    λ _. count_fails c.args.m c.args.p c.args.d c.args.gens.now c.requires (modulus_of c.residues-ring.result) c.residues-ring.ensures c.in_ok-powers.powers.items c.deref.result.now c.in_ok-powers.ensures c.deref.ensures.value (order_holds c.args.m c.args.p c.args.d c.args.gens.now c.requires (modulus_of c.residues-ring.result) c.residues-ring.ensures c.power.result c.power.ensures c.if-power-ne1.false) c.in_default.ensures.none c.in_default-counted_slots.ensures.none

pub elements-requires-clause-sizes : goal.elements-requires-clause-sizes
elements-requires-clause-sizes c =
    pair_positive c.args.m c.args.p c.args.d c.args.gens.now c.requires

pub elements-requires-clause-few : goal.elements-requires-clause-few
elements-requires-clause-few c =
    few_slots c.args.m c.args.d (count (dimensions_of c.args.gens.now)) c.requires.m_high c.requires.d_low c.in-Some-counted_slots.ensures.counted

pub places-requires-clause-elements : goal.places-requires-clause-elements
places-requires-clause-elements c =
    let listed = subst (λ ys. (k : ℕ) → k < length c.args.gens.now → IsListed ys (wrapped_pair (modulus_of c.residues-ring.result) c.args.gens.now k)) (c.deref.ensures.value ∙ sym c.deref-3.ensures.value) c.in_default.ensures.none in
    elements_below c.args.m c.args.p c.args.d c.args.gens.now c.requires (modulus_of c.residues-ring.result) c.residues-ring.ensures c.in_ok-powers.powers.items c.deref-3.result.now c.in_ok-powers.ensures c.deref-3.ensures.value (order_holds c.args.m c.args.p c.args.d c.args.gens.now c.requires (modulus_of c.residues-ring.result) c.residues-ring.ensures c.power.result c.power.ensures c.if-power-ne1.false) listed c.in_ok-elements.elements.items c.deref-2.result.now c.in_ok-elements.ensures c.deref-2.ensures.value c.in-Some-counted_slots.ensures.counted

pub places-requires-clause-powers : goal.places-requires-clause-powers
places-requires-clause-powers c =
    powers_below c.args.m c.args.p c.args.d c.args.gens.now c.requires (modulus_of c.residues-ring.result) c.residues-ring.ensures c.in_ok-powers.powers.items c.deref-3.result.now c.in_ok-powers.ensures c.deref-3.ensures.value

pub places-requires-clause-few : goal.places-requires-clause-few
places-requires-clause-few c =
    let listed = subst (λ ys. (k : ℕ) → k < length c.args.gens.now → IsListed ys (wrapped_pair (modulus_of c.residues-ring.result) c.args.gens.now k)) (c.deref.ensures.value ∙ sym c.deref-3.ensures.value) c.in_default.ensures.none in
    subst (λ z. z ≤ 65536) (sym (places_are c.args.m c.args.p c.args.d c.args.gens.now c.requires (modulus_of c.residues-ring.result) c.residues-ring.ensures c.in_ok-powers.powers.items c.deref-3.result.now c.in_ok-powers.ensures c.deref-3.ensures.value (order_holds c.args.m c.args.p c.args.d c.args.gens.now c.requires (modulus_of c.residues-ring.result) c.residues-ring.ensures c.power.result c.power.ensures c.if-power-ne1.false) listed c.in_ok-elements.elements.items c.deref-2.result.now c.in_ok-elements.ensures c.deref-2.ensures.value c.in-Some-counted_slots.ensures.counted)) (few_places c.args.m c.args.d (count (dimensions_of c.args.gens.now)) c.requires.m_high c.requires.d_low c.in-Some-counted_slots.ensures.counted)

pub returns-in_err-places-clause-refused : goal.returns-in_err-places-clause-refused
returns-in_err-places-clause-refused c =
    let listed = subst (λ ys. (k : ℕ) → k < length c.args.gens.now → IsListed ys (wrapped_pair (modulus_of c.residues-ring.result) c.args.gens.now k)) (c.deref.ensures.value ∙ sym c.deref-3.ensures.value) c.in_default.ensures.none in
    let p = err_from_is_err_and c.from_residual-in_err-places.result c.from_residual-in_err-places.ensures.1 in
    rw (p.1, p.2) (λ other. distinct_fails c.args.m c.args.p c.args.d c.args.gens.now c.requires (modulus_of c.residues-ring.result) c.residues-ring.ensures c.in_ok-powers.powers.items c.deref-3.result.now c.in_ok-powers.ensures c.deref-3.ensures.value (order_holds c.args.m c.args.p c.args.d c.args.gens.now c.requires (modulus_of c.residues-ring.result) c.residues-ring.ensures c.power.result c.power.ensures c.if-power-ne1.false) listed c.in_ok-elements.elements.items c.deref-2.result.now c.in_ok-elements.ensures c.deref-2.ensures.value c.in-Some-counted_slots.ensures.counted c.in_err-places.field-0.0 (c.in_err-places.ensures.repeat other))

pub axes-requires-clause-sizes : goal.axes-requires-clause-sizes
axes-requires-clause-sizes c =
    pair_positive c.args.m c.args.p c.args.d c.args.gens.now c.requires

pub axes-requires-clause-few : goal.axes-requires-clause-few
axes-requires-clause-few c =
    few_slots c.args.m c.args.d (count (dimensions_of c.args.gens.now)) c.requires.m_high c.requires.d_low c.in-Some-counted_slots.ensures.counted

pub invariant_of-result : goal.invariant_of-result
invariant_of-result c =
    let listed = subst (λ ys. (k : ℕ) → k < length c.args.gens.now → IsListed ys (wrapped_pair (modulus_of c.residues-ring.result) c.args.gens.now k)) (c.deref.ensures.value ∙ sym c.deref-3.ensures.value) c.in_default.ensures.none in
    record {
      valid = made_held c.args.m c.args.p c.args.d c.args.gens.now c.requires (modulus_of c.residues-ring.result) c.residues-ring.ensures c.in_ok-powers.powers.items c.deref-3.result.now c.in_ok-powers.ensures c.deref-3.ensures.value (order_holds c.args.m c.args.p c.args.d c.args.gens.now c.requires (modulus_of c.residues-ring.result) c.residues-ring.ensures c.power.result c.power.ensures c.if-power-ne1.false) listed c.in_ok-elements.elements.items c.deref-2.result.now c.in_ok-elements.ensures c.deref-2.ensures.value c.in-Some-counted_slots.ensures.counted c.in_ok-places.places.items c.in_ok-places.ensures.table (dimensions_held c.in_ok-axes.axes.items) c.in_ok-axes.ensures.dimensions;
      strides = subst (λ Ds. AreStrides Ds (strides_held c.in_ok-axes.axes.items)) (sym c.in_ok-axes.ensures.dimensions) c.in_ok-axes.ensures.strides;
      elements = subst (λ Ds. AreElements (modulus_of c.residues-ring.result) Ds c.in_ok-elements.elements.items) (sym c.in_ok-axes.ensures.dimensions) c.in_ok-elements.ensures;
      long = c.in_ok-places.ensures.table.long;
      places = places_held c.args.m c.args.p c.args.d c.args.gens.now c.requires (modulus_of c.residues-ring.result) c.residues-ring.ensures c.in_ok-powers.powers.items c.deref-3.result.now c.in_ok-powers.ensures c.deref-3.ensures.value (order_holds c.args.m c.args.p c.args.d c.args.gens.now c.requires (modulus_of c.residues-ring.result) c.residues-ring.ensures c.power.result c.power.ensures c.if-power-ne1.false) listed c.in_ok-elements.elements.items c.deref-2.result.now c.in_ok-elements.ensures c.deref-2.ensures.value c.in-Some-counted_slots.ensures.counted c.in_ok-places.places.items c.in_ok-places.ensures.table (dimensions_held c.in_ok-axes.axes.items) c.in_ok-axes.ensures.dimensions;
    }

pub returns-clause-valid : goal.returns-clause-valid
returns-clause-valid c =
    let listed = subst (λ ys. (k : ℕ) → k < length c.args.gens.now → IsListed ys (wrapped_pair (modulus_of c.residues-ring.result) c.args.gens.now k)) (c.deref.ensures.value ∙ sym c.deref-3.ensures.value) c.in_default.ensures.none in
    made_held c.args.m c.args.p c.args.d c.args.gens.now c.requires (modulus_of c.residues-ring.result) c.residues-ring.ensures c.in_ok-powers.powers.items c.deref-3.result.now c.in_ok-powers.ensures c.deref-3.ensures.value (order_holds c.args.m c.args.p c.args.d c.args.gens.now c.requires (modulus_of c.residues-ring.result) c.residues-ring.ensures c.power.result c.power.ensures c.if-power-ne1.false) listed c.in_ok-elements.elements.items c.deref-2.result.now c.in_ok-elements.ensures c.deref-2.ensures.value c.in-Some-counted_slots.ensures.counted c.in_ok-places.places.items c.in_ok-places.ensures.table (dimensions_held c.in_ok-axes.axes.items) c.in_ok-axes.ensures.dimensions

pub returns-clause-passed : goal.returns-clause-passed
returns-clause-passed c =
    let listed = subst (λ ys. (k : ℕ) → k < length c.args.gens.now → IsListed ys (wrapped_pair (modulus_of c.residues-ring.result) c.args.gens.now k)) (c.deref.ensures.value ∙ sym c.deref-3.ensures.value) c.in_default.ensures.none in
    made_passes c.args.m c.args.p c.args.d c.args.gens.now c.requires (modulus_of c.residues-ring.result) c.residues-ring.ensures c.in_ok-powers.powers.items c.deref-3.result.now c.in_ok-powers.ensures c.deref-3.ensures.value (order_holds c.args.m c.args.p c.args.d c.args.gens.now c.requires (modulus_of c.residues-ring.result) c.residues-ring.ensures c.power.result c.power.ensures c.if-power-ne1.false) listed c.in_ok-elements.elements.items c.deref-2.result.now c.in_ok-elements.ensures c.deref-2.ensures.value c.in-Some-counted_slots.ensures.counted c.in_ok-places.places.items c.in_ok-places.ensures.table
