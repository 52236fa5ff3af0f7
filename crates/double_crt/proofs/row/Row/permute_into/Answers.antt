use Rattle.std.proofs.Common.{◌≡◌, ◌<◌, ◌*◌, ◌%◌, All, length, get_or, arith, ap, sym, ◌∙◌, subst}
use Rattle.mod_ring.specs.Zq.{modulus_of}
use Rattle.double_crt.specs.ModuloRows.{ModuloRow}
use Rattle.double_crt.proofs.ListSteps.{written}
use Rattle.double_crt.proofs.UnitSteps.{units_below, places_in}
use Rattle.double_crt.proofs.row.Row.permute_into.Goals as goal

pub permute_words-requires-clause-units_in : goal.permute_words-requires-clause-units_in
permute_words-requires-clause-units_in c = subst (All (λ j. j < length c.args.places.now)) (sym c.requires.units) (units_below (length c.args.places.now) c.requires.m_some)

pub permute_words-requires-clause-places_in : goal.permute_words-requires-clause-places_in
permute_words-requires-clause-places_in c = subst (λ n. All (λ j. get_or c.args.places.now ((j * c.args.k) % length c.args.places.now) 0 < n) c.args.units.now) long (subst (λ us. All (λ j. get_or c.args.places.now ((j * c.args.k) % length c.args.places.now) 0 < length us) us) (sym c.requires.units) (places_in (length c.args.places.now) c.args.k c.args.places.now c.requires.m_some c.requires.k_unit c.requires.places))
  where
    long : length c.args.units.now ≡ length c.deref.result.now
    long = let e = ap (λ (r : ModuloRow). length r.entries) c.self.view_is in let f = ap length c.deref.ensures.value in omega (arith, c.requires.long)

pub invariant_of-out : goal.invariant_of-out
invariant_of-out c = subst (All (λ x. x < modulus_of c.out.inside.ring)) (sym (written c.out.inside.words.len c.permute_words.new.words c.out.inside.words.items (let e = ap length c.deref_mut.ensures.value in omega arith))) (c.permute_words.ensures.below (modulus_of c.out.inside.ring) (subst (All (λ x. x < modulus_of c.out.inside.ring)) (sym c.deref.ensures.value) (subst (λ q. All (λ x. x < q) c.self.inside.words.items) same c.self.invariant)))
  where
    same : modulus_of c.self.inside.ring ≡ modulus_of c.out.inside.ring
    same = ap (λ (r : ModuloRow). r.q) c.self.view_is ∙ sym c.requires.alike.modulus ∙ sym (ap (λ (r : ModuloRow). r.q) c.out.view_is)
