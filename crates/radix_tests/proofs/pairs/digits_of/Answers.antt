use Rattle.std.proofs.Common.{ℕ, ◌<◌, List, [], ◌∷◌, length, take, sym, ap, subst, arith, refl}
use Rattle.std.specs.List.{AllZip}
use Rattle.radix_tests.proofs.pairs.digits_of.Goals as goal

pub digits-requires : goal.digits-requires
digits-requires c = record {
  count = omega (arith, ap (length {A = ℕ}) c.requires.moduli);
  below = subst (λ (ms : List ℕ). AllZip (λ q r. r < q) (take 2 ms) (c.args.first ∷ c.args.second ∷ [])) (sym c.requires.moduli) (c.requires.first_in, (c.requires.second_in, tt));
  room = refl;
}
