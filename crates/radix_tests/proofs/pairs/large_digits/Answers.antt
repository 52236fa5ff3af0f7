use Rattle.std.proofs.Common.{ℕ, ◌<◌, List, [], ◌∷◌, length, take, sym, ap, subst, arith, refl, lit<}
use Rattle.std.specs.List.{AllZip}
use Rattle.radix_tests.proofs.pairs.large_digits.Goals as goal

pub digits-requires : goal.digits-requires
digits-requires c = record {
  count = omega (arith, ap (length {A = ℕ}) c.requires);
  below = subst (λ (ms : List ℕ). AllZip (λ q r. r < q) (take 3 ms) (1772421204681064905 ∷ 994021028809531986 ∷ 1091936229548854446 ∷ [])) (sym c.requires) (lit< tt, (lit< tt, (lit< tt, tt)));
  room = refl;
}
