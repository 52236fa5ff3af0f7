use Rattle.std.proofs.Common.{◌≡◌, ◌≤◌, ℕ, Bool, true, false, cond, ltb, ◌==◌, length, Some, None, unwrap_or, refl, arith, rules, tests}
use Rattle.std.specs.List.{position_or_len}
use Rattle.std.proofs.lemmas.Bool.Decides.{nat_tests}
use Rattle.std.proofs.lemmas.Iterator.{YieldsList-from_slice}
use Rattle.std.proofs.lemmas.Iterator.Search.{position_from_yields_List}
use Rattle.std.proofs.lemmas.List.Sums.{prefix_len-le-length}
use Rattle.slot_program.proofs.elements.piece_len.Goals as goal

or_all : (place count : ℕ) → place ≤ count → unwrap_or (cond (ltb place count) (Some place) None) count ≡ place
or_all place count within = by_test (ltb place count) refl
  where
    by_test : (test : Bool) → ltb place count ≡ test → unwrap_or (cond test (Some place) None) count ≡ place
    by_test true is = refl
    by_test false is = grind (arith, nat_tests)

pub returns : goal.returns
returns c =
    let text = c.args.text.now in
    let place = position_or_len (λ (byte : ℕ). byte == c.args.separator) text in
    let found : c.position.result ≡ cond (ltb place (length text)) (Some place) None =
    position_from_yields_List (λ (byte : ℕ). byte == c.args.separator) _ _ _ c.position.ensures.ran (YieldsList-from_slice text (cc)) (λ x b q k. search (rules, tests)) in
    rw (c.unwrap_or.ensures, found) (or_all place (length text) (prefix_len-le-length _ text))
