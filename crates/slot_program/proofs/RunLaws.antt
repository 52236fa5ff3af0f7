-- The runs of elements are the longest.
use Rattle.std.proofs.Common.{◌≡◌, ℕ, suc, ◌+◌, ◌<◌, Bool, true, false, cond, List, [], ◌∷◌, ◌++◌, replicate, bytes_eq, refl, sym, ap, ◌∙◌, arith}
use Rattle.std.specs.List.{All, flat_map}
use Rattle.std.proofs.lemmas.List.Elements.{All-cons, All-nil}
use Rattle.std.proofs.lemmas.Slice.Eq.{bytes_eq-Decides}
use Rattle.slot_program.specs.Printed.{onto_run, runs_of, AreApart, RunsAreLongest}
use Rattle.slot_program.proofs.PrintedElements.{unrolled, runs_unroll}

spelled_is : (runs : List (ℕ × List ℕ)) → flat_map (λ run. replicate run.0 run.1) runs ≡ unrolled runs
spelled_is [] = refl
spelled_is (run ∷ runs) = ap (λ rest. replicate run.0 run.1 ++ rest) (spelled_is runs)

differ : (b : Bool) → b ≡ false → b ≡ true → ⊥
differ b one two = cc

apart_first : (n : ℕ) (e : List ℕ) (run : ℕ × List ℕ) (runs : List (ℕ × List ℕ)) → e ≡ run.1 → AreApart (run ∷ runs) → AreApart ((n, e) ∷ runs)
apart_first n e run [] same apart = tt
apart_first n e run (next ∷ runs) same apart = (λ is. apart.0 (sym same ∙ is), apart.1)

apart_onto : (n : ℕ) (e : List ℕ) (runs : List (ℕ × List ℕ)) → AreApart runs → AreApart (onto_run n e runs)
apart_onto n e [] apart = tt
apart_onto n e (run ∷ runs) apart = by (bytes_eq e run.1) refl
  where
    by : (b : Bool) → bytes_eq e run.1 ≡ b → AreApart (cond b ((n + run.0, e) ∷ runs) ((n, e) ∷ run ∷ runs))
    by true is = apart_first (n + run.0) e run runs ((bytes_eq-Decides e run.1).0 is) apart
    by false is = (λ same. differ (bytes_eq e run.1) is ((bytes_eq-Decides e run.1).1 same), apart)

runs_apart : (elements : List (List ℕ)) → AreApart (runs_of elements)
unfolding runs_of
runs_apart [] = tt
runs_apart (element ∷ elements) = apart_onto 1 element (runs_of elements) (runs_apart elements)

some_onto : (n : ℕ) (e : List ℕ) (runs : List (ℕ × List ℕ)) → 0 < n → All (λ run. 0 < run.0) runs → All (λ run. 0 < run.0) (onto_run n e runs)
some_onto n e [] some all = All-cons (λ run. 0 < run.0) (n, e) [] some (All-nil (λ run. 0 < run.0))
some_onto n e (run ∷ runs) some all = by (bytes_eq e run.1)
  where
    rest : All (λ run. 0 < run.0) runs
    rest k d l = all (suc k) d (omega (arith, l))

    by : (b : Bool) → All (λ run. 0 < run.0) (cond b ((n + run.0, e) ∷ runs) ((n, e) ∷ run ∷ runs))
    by true = All-cons (λ run. 0 < run.0) (n + run.0, e) runs (omega (arith, some)) rest
    by false = All-cons (λ run. 0 < run.0) (n, e) (run ∷ runs) some all

runs_some : (elements : List (List ℕ)) → All (λ run. 0 < run.0) (runs_of elements)
unfolding runs_of
runs_some [] = All-nil (λ run. 0 < run.0)
runs_some (element ∷ elements) = some_onto 1 element (runs_of elements) (omega arith) (runs_some elements)

pub runs_are_longest : RunsAreLongest
runs_are_longest elements = record {
  spelled = spelled_is (runs_of elements) ∙ runs_unroll elements;
  some_element = runs_some elements;
  apart = runs_apart elements;
}
