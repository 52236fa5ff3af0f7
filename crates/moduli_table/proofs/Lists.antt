-- An element of a list of lists.
use Rattle.std.proofs.Common.{◌≡◌, ℕ, ◌<◌, List, [], length, map, get_or, Vec, Global, ap, sym, ◌∙◌}
use Rattle.std.proofs.lemmas.List.{get_or-map}

pub items_at : (lists : List (Vec ℕ Global)) (j : ℕ) (v : Vec ℕ Global) → j < length lists → v ≡ get_or lists j v → get_or (map (λ list. list.items) lists) j [] ≡ v.items
items_at lists j v l e = get_or-map (λ (list : Vec ℕ Global). list.items) lists j v [] l ∙ ap (λ (list : Vec ℕ Global). list.items) (sym e)
