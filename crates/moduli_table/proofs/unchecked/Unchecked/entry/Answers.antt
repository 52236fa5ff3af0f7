use Rattle.std.proofs.Common.{◌≡◌, ◌<◌, length, Vec, ℕ, Global, ap, sym, ◌∙◌, arith}
use Rattle.std.proofs.lemmas.List.{length-map}
use Rattle.moduli_table.proofs.Lists.{items_at}
use Rattle.moduli_table.proofs.unchecked.Unchecked.entry.Goals as goal

pub index-requires : goal.index-requires
index-requires c =
    let j = c.args.j in
    let lists = c.args.self.now.inverse.items in
    let v = c.index-list.result.now in
    let within : j < length lists = omega (arith, length-map lists (λ (list : Vec ℕ Global). list.items), c.requires.shaped.lists, c.requires.j_in) in
    let long : length v.items ≡ j = ap length (sym (items_at lists j v within c.index-list.ensures)) ∙ c.requires.shaped.entries j c.requires.j_in in
    omega (arith, long, v.ok.0, c.requires.i_in)
