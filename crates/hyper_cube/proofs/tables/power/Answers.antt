use Rattle.std.proofs.Common.{ap, ◌^◌, ◌%◌, ◌∙◌}
use Rattle.std.proofs.lemmas.Nat.{pow-mod}
use Rattle.mod_ring.specs.Zq.{modulus_of}
use Rattle.hyper_cube.proofs.tables.power.Goals as goal

pub returns : goal.returns
returns c = c.power_word.ensures.value ∙ ap (λ m. (c.args.base % m) ^ c.args.exponent % modulus_of c.args.ring.now) c.modulus.ensures ∙ pow-mod c.args.base c.args.exponent (modulus_of c.args.ring.now)
