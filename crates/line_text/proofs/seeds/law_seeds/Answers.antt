use Rattle.line_text.proofs.SeedTexts.{spells_one_seed}
use Rattle.line_text.proofs.seeds.law_seeds.Goals as goal

pub returns : goal.returns
returns c = spells_one_seed
