use Rattle.two_power.proofs.Growth.{All_append}
use Rattle.bluestein.proofs.Ranges.{All_back}
use Rattle.bluestein.proofs.chirps.fill_mirrored.Goals as goal

pub returns-clause-below : goal.returns-clause-below
returns-clause-below c =
    let q = c.args.ring.now.q in
    let split = c.split_at_mut-near in
    c.mirror.ensures.below q (All_append q c.square_powers.new.out split.result.1.now c.square_powers.ensures.below (All_back q c.args.count c.args.row.now split.result.1.now c.requires.row_in split.ensures.back))
