use Rattle.algebra.proofs.Ranges.{total_cong, total_split, total_exchange, total_reverse, total_single}
use Rattle.algebra.proofs.rings.law_totals.Goals as goal

pub returns : goal.returns
returns g c = let laws = g.M.AnyMonoid.laws in
    record { same = total_cong _ laws; split = total_split _ laws; exchange = total_exchange _ laws; reversed = total_reverse _ laws; single = total_single _ laws }
