-- The shape of moduli that were copied.
use Rattle.std.proofs.Common.{◌≡◌, ℕ, List, [], length, get_or, ap, ◌∙◌, arith}
use Rattle.moduli_table.specs.Chain.{Chain, IsShaped}

pub same_shape : (s t : Chain) → s.m ≡ t.m → s.p ≡ t.p → s.chain ≡ t.chain → s.special ≡ t.special → s.inverse ≡ t.inverse → IsShaped t → IsShaped s
same_shape s t m p chain special inverse h = record {
  m_low = omega (arith, m, h.m_low);
  m_high = omega (arith, m, h.m_high);
  p_low = omega (arith, p, h.p_low);
  p_high = omega (arith, p, h.p_high);
  chain_low = omega (arith, chain_long, h.chain_low);
  chain_high = omega (arith, chain_long, h.chain_high);
  special_low = omega (arith, special_long, h.special_low);
  special_high = omega (arith, special_long, h.special_high);
  lists = omega (arith, ap length inverse, chain_long, special_long, h.lists);
  entries = λ j l. ap (λ (z : List (List ℕ)). length (get_or z j [])) inverse ∙ h.entries j (omega (arith, l, chain_long, special_long));
}
  where
    chain_long : length s.chain ≡ length t.chain
    chain_long = ap length chain

    special_long : length s.special ≡ length t.special
    special_long = ap length special
