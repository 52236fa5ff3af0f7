-- R modulo the moduli of a level, as a ring, and the residues of whole polynomials in it.
use Rattle.std.specs.Prelude.{ℕ, suc, ◌<◌, ◌≤◌, false, List, length, ℤ}
use Rattle.std.proofs.Common.{arith}
use Rattle.algebra.specs.Ring.{CommRing, HeldLaws}
use Rattle.algebra.proofs.Held.{held_ring}
use Rattle.cyclotomic.specs.Cyclotomic.{IsElement}
use Rattle.residue_rows.specs.Rows.{AreRows, are_rows}
use Rattle.residue_rows.specs.RowLaws.{ResiduesKeep}
use Rattle.residue_rows.specs.Kept.{RingSetting, IsSetting}
use Rattle.residue_rows.specs.KeptLaws.{AreModuli}
use Rattle.residue_rows.proofs.ModuliKept.{moduli_are}
use Rattle.residue_rows.proofs.RowsRing.{each_ring, rows_from, rows_parts}
use Rattle.residue_rows.proofs.RowsResidues.{residues_keep}
use Rattle.scheme_laws.specs.Scheme.{top, moduli_at, ring_at, rows_at}

module _ (r : RingSetting) (S : IsSetting r) where
  pub m_some : 0 < r.moduli.m
  m_some = omega (arith, S.accepted.shaped.m_low)

  pub top_fits : suc (top r) ≤ length r.moduli.chain
  top_fits = omega (arith, S.accepted.shaped.chain_low)

  module _ (level : ℕ) (fits : suc level ≤ length r.moduli.chain) where
    pub moduli : AreModuli r (suc level) false
    moduli = moduli_are r S (suc level) false fits

    pub keep : ResiduesKeep r.moduli.m (moduli_at r level)
    keep = residues_keep r.moduli.m (moduli_at r level) moduli.some

    pub laws : HeldLaws (are_rows r.moduli.m (moduli_at r level)) (ring_at r level)
    laws = each_ring r.moduli.m (moduli_at r level) m_some moduli.some

    abbrev pub Level : CommRing
    Level = held_ring laws

    -- rows as an element of it, and back
    abbrev pub held : (a : List (List ℕ)) → AreRows r.moduli.m (moduli_at r level) a → Level.Carrier
    held a h = (a, rows_from r.moduli.m (moduli_at r level) a h)

    pub rows_of_held : (a : Level.Carrier) → AreRows r.moduli.m (moduli_at r level) a.0
    rows_of_held a = rows_parts r.moduli.m (moduli_at r level) a.0 a.1

    -- the residues of a whole polynomial
    abbrev pub at : (a : List ℤ) → IsElement r.moduli.m a → Level.Carrier
    at a e = held (rows_at r level a) (keep.held a e)
