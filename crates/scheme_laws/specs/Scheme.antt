-- What a scheme is set up with: its ring and moduli, and its slots.
use Rattle.std.specs.Prelude.{◌≡◌, ℕ, suc, ◌-◌, false, List, length, map, ℤ}
use Rattle.algebra.specs.Ring.{Ops}
use Rattle.cyclotomic.specs.Cyclotomic.{degree}
use Rattle.cyclotomic.specs.Norm.{height}
use Rattle.ext_field.specs.Element.{Extension}
use Rattle.hyper_cube.specs.Torus.{Torus}
use Rattle.slot_laws.specs.Checks.{IsPacking}
use Rattle.noise_bound.specs.Machine.{Sizes}
use Rattle.residue_rows.specs.Rows.{R_each, rows_of}
use Rattle.residue_rows.specs.Kept.{RingSetting, IsSetting, moduli_kept}

-- the tables of the ring, the extension that the elements of slots are of, and the torus of their indices
pub record SchemeSetting : Type 0 where
  pub ring : RingSetting
  pub field : Extension
  pub cube : Torus

pub record IsScheme (t : SchemeSetting) : Type 0 where
  pub setting : IsSetting t.ring
  pub packing : IsPacking t.field t.cube
  pub same_m : t.cube.m ≡ t.ring.moduli.m
  pub same_p : t.cube.p ≡ t.ring.moduli.p

-- what the bounds are made from
abbrev pub sizes_of : RingSetting → Sizes
sizes_of r = record {
  n = degree r.moduli.m;
  p = r.moduli.p;
  weight = r.weight;
  height = height r.moduli.m;
  chain = map (λ row. row.q) r.moduli.chain;
  special = map (λ row. row.q) r.moduli.special;
  digits = r.digits;
}

module _ (r : RingSetting) where
  -- the level of a fresh ciphertext
  abbrev pub top : ℕ
  top = length r.moduli.chain - 1

  -- q_0 to q_level
  abbrev pub moduli_at : ℕ → List ℕ
  moduli_at level = moduli_kept r (suc level) false

  -- R modulo each of them, and so modulo their product
  abbrev pub ring_at : ℕ → Ops (List (List ℕ))
  ring_at level = R_each r.moduli.m (moduli_at level)

  -- the residues of a whole polynomial
  abbrev pub rows_at : ℕ → List ℤ → List (List ℕ)
  rows_at level a = rows_of (moduli_at level) a
