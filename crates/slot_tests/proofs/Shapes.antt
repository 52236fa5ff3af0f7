-- The conditions that the tests' tables are tested for.
use Rattle.std.proofs.Common.{ℕ, ◌<◌, ◌≤◌, List, length, arith}
use Rattle.std.specs.List.{All}
use Rattle.std.proofs.lemmas.List.{length-map}
use Rattle.std.proofs.lemmas.List.Elements.{All-map}
use Rattle.hyper_cube.specs.Torus.{Dimension}
use Rattle.hyper_cube.specs.Checks.{IsShape}
use Rattle.hyper_cube.specs.Tables.{torus}

abbrev pub the_dimension : ℕ × ℕ → Dimension
the_dimension pair = record { generator = pair.0; size = pair.1 }

pub shape_is : (m p d : ℕ) (pairs : List (ℕ × ℕ)) → 3 ≤ m → m ≤ 65536 → 2 ≤ p → p ≤ 131071 → 1 ≤ d → d ≤ 64 → length pairs ≤ 16
    → All (λ pair. (1 ≤ pair.0) × (pair.0 < m)) pairs → All (λ pair. (1 ≤ pair.1) × (pair.1 ≤ m)) pairs → IsShape (torus m p d pairs)
shape_is m p d pairs m_low m_high p_low p_high d_low d_high few generators sizes = record {
  m_low = m_low;
  m_high = m_high;
  p_low = p_low;
  p_high = p_high;
  d_low = d_low;
  d_high = d_high;
  few = omega (arith, length-map pairs the_dimension, few);
  generators = All-map (λ d. (1 ≤ d.generator) × (d.generator < m)) the_dimension pairs generators;
  sizes = All-map (λ d. (1 ≤ d.size) × (d.size ≤ m)) the_dimension pairs sizes;
}
