use Rattle.std.proofs.Common.{ℕ, ◌<◌, ◌≤◌, All, arith, rules}
use Rattle.std.proofs.lemmas.List.{length-map}
use Rattle.std.proofs.lemmas.List.Elements.{All-map}
use Rattle.hyper_cube.specs.Torus.{Dimension}
use Rattle.cube_tests.proofs.cubes.cube.Goals as goal

abbrev the_dimension : ℕ × ℕ → Dimension
the_dimension pair = record { generator = pair.0; size = pair.1 }

pub new-requires : goal.new-requires
new-requires g c =
    let m = c.args.m in
    let gens = c.args.gens.now in
    let generators : All (λ pair. (1 ≤ pair.0) × (pair.0 < m)) gens = search rules in
    let sizes : All (λ pair. (1 ≤ pair.1) × (pair.1 ≤ m)) gens = search rules in
    record {
      m_low = omega arith;
      m_high = omega arith;
      p_low = omega arith;
      p_high = omega arith;
      d_low = omega arith;
      d_high = omega arith;
      few = omega (arith, length-map gens the_dimension);
      generators = All-map (λ d. (1 ≤ d.generator) × (d.generator < m)) the_dimension gens generators;
      sizes = All-map (λ d. (1 ≤ d.size) × (d.size ≤ m)) the_dimension gens sizes;
    }
