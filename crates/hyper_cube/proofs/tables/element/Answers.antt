use Rattle.std.proofs.Common.{◌≡◌, suc, ◌-◌, ◌<◌, length, arith}
use Rattle.mod_ring.specs.Zq.{modulus_of}
use Rattle.hyper_cube.proofs.Pairs.{count_more, count_part, count_part_positive, generated_more}
use Rattle.hyper_cube.proofs.tables.element.Goals as goal

pub nonzero_div-slot : goal.nonzero_div-slot
nonzero_div-slot c = omega (arith, c.loop-i.invariant.stride, count_part_positive c.args.gens.now c.loop-i.i c.requires.sizes)

pub overflow_mul-stride : goal.overflow_mul-stride
overflow_mul-stride c =
    let gs = c.args.gens.now in
    let j = c.loop-i.i - 1 in
    let up : c.loop-i.i ≡ suc j = omega (arith, c.loop-i-test.true) in
    let within : j < length gs = omega (arith, c.loop-i.auto.i, c.loop-i-test.true) in
    omega (arith, count_more gs c.loop-i.i j c.loop-i.stride up within c.loop-i.invariant.stride, count_part gs j c.requires.sizes, c.requires.few)

pub loop-i-preserved : goal.loop-i-preserved
loop-i-preserved c =
    let gs = c.args.gens.now in
    let j = c.loop-i.i - 1 in
    let up : c.loop-i.i ≡ suc j = omega (arith, c.loop-i-test.true) in
    let within : j < length gs = omega (arith, c.loop-i.auto.i, c.loop-i-test.true) in
    record {
      value = generated_more gs c.loop-i.i j c.args.slot (modulus_of c.args.ring.now) c.loop-i.product c.loop-i.stride c.power-power.result c.mul_word-product.result up within c.loop-i.invariant.value c.loop-i.invariant.stride c.power-power.ensures c.mul_word-product.ensures.value;
      stride = count_more gs c.loop-i.i j c.loop-i.stride up within c.loop-i.invariant.stride;
    }
