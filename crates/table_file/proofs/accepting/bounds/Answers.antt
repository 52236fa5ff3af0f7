use Rattle.std.proofs.Common.{◌≡◌, ◌<◌, ◌^◌, ◌∙◌, map, ap, arith, rules}
use Rattle.cyclotomic.specs.Norm.{height}
use Rattle.scheme_laws.proofs.SizesMade.{sizes_law}
use Rattle.table_file.proofs.Bounding.{sizes_read}
use Rattle.table_file.proofs.accepting.bounds.Goals as goal

pub new-requires : goal.new-requires
new-requires c =
    let r = c.args.tables.now in
    let h_is : c.height.result ≡ height r.moduli.m = c.height.ensures.value ∙ ap height c.cyclo.ensures.value in
    let short : height r.moduli.m < 2 ^ 31 = omega (arith, c.height.ensures.high, h_is) in
    let chain_is : c.as_slice.result.now ≡ map (λ row. row.q) r.moduli.chain = search rules in
    let special_is : c.as_slice-2.result.now ≡ map (λ row. row.q) r.moduli.special = search rules in
    sizes_read r c.n.result c.p.result c.weight.result c.height.result c.as_slice.result.now c.as_slice-2.result.now c.digits.result.now c.n.ensures.value c.p.ensures.value c.weight.ensures.value
    h_is chain_is special_is c.digits.ensures.value (sizes_law r c.n.ensures.setting short)
