use Rattle.std.proofs.Common.{rules, ◌≡◌, ◌++◌, codes}
use Rattle.hyper_cube.specs.Torus.{dimension}
use Rattle.table_file.specs.Summary.{labelled, newline, quality}
use Rattle.table_file.proofs.Lines.{put_parts}
use Rattle.table_file.proofs.summaries.put_dimension.Goals as goal

pub returns : goal.returns
returns c =
    let g_is : c.from-2.result ≡ (dimension c.args.cube.now c.args.i).generator = search rules in
    let s_is : c.from-3.result ≡ (dimension c.args.cube.now c.args.i).size = search rules in
    let e1 : c.put_labelled.new.text.items ≡ c.args.text.now.items ++ labelled (codes "dim ") c.args.i = search rules in
    let e2 : c.put_labelled-2.new.text.items ≡ c.put_labelled.new.text.items ++ labelled (codes " generator ") c.from-2.result = search rules in
    let e3 : c.put_labelled-3.new.text.items ≡ c.put_labelled-2.new.text.items ++ labelled (codes " size ") c.from-3.result = search rules in
    let e4 : c.put_quality.new.text.items ≡ c.put_labelled-3.new.text.items ++ (quality c.is_good.result ++ newline) = search rules in
    put_parts c.args.cube.now c.args.i c.from-2.result c.from-3.result c.is_good.result c.args.text.now.items c.put_labelled.new.text.items c.put_labelled-2.new.text.items c.put_labelled-3.new.text.items c.put_quality.new.text.items g_is s_is c.is_good.ensures e1 e2 e3 e4
