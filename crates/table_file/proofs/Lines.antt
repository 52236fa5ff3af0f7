-- Lines of a text, one after the other.
use Rattle.std.proofs.Common.{◌≡◌, ℕ, Bool, List, ◌++◌, codes, ap, sym, ◌∙◌, ap₂}
use Rattle.std.proofs.lemmas.List.{append_assoc}
use Rattle.hyper_cube.specs.Torus.{Torus, dimension, is_good}
use Rattle.table_file.specs.Summary.{dimension_line, labelled, newline, quality}

joined : (t0 a b c q line : List ℕ) → (((t0 ++ a) ++ b) ++ c) ++ (q ++ line) ≡ t0 ++ ((((a ++ b) ++ c) ++ q) ++ line)
joined t0 a b c q line = ap (λ t. (t ++ c) ++ (q ++ line)) (append_assoc t0 a b) ∙ ap (λ t. t ++ (q ++ line)) (append_assoc t0 (a ++ b) c) ∙ append_assoc t0 ((a ++ b) ++ c) (q ++ line) ∙ ap (λ t. t0 ++ t) (sym (append_assoc ((a ++ b) ++ c) q line))

-- the texts on the way to the line of a dimension
pub put_parts : (c : Torus) (i g s : ℕ) (good : Bool) (t0 t1 t2 t3 t4 : List ℕ) → g ≡ (dimension c i).generator → s ≡ (dimension c i).size → good ≡ is_good c i → t1 ≡ t0 ++ labelled (codes "dim ") i → t2 ≡ t1 ++ labelled (codes " generator ") g → t3 ≡ t2 ++ labelled (codes " size ") s → t4 ≡ t3 ++ (quality good ++ newline) → t4 ≡ t0 ++ dimension_line c i
unfolding dimension_line
put_parts c i g s good t0 t1 t2 t3 t4 g_is s_is good_is e1 e2 e3 e4 = e4 ∙ ap₂ (λ t b. t ++ (quality b ++ newline)) (e3 ∙ ap₂ (λ t n. t ++ labelled (codes " size ") n) (e2 ∙ ap₂ (λ t n. t ++ labelled (codes " generator ") n) e1 g_is) s_is) good_is ∙ joined t0 (labelled (codes "dim ") i) (labelled (codes " generator ") (dimension c i).generator) (labelled (codes " size ") (dimension c i).size) (quality (is_good c i)) newline
