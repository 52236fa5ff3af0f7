use Rattle.std.proofs.Common.{◌≡◌, ◌*◌, ◌++◌, map, ◌∙◌, ap₂}
use Rattle.cyclo_poly.proofs.StrideSteps.{next_strides_yes, next_strides_no}
use Rattle.cyclo_poly.proofs.strides.next_strides.Goals as goal
use Rattle.cyclo_poly.proofs.strides.next_strides.Goals.{then-k-p-ne0+in_ok-extend_from_slice+in_ok-extend_from_slice-2, else-k-p-ne0}

pub returns : goal.returns
returns c =
    let k = c.args.k in
    let p = c.args.p in
    let a = c.args.strides.now.above.items in
    let b = c.args.strides.now.below.items in
    let pa : c.push_multiples.new.list.items ≡ map (λ j. p * j) a = c.in_ok-push_multiples.ensures ∙ ap₂ (λ y z. y ++ map (λ j. p * j) z) c.new-above.ensures.items c.deref.ensures.value in
    let pb : c.push_multiples-2.new.list.items ≡ map (λ j. p * j) b = c.in_ok-push_multiples-2.ensures ∙ ap₂ (λ y z. y ++ map (λ j. p * j) z) c.new-below.ensures.items c.deref-2.ensures.value in
    elim c.if-k-p-ne0.branch [
      | then-k-p-ne0+in_ok-extend_from_slice+in_ok-extend_from_slice-2 w ↦
          let ia : c.if-k-p-ne0.above.items ≡ w.extend_from_slice.new.self.items = cc in
          let ib : c.if-k-p-ne0.below.items ≡ w.extend_from_slice-then-k-p-ne0.new.self.items = cc in
          let ea : c.if-k-p-ne0.above.items ≡ map (λ j. p * j) a ++ b = ia ∙ w.in_ok-extend_from_slice.ensures.items ∙ ap₂ (λ y z. y ++ z) pa w.deref-then-k-p-ne0.ensures.value in
          let eb : c.if-k-p-ne0.below.items ≡ map (λ j. p * j) b ++ a = ib ∙ w.in_ok-extend_from_slice-2.ensures.items ∙ ap₂ (λ y z. y ++ z) pb w.deref-then-k-p-ne0-2.ensures.value in
          next_strides_no k p a b c.if-k-p-ne0.above.items c.if-k-p-ne0.below.items c.requires.positive c.requires.prime w.if-k-p-ne0.true ea eb c.requires.strides
      | else-k-p-ne0 w ↦
          let ia : c.if-k-p-ne0.above.items ≡ c.push_multiples.new.list.items = cc in
          let ib : c.if-k-p-ne0.below.items ≡ c.push_multiples-2.new.list.items = cc in
          next_strides_yes k p a b c.if-k-p-ne0.above.items c.if-k-p-ne0.below.items c.requires.positive c.requires.prime w.if-k-p-ne0.false (ia ∙ pa) (ib ∙ pb) c.requires.strides
    ]
