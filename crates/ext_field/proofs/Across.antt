-- From the ring of remainders that a value holds to the elements that its contracts name.
use Rattle.std.proofs.Common.{◌≡◌, ℕ, ◌≤◌, Bool, IsTrue, List, length, map, ap, ap₂, sym, ◌∙◌, arith}
use Rattle.std.proofs.lemmas.List.{length-map}
use Rattle.algebra.specs.Ring.{Ops}
use Rattle.ext_field.specs.Element.{Extension, IsMonicFactor, IsElement, is_element, elements}
use Rattle.ext_field.proofs.Rows.{element_short}

pub into : (h : List ℕ → Bool) (e f : Extension) (u x : List ℕ) → h ≡ is_element e → e ≡ f → u ≡ x → IsElement f x → IsTrue (h u)
into h e f u x h_is e_is u_is k = ap (λ t. t u) h_is ∙ ap₂ (λ g y. is_element g y) e_is u_is ∙ k

pub out : (h : List ℕ → Bool) (e f : Extension) (r : List ℕ) → h ≡ is_element e → e ≡ f → IsTrue (h r) → IsElement f r
out h e f r h_is e_is k = sym (ap (λ g. is_element g r) e_is) ∙ sym (ap (λ t. t r) h_is) ∙ k

pub test_is : (h : List ℕ → Bool) (e f : Extension) (u x : List ℕ) (b : Bool) → h ≡ is_element e → e ≡ f → u ≡ x → b ≡ h u → b ≡ is_element f x
test_is h e f u x b h_is e_is u_is b_is = b_is ∙ ap (λ t. t u) h_is ∙ ap₂ (λ g y. is_element g y) e_is u_is

pub short : (h : List ℕ → Bool) (e : Extension) (xs : List ℕ) → h ≡ is_element e → IsMonicFactor e → IsTrue (h (map (λ c. c) xs)) → length xs ≤ 64
short h e xs h_is F k = omega (arith, element_short e (map (λ c. c) xs) F (sym (ap (λ t. t (map (λ c. c) xs)) h_is) ∙ k), length-map xs (λ c. c))

module _ (o : Ops (List ℕ)) (e f : Extension) (o_is : o ≡ elements e) (e_is : e ≡ f) where
  same_ops : o ≡ elements f
  same_ops = o_is ∙ ap elements e_is

  pub sum_out : (u x v y r : List ℕ) → u ≡ x → v ≡ y → r ≡ o.add u v → r ≡ (elements f).add x y
  sum_out u x v y r u_is v_is r_is = r_is ∙ ap₂ o.add u_is v_is ∙ ap (λ t. t.add x y) same_ops

  pub product_out : (u x v y r : List ℕ) → u ≡ x → v ≡ y → r ≡ o.mul u v → r ≡ (elements f).mul x y
  product_out u x v y r u_is v_is r_is = r_is ∙ ap₂ o.mul u_is v_is ∙ ap (λ t. t.mul x y) same_ops

  pub difference_out : (u x v y r : List ℕ) → u ≡ x → v ≡ y → r ≡ o.add u (o.neg v) → r ≡ (elements f).add x ((elements f).neg y)
  difference_out u x v y r u_is v_is r_is = r_is ∙ ap₂ (λ a b. o.add a (o.neg b)) u_is v_is ∙ ap (λ t. t.add x (t.neg y)) same_ops

  pub negative_out : (u x r : List ℕ) → u ≡ x → r ≡ o.neg u → r ≡ (elements f).neg x
  negative_out u x r u_is r_is = r_is ∙ ap o.neg u_is ∙ ap (λ t. t.neg x) same_ops

  pub zero_out : (r : List ℕ) → r ≡ o.zero → r ≡ (elements f).zero
  zero_out r r_is = r_is ∙ ap (λ t. t.zero) same_ops

  pub one_out : (r : List ℕ) → r ≡ o.one → r ≡ (elements f).one
  one_out r r_is = r_is ∙ ap (λ t. t.one) same_ops
