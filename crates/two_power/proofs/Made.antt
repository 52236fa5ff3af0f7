-- The facts of the tables, from the lists that they hold.
use Rattle.std.proofs.Common.{◌≡◌, ℕ, ◌-◌, ◌^◌, ◌<◌, ◌≤◌, List, length, get_or, sym, ◌∙◌, ap, subst}
use Rattle.two_power.specs.Tree.{AreFactors, IsTree, AreInverses, IsGrown, AreValues}
use Rattle.two_power.specs.Convolution.{HasRow}
use Rattle.two_power.specs.Tables.{AreTables}
use Rattle.two_power.specs.declared.cyclic.Cyclic.TheInside.{Inside}

pub tables_made : (a : Inside) (psi : ℕ) (ws vs values : List ℕ) → a.ws.items ≡ ws → a.vs.items ≡ vs → a.values.items ≡ values → 2 ≤ a.q → a.q < 2 ^ 62 → 1 ≤ a.levels → IsGrown a.q (a.levels - 1) psi ws vs → AreFactors a.q ws a.ws_quotients.items → AreFactors a.q vs a.vs_quotients.items → length values ≡ 2 ^ a.levels → AreFactors a.q values a.values_quotients.items → AreTables a
tables_made a psi ws vs values e f g above small some G wf vf long xf = record {
  above = above;
  small = small;
  some = some;
  size = ap length e ∙ G.ws_long;
  first = ap (λ z. get_or z 0 0) e ∙ G.first;
  tree = subst (IsTree a.q) (sym e) G.tree;
  inverses = subst (λ z. AreInverses a.q z a.vs.items) (sym e) (subst (AreInverses a.q ws) (sym f) G.inverses);
  ws_factors = subst (λ z. AreFactors a.q z a.ws_quotients.items) (sym e) wf;
  vs_factors = subst (λ z. AreFactors a.q z a.vs_quotients.items) (sym f) vf;
  values_size = ap length g ∙ long;
  values_factors = subst (λ z. AreFactors a.q z a.values_quotients.items) (sym g) xf;
}

pub row_made : (q levels : ℕ) (kws kvalues ws f g values : List ℕ) → ws ≡ kws → g ≡ f → kvalues ≡ values → length f ≡ 2 ^ levels → AreValues q ws levels 0 g values → HasRow (record { q = q; levels = levels; ws = kws; values = kvalues }) f
row_made q levels kws kvalues ws f g values e h v long are = record {
  long = long;
  are_values = subst (λ z. AreValues q z levels 0 f kvalues) e (subst (λ z. AreValues q ws levels 0 z kvalues) h (subst (λ z. AreValues q ws levels 0 g z) (sym v) are));
}
