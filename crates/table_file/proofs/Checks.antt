-- From what the parts of a table say to the checks of the table.
use Rattle.std.proofs.Common.{◌≡◌, ℕ, ◌-◌, ◌≤◌, ◌<◌, Bool, true, false, All, List, Vec, Global, length, map, ◌≢◌, Option, Some, Ok, Err, ap, sym, ◌∙◌, refl, subst, ap₂, arith}
use Rattle.std.specs.Prelude.{nat_le}
use Rattle.std.specs.Result.{is_ok}
use Rattle.std.proofs.lemmas.Bool.{le-leb, lt-leb, leb-true}
use Rattle.std.proofs.lemmas.List.{length-map, get_or-map, map-id}
use Rattle.std.proofs.lemmas.List.Elements.{All-map}
use Rattle.algebra.specs.Divisor.{number_of_units, units}
use Rattle.algebra.proofs.UnitList.{length-units}
use Rattle.ext_field.specs.Element.{Extension, degree, IsExtension, IsFrobenius}
use Rattle.ext_field.specs.Checks.{frobenius_holds}
use Rattle.ext_field.proofs.Images.{frobenius_test}
use Rattle.hyper_cube.specs.Torus.{Dimension, Torus}
use Rattle.hyper_cube.specs.Tables.{torus}
use Rattle.hyper_cube.specs.Checks.{IsShape}
use Rattle.slot_factor.specs.Checks.{first_fault as slots_fault}
use Rattle.slot_factor.specs.declared.faults.SlotFault.{SlotFault}
use Rattle.slot_factor.specs.declared.faults.SlotFault.TheVariants.{Memory as NoMemory}
use Rattle.table_keys.specs.Documents.{Document, Moduli}
use Rattle.table_keys.specs.Shapes.{IsDocument}
use Rattle.table_file.specs.declared.faults.TableFault.{TableFault}
use Rattle.table_file.specs.declared.faults.TableFault.TheVariants.{Weight}
use Rattle.table_file.specs.Accepted.{weighed, cube_of, field_of, packing_of}
use Rattle.table_file.specs.Faults.{passed}

refused_by : (fault : TableFault) (b : Bool) → (b ≡ true → ⊥) → passed b fault ≡ Err fault
refused_by fault true fails = absurd (fails refl)
refused_by fault false fails = refl

succeeds : (b : Bool) (fault : TableFault) → is_ok (passed b fault) ≡ b
succeeds true fault = refl
succeeds false fault = refl

pub field_passes : (e f : Extension) (fault : TableFault) → e ≡ f → IsExtension e → passed (frobenius_holds f) fault ≡ Ok tt
field_passes e f fault e_is E = ap (λ b. passed b fault) ((frobenius_test f).1 (subst IsExtension e_is E).frobenius)

pub field_refused : (f : Extension) (fault : TableFault) → (IsFrobenius f → ⊥) → passed (frobenius_holds f) fault ≡ Err fault
field_refused f fault fails = refused_by fault (frobenius_holds f) (λ h. fails ((frobenius_test f).0 h))

module _ (e : Extension) (t : Document) (p : ℕ) (factor : List ℕ) (p_is : p ≡ t.p) (factor_is : factor ≡ t.factor) where
  given_field : record { p = p; factor = factor } ≡ field_of t
  given_field = ap₂ (λ q g. record { p = q; factor = g }) p_is factor_is

  pub field_is : e ≡ record { p = p; factor = factor } → e ≡ field_of t
  field_is e_is = e_is ∙ given_field

  pub document_passes : (fault : TableFault) → e ≡ record { p = p; factor = factor } → IsExtension e → passed (frobenius_holds (field_of t)) fault ≡ Ok tt
  document_passes fault e_is E = field_passes e (field_of t) fault (field_is e_is) E

pub document_refused : (t : Document) (p : ℕ) (factor : List ℕ) (fault : TableFault) → p ≡ t.p → factor ≡ t.factor → (IsFrobenius (record { p = p; factor = factor }) → ⊥) → passed (frobenius_holds (field_of t)) fault ≡ Err fault
document_refused t p factor fault p_is factor_is fails = field_refused (field_of t) fault (subst (λ f. IsFrobenius f → ⊥) (ap₂ (λ q g. record { p = q; factor = g }) p_is factor_is) fails)

module _ (m : ℕ) (o : Option Moduli) (k : Moduli) (list : List ℕ) (n : ℕ) (o_is : o ≡ Some k) (list_is : list ≡ units m) (n_is : n ≡ length list) where
  counted : n ≡ number_of_units m
  counted = n_is ∙ ap length list_is ∙ length-units m

  pub light : k.weight ≤ n → weighed m o ≡ Ok tt
  unfolding weighed
  light h = ap (weighed m) o_is ∙ ap (λ b. passed b Weight) (le-leb k.weight (number_of_units m) (omega (arith, h, counted)))

  pub heavy : n < k.weight → weighed m o ≡ Err Weight
  unfolding weighed
  heavy h = ap (weighed m) o_is ∙ ap (λ b. passed b Weight) (lt-leb k.weight (number_of_units m) (omega (arith, h, counted)))

pub light_weight : (m : ℕ) (o : Option Moduli) (k : Moduli) → o ≡ Some k → weighed m o ≡ Ok tt → k.weight ≤ number_of_units m
unfolding weighed
light_weight m o k o_is light_is = leb-true k.weight (number_of_units m) (sym (succeeds (nat_le k.weight (number_of_units m)) Weight) ∙ ap is_ok (sym (ap (weighed m) o_is) ∙ light_is))

abbrev pub the_dimension : ℕ × ℕ → Dimension
the_dimension pair = record { generator = pair.0; size = pair.1 }

pub shape_of : (t : Document) → IsDocument t → IsShape (cube_of t)
shape_of t D = record {
  m_low = D.m.0;
  m_high = D.m.1;
  p_low = D.p.0;
  p_high = D.p.1;
  d_low = omega (arith, D.factor.count.0);
  d_high = omega (arith, D.factor.count.1);
  few = omega (arith, length-map t.generators the_dimension, D.generators.count);
  generators = All-map (λ d. (1 ≤ d.generator) × (d.generator < t.m)) the_dimension t.generators D.generators.numbers;
  sizes = All-map (λ d. (1 ≤ d.size) × (d.size ≤ t.m)) the_dimension t.generators D.generators.sizes;
}

pub shape_at : (t : Document) (len : ℕ) (pairs : List (ℕ × ℕ)) → IsDocument t → len ≡ length t.factor → pairs ≡ t.generators → IsShape (torus t.m t.p (len - 1) pairs)
shape_at t len pairs D len_is pairs_is = subst (λ n. IsShape (torus t.m t.p (n - 1) pairs)) (sym len_is) (subst (λ l. IsShape (torus t.m t.p (length t.factor - 1) l)) (sym pairs_is) (shape_of t D))

-- what holds of the lists that are seen holds of the vectors
pub held_rows : (P : List ℕ → Type 0) (rows : List (Vec ℕ Global)) (seen : List (List ℕ)) → map (λ row. row.items) rows ≡ seen → All P seen → All (λ row. P row.items) rows
held_rows P rows seen e h k d l = subst P (get_or-map (λ row. row.items) rows k d d.items l) (subst (λ xs. All P xs) (sym e) h k d.items (omega (arith, l, length-map rows (λ row. row.items))))

pub dual_long : (t : Document) (f : Extension) (rows : List (Vec ℕ Global)) → IsDocument t → f ≡ field_of t → map (λ row. row.items) rows ≡ t.dual → All (λ row. length row.items ≡ degree f) rows
dual_long t f rows D f_is e = held_rows (λ row. length row ≡ degree f) rows t.dual e (subst (λ g. All (λ row. length row ≡ degree g) t.dual) (sym f_is) D.dual.rows)

pub dual_below : (t : Document) (f : Extension) (rows : List (Vec ℕ Global)) → IsDocument t → f ≡ field_of t → map (λ row. row.items) rows ≡ t.dual → All (λ row. All (λ c. c < f.p) row.items) rows
dual_below t f rows D f_is e = held_rows (λ row. All (λ c. c < f.p) row) rows t.dual e (subst (λ g. All (λ row. All (λ c. c < g.p) row) t.dual) (sym f_is) D.dual.below)

pub packing_is : (t : Document) (f : Extension) (c : Torus) (dual : List (List ℕ)) → f ≡ field_of t → c ≡ cube_of t → dual ≡ t.dual → record { field = f; cube = c; dual = map (λ a. a) dual } ≡ packing_of t
packing_is t f c dual f_is c_is dual_is = ap₂ (λ g b. record { field = g; cube = b; dual = map (λ a. a) dual }) f_is c_is ∙ ap (λ d. record { field = field_of t; cube = cube_of t; dual = d }) (map-id dual ∙ dual_is)

pub packing_fault : (t : Document) (f : Extension) (c : Torus) (dual : List (List ℕ)) (e : SlotFault) → f ≡ field_of t → c ≡ cube_of t → dual ≡ t.dual → (e ≢ NoMemory → slots_fault (record { field = f; cube = c; dual = map (λ a. a) dual }) ≡ Some e) → e ≢ NoMemory → slots_fault (packing_of t) ≡ Some e
packing_fault t f c dual e f_is c_is dual_is refused other = ap slots_fault (sym (packing_is t f c dual f_is c_is dual_is)) ∙ refused other
