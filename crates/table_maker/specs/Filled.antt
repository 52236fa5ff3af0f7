-- The table that a template is filled to.
use Rattle.std.specs.Prelude.{◌≡◌, ℕ, Bool, false, List, ◌++◌, length, map, take, slice_index, is_none, unwrap_or, Option, Some, Result, Ok, Err}
use Rattle.std.specs.List.{position}
use Rattle.algebra.specs.Whole.{below}
use Rattle.moduli_table.specs.Search.{inverse_or_zero, roots_of}
use Rattle.table_keys.specs.declared.documents.RowDocument.{RowDocument}
use Rattle.table_keys.specs.Documents.{Document, document_of}
use Rattle.table_keys.specs.Templates.{Template, template_of}
use Rattle.table_maker.specs.declared.faults.MakeFault.{MakeFault}
use Rattle.table_maker.specs.Faults.{◌>>=◌, is_memory, or_fault, unless_rootless}

-- no base from 2 to 1000 passes for the modulus q
abbrev pub is_rootless : ℕ → ℕ → Bool
is_rootless m q = is_none (roots_of m q)

-- zeta and psi by the least base that passes; where none does, which no filled table has, both are 0
abbrev pub roots_or_zero : ℕ → ℕ → ℕ × ℕ
roots_or_zero m q = unwrap_or (roots_of m q) (0, 0)

-- the modulus q with its roots and its inverse modulo p, which is 0 where there is none
unfoldable pub row_for : ℕ → ℕ → ℕ → RowDocument
row_for m p q = record { q = q; zeta = (roots_or_zero m q).0; psi = (roots_or_zero m q).1; plain_inverse = inverse_or_zero p q }

-- list j has the inverses modulo modulus j of the moduli before it, 0 where there is none
unfoldable pub inverses_of : List ℕ → List (List ℕ)
inverses_of moduli = map (λ j. map (inverse_or_zero (slice_index moduli j)) (take j moduli)) (below (length moduli))

module _ (t : Template) where
  -- the moduli in their order
  abbrev pub moduli_of : List ℕ
  moduli_of = t.chain ++ t.special

  -- the number of the first modulus for which no base passes
  unfoldable pub rootless : Option ℕ
  rootless = position (is_rootless t.m) moduli_of

  -- the template with a row for each modulus, and with their inverses
  unfoldable pub with_rows : Document
  with_rows = record {
    m = t.m;
    p = t.p;
    factor = t.factor;
    dual = t.dual;
    generators = t.generators;
    moduli = Some (record {
      weight = t.weight;
      digits = t.digits;
      chain = map (row_for t.m t.p) t.chain;
      special = map (row_for t.m t.p) t.special;
      inverse = inverses_of moduli_of;
    });
  }

  -- the table, or the fault of the first modulus for which no base passes
  unfoldable pub filled : Result Document MakeFault
  filled = unless_rootless rootless with_rows

-- the table that the template of a text is filled to, or the first fault
unfoldable pub filled_of : List ℕ → Result Document MakeFault
filled_of text = or_fault (template_of text) >>= filled

-- the text is read as this table
abbrev pub IsTextOf : Result Document MakeFault → List ℕ → Type 0
IsTextOf (Ok document) text = document_of text ≡ Ok document
IsTextOf (Err fault) text = ⊥

-- what was returned, seen by view, is a text of this table, or it is this fault, but for want of memory
abbrev pub Makes : {X : Type 0} → (X → List ℕ) → Result X MakeFault → Result Document MakeFault → Type 0
Makes view (Ok x) on = IsTextOf on (view x)
Makes view (Err fault) on = is_memory fault ≡ false → on ≡ Err fault
