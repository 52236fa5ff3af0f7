-- What a chain of the machine that goes through says of its links.
use Rattle.std.proofs.Common.{◌≡◌, ℕ, ◌<◌, ◌≤◌, Bool, true, false, cond, List, Option, Some, None, Result, Ok, Err, ◌⊎◌, inl, inr, refl, ap, subst}
use Rattle.std.specs.Option.{ok_or, is_some}
use Rattle.std.specs.Prelude.{bytes_eq, nat_le, ◌&&◌}
use Rattle.std.proofs.lemmas.Bool.Decides.{leb_tells}
use Rattle.std.proofs.lemmas.Slice.Eq.{bytes_eq-Decides}
use Rattle.line_text.specs.declared.kinds.FileKind.TheVariants.{Table, Slots}
use Rattle.line_text.specs.declared.kinds.FileName.{FileName}
use Rattle.shelf_core.specs.Files.{File, bytes_of}
use Rattle.slot_array.specs.Arrays.{Array}
use Rattle.slot_array.specs.SlotsText.{slots_of}
use Rattle.slot_factor.specs.Packing.{Packing}
use Rattle.table_file.specs.Accepted.{table_of}
use Rattle.table_file.specs.Setting.{Setting}
use Rattle.he_files.specs.declared.headers.Header.{Header}
use Rattle.noise_bound.specs.Form.{bound_of}
use Rattle.noise_bound.specs.Machine.{fresh, limit}
use Rattle.residue_rows.specs.Kept.{RingSetting}
use Rattle.scheme_laws.specs.Scheme.{sizes_of, top}
use Rattle.cli_machine.specs.declared.cause.Cause.{Cause}
use Rattle.cli_machine.specs.declared.cause.Cause.TheVariants.{NameTaken, WrongKey, TooNoisy}
use Rattle.cli_machine.specs.Machine.{◌>>=◌, or_else, loaded, free, file_of, table_on, array_on, chained_on, Chained, same_names, quiet}
use Rattle.cli_machine.specs.Plain.{HoldsTable, HoldsArray}

pub bind_ok : {A B : Type 0} (r : Result A Cause) (f : A → Result B Cause) (y : B) → (r >>= f) ≡ Ok y → (x : A) × (r ≡ Ok x) × (f x ≡ Ok y)
bind_ok (Ok x) f y is = (x, refl, is)
bind_ok (Err cause) f y is = absurd (cc)

-- a fact of what a chain has, where it goes through
abbrev pub On : {A : Type 0} → (A → Type 0) → Result A Cause → Type 0
On P (Ok x) = P x
On P (Err cause) = Unit {0}

pub on_bind : {A B : Type 0} (P : B → Type 0) (r : Result A Cause) (f : A → Result B Cause) → ((x : A) → r ≡ Ok x → On P (f x)) → On P (r >>= f)
on_bind P (Ok x) f h = h x refl
on_bind P (Err cause) f h = tt

abbrev goes : {A : Type 0} → A → Result A Cause
goes x = Ok x

pub same_ok : {A : Type 0} (x y : A) → goes x ≡ Ok y → x ≡ y
same_ok x y is = cc

pub some_of : {A : Type 0} (o : Option A) (cause : Cause) (x : A) → ok_or o cause ≡ Ok x → o ≡ Some x
some_of None cause x is = absurd (cc)
some_of (Some y) cause x is =
    let same : y ≡ x = cc in
    ap Some same

pub read_of : {A E : Type 0} (cause : E → Cause) (r : Result A E) (x : A) → or_else cause r ≡ Ok x → r ≡ Ok x
read_of cause (Err fault) x is = absurd (cc)
read_of cause (Ok y) x is =
    let same : y ≡ x = cc in
    ap Ok same

pub loaded_is : (file : FileName) (files : List File) (text : List ℕ) → loaded file files ≡ Ok text → bytes_of file files ≡ Some text
unfolding loaded
loaded_is file files text is = some_of (bytes_of file files) _ text is

-- a name that is free is held by no file
pub free_is : (file : FileName) (files : List File) (u : Unit) → free file files ≡ Ok u → bytes_of file files ≡ None
unfolding free
free_is file files u is = go (bytes_of file files) is
  where
    go : (found : Option (List ℕ)) → cond (is_some found) (Err (NameTaken file)) (Ok tt) ≡ Ok u → found ≡ None
    go None is = refl
    go (Some bytes) is = absurd (cc)

pub holds_table : (name : List ℕ) (files : List File) (setting : Setting) → table_on name files ≡ Ok setting → HoldsTable name setting files
unfolding table_on
holds_table name files setting is =
    let read = bind_ok (loaded (file_of Table name) files) _ setting is in
    record {
      text = read.0;
      held = loaded_is (file_of Table name) files read.0 read.1;
      read = read_of _ (table_of read.0) setting read.2;
    }

pub holds_array : (packing : Packing) (name : List ℕ) (a : Array) (files : List File) → array_on packing name files ≡ Ok a → HoldsArray packing name a files
unfolding array_on
holds_array packing name a files is =
    let read = bind_ok (loaded (file_of Slots name) files) _ a is in
    record {
      text = read.0;
      held = loaded_is (file_of Slots name) files read.0 read.1;
      read = read_of _ (slots_of packing.field packing.cube read.0) a read.2;
    }

-- a table that is held, and that is not plain
pub record HoldsChained (name : List ℕ) (table : Chained) (files : List File) : Type 0 where
  pub holds : HoldsTable name table.setting files
  pub not_plain : table.setting.chain ≡ Some table.ring

pub holds_chained : (name : List ℕ) (files : List File) (table : Chained) → chained_on name files ≡ Ok table → HoldsChained name table files
unfolding chained_on
holds_chained name files table is =
    let t = bind_ok (table_on name files) _ table is in
    let r = bind_ok (ok_or t.0.chain _) _ table t.2 in
    let P : Chained → Type 0 = λ found. HoldsChained name found files in
    let same : record { setting = t.0; ring = r.0 } ≡ table = same_ok _ table r.2 in
    subst P same (record { holds = holds_table name files t.0 t.1; not_plain = some_of t.0.chain _ r.0 r.1 })

-- two headers of the same names are one
pub same_names_is : (want got : Header) (u : Unit) → same_names want got ≡ Ok u → want ≡ got
unfolding same_names
same_names_is want got u is = go (bytes_eq want.table got.table) (bytes_eq want.key got.key) (bytes_eq-Decides want.table got.table).0 (bytes_eq-Decides want.key got.key).0 is
  where
    go : (a b : Bool) → (a ≡ true → want.table ≡ got.table) → (b ≡ true → want.key ≡ got.key) → cond (a && b) (Ok tt) (Err (WrongKey want got)) ≡ Ok u → want ≡ got
    go true true tables keys is = let t = tables refl in let k = keys refl in λ i. record { table = t i; key = k i }
    go true false tables keys is = absurd (cc)
    go false b tables keys is = absurd (cc)

-- the bound of a fresh ciphertext is below the limit where it is not too noisy
pub quiet_is : (ring : RingSetting) (u : Unit) → quiet ring ≡ Ok u → fresh (sizes_of ring) < limit (sizes_of ring) (top ring)
unfolding quiet
quiet_is ring u is = go (fresh (sizes_of ring)) (limit (sizes_of ring) (top ring)) (nat_le (limit (sizes_of ring) (top ring)) (fresh (sizes_of ring))) (leb_tells (limit (sizes_of ring) (top ring)) (fresh (sizes_of ring))) is
  where
    go : (bound most : ℕ) (b : Bool) → ((b ≡ true) × (most ≤ bound)) ⊎ ((b ≡ false) × (bound < most)) → cond b (Err (TooNoisy 0 (bound_of bound) (bound_of most))) (Ok tt) ≡ Ok u → bound < most
    go bound most b (inr p) is = p.1
    go bound most true (inl p) is = absurd (cc)
    go bound most false (inl p) is = absurd (cc)
