-- Objects among the facts of parts, and their rows.
use Rattle.std.proofs.Common.{◌≡◌, ◌⊎◌, ◌<◌, ℕ, Bool, true, false, not, List, [], ◌∷◌, ◌++◌, map, Option, Some, None}
use Rattle.std.proofs.Common.{refl, sym, subst, ap, ◌∙◌, cond, inl, inr, arith}
use Rattle.std.specs.List.{AllByRecursion}
use Rattle.hprof_values.specs.declared.ids.IdSize.{IdSize}
use Rattle.hprof_items.specs.FactValue.{FactValue, Name, Load, Unload, Frame, Trace, Start, End, Rooted, Class, Instance, ObjArray}
use Rattle.hprof_items.specs.FactValue.{PrimArray}
use Rattle.hprof_items.specs.RecordBody.{record_of}
use Rattle.hprof_items.specs.Spelling.{Fits}
use Rattle.hprof_items.specs.SubRecord.{DumpFits, dump_bytes}
use Rattle.hprof_items.proofs.Dumps.{dump_once}
use Rattle.hprof_rows.specs.Facts as sets
use Rattle.hprof_rows.specs.Key.{key_of, rank_of}
use Rattle.hprof_rows.specs.declared.key.Key.{Key}
use Rattle.hprof_rows.specs.declared.key.Key.TheVariants as keys
use Rattle.hprof_rows.specs.Order.{IsBefore, order_of}
use Rattle.hprof_rows.proofs.FactSets.{Has-parts, Has-front, Has-back}
use Rattle.hprof_heap.specs.Gathering.{Given, all_given}
use Rattle.hprof_merge.specs.Rows.{ByteRow, Has}
use Rattle.hprof_merge.specs.Showing.{only}
use Rattle.hprof_merge.specs.Union.{AnyHas}
use Rattle.hprof_merge.proofs.Unions.{back_has, first_has}
use Rattle.hprof_objects.specs.ObjectRows.{object_row, object_rows}
use Rattle.hprof_objects.specs.Whole.{is_object, no_objects, rows_given, without_objects}

-- ---- one fact

-- what the row of an object says of it
pub record IsRowOf (ids : IdSize) (fact : FactValue) (row : ByteRow) : Type 0 where
  pub row_is : (row.0, dump_bytes ids fact) ≡ row
  pub key : key_of fact ≡ Some (keys.Object row.0)
  pub object : is_object fact ≡ true
  pub no_record : record_of fact ≡ None
  pub order : order_of fact ≡ 9 ∷ row.0 ∷ []
  pub fits : Fits ids fact → DumpFits ids fact

pub row_of : (ids : IdSize) (fact : FactValue) (row : ByteRow) → object_row ids fact ≡ Some row → IsRowOf ids fact row
row_of ids (Instance id trace class bytes) row e =
    let is : (id, dump_bytes ids (Instance id trace class bytes)) ≡ row = cc in
    subst (λ (r : ByteRow). IsRowOf ids (Instance id trace class bytes) r) is
    (record { row_is = refl; key = refl; object = refl; no_record = refl; order = refl; fits = λ fits. fits.0 })
row_of ids (ObjArray id trace class elements) row e =
    let is : (id, dump_bytes ids (ObjArray id trace class elements)) ≡ row = cc in
    subst (λ (r : ByteRow). IsRowOf ids (ObjArray id trace class elements) r) is
    (record { row_is = refl; key = refl; object = refl; no_record = refl; order = refl; fits = λ fits. fits.0 })
row_of ids (PrimArray id trace elem bytes) row e =
    let is : (id, dump_bytes ids (PrimArray id trace elem bytes)) ≡ row = cc in
    subst (λ (r : ByteRow). IsRowOf ids (PrimArray id trace elem bytes) r) is
    (record { row_is = refl; key = refl; object = refl; no_record = refl; order = refl; fits = λ fits. fits.0 })
row_of ids (Name id text) row e = absurd cc
row_of ids (Load serial class trace name) row e = absurd cc
row_of ids (Unload serial) row e = absurd cc
row_of ids (Frame id method signature source class_serial line) row e = absurd cc
row_of ids (Trace serial thread frames) row e = absurd cc
row_of ids (Start thread object trace name group parent_group) row e = absurd cc
row_of ids (End thread) row e = absurd cc
row_of ids (Rooted root) row e = absurd cc
row_of ids (Class id trace parent loader signers domain reserved1 reserved2 size constants statics fields) row e = absurd cc

-- an object has a row
pub has_row : (ids : IdSize) (fact : FactValue) → is_object fact ≡ true → (row : ByteRow) × (object_row ids fact ≡ Some row)
has_row ids (Instance id trace class bytes) e = ((id, dump_bytes ids (Instance id trace class bytes)), refl)
has_row ids (ObjArray id trace class elements) e = ((id, dump_bytes ids (ObjArray id trace class elements)), refl)
has_row ids (PrimArray id trace elem bytes) e = ((id, dump_bytes ids (PrimArray id trace elem bytes)), refl)
has_row ids (Name id text) e = absurd cc
has_row ids (Load serial class trace name) e = absurd cc
has_row ids (Unload serial) e = absurd cc
has_row ids (Frame id method signature source class_serial line) e = absurd cc
has_row ids (Trace serial thread frames) e = absurd cc
has_row ids (Start thread object trace name group parent_group) e = absurd cc
has_row ids (End thread) e = absurd cc
has_row ids (Rooted root) e = absurd cc
has_row ids (Class id trace parent loader signers domain reserved1 reserved2 size constants statics fields) e = absurd cc

-- what is no object stands before all objects, and its key is less
pub record IsOther (fact : FactValue) : Type 0 where
  pub before : (other : FactValue) (id : ℕ) → order_of other ≡ 9 ∷ id ∷ [] → IsBefore fact other
  pub less : (key : Key) → key_of fact ≡ Some key → rank_of key < 6

keyed : (fact : FactValue) → ((other : FactValue) (id : ℕ) → order_of other ≡ 9 ∷ id ∷ [] → IsBefore fact other) → (known : Key)
    → key_of fact ≡ Some known → rank_of known < 6 → IsOther fact
keyed fact before known is low = record {
  before = before;
  less = λ key key_is. let same : known ≡ key = cc in subst (λ (k : Key). rank_of k < 6) same low;
}

unkeyed : (fact : FactValue) → ((other : FactValue) (id : ℕ) → order_of other ≡ 9 ∷ id ∷ [] → IsBefore fact other)
    → key_of fact ≡ None → IsOther fact
unkeyed fact before none = record { before = before; less = λ key key_is. absurd cc }

pub other_fact : (fact : FactValue) → is_object fact ≡ false → IsOther fact
other_fact (Instance id trace class bytes) e = absurd cc
other_fact (ObjArray id trace class elements) e = absurd cc
other_fact (PrimArray id trace elem bytes) e = absurd cc
other_fact (Name id text) e = keyed (Name id text) (λ other n order. rw order refl) (keys.Name id) refl (omega arith)
other_fact (Load serial class trace name) e =
    keyed (Load serial class trace name) (λ other n order. rw order refl) (keys.Load serial) refl (omega arith)
other_fact (Unload serial) e = unkeyed (Unload serial) (λ other n order. rw order refl) refl
other_fact (Frame id method signature source class_serial line) e =
    keyed (Frame id method signature source class_serial line) (λ other n order. rw order refl) (keys.Frame id) refl (omega arith)
other_fact (Trace serial thread frames) e =
    keyed (Trace serial thread frames) (λ other n order. rw order refl) (keys.Trace serial) refl (omega arith)
other_fact (Start thread object trace name group parent_group) e =
    keyed (Start thread object trace name group parent_group) (λ other n order. rw order refl) (keys.Thread thread) refl (omega arith)
other_fact (End thread) e = unkeyed (End thread) (λ other n order. rw order refl) refl
other_fact (Rooted root) e = unkeyed (Rooted root) (λ other n order. rw order refl) refl
other_fact (Class id trace parent loader signers domain reserved1 reserved2 size constants statics fields) e =
    keyed (Class id trace parent loader signers domain reserved1 reserved2 size constants statics fields) (λ other n order. rw order refl)
    (keys.Class id) refl (omega arith)

-- objects with one row are one
pub one_object : (ids : IdSize) (one other : FactValue) (row : ByteRow) → object_row ids one ≡ Some row → object_row ids other ≡ Some row
    → Fits ids one → Fits ids other → one ≡ other
one_object ids one other row is is_too fits fits_too =
    let a = row_of ids one row is in
    let b = row_of ids other row is_too in
    let bytes : dump_bytes ids one ≡ dump_bytes ids other =
    ap (λ (r : ByteRow). r.1) a.row_is ∙ sym (ap (λ (r : ByteRow). r.1) b.row_is) in
    (dump_once ids one other [] [] (a.fits fits) (b.fits fits_too) (ap (λ (l : List ℕ). l ++ []) bytes)).0

-- and so are objects with one identifier and the same bytes
pub row_again : (ids : IdSize) (fact : FactValue) (row : ByteRow) → object_row ids fact ≡ Some row → row.1 ≡ dump_bytes ids fact
row_again ids fact row is = sym (ap (λ (r : ByteRow). r.1) (row_of ids fact row is).row_is)

-- ---- facts

-- rows of lists one behind the other
has_either : (xs ys : List ByteRow) (row : ByteRow) → Has (xs ++ ys) row → Has xs row ⊎ Has ys row
has_either [] ys row h = inr h
has_either (x ∷ xs) ys row (inl is) = inl (inl is)
has_either (x ∷ xs) ys row (inr h) = step (has_either xs ys row h)
  where
    step : Has xs row ⊎ Has ys row → Has (x ∷ xs) row ⊎ Has ys row
    step (inl front) = inl (inr front)
    step (inr back) = inr back

has_front : (xs ys : List ByteRow) (row : ByteRow) → Has xs row → Has (xs ++ ys) row
has_front [] ys row h = absurd h
has_front (x ∷ xs) ys row (inl is) = inl is
has_front (x ∷ xs) ys row (inr h) = inr (has_front xs ys row h)

has_back : (xs ys : List ByteRow) (row : ByteRow) → Has ys row → Has (xs ++ ys) row
has_back [] ys row h = h
has_back (x ∷ xs) ys row h = inr (has_back xs ys row h)

only_has : (shown : Option ByteRow) (row : ByteRow) → Has (only shown) row → shown ≡ Some row
only_has None row h = absurd h
only_has (Some shown) row (inl is) = ap Some (sym is)
only_has (Some shown) row (inr never) = absurd never

has_only : (shown : Option ByteRow) (row : ByteRow) → shown ≡ Some row → Has (only shown) row
has_only shown row e = subst (λ (o : Option ByteRow). Has (only o) row) (sym e) (inl refl)

-- the fact of a row
pub record IsFactOf (ids : IdSize) (facts : List FactValue) (row : ByteRow) : Type 0 where
  pub fact : FactValue
  pub has : sets.Has facts fact
  pub is : object_row ids fact ≡ Some row

pub fact_of_row : (ids : IdSize) (facts : List FactValue) (row : ByteRow) → Has (object_rows ids facts) row → IsFactOf ids facts row
fact_of_row ids [] row h = absurd h
fact_of_row ids (fact ∷ facts) row h =
    step (has_either (only (object_row ids fact)) (object_rows ids facts) row h) (fact_of_row ids facts row)
  where
    step : Has (only (object_row ids fact)) row ⊎ Has (object_rows ids facts) row → (Has (object_rows ids facts) row
        → IsFactOf ids facts row) → IsFactOf ids (fact ∷ facts) row
    step (inl front) next = record { fact = fact; has = inl refl; is = only_has (object_row ids fact) row front }
    step (inr back) next = let it = next back in record { fact = it.fact; has = inr it.has; is = it.is }

pub row_of_fact : (ids : IdSize) (facts : List FactValue) (fact : FactValue) (row : ByteRow) → sets.Has facts fact
    → object_row ids fact ≡ Some row → Has (object_rows ids facts) row
row_of_fact ids [] fact row h is = absurd h
row_of_fact ids (first ∷ facts) fact row (inl same) is =
    has_front (only (object_row ids first)) (object_rows ids facts) row
    (has_only (object_row ids first) row (ap (object_row ids) (sym same) ∙ is))
row_of_fact ids (first ∷ facts) fact row (inr h) is =
    has_back (only (object_row ids first)) (object_rows ids facts) row (row_of_fact ids facts fact row h is)

-- ---- facts that are no objects

pub others_among : (facts : List FactValue) (fact : FactValue) → sets.Has (no_objects facts) fact
    → sets.Has facts fact × (is_object fact ≡ false)
others_among [] fact h = absurd h
others_among (first ∷ facts) fact h = by (is_object first) refl h (others_among facts fact)
  where
    by : (t : Bool) → is_object first ≡ t → sets.Has (cond (not t) (first ∷ no_objects facts) (no_objects facts)) fact
        → (sets.Has (no_objects facts) fact → sets.Has facts fact × (is_object fact ≡ false))
        → sets.Has (first ∷ facts) fact × (is_object fact ≡ false)
    by true e h next = let it = next h in (inr it.0, it.1)
    by false e (inl same) next = (inl same, ap is_object same ∙ e)
    by false e (inr rest) next = let it = next rest in (inr it.0, it.1)

pub among_others : (facts : List FactValue) (fact : FactValue) → sets.Has facts fact → is_object fact ≡ false
    → sets.Has (no_objects facts) fact
among_others [] fact h e = absurd h
among_others (first ∷ facts) fact (inl same) e =
    let is : is_object first ≡ false = ap is_object (sym same) ∙ e in
    subst (λ (t : Bool). sets.Has (cond (not t) (first ∷ no_objects facts) (no_objects facts)) fact) (sym is) (inl same)
among_others (first ∷ facts) fact (inr h) e = by (is_object first) (among_others facts fact h e)
  where
    by : (t : Bool) → sets.Has (no_objects facts) fact → sets.Has (cond (not t) (first ∷ no_objects facts) (no_objects facts)) fact
    by true next = next
    by false next = inr next

-- ---- parts

pub others_given : (parts : List Given) (fact : FactValue) → sets.Has (all_given (map without_objects parts)) fact
    → sets.Has (all_given parts) fact × (is_object fact ≡ false)
others_given [] fact h = absurd h
others_given (part ∷ parts) fact h =
    step (Has-parts (no_objects part.facts) (all_given (map without_objects parts)) fact h) (others_given parts fact)
  where
    step : sets.Has (no_objects part.facts) fact ⊎ sets.Has (all_given (map without_objects parts)) fact
        → (sets.Has (all_given (map without_objects parts)) fact → sets.Has (all_given parts) fact × (is_object fact ≡ false))
        → sets.Has (all_given (part ∷ parts)) fact × (is_object fact ≡ false)
    step (inl front) next =
        let it = others_among part.facts fact front in (Has-front part.facts (all_given parts) fact it.0, it.1)
    step (inr back) next = let it = next back in (Has-back part.facts (all_given parts) fact it.0, it.1)

pub given_others : (parts : List Given) (fact : FactValue) → sets.Has (all_given parts) fact → is_object fact ≡ false
    → sets.Has (all_given (map without_objects parts)) fact
given_others [] fact h e = absurd h
given_others (part ∷ parts) fact h e = step (Has-parts part.facts (all_given parts) fact h) (λ back. given_others parts fact back e)
  where
    step : sets.Has part.facts fact ⊎ sets.Has (all_given parts) fact
        → (sets.Has (all_given parts) fact → sets.Has (all_given (map without_objects parts)) fact)
        → sets.Has (all_given (map without_objects (part ∷ parts))) fact
    step (inl front) next =
        Has-front (no_objects part.facts) (all_given (map without_objects parts)) fact (among_others part.facts fact front e)
    step (inr back) next = Has-back (no_objects part.facts) (all_given (map without_objects parts)) fact (next back)

-- a row of the parts is that of a fact, and the other way round
pub fact_given : (ids : IdSize) (parts : List Given) (row : ByteRow) → AllByRecursion (λ part. part.header.ids ≡ ids) parts
    → AnyHas (map rows_given parts) row → IsFactOf ids (all_given parts) row
fact_given ids [] row same (place, h) = absurd (nowhere place h)
  where
    nowhere : (n : ℕ) → Has [] row → ⊥
    nowhere n never = never
fact_given ids (part ∷ parts) row same (place, h) =
    step (first_has (rows_given part) (map rows_given parts) row place h) (fact_given ids parts row same.1)
  where
    step : Has (rows_given part) row ⊎ AnyHas (map rows_given parts) row
        → (AnyHas (map rows_given parts) row → IsFactOf ids (all_given parts) row) → IsFactOf ids (all_given (part ∷ parts)) row
    step (inl front) next =
        let it = fact_of_row ids part.facts row
        (subst (λ (i : IdSize). Has (object_rows i part.facts) row) same.0 front) in
        record { fact = it.fact; has = Has-front part.facts (all_given parts) it.fact it.has; is = it.is }
    step (inr back) next =
        let it = next back in
        record { fact = it.fact; has = Has-back part.facts (all_given parts) it.fact it.has; is = it.is }

pub given_row : (ids : IdSize) (parts : List Given) (fact : FactValue) (row : ByteRow)
    → AllByRecursion (λ part. part.header.ids ≡ ids) parts → sets.Has (all_given parts) fact → object_row ids fact ≡ Some row
    → AnyHas (map rows_given parts) row
given_row ids [] fact row same h is = absurd h
given_row ids (part ∷ parts) fact row same h is =
    step (Has-parts part.facts (all_given parts) fact h) (λ back. given_row ids parts fact row same.1 back is)
  where
    step : sets.Has part.facts fact ⊎ sets.Has (all_given parts) fact → (sets.Has (all_given parts) fact
        → AnyHas (map rows_given parts) row) → AnyHas (map rows_given (part ∷ parts)) row
    step (inl front) next =
        (0, subst (λ (i : IdSize). Has (object_rows i part.facts) row) (sym same.0) (row_of_fact ids part.facts fact row front is))
    step (inr back) next = back_has (rows_given part ∷ []) (map rows_given parts) row (next back)
