-- How many objects of a kind facts have, counted from the front.
use Rattle.std.proofs.Common.{◌≡◌, ℕ, ◌+◌, ◌*◌, ◌^◌, ◌<◌, ◌≤◌, Bool, true, false, cond, List, [], ◌∷◌, Option, None, length, refl, sym, ap}
use Rattle.std.proofs.Common.{◌∙◌, arith, length-append, subst}
use Rattle.std.specs.List.{filter, sum_by}
use Rattle.std.proofs.lemmas.List.Sums.{sum_by-cons}
use Rattle.hprof_values.specs.declared.ids.IdSize.{IdSize}
use Rattle.hprof_values.specs.declared.ids.IdSize.TheVariants as sizes
use Rattle.hprof_values.specs.Ids.{width_of}
use Rattle.hprof_values.specs.FieldGroups.{field_bytes}
use Rattle.hprof_items.specs.FactValue.{FactValue, Name, Load, Unload, Frame, Trace, Start, End, Rooted, Class, Instance, ObjArray}
use Rattle.hprof_items.specs.FactValue.{PrimArray}
use Rattle.hprof_items.specs.Spelling.{Fits}
use Rattle.hprof_items.specs.SubRecord.{instance_widths, instance_numbers, prim_array_widths, prim_array_numbers}
use Rattle.hprof_rows.specs.declared.table.Table.TheVariants as tables
use Rattle.hprof_rows.specs.Tables.{facts_of_table}
use Rattle.hprof_passes.specs.Passing.{TakesObjects, objects_among}
use Rattle.hprof_histogram.specs.declared.row.Kind.{Kind}
use Rattle.hprof_histogram.specs.declared.counted.Counted.{Counted}
use Rattle.hprof_histogram.specs.declared.counted_kinds.CountedKinds.{CountedKinds}
use Rattle.hprof_histogram.specs.Histogram.{object_kind, is_kind, of_kind, size_of_object}
use Rattle.hprof_histogram.specs.CountedKinds.{CountsObject, IsTally, both, counted_in, counted_of, nothing, one_of}
use Rattle.hprof_histogram.proofs.Tallies.{both_nothing}

-- ---- sums

nothing_both : (counted : Counted) → both nothing counted ≡ counted
nothing_both counted =
    let count : 0 + counted.count ≡ counted.count = omega arith in
    let bytes : 0 + counted.bytes ≡ counted.bytes = omega arith in
    λ i. record { count = count i; bytes = bytes i }

both_assoc : (these those more : Counted) → both (both these those) more ≡ both these (both those more)
both_assoc these those more =
    let count : these.count + those.count + more.count ≡ these.count + (those.count + more.count) = omega arith in
    let bytes : these.bytes + those.bytes + more.bytes ≡ these.bytes + (those.bytes + more.bytes) = omega arith in
    λ i. record { count = count i; bytes = bytes i }

-- ---- one fact more

-- the objects of a list
abbrev counted_list : IdSize → List FactValue → Counted
counted_list ids objects = record { count = length objects; bytes = sum_by (size_of_object ids) objects }

counted_first : (ids : IdSize) (fact : FactValue) (objects : List FactValue) → counted_list ids (fact ∷ objects)
    ≡ both (one_of (size_of_object ids fact)) (counted_list ids objects)
counted_first ids fact objects =
    let count : length (fact ∷ objects) ≡ 1 + length objects = omega arith in
    let bytes = sum_by-cons (size_of_object ids) fact objects in
    λ i. record { count = count i; bytes = bytes i }

pub kept_first : (kind : Kind) (fact : FactValue) (facts : List FactValue) → is_kind kind (object_kind fact) ≡ true
    → of_kind kind (fact ∷ facts) ≡ fact ∷ of_kind kind facts
kept_first kind fact facts e = ap (λ (b : Bool). cond b (fact ∷ of_kind kind facts) (of_kind kind facts)) e

pub left_out : (kind : Kind) (fact : FactValue) (facts : List FactValue) → is_kind kind (object_kind fact) ≡ false
    → of_kind kind (fact ∷ facts) ≡ of_kind kind facts
left_out kind fact facts e = ap (λ (b : Bool). cond b (fact ∷ of_kind kind facts) (of_kind kind facts)) e

-- a fact more, and others
counted_more : (ids : IdSize) (kind : Kind) (fact : FactValue) (facts : List FactValue) → counted_of ids kind (fact ∷ facts)
    ≡ cond (is_kind kind (object_kind fact)) (both (one_of (size_of_object ids fact)) (counted_of ids kind facts))
    (counted_of ids kind facts)
counted_more ids kind fact facts = by_test (is_kind kind (object_kind fact)) refl where
  by_test : (b : Bool) → is_kind kind (object_kind fact) ≡ b → counted_of ids kind (fact ∷ facts)
      ≡ cond b (both (one_of (size_of_object ids fact)) (counted_of ids kind facts)) (counted_of ids kind facts)
  by_test true e = ap (counted_list ids) (kept_first kind fact facts e) ∙ counted_first ids fact (of_kind kind facts)
  by_test false e = ap (counted_list ids) (left_out kind fact facts e)

-- ---- what is counted, and what is left

-- what the tally has, and then the facts that are left, is what all facts have
abbrev IsTallyTo : IdSize → List FactValue → CountedKinds → List FactValue → Type 0
IsTallyTo ids all tally left = (kind : Kind) → both (counted_in tally kind) (counted_of ids kind left) ≡ counted_of ids kind all

tally_counts : (ids : IdSize) (all rest : List FactValue) (tally after : CountedKinds) (fact : FactValue)
    → CountsObject tally ids fact after
    → IsTallyTo ids all tally (fact ∷ rest) → IsTallyTo ids all after rest
tally_counts ids all rest tally after fact counts to kind =
    by_test (is_kind kind (object_kind fact)) (counted_more ids kind fact rest) (counts kind) ∙ to kind where
      by_test : (b : Bool) → counted_of ids kind (fact ∷ rest)
          ≡ cond b (both (one_of (size_of_object ids fact)) (counted_of ids kind rest)) (counted_of ids kind rest)
          → counted_in after kind ≡ cond b (both (counted_in tally kind) (one_of (size_of_object ids fact))) (counted_in tally kind)
          → both (counted_in after kind) (counted_of ids kind rest) ≡ both (counted_in tally kind) (counted_of ids kind (fact ∷ rest))
      by_test true more is =
          ap (λ (c : Counted). both c (counted_of ids kind rest)) is
          ∙ both_assoc (counted_in tally kind) (one_of (size_of_object ids fact)) (counted_of ids kind rest)
          ∙ ap (both (counted_in tally kind)) (sym more)
      by_test false more is =
          ap (λ (c : Counted). both c (counted_of ids kind rest)) is ∙ ap (both (counted_in tally kind)) (sym more)

tally_taken : (ids : IdSize) (all objects : List FactValue) (old new : CountedKinds) → TakesObjects CountsObject ids old objects new
    → IsTallyTo ids all old objects → IsTallyTo ids all new []
tally_taken ids all [] old new same to = subst (λ (tally : CountedKinds). IsTallyTo ids all tally []) same to
tally_taken ids all (object ∷ objects) old new takes to =
    tally_taken ids all objects takes.0 new takes.2 (tally_counts ids all objects old takes.0 object takes.1 to)

-- ---- all facts

elements_within : (ids : IdSize) (elements : ℕ) → elements < 256 ^ 4 → elements * width_of ids ≤ 2 ^ 36
elements_within sizes.Four elements few = omega arith
elements_within sizes.Eight elements few = omega arith

-- no object has more than 2^36 bytes
pub size_within : (ids : IdSize) (fact : FactValue) → Fits ids fact → size_of_object ids fact ≤ 2 ^ 36
size_within ids (Instance id trace class bytes) fits =
    omega (arith, fits.1, length-append (field_bytes (instance_widths ids) (instance_numbers id trace class bytes)) bytes)
size_within ids (ObjArray id trace class elements) fits = elements_within ids (length elements) fits.0.0.1.1.0
size_within ids (PrimArray id trace elem bytes) fits =
    omega (arith, fits.1, length-append (field_bytes (prim_array_widths ids) (prim_array_numbers ids id trace elem bytes)) bytes)
size_within ids _ fits = omega arith

-- the objects that pass a test stand in the table of objects
module _ (test : Option Kind → Bool) (none : test None ≡ false) where
  abbrev pub passing : List FactValue → List FactValue
  passing facts = filter (λ fact. test (object_kind fact)) facts

  -- an object that may pass
  passing_too : (fact : FactValue) (facts others : List FactValue) → passing facts ≡ passing others
      → passing (fact ∷ facts) ≡ passing (fact ∷ others)
  passing_too fact facts others e = ap (λ (l : List FactValue). cond (test (object_kind fact)) (fact ∷ l) l) e

  -- a fact that is no object
  passing_past : (fact : FactValue) (facts others : List FactValue) → object_kind fact ≡ None → passing facts ≡ passing others
      → passing facts ≡ passing (fact ∷ others)
  passing_past fact facts others no_object e =
      e ∙ sym (ap (λ (b : Bool). cond b (fact ∷ passing others) (passing others)) (ap test no_object ∙ none))

  pub same_passing : (facts : List FactValue) → passing (facts_of_table tables.Objects facts) ≡ passing facts
  same_passing [] = refl
  same_passing (Instance id trace class bytes ∷ facts) =
      passing_too (Instance id trace class bytes) (facts_of_table tables.Objects facts) facts (same_passing facts)
  same_passing (ObjArray id trace class elements ∷ facts) =
      passing_too (ObjArray id trace class elements) (facts_of_table tables.Objects facts) facts (same_passing facts)
  same_passing (PrimArray id trace elem bytes ∷ facts) =
      passing_too (PrimArray id trace elem bytes) (facts_of_table tables.Objects facts) facts (same_passing facts)
  same_passing (Name id text ∷ facts) = passing_past (Name id text) (facts_of_table tables.Objects facts) facts refl (same_passing facts)
  same_passing (Load serial class trace name ∷ facts) =
      passing_past (Load serial class trace name) (facts_of_table tables.Objects facts) facts refl (same_passing facts)
  same_passing (Unload serial ∷ facts) = passing_past (Unload serial) (facts_of_table tables.Objects facts) facts refl (same_passing facts)
  same_passing (Frame id method signature source class_serial line ∷ facts) =
      passing_past (Frame id method signature source class_serial line) (facts_of_table tables.Objects facts) facts refl
      (same_passing facts)
  same_passing (Trace serial thread frames ∷ facts) =
      passing_past (Trace serial thread frames) (facts_of_table tables.Objects facts) facts refl (same_passing facts)
  same_passing (Start thread object trace name group parent_group ∷ facts) =
      passing_past (Start thread object trace name group parent_group) (facts_of_table tables.Objects facts) facts refl (same_passing facts)
  same_passing (End thread ∷ facts) = passing_past (End thread) (facts_of_table tables.Objects facts) facts refl (same_passing facts)
  same_passing (Rooted root ∷ facts) = passing_past (Rooted root) (facts_of_table tables.Objects facts) facts refl (same_passing facts)
  same_passing (Class id trace parent loader signers domain reserved1 reserved2 size constants statics fields ∷ facts) =
      passing_past (Class id trace parent loader signers domain reserved1 reserved2 size constants statics fields)
      (facts_of_table tables.Objects facts) facts refl (same_passing facts)

-- so do those of a kind
pub same_of_kind : (kind : Kind) (facts : List FactValue) → of_kind kind (facts_of_table tables.Objects facts) ≡ of_kind kind facts
same_of_kind kind facts = same_passing (is_kind kind) refl facts

-- what was counted of the table of objects is a tally of all facts
pub tally_of_all : (ids : IdSize) (facts : List FactValue) (old new : CountedKinds) → ((kind : Kind) → counted_in old kind ≡ nothing)
    → TakesObjects CountsObject ids old (objects_among facts) new → IsTally ids facts new
tally_of_all ids facts old new empty takes kind =
    sym (both_nothing (counted_in new kind))
    ∙ tally_taken ids (objects_among facts) (objects_among facts) old new takes
    (λ kind. ap (λ (c : Counted). both c (counted_of ids kind (objects_among facts))) (empty kind)
    ∙ nothing_both (counted_of ids kind (objects_among facts))) kind
    ∙ ap (counted_list ids) (same_of_kind kind facts)
