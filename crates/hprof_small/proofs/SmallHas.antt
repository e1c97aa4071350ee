-- What a small heap has of an identifier, the whole has.
use Rattle.std.proofs.Common.{◌≡◌, ℕ, true, List, Option, Some, None, refl, sym, subst}
use Rattle.std.specs.Prelude.{IsTrue}
use Rattle.hprof_values.specs.declared.ids.IdSize.{IdSize}
use Rattle.hprof_items.specs.FactValue.{FactValue, Name, Load, Unload, Frame, Trace, Start, End, Rooted, Class, Instance, ObjArray}
use Rattle.hprof_items.specs.FactValue.{PrimArray}
use Rattle.hprof_rows.specs.declared.table.Table.TheVariants as tables
use Rattle.hprof_rows.specs.Facts.{Has}
use Rattle.hprof_rows.specs.Tables.{number_of_table, stands_in}
use Rattle.hprof_rows.proofs.Picking.{picked, picked_is}
use Rattle.hprof_heap.specs.Classes.{ClassValue, HasDump, HasNoDump, fact_of_class}
use Rattle.hprof_heap.specs.Found.{IsClassFound, IsObjectFound}
use Rattle.hprof_heap.specs.Objects.{HasNoObject, IsObject}
use Rattle.hprof_histogram.specs.Chosen.{is_among}
use Rattle.hprof_passes.specs.Passing.{objects_among}
use Rattle.hprof_passes.specs.Picked.{is_wanted}
use Rattle.hprof_passes.proofs.PickedObjects.{is_object_of, is_wanted_at}
use Rattle.hprof_passes.proofs.Tables.{has_same}
use Rattle.hprof_small.specs.Small.{IsSmall}

module _ (ids : IdSize) (wanted : List ℕ) (all small : List FactValue) (is : IsSmall ids wanted all small) where
  -- ---- facts

  -- an object of the small heap is one of the whole
  object_has : (fact : FactValue) → stands_in (number_of_table tables.Objects) fact ≡ true → Has small fact → Has all fact
  object_has fact stands has =
      let object = picked (stands_in (number_of_table tables.Objects)) small fact (record { has = has; passes = stands }) in
      let chosen = picked_is (is_wanted wanted) (objects_among all) fact
      (subst (λ (l : List FactValue). Has l fact) is.objects object) in
      (picked_is (stands_in (number_of_table tables.Objects)) all fact chosen.has).has

  -- and so is each of its facts
  pub small_has : (fact : FactValue) → Has small fact → Has all fact
  small_has (Name id text) has = (has_same ids all small is.whole tables.Names (λ e. cc) (Name id text) refl).0 has
  small_has (Load serial class trace name) has =
      (has_same ids all small is.whole tables.Loads (λ e. cc) (Load serial class trace name) refl).0 has
  small_has (Unload serial) has = (has_same ids all small is.whole tables.Unloads (λ e. cc) (Unload serial) refl).0 has
  small_has (Frame id method signature source class_serial line) has =
      (has_same ids all small is.whole tables.Frames (λ e. cc) (Frame id method signature source class_serial line) refl).0 has
  small_has (Trace serial thread frames) has =
      (has_same ids all small is.whole tables.Traces (λ e. cc) (Trace serial thread frames) refl).0 has
  small_has (Start thread object trace name group parent_group) has =
      (has_same ids all small is.whole tables.Starts (λ e. cc) (Start thread object trace name group parent_group) refl).0 has
  small_has (End thread) has = (has_same ids all small is.whole tables.Ends (λ e. cc) (End thread) refl).0 has
  small_has (Rooted root) has = (has_same ids all small is.whole tables.Roots (λ e. cc) (Rooted root) refl).0 has
  small_has (Class id trace parent loader signers domain reserved1 reserved2 size constants statics fields) has =
      (has_same ids all small is.whole tables.Classes (λ e. cc)
      (Class id trace parent loader signers domain reserved1 reserved2 size constants statics fields) refl).0 has
  small_has (Instance id trace class bytes) has = object_has (Instance id trace class bytes) refl has
  small_has (ObjArray id trace class elements) has = object_has (ObjArray id trace class elements) refl has
  small_has (PrimArray id trace elem bytes) has = object_has (PrimArray id trace elem bytes) refl has

  -- a class dump of the whole is one of the small heap
  pub dump_kept : (dump : ClassValue) → HasDump all dump → HasDump small dump
  dump_kept dump has = (has_same ids all small is.whole tables.Classes (λ e. cc) (fact_of_class dump) refl).1 has

  -- an object of the whole that is wanted is one of the small heap
  pub object_kept : (id : ℕ) → IsTrue (is_among wanted id) → (fact : FactValue) → IsObject id fact → Has all fact → Has small fact
  object_kept id among fact is_object has =
      let object = is_object_of id fact is_object in
      let chosen = picked (is_wanted wanted) (objects_among all) fact (record {
        has = picked (stands_in (number_of_table tables.Objects)) all fact (record { has = has; passes = object.stands });
        passes = is_wanted_at wanted fact id object.of among;
      }) in
      (picked_is (stands_in (number_of_table tables.Objects)) small fact
      (subst (λ (l : List FactValue). Has l fact) (sym is.objects) chosen)).has

  -- ---- what is found

  pub no_dump_in_all : (class : ℕ) → HasNoDump small class → HasNoDump all class
  no_dump_in_all class none = λ dump has. none dump (dump_kept dump has)

  pub class_in_all : (id : ℕ) (class : Option ClassValue) → IsClassFound small id class → IsClassFound all id class
  class_in_all id (Some dump) found = (small_has (fact_of_class dump) found.0, found.1)
  class_in_all id None none = no_dump_in_all id none

  module _ (id : ℕ) (among : IsTrue (is_among wanted id)) where
    pub no_object_in_all : HasNoObject small id → HasNoObject all id
    no_object_in_all none = λ fact has is_object. none fact (object_kept id among fact is_object has) is_object

    pub object_in_all : (object : Option FactValue) → IsObjectFound small id object → IsObjectFound all id object
    object_in_all (Some fact) found = (small_has fact found.0, found.1)
    object_in_all None none = no_object_in_all none
