-- Weak fields that are put into a table, object by object.
use Rattle.std.specs.Prelude.{Contains}
use Rattle.std.proofs.Common.{List, [], ◌∷◌, inl, inr, refl, sym, subst, arith}
use Rattle.hprof_values.specs.declared.ids.IdSize.{IdSize}
use Rattle.hprof_items.specs.FactValue.{FactValue, Instance}
use Rattle.hprof_rows.specs.Conflict.{IsConsistent}
use Rattle.hprof_rows.specs.declared.table.Table.TheVariants as tables
use Rattle.hprof_rows.specs.Facts.{Has}
use Rattle.hprof_rows.specs.Tables.{number_of_table, stands_in}
use Rattle.hprof_rows.proofs.Picking.{picked}
use Rattle.hprof_edges.specs.declared.field_place.FieldPlace.{FieldPlace}
use Rattle.hprof_passes.specs.Passing.{TakesObjects, objects_among}
use Rattle.hprof_weak.specs.Rows.{ArePut, AreWeakRows, IsDoneWith, TakesRow}
use Rattle.hprof_weak.specs.declared.row_sink.RowSink.{RowSink}
use Rattle.hprof_weak.proofs.WeakPuts.{no_more_than_bytes}

module _ (facts : List FactValue) (agree : IsConsistent facts) where
  still_done : (object : FactValue) (fields more : List FieldPlace) → ((field : FieldPlace) → Contains fields field → Contains more field)
      → IsDoneWith facts fields object → IsDoneWith facts more object
  still_done (Instance id trace class bytes) fields more keeps done =
      λ slots known few field same weak. keeps field (done slots known few field same weak)
  still_done object fields more keeps done = tt

  -- these objects were gone over
  pub record AllTaken (objects : List FactValue) (old new : RowSink) : Type 0 where
    pub put : ArePut facts new.left new.fields.items
    pub keeps : (field : FieldPlace) → Contains old.fields.items field → Contains new.fields.items field
    pub done : (object : FactValue) → Has objects object → IsDoneWith facts new.fields.items object

  pub all_taken : (ids : IdSize) (objects : List FactValue) (old new : RowSink)
      → TakesObjects (λ one size object other. TakesRow one object other) ids old objects new → ArePut facts old.left old.fields.items
      → AllTaken objects old new
  all_taken ids [] old new same put = record {
    put = subst (λ (s : RowSink). ArePut facts s.left s.fields.items) same put;
    keeps = λ field has. subst (λ (s : RowSink). Contains s.fields.items field) same has;
    done = λ object has. absurd has;
  }
  all_taken ids (object ∷ objects) old new took put =
      let first = took.1 facts agree put in
      let rest = all_taken ids objects took.0 new took.2 first.put in
      record {
        put = rest.put;
        keeps = λ field has. rest.keeps field (first.keeps field has);
        done = λ other has. elim has [
          | inl same ↦ subst (λ (f : FactValue). IsDoneWith facts new.fields.items f) (sym same)
              (still_done object took.0.fields.items new.fields.items rest.keeps first.done)
          | inr later ↦ rest.done other later
        ];
      }

  -- all weak fields of instances with values are there
  pub rows_of_objects : (ids : IdSize) (old new : RowSink) → AllTaken (objects_among facts) old new → AreWeakRows ids facts new.fields.items
  rows_of_objects ids old new taken = record {
    only = taken.put.only;
    all = λ object class bytes slots instance known fills field of_class weak.
        let few = no_more_than_bytes ids slots in
        taken.done (Instance object instance.trace class bytes)
        (picked (stands_in (number_of_table tables.Objects)) facts (Instance object instance.trace class bytes)
        (record { has = instance.has; passes = refl }))
        slots known (omega (arith, few, fills)) field of_class weak;
  }
