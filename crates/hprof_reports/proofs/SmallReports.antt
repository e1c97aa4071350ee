-- The reports on a small heap are those on the whole.
use Rattle.std.proofs.Common.{ℕ, List}
use Rattle.std.specs.Prelude.{IsTrue}
use Rattle.hprof_values.specs.declared.ids.IdSize.{IdSize}
use Rattle.hprof_items.specs.FactValue.{FactValue}
use Rattle.hprof_rows.specs.Conflict.{IsConsistent}
use Rattle.hprof_histogram.specs.Chosen.{is_among}
use Rattle.hprof_lines.proofs.WholeNames.{naming_same}
use Rattle.hprof_reports.specs.ObjectText.{IsObjectText}
use Rattle.hprof_reports.specs.TextReport.{IsTextLine}
use Rattle.hprof_small.specs.Small.{IsSmall}
use Rattle.hprof_reports.specs.TextObjects.{HasValueArray}
use Rattle.hprof_reports.proofs.SmallFields.{fields_in_all}
use Rattle.hprof_small.proofs.SmallHas.{class_in_all, object_in_all}
use Rattle.hprof_reports.proofs.SmallTexts.{text_in_all}

module _ (ids : IdSize) (wanted : List ℕ) (all small : List FactValue) (id : ℕ) (text : List ℕ) (agree : IsConsistent all)
    (is : IsSmall ids wanted all small) (among : IsTrue (is_among wanted id)) where
  pub object_text_in_all : IsObjectText ids small id text → IsObjectText ids all id text
  object_text_in_all of = record {
    agree = agree;
    naming = of.naming;
    is_naming = naming_same ids all small is.whole of.naming of.is_naming;
    class = of.class;
    class_found = class_in_all ids wanted all small is id of.class of.class_found;
    object = of.object;
    object_found = object_in_all ids wanted all small is id among of.object of.object_found;
    fields = of.fields;
    are_fields = fields_in_all ids wanted all small is id among of.fields of.are_fields;
    is = of.is;
  }

  pub text_line_in_all : HasValueArray ids all id wanted → IsTextLine ids small id text → IsTextLine ids all id text
  text_line_in_all has of = record {
    agree = agree;
    text = of.text;
    is_text = text_in_all ids wanted all small is id of.text among has of.is_text;
    is = of.is;
  }
