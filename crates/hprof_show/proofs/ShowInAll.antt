-- The report `show` of a small heap that has all objects which it is read from is that of the whole.
use Rattle.std.specs.Prelude.{IsTrue}
use Rattle.std.proofs.Common.{◌≡◌, ℕ, List, Option, Some, None, refl, ap, arith, ◌∙◌}
use Rattle.hprof_values.specs.declared.ids.IdSize.{IdSize}
use Rattle.hprof_items.specs.FactValue.{FactValue, PrimArray}
use Rattle.hprof_rows.specs.Conflict.{IsConsistent}
use Rattle.hprof_heap.specs.Classes.{ClassValue}
use Rattle.hprof_heap.specs.Found.{IsClassFound, IsObjectFound}
use Rattle.hprof_histogram.specs.Chosen.{is_among}
use Rattle.hprof_layouts.specs.Fields.{AreFields, FieldsValue}
use Rattle.hprof_layouts.proofs.FieldAnswers.{fields_exist}
use Rattle.hprof_naming.proofs.Lookups.{class_exists, object_exists}
use Rattle.hprof_small.specs.Small.{IsSmall}
use Rattle.hprof_small.proofs.SmallHas.{class_in_all, object_in_all}
use Rattle.hprof_describe.specs.Findings.{AreFindings, Findings}
use Rattle.hprof_describe.proofs.OneFinding.{findings_exist}
use Rattle.hprof_reports.proofs.SmallFields.{fields_in_all}
use Rattle.hprof_words.proofs.Among.{all_of}
use Rattle.hprof_words.proofs.SameWords.{Agrees, with_others}
use Rattle.hprof_words.proofs.WordsInAll.{are_others, same_of}
use Rattle.hprof_show.specs.Shown.{shown_ids}
use Rattle.hprof_show.specs.ShownObjects.{HasShown}
use Rattle.hprof_show.specs.ShowText.{IsShowText, found_text}
use Rattle.hprof_show.proofs.SameShow.{AreFound, IsArrayOfNumbers, found_same}

module _ (ids : IdSize) (wanted : List ℕ) (all small : List FactValue) (id : ℕ) (agree : IsConsistent all)
    (is : IsSmall ids wanted all small) (has : HasShown ids all id wanted) where
  -- the object itself is there
  object_there : IsTrue (is_among wanted id)
  object_there =
      let fields = fields_exist ids all id in
      let class = class_exists all id in
      let object = object_exists all id in
      (has fields.0 class.0 object.0 fields.1 class.1 object.1 id (0, omega arith, refl)).next.object

  -- ---- two findings

  module _ (one other : Findings) (are : AreFindings ids small one) (are_too : AreFindings ids all other) where
    -- ---- the dumps

    numbers_of : (fact : FactValue) → IsObjectFound small id (Some fact) → IsArrayOfNumbers fact
    numbers_of (PrimArray same trace elem bytes) found = (is.whole.fit (PrimArray same trace elem bytes) found.0).0.3
    numbers_of fact found = tt

    found_of : (class : Option ClassValue) (object : Option FactValue) → IsClassFound small id class → IsObjectFound small id object
        → AreFound id class object
    found_of None None class_is object_is = tt
    found_of (Some dump) None class_is object_is = class_is.1
    found_of None (Some fact) class_is object_is = numbers_of fact object_is
    found_of (Some dump) (Some fact) class_is object_is = (class_is.1, numbers_of fact object_is)

    -- what is found of the small heap has the same text
    text_same : (fields : FieldsValue) → AreFields ids small id fields
        → found_text one id fields (one.class id) (one.object id)
        ≡ found_text (with_others one other.object other.text other.thread_name) id fields (one.class id) (other.object id)
    text_same fields are_fields =
        let class_is = class_in_all ids wanted all small is id (one.class id) (are.classes id) in
        let object_is = object_in_all ids wanted all small is id object_there (one.object id) (are.objects id) in
        let fields_are = fields_in_all ids wanted all small is id object_there fields are_fields in
        let each = all_of (Agrees one other.object other.text other.thread_name) (shown_ids id fields (one.class id) (one.object id))
        (λ node shown. same_of ids wanted all small agree
        is one other are are_too node (has fields (one.class id) (one.object id) fields_are class_is object_is node shown)) in
        found_same one other.object other.text other.thread_name id fields (one.class id) (one.object id)
        (found_of (one.class id) (one.object id) (are.classes id) (are.objects id)) each
        ∙ ap (λ (o : Option FactValue). found_text (with_others one other.object other.text other.thread_name) id fields (one.class id) o)
        (same_of ids wanted all small agree
        is one other are are_too id (has fields (one.class id) (one.object id) fields_are class_is object_is
        id (0, omega arith, refl))).object_is

  pub show_in_all : (text : List ℕ) → IsShowText ids small id text → IsShowText ids all id text
  show_in_all text of =
      let whole = findings_exist ids all agree in
      record {
        agree = agree;
        found = with_others of.found whole.0.object whole.0.text whole.0.thread_name;
        are_found = are_others ids wanted all small agree is of.found whole.0 of.are_found whole.1;
        fields = of.fields;
        are_fields = fields_in_all ids wanted all small is id object_there of.fields of.are_fields;
        is = of.is ∙ text_same of.found whole.0 of.are_found whole.1 of.fields of.are_fields;
      }
