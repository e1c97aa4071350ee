-- Something is found of each identifier, and nothing else.
use Rattle.std.proofs.Common.{◌≡◌, ℕ, List, refl, sym, ◌∙◌}
use Rattle.hprof_values.specs.declared.ids.IdSize.{IdSize}
use Rattle.hprof_items.specs.FactValue.{FactValue}
use Rattle.hprof_rows.specs.Conflict.{IsConsistent}
use Rattle.hprof_naming.proofs.Lookups.{class_exists, class_once, object_exists, object_once}
use Rattle.hprof_naming.proofs.Namings.{naming_exists, one_naming}
use Rattle.hprof_naming.proofs.OneText.{text_exists, text_once}
use Rattle.hprof_threads.proofs.NameAnswers.{thread_name_exists, thread_name_once}
use Rattle.hprof_describe.specs.Findings.{AreFindings, Findings}

-- there are findings
pub findings_exist : (ids : IdSize) (facts : List FactValue) → IsConsistent facts → (found : Findings) × AreFindings ids facts found
findings_exist ids facts agree =
    let naming = naming_exists facts in (
      record {
        ids = ids;
        naming = naming.0;
        class = λ id. (class_exists facts id).0;
        object = λ id. (object_exists facts id).0;
        text = λ id. (text_exists ids facts id).0;
        thread_name = λ id. (thread_name_exists ids facts id agree).0;
      },
      record {
        ids_are = refl;
        is_naming = naming.1;
        classes = λ id. (class_exists facts id).1;
        objects = λ id. (object_exists facts id).1;
        texts = λ id. (text_exists ids facts id).1;
        thread_names = λ id. (thread_name_exists ids facts id agree).1;
      },
    )

-- and these alone
pub one_findings : (ids : IdSize) (facts : List FactValue) → IsConsistent facts → (one other : Findings) → AreFindings ids facts one
    → AreFindings ids facts other → one ≡ other
one_findings ids facts agree one other is too =
    let sizes : one.ids ≡ other.ids = is.ids_are ∙ sym too.ids_are in
    let naming = one_naming facts agree one.naming other.naming is.is_naming too.is_naming in
    let classes = λ (id : ℕ). class_once facts agree id (one.class id) (other.class id) (is.classes id) (too.classes id) in
    let objects = λ (id : ℕ). object_once facts agree id (one.object id) (other.object id) (is.objects id) (too.objects id) in
    let texts = λ (id : ℕ). text_once facts agree ids id (one.text id) (other.text id) (is.texts id) (too.texts id) in
    let names = λ (id : ℕ). thread_name_once facts agree ids id (one.thread_name id) (other.thread_name id) (is.thread_names id)
    (too.thread_names id) in
    λ i. record {
      ids = sizes i;
      naming = naming i;
      class = λ id. classes id i;
      object = λ id. objects id i;
      text = λ id. texts id i;
      thread_name = λ id. names id i;
    }
