-- What is new among facts that are no objects is new among all.
use Rattle.std.proofs.Common.{◌≡◌, ◌⊎◌, Bool, true, false, not, List, [], ◌∷◌, ◌++◌, map, Option, Some, None, inl, inr}
use Rattle.std.proofs.Common.{refl, sym, ap, subst, ◌∙◌}
use Rattle.std.proofs.Common.{cond}
use Rattle.std.specs.Prelude.{◌||◌}
use Rattle.std.specs.List.{AllByRecursion, list_any}
use Rattle.std.proofs.lemmas.List.Elements.{filter-append}
use Rattle.hprof_values.specs.declared.ids.IdSize.{IdSize}
use Rattle.hprof_items.specs.declared.header.Header.{Header}
use Rattle.hprof_items.specs.FactValue.{FactValue, Instance, ObjArray}
use Rattle.hprof_items.specs.FactValue.{PrimArray}
use Rattle.hprof_rows.specs.declared.key.Key.{Key}
use Rattle.hprof_rows.specs.declared.key.Key.TheVariants as keys
use Rattle.hprof_rows.specs.Facts.{Has}
use Rattle.hprof_rows.specs.Key.{HaveOneKey, key_of}
use Rattle.hprof_rows.specs.Stating.{IsNewAmong}
use Rattle.hprof_heap.specs.Gathering.{Given, HaveOneSize, IsNewBehind, all_given}
use Rattle.hprof_objects.specs.Whole.{is_object, no_objects, without_objects}
use Rattle.hprof_stored.specs.Storing.{HaveObject}

-- ---- the key says whether a fact is an object

abbrev of_object : Option Key → Bool
of_object None = false
of_object (Some (keys.Object id)) = true
of_object (Some other) = false

object_by_key : (fact : FactValue) → is_object fact ≡ of_object (key_of fact)
object_by_key (Instance id trace class bytes) = refl
object_by_key (ObjArray id trace class elements) = refl
object_by_key (PrimArray id trace elem bytes) = refl
object_by_key fact = refl

alike : (one other : FactValue) → HaveOneKey one other → is_object one ≡ is_object other
alike one other key =
    object_by_key one ∙ ap of_object (key.key_of_one ∙ sym key.key_of_other) ∙ sym (object_by_key other)

-- ---- facts that are no objects

has_behind : (is : Bool) (first fact : FactValue) (facts : List FactValue) → Has facts fact → Has (cond is (first ∷ facts) facts) fact
has_behind true first fact facts has = inr has
has_behind false first fact facts has = has

kept : (first fact : FactValue) (facts : List FactValue) (is : Bool) → is ≡ true → fact ≡ first → Has (cond is (first ∷ facts) facts) fact
kept first fact facts true e same = inl same
kept first fact facts false e same = absurd cc

has_other : (facts : List FactValue) (fact : FactValue) → is_object fact ≡ false → Has facts fact → Has (no_objects facts) fact
has_other [] fact apart has = has
has_other (first ∷ facts) fact apart (inl same) =
    kept first fact (no_objects facts) (not (is_object first)) (ap (λ (f : FactValue). not (is_object f)) (sym same) ∙ ap not apart) same
has_other (first ∷ facts) fact apart (inr has) =
    has_behind (not (is_object first)) first fact (no_objects facts) (has_other facts fact apart has)

others_given : (parts : List Given) → all_given (map without_objects parts) ≡ no_objects (all_given parts)
others_given [] = refl
others_given (part ∷ parts) =
    ap (λ (l : List FactValue). no_objects part.facts ++ l) (others_given parts)
    ∙ sym (filter-append (λ (f : FactValue). not (is_object f)) part.facts (all_given parts))

others_before : (parts : List Given) (before : List FactValue) → all_given (map without_objects parts) ++ no_objects before ≡ no_objects
    (all_given parts ++ before)
others_before parts before =
    ap (λ (l : List FactValue). l ++ no_objects before) (others_given parts)
    ∙ sym (filter-append (λ (f : FactValue). not (is_object f)) (all_given parts) before)

new_among_all : (facts : List FactValue) (fact : FactValue) → is_object fact ≡ false → IsNewAmong (no_objects facts) fact
    → IsNewAmong facts fact
new_among_all facts fact apart is = record {
  is_new = λ other has key. is.is_new other (has_other facts other (alike other fact key ∙ apart) has) key;
  absent = λ has. is.absent (has_other facts fact apart has);
}

-- ---- sizes

sizes_of_all : (ids : IdSize) (parts : List Given) → AllByRecursion (λ part. part.header.ids ≡ ids) (map without_objects parts)
    → AllByRecursion (λ part. part.header.ids ≡ ids) parts
sizes_of_all ids [] sizes = tt
sizes_of_all ids (part ∷ parts) sizes = (sizes.0, sizes_of_all ids parts sizes.1)

one_size : (parts : List Given) (header : Option Header) → HaveOneSize (map without_objects parts) header → HaveOneSize parts header
one_size parts None size = (size.0, sizes_of_all size.0 parts size.1)
one_size parts (Some header) size = sizes_of_all header.ids parts size

-- what is new behind the other facts is an object, or new behind all
pub new_behind_all : (parts : List Given) (header : Option Header) (before given : List FactValue)
    → IsNewBehind (map without_objects parts) header (no_objects before) given
    → HaveObject given ⊎ IsNewBehind parts header before given
new_behind_all parts header before [] is = absurd is
new_behind_all parts header before (fact ∷ rest) is = by (is_object fact) refl
  where
    by : (object : Bool) → is_object fact ≡ object → HaveObject (fact ∷ rest) ⊎ IsNewBehind parts header before (fact ∷ rest)
    by true e = inl (ap (λ (b : Bool). b || list_any is_object rest) e)
    by false e = inr (
      one_size parts header is.0,
      new_among_all (all_given parts ++ before) fact e
          (subst (λ (l : List FactValue). IsNewAmong l fact) (others_before parts before) is.1),
    )
