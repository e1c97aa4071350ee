-- The class dumps among facts, gone over from the front.
use Rattle.std.proofs.Common.{◌≡◌, Bool, true, false, cond, List, [], ◌∷◌, Option, Some, None, length, refl, sym, ap, subst, ◌∙◌, inl, inr}
use Rattle.std.specs.List.{AllByRecursion, cons_option}
use Rattle.std.specs.List.Sorted.{IsStrictlySortedBy}
use Rattle.std.specs.Ordering.{nat_cmp, ordering_then}
use Rattle.std.specs.declared.cmp.Ordering.{Ordering}
use Rattle.std.specs.declared.cmp.Ordering.TheVariants.{Less, Equal, Greater}
use Rattle.hprof_values.specs.declared.ids.IdSize.{IdSize}
use Rattle.hprof_items.specs.FactValue.{FactValue, Name, Load, Unload, Frame, Trace, Start, End, Rooted, Class, Instance, ObjArray}
use Rattle.hprof_items.specs.FactValue.{PrimArray}
use Rattle.hprof_rows.specs.declared.table.Table.TheVariants as tables
use Rattle.hprof_rows.specs.Conflict.{IsConsistent}
use Rattle.hprof_rows.specs.Order.{IsBefore, IsCanonicalOrder}
use Rattle.hprof_rows.proofs.Inserting.{agreeing-order}
use Rattle.hprof_rows.specs.Tables.{facts_of_table, number_of_table, stands_in}
use Rattle.hprof_heap.specs.Classes.{ClassValue, HasDump, fact_of_class}
use Rattle.hprof_histogram.proofs.Members.{IsIn, Contains-from_in, in_from_Contains}
use Rattle.hprof_naming.specs.Naming.{IsNaming, Naming}
use Rattle.hprof_reports.specs.ClassesText.{IsClassesText, classes_text}
use Rattle.hprof_reports.specs.ClassDumps.{AreClassDumps, class_in, dump_cmp, dumps_in}

-- a fact that is a class dump
is_dump : (fact : FactValue) (dump : ClassValue) → class_in fact ≡ Some dump → fact ≡ fact_of_class dump
is_dump (Class id trace parent loader signers domain reserved1 reserved2 size constants statics fields) dump e =
    ap fact_of_class (let same = e in cc)
is_dump _ dump e = absurd cc

-- ---- members

only_dumps : (facts : List FactValue) (dump : ClassValue) → IsIn dump (dumps_in facts) → HasDump facts dump
only_dumps [] dump has = absurd has
only_dumps (fact ∷ facts) dump has = by_dump (only_dumps facts dump) (class_in fact) refl has where
  by_dump : (IsIn dump (dumps_in facts) → HasDump facts dump) → (found : Option ClassValue) → class_in fact ≡ found
      → IsIn dump (cons_option found (dumps_in facts)) → HasDump (fact ∷ facts) dump
  by_dump later None e has = inr (later has)
  by_dump later (Some own) e has = elim has [
    | inl is ↦ inl (ap fact_of_class is ∙ sym (is_dump fact own e))
    | inr rest ↦ inr (later rest)
  ]

all_dumps : (facts : List FactValue) (dump : ClassValue) → HasDump facts dump → IsIn dump (dumps_in facts)
all_dumps [] dump has = absurd has
all_dumps (fact ∷ facts) dump has = elim has [
  | inl is ↦ subst (λ (f : FactValue). IsIn dump (cons_option (class_in f) (dumps_in facts))) is (inl refl)
  | inr later ↦ by_dump (all_dumps facts dump later) (class_in fact)
] where
  by_dump : IsIn dump (dumps_in facts) → (found : Option ClassValue) → IsIn dump (cons_option found (dumps_in facts))
  by_dump there None = there
  by_dump there (Some own) = inr there

-- ---- order

less_of_then : (order : Ordering) → ordering_then order Equal ≡ Less → order ≡ Less
less_of_then Less e = refl
less_of_then Equal e = absurd cc
less_of_then Greater e = absurd cc

before_by_id : (dump other : ClassValue) → IsBefore (fact_of_class dump) (fact_of_class other) → dump_cmp dump other ≡ Less
before_by_id dump other before = less_of_then (nat_cmp dump.id other.id) before

-- a dump that is before all facts is before all dumps among them
before_dumps : (dump : ClassValue) (facts : List FactValue) → AllByRecursion (IsBefore (fact_of_class dump)) facts
    → AllByRecursion (λ other. dump_cmp dump other ≡ Less) (dumps_in facts)
before_dumps dump [] before = tt
before_dumps dump (fact ∷ facts) before = by_dump (before_dumps dump facts before.1) (class_in fact) refl where
  by_dump : AllByRecursion (λ other. dump_cmp dump other ≡ Less) (dumps_in facts) → (found : Option ClassValue) → class_in fact ≡ found
      → AllByRecursion (λ other. dump_cmp dump other ≡ Less) (cons_option found (dumps_in facts))
  by_dump rest None e = rest
  by_dump rest (Some own) e = (before_by_id dump own (subst (IsBefore (fact_of_class dump)) (is_dump fact own e) before.0), rest)

dumps_ascend : (facts : List FactValue) → IsCanonicalOrder facts → IsStrictlySortedBy dump_cmp (dumps_in facts)
unfolding IsStrictlySortedBy
dumps_ascend [] ordered = tt
dumps_ascend (fact ∷ facts) ordered = by_dump (dumps_ascend facts ordered.1) (class_in fact) refl where
  by_dump : IsStrictlySortedBy dump_cmp (dumps_in facts) → (found : Option ClassValue) → class_in fact ≡ found
      → IsStrictlySortedBy dump_cmp (cons_option found (dumps_in facts))
  by_dump rest None e = rest
  by_dump rest (Some own) e =
      (before_dumps own facts (subst (λ (f : FactValue). AllByRecursion (IsBefore f) facts) (is_dump fact own e) ordered.0), rest)

-- ---- the whole

pub dumps_are_all : (facts : List FactValue) → IsCanonicalOrder facts → AreClassDumps facts (dumps_in facts)
dumps_are_all facts ordered = record {
  ascend = dumps_ascend facts ordered;
  exact = λ dump. (
    λ there. only_dumps facts dump (in_from_Contains (dumps_in facts) dump there),
    λ is. Contains-from_in (dumps_in facts) dump (all_dumps facts dump is),
  );
}

-- ---- one by one

-- a fact that stands in another table is no class dump
stands_elsewhere : (fact : FactValue) → stands_in (number_of_table tables.Classes) fact ≡ false → class_in fact ≡ None
stands_elsewhere (Class id trace parent loader signers domain reserved1 reserved2 size constants statics fields) e = absurd cc
stands_elsewhere (Name id text) e = refl
stands_elsewhere (Load serial class trace name) e = refl
stands_elsewhere (Unload serial) e = refl
stands_elsewhere (Frame id method signature source class_serial line) e = refl
stands_elsewhere (Trace serial thread frames) e = refl
stands_elsewhere (Start thread object trace name group parent_group) e = refl
stands_elsewhere (End thread) e = refl
stands_elsewhere (Rooted root) e = refl
stands_elsewhere (Instance id trace class bytes) e = refl
stands_elsewhere (ObjArray id trace class elements) e = refl
stands_elsewhere (PrimArray id trace elem bytes) e = refl

-- the dumps in the table of classes are those of all facts
pub dumps_of_table : (facts : List FactValue) → dumps_in (facts_of_table tables.Classes facts) ≡ dumps_in facts
dumps_of_table [] = refl
dumps_of_table (fact ∷ facts) = by_place (dumps_of_table facts) (stands_in (number_of_table tables.Classes) fact) refl where
  by_place : dumps_in (facts_of_table tables.Classes facts) ≡ dumps_in facts → (b : Bool) → stands_in (number_of_table tables.Classes) fact
      ≡ b
      → dumps_in (cond b (fact ∷ facts_of_table tables.Classes facts) (facts_of_table tables.Classes facts)) ≡ dumps_in (fact ∷ facts)
  by_place rest true e = ap (cons_option (class_in fact)) rest
  by_place rest false e = rest ∙ sym (ap (λ (found : Option ClassValue). cons_option found (dumps_in facts)) (stands_elsewhere fact e))

-- a fact in hand that is a class dump, or none
pub class_of_fact : (dump : ClassValue) (fact : FactValue) → fact_of_class dump ≡ fact → class_in fact ≡ Some dump
class_of_fact dump fact e = sym (ap class_in e)

pub no_class : (fact : FactValue) → ((dump : ClassValue) → fact_of_class dump ≡ fact → ⊥) → class_in fact ≡ None
no_class (Class id trace parent loader signers domain reserved1 reserved2 size constants statics fields) none = absurd (none (record {
  id = id;
  trace = trace;
  parent = parent;
  loader = loader;
  signers = signers;
  domain = domain;
  reserved1 = reserved1;
  reserved2 = reserved2;
  size = size;
  constants = constants;
  statics = statics;
  fields = fields;
}) refl)
no_class (Name id text) none = refl
no_class (Load serial class trace name) none = refl
no_class (Unload serial) none = refl
no_class (Frame id method signature source class_serial line) none = refl
no_class (Trace serial thread frames) none = refl
no_class (Start thread object trace name group parent_group) none = refl
no_class (End thread) none = refl
no_class (Rooted root) none = refl
no_class (Instance id trace class bytes) none = refl
no_class (ObjArray id trace class elements) none = refl
no_class (PrimArray id trace elem bytes) none = refl

-- what is left, from the front
pub dumps_with : (fact : FactValue) (left rest : List FactValue) (dump : ClassValue) → left ≡ fact ∷ rest → fact_of_class dump ≡ fact
    → dumps_in left ≡ dump ∷ dumps_in rest
dumps_with fact left rest dump e is =
    ap dumps_in e ∙ ap (λ (found : Option ClassValue). cons_option found (dumps_in rest)) (class_of_fact dump fact is)

pub dumps_without : (fact : FactValue) (left rest : List FactValue) → left ≡ fact ∷ rest
    → ((dump : ClassValue) → fact_of_class dump ≡ fact → ⊥) → dumps_in left ≡ dumps_in rest
dumps_without fact left rest e none =
    ap dumps_in e ∙ ap (λ (found : Option ClassValue). cons_option found (dumps_in rest)) (no_class fact none)

-- where no facts are left no bytes are
pub none_left : (naming : Naming) (ids : IdSize) (facts left : List FactValue) → left ≡ []
    → length (classes_text naming ids facts (dumps_in left)) ≡ 0
none_left naming ids facts left none = ap (λ (l : List FactValue). length (classes_text naming ids facts (dumps_in l))) none

-- the lines of all dumps are the report
pub classes_text_is : (ids : IdSize) (facts : List FactValue) → IsConsistent facts → IsCanonicalOrder facts → (naming : Naming)
    → IsNaming facts naming → IsClassesText ids facts (classes_text naming ids facts (dumps_in facts))
classes_text_is ids facts agree ordered naming is = record {
  agree = agree;
  naming = naming;
  is_naming = is;
  dumps = dumps_in facts;
  are_dumps = dumps_are_all facts ordered;
  is = refl;
}

-- facts that agree have a list of their class dumps
pub some_dumps : (facts : List FactValue) → IsConsistent facts → (dumps : List ClassValue) × AreClassDumps facts dumps
some_dumps facts agree =
    let rows = agreeing-order facts agree in
    let are = dumps_are_all rows.0 rows.1 in (
      dumps_in rows.0,
      record {
        ascend = are.ascend;
        exact = λ dump. (
          λ there. (rows.2 (fact_of_class dump)).0 ((are.exact dump).0 there),
          λ has. (are.exact dump).1 ((rows.2 (fact_of_class dump)).1 has),
        );
      },
    )
