-- The classes of a heap, gathered.
use Rattle.std.proofs.Common.{◌≡◌, ◌⊎◌, ◌↔◌, ◌<◌, inl, inr, true, ℕ, zero, suc, List, [], ◌∷◌, ◌++◌, Option, Some, None}
use Rattle.std.proofs.Common.{length, get_or, refl, sym, ap, subst, ◌∙◌, arith, append_assoc, append-nil}
use Rattle.std.specs.Prelude.{Contains}
use Rattle.std.specs.List.{flat_map}
use Rattle.std.specs.List.Sorted.{IsStrictlyIncreasing}
use Rattle.std.proofs.lemmas.List.Elements.{Contains-append_cases, Contains-append_left, Contains-append_right}
use Rattle.hprof_values.specs.declared.ids.IdSize.{IdSize}
use Rattle.hprof_items.specs.FactValue.{FactValue, Class, Instance, Load, ObjArray, PrimArray}
use Rattle.hprof_rows.specs.declared.table.Table.TheVariants as tables
use Rattle.hprof_rows.specs.Facts.{Has}
use Rattle.hprof_rows.specs.Tables.{facts_of_table, number_of_table, stands_in}
use Rattle.hprof_heap.specs.Classes.{fact_of_class}
use Rattle.hprof_histogram.specs.declared.row.Kind.{Kind}
use Rattle.hprof_histogram.specs.declared.row.Kind.TheVariants as kinds
use Rattle.hprof_histogram.specs.declared.row.Row.{Row}
use Rattle.hprof_histogram.specs.Histogram.{IsHistogram, object_kind}
use Rattle.hprof_histogram.proofs.Members.{IsIn, Contains-from_in, in_from_Contains}
use Rattle.hprof_histogram.proofs.OneHistogram.{some_of_kind}
use Rattle.hprof_threads.proofs.Gathered.{IsOf, none_there, of_table}
use Rattle.hprof_meaning.specs.MeantClasses.{AreAll, IsClass, IsDumped, class_named}
use Rattle.hprof_meaning.specs.Stated.{class_dumped, class_loaded, class_of_kind, class_of_row}

-- ---- lists of one

pub one_there : (x y : ℕ) → Contains (x ∷ []) y → y ≡ x
one_there x y has = at_place has.0 has.1 has.2 where
  at_place : (place : ℕ) → place < length (x ∷ []) → get_or (x ∷ []) place y ≡ y → y ≡ x
  at_place zero lt e = sym e
  at_place (suc place) lt e = absurd (omega (arith, lt))

pub is_there : (x y : ℕ) → x ≡ y → Contains (x ∷ []) y
is_there x y e = (0, omega arith, e)

same_of_some : (x y : ℕ) → Some x ≡ Some y → x ≡ y
same_of_some x y e = cc

-- ---- class dumps

in_classes : (fact : FactValue) (id : ℕ) → Contains (class_dumped fact) id → stands_in (number_of_table tables.Classes) fact ≡ true
in_classes (Class own trace parent loader signers domain reserved1 reserved2 size constants statics fields) id has = refl
in_classes _ id has = absurd (none_there id has)

pub from_dump : (facts : List FactValue) (id : ℕ) (fact : FactValue) → Has facts fact → Contains (class_dumped fact) id → IsDumped facts id
from_dump facts id (Class own trace parent loader signers domain reserved1 reserved2 size constants statics fields) has gives = record {
  dump = record {
    id = own;
    trace = trace;
    parent = parent;
    loader = loader;
    signers = signers;
    domain = domain;
    reserved1 = reserved1;
    reserved2 = reserved2;
    size = size;
    constants = constants;
    statics = statics;
    fields = fields;
  };
  has = has;
  id_is = sym (one_there own id gives);
}
from_dump facts id _ has gives = absurd (none_there id gives)

-- it is about the class
pub dump_is_class : (facts : List FactValue) (id : ℕ) → IsDumped facts id → IsClass facts id
dump_is_class facts id dumped = record { fact = fact_of_class dumped.dump; has = dumped.has; names = ap Some dumped.id_is }

-- what was gathered of class dumps behind what was there
dumps_behind : (facts : List FactValue) (before all : List ℕ)
    → all ≡ before ++ flat_map class_dumped (facts_of_table tables.Classes facts) → (id : ℕ)
    → Contains all id ↔ (Contains before id ⊎ IsOf class_dumped facts id)
dumps_behind facts before all is id = of_table class_dumped tables.Classes in_classes facts before all is id

-- ---- loads

in_loads : (fact : FactValue) (id : ℕ) → Contains (class_loaded fact) id → stands_in (number_of_table tables.Loads) fact ≡ true
in_loads (Load serial class trace name) id has = refl
in_loads _ id has = absurd (none_there id has)

loads_behind : (facts : List FactValue) (before all : List ℕ)
    → all ≡ before ++ flat_map class_loaded (facts_of_table tables.Loads facts) → (id : ℕ)
    → Contains all id ↔ (Contains before id ⊎ IsOf class_loaded facts id)
loads_behind facts before all is id = of_table class_loaded tables.Loads in_loads facts before all is id

-- ---- rows of a histogram

-- one of the rows counts objects of the class
abbrev HasRow : List Row → ℕ → Type 0
HasRow rows id = (row : Row) × IsIn row rows × Contains (class_of_row row) id

row_given : (rows : List Row) (id : ℕ) → Contains (flat_map class_of_row rows) id → HasRow rows id
row_given [] id has = absurd (none_there id has)
row_given (row ∷ rows) id has = elim (Contains-append_cases (class_of_row row) (flat_map class_of_row rows) id has) [
  | inl here ↦ (row, inl refl, here)
  | inr later ↦ let is = row_given rows id later in (is.0, inr is.1, is.2)
]

row_gives : (rows : List Row) (id : ℕ) → HasRow rows id → Contains (flat_map class_of_row rows) id
row_gives [] id is = absurd is.1
row_gives (row ∷ rows) id is = elim is.1 [
  | inl here ↦ Contains-append_left (class_of_row row) (flat_map class_of_row rows) id
      (subst (λ (r : Row). Contains (class_of_row r) id) here is.2)
  | inr later ↦ Contains-append_right (class_of_row row) (flat_map class_of_row rows) id (row_gives rows id (is.0, later, is.2))
]

-- one row more was gone over
pub rows_more : (before so_far after : List ℕ) (row : Row) (rest left : List Row) → left ≡ row ∷ rest → after ≡ so_far ++ class_of_row row
    → so_far ++ flat_map class_of_row left ≡ before → after ++ flat_map class_of_row rest ≡ before
rows_more before so_far after row rest left e more to =
    ap (λ (l : List ℕ). l ++ flat_map class_of_row rest) more ∙ append_assoc so_far (class_of_row row) (flat_map class_of_row rest)
    ∙ ap (λ (l : List Row). so_far ++ flat_map class_of_row l) (sym e) ∙ to

pub rows_all : (before so_far : List ℕ) (left : List Row) → left ≡ [] → so_far ++ flat_map class_of_row left ≡ before → so_far ≡ before
rows_all before so_far left none to =
    sym (append-nil so_far) ∙ ap (λ (l : List Row). so_far ++ flat_map class_of_row l) (sym none) ∙ to

kind_is_of : (kind : Kind) (id : ℕ) → Contains (class_of_kind kind) id → kind ≡ kinds.Class id
kind_is_of (kinds.Class class) id has = ap kinds.Class (sym (one_there class id has))
kind_is_of (kinds.Prim elem) id has = absurd (none_there id has)

abbrev class_in_kind : Option Kind → Option ℕ
class_in_kind (Some (kinds.Class class)) = Some class
class_in_kind found = None

named_by_object : (fact : FactValue) (id : ℕ) → object_kind fact ≡ Some (kinds.Class id) → class_named fact ≡ Some id
named_by_object (Instance own trace class bytes) id e = ap class_in_kind e
named_by_object (ObjArray own trace class elements) id e = ap class_in_kind e
named_by_object (PrimArray own trace elem bytes) id e = let clash = ap class_in_kind e in absurd cc
named_by_object _ id e = absurd cc

module _ (ids : IdSize) (facts : List FactValue) (rows : List Row) (is : IsHistogram ids facts rows) where
  from_row : (id : ℕ) → HasRow rows id → IsClass facts id
  from_row id has =
      let row = has.0 in
      let counts = is.counts row (Contains-from_in rows row has.1) in
      let kind = kind_is_of row.kind id has.2 in
      let object = some_of_kind facts row.kind (omega (arith, counts.some, counts.count)) in
      record {
        fact = object.fact;
        has = object.has;
        names = named_by_object object.fact id (object.is ∙ ap Some kind);
      }

  has_row : (id : ℕ) (fact : FactValue) → Has facts fact → object_kind fact ≡ Some (kinds.Class id) → HasRow rows id
  has_row id fact has kind_is =
      let row = is.all fact (kinds.Class id) has kind_is in (
        row.0,
        in_from_Contains rows row.0 row.1,
        subst (λ (k : Kind). Contains (class_of_kind k) id) (sym row.2) (is_there id id refl),
      )

  -- ---- all of them

  module _ (of_rows with_loads all : List ℕ) (first : of_rows ≡ flat_map class_of_row rows)
      (second : with_loads ≡ of_rows ++ flat_map class_loaded (facts_of_table tables.Loads facts))
      (third : all ≡ with_loads ++ flat_map class_dumped (facts_of_table tables.Classes facts)) where
    from_load : (id : ℕ) (fact : FactValue) → Has facts fact → Contains (class_loaded fact) id → IsClass facts id
    from_load id (Load serial class trace name) has gives = record {
      fact = Load serial class trace name;
      has = has;
      names = ap Some (sym (one_there class id gives));
    }
    from_load id _ has gives = absurd (none_there id gives)

    only_classes : (id : ℕ) → Contains all id → IsClass facts id
    only_classes id has = elim ((dumps_behind facts with_loads all third id).0 has) [
      | inr dumped ↦ dump_is_class facts id (from_dump facts id dumped.fact dumped.has dumped.gives)
      | inl there ↦ elim ((loads_behind facts of_rows with_loads second id).0 there) [
        | inr loaded ↦ from_load id loaded.fact loaded.has loaded.gives
        | inl counted ↦ from_row id (row_given rows id (subst (λ (l : List ℕ). Contains l id) first counted))
      ]
    ]

    of_object : (id : ℕ) (fact : FactValue) → Has facts fact → object_kind fact ≡ Some (kinds.Class id) → Contains all id
    of_object id fact has kind_is =
        (dumps_behind facts with_loads all third id).1 (inl ((loads_behind facts of_rows with_loads second id).1
        (inl (subst (λ (l : List ℕ). Contains l id) (sym first) (row_gives rows id (has_row id fact has kind_is))))))

    all_there : (id : ℕ) (fact : FactValue) → Has facts fact → class_named fact ≡ Some id → Contains all id
    all_there id (Class own trace parent loader signers domain reserved1 reserved2 size constants statics fields) has e =
        (dumps_behind facts with_loads all third id).1 (inr (record {
          fact = Class own trace parent loader signers domain reserved1 reserved2 size constants statics fields;
          has = has;
          gives = is_there own id (same_of_some own id e);
        }))
    all_there id (Load serial class trace name) has e =
        (dumps_behind facts with_loads all third id).1 (inl ((loads_behind facts of_rows with_loads second id).1 (inr (record {
          fact = Load serial class trace name;
          has = has;
          gives = is_there class id (same_of_some class id e);
        }))))
    all_there id (Instance own trace class bytes) has e =
        of_object id (Instance own trace class bytes) has (ap (λ (c : ℕ). Some (kinds.Class c)) (same_of_some class id e))
    all_there id (ObjArray own trace class elements) has e =
        of_object id (ObjArray own trace class elements) has (ap (λ (c : ℕ). Some (kinds.Class c)) (same_of_some class id e))
    all_there id _ has e = absurd cc

    pub classes_are_all : (sorted : List ℕ) → IsStrictlyIncreasing sorted → ((id : ℕ) → Contains sorted id ↔ Contains all id)
        → AreAll (IsClass facts) sorted
    classes_are_all sorted ascend same = record {
      ascend = ascend;
      exact = λ id. (
        λ has. only_classes id ((same id).0 has),
        λ is_class. (same id).1 (all_there id is_class.fact is_class.has is_class.names),
      );
    }

-- ---- class dumps alone

pub dump_gives : (facts : List FactValue) (id : ℕ) → IsDumped facts id → IsOf class_dumped facts id
dump_gives facts id dumped = record {
  fact = fact_of_class dumped.dump;
  has = dumped.has;
  gives = is_there dumped.dump.id id dumped.id_is;
}

pub dumps_are_all : (facts : List FactValue) (all sorted : List ℕ) → all ≡ flat_map class_dumped (facts_of_table tables.Classes facts)
    → IsStrictlyIncreasing sorted → ((id : ℕ) → Contains sorted id ↔ Contains all id) → AreAll (IsDumped facts) sorted
dumps_are_all facts all sorted is ascend same = record {
  ascend = ascend;
  exact = λ id. (
    λ has. elim ((dumps_behind facts [] all is id).0 ((same id).0 has)) [
      | inl none ↦ absurd (none_there id none)
      | inr dumped ↦ from_dump facts id dumped.fact dumped.has dumped.gives
    ],
    λ dumped. (same id).1 ((dumps_behind facts [] all is id).1 (inr (dump_gives facts id dumped))),
  );
}
