-- The load of least serial of each class, as far as loads were gone over.
use Rattle.std.proofs.Common.{◌≡◌, ◌≢◌, ◌⊎◌, inl, inr, ℕ, ◌<◌, ◌≤◌, Bool, true, false, cond, List, [], ◌∷◌, ◌++◌, Option, Some, None}
use Rattle.std.proofs.Common.{refl, sym, ap, subst, ◌∙◌, append_assoc, append-nil, arith}
use Rattle.std.proofs.lemmas.Bool.{cases_eq}
use Rattle.std.proofs.lemmas.Bool.Decides.{leb_tells}
use Rattle.std.specs.Prelude.{option_map}
use Rattle.std.specs.Ordering.{nat_cmp}
use Rattle.std.specs.BTreeMap.{get, is_at}
use Rattle.std.specs.Ordering.{MatchOrdering, is_eq}
use Rattle.std.specs.declared.cmp.Ordering.{Ordering}
use Rattle.std.specs.declared.cmp.Ordering.TheVariants.{Less, Equal, Greater}
use Rattle.std.proofs.lemmas.Cmp.{ranked}
use Rattle.hprof_items.specs.declared.fact.Fact.{Fact}
use Rattle.hprof_items.specs.declared.fact.Fact.TheVariants as facts
use Rattle.hprof_items.specs.FactValue.{FactValue, value_of, Name, Load, Unload, Frame, Trace, Start, End, Rooted, Class, Instance}
use Rattle.hprof_items.specs.FactValue.{ObjArray}
use Rattle.hprof_items.specs.FactValue.{PrimArray}
use Rattle.hprof_rows.specs.declared.table.Table.TheVariants as tables
use Rattle.hprof_rows.specs.Facts.{Has}
use Rattle.hprof_rows.specs.Tables.{facts_of_table, stands_in}
use Rattle.hprof_rows.proofs.FactSets.{Has-parts, Has-front, Has-back}
use Rattle.hprof_rows.proofs.Picking.{picked, picked_is}
use Rattle.hprof_rows.specs.declared.key.Key.TheVariants as keys
use Rattle.hprof_rows.specs.Conflict.{IsConsistent}
use Rattle.hprof_heap.specs.ClassName.{NamesClass, IsNamedFirst}
use Rattle.hprof_naming.specs.declared.class_names.ClassNames.{ClassNames}
use Rattle.hprof_naming.specs.declared.class_names.Named.{Named}
use Rattle.hprof_naming.specs.ClassNames.{IsFirstLoad, IsFirst, IsBelow, AreFirst, NotesFact, AreClassNames}

-- ---- what a load says

serial_in : FactValue → ℕ
serial_in (Load serial class trace name) = serial
serial_in fact = 0

class_in : FactValue → ℕ
class_in (Load serial class trace name) = class
class_in fact = 0

same_serial : (s c t n s2 c2 t2 n2 : ℕ) → Load s c t n ≡ Load s2 c2 t2 n2 → s ≡ s2
unfolding serial_in
same_serial s c t n s2 c2 t2 n2 e = ap serial_in e

same_class : (s c t n s2 c2 t2 n2 : ℕ) → Load s c t n ≡ Load s2 c2 t2 n2 → c ≡ c2
unfolding class_in
same_class s c t n s2 c2 t2 n2 e = ap class_in e

-- the facts, and one more
pub record IsOneMore (facts more : List FactValue) (last : FactValue) : Type 0 where
  pub kept : (fact : FactValue) → Has facts fact → Has more fact
  pub added : Has more last
  pub only : (fact : FactValue) → Has more fact → Has facts fact ⊎ (fact ≡ last)

pub one_behind : (facts : List FactValue) (last : FactValue) → IsOneMore facts (facts ++ last ∷ []) last
one_behind facts last = record {
  kept = λ fact has. Has-front facts (last ∷ []) fact has;
  added = Has-back facts (last ∷ []) last (inl refl);
  only = λ fact has. elim (Has-parts facts (last ∷ []) fact has) [
    | inl h ↦ inl h
    | inr h ↦ elim h [ inl e ↦ inr e | inr none ↦ absurd none ]
  ];
}

pub one_before : (facts : List FactValue) (last : FactValue) → IsOneMore facts (last ∷ facts) last
one_before facts last = record {
  kept = λ fact has. inr has;
  added = inl refl;
  only = λ fact has. elim has [ inl e ↦ inr e | inr h ↦ inl h ];
}

-- ---- one class, and one fact more

module _ (facts more : List FactValue) (class : ℕ) where
  -- a fact that does not load the class
  pub first_stays : (fact : FactValue) (first : Option Named) → IsOneMore facts more fact
      → ((serial trace name : ℕ) → Load serial class trace name ≡ fact → ⊥)
      → IsFirst facts class first → IsFirst more class first
  first_stays fact None one other is = λ serial trace name has.
      elim (one.only (Load serial class trace name) has) [
        | inl h ↦ is serial trace name h
        | inr e ↦ other serial trace name e
      ]
  first_stays fact (Some named) one other is = record {
    trace = is.trace;
    loaded = one.kept (Load named.serial class is.trace named.name) is.loaded;
    least = λ serial trace name has.
        elim (one.only (Load serial class trace name) has) [
          | inl h ↦ is.least serial trace name h
          | inr e ↦ absurd (other serial trace name e)
        ];
  }

  module _ (serial trace name : ℕ) (one : IsOneMore facts more (Load serial class trace name)) where
    -- one that loads it with no lesser serial
    pub first_stays_before : (named : Named) → named.serial ≤ serial → IsFirst facts class (Some named)
        → IsFirst more class (Some named)
    first_stays_before named le is = record {
      trace = is.trace;
      loaded = one.kept (Load named.serial class is.trace named.name) is.loaded;
      least = λ other trace_too name_too has.
          elim (one.only (Load other class trace_too name_too) has) [
            | inl h ↦ is.least other trace_too name_too h
            | inr e ↦ let same = same_serial other class trace_too name_too serial class trace name e in omega (arith, same, le)
          ];
    }

    least_of_old : (first : Option Named) → IsBelow serial first → IsFirst facts class first → (other trace_too name_too : ℕ)
        → Has facts (Load other class trace_too name_too) → serial ≤ other
    least_of_old None below is other trace_too name_too has = absurd (is other trace_too name_too has)
    least_of_old (Some named) below is other trace_too name_too has =
        let le = is.least other trace_too name_too has in omega (arith, le, below)

    -- one that loads it with a lesser serial
    pub first_comes : (first : Option Named) → IsBelow serial first → IsFirst facts class first
        → IsFirst more class (Some (record { serial = serial; name = name }))
    first_comes first below is = record {
      trace = trace;
      loaded = one.added;
      least = λ other trace_too name_too has.
          elim (one.only (Load other class trace_too name_too) has) [
            | inl h ↦ least_of_old first below is other trace_too name_too h
            | inr e ↦ let same = same_serial other class trace_too name_too serial class trace name e in omega (arith, same)
          ];
    }

-- a load of one class is none of another
pub other_class : (class other serial trace name : ℕ) → class ≢ other → (s t n : ℕ) → Load s class t n ≡ Load serial other trace name → ⊥
other_class class other serial trace name differ s t n e = differ (same_class s class t n serial other trace name e)

-- ---- all classes, and one fact more

-- a key is not at another
apart : (one other : ℕ) → other ≢ one → is_at (nat_cmp one) other ≡ false
apart one other differ = go (nat_cmp one other) (ranked one other (nat_cmp one other) refl) where
  go : (o : Ordering) → MatchOrdering o (one < other) (one ≡ other) (other < one) → is_eq o ≡ false
  go Less lt = refl
  go Equal same = absurd (differ (sym same))
  go Greater gt = refl

-- a fact in hand that loads no class states no load
no_load : (fact : Fact) → ((serial class trace name : ℕ) → fact ≡ facts.Load serial class trace name → ⊥)
    → (serial class trace name : ℕ) → Load serial class trace name ≡ value_of fact → ⊥
no_load (facts.Load serial class trace name) none = λ s c t n e. none serial class trace name refl
no_load (facts.Name id text) none = λ s c t n e. absurd cc
no_load (facts.Unload serial) none = λ s c t n e. absurd cc
no_load (facts.Frame id method signature source class_serial line) none = λ s c t n e. absurd cc
no_load (facts.Trace serial thread frames) none = λ s c t n e. absurd cc
no_load (facts.Start thread object trace id group parent_group) none = λ s c t n e. absurd cc
no_load (facts.End thread) none = λ s c t n e. absurd cc
no_load (facts.Root root) none = λ s c t n e. absurd cc
no_load (facts.Class id trace parent loader signers domain reserved1 reserved2 size constants statics fields) none = λ s c t n e. absurd cc
no_load (facts.Instance id trace other bytes) none = λ s c t n e. absurd cc
no_load (facts.ObjArray id trace other elements) none = λ s c t n e. absurd cc
no_load (facts.PrimArray id trace elem bytes) none = λ s c t n e. absurd cc

-- a fact that loads none changes nothing
pub notes_other : (fact : Fact) (names : ClassNames)
    → ((serial class trace name : ℕ) → fact ≡ facts.Load serial class trace name → ⊥) → NotesFact (value_of fact) names names
notes_other fact names none taken are class =
    first_stays taken (taken ++ value_of fact ∷ []) class (value_of fact) (get nat_cmp names.names class) (one_behind taken (value_of fact))
    (λ serial trace name e. no_load fact none serial class trace name e) (are class)

module _ (names : ClassNames) (serial class trace name : ℕ) where
  -- nor does one that does not come first
  stays_at : (taken : List FactValue) (first : Option Named) → ¬ (IsBelow serial first) → IsFirst taken class first
      → IsFirst (taken ++ Load serial class trace name ∷ []) class first
  stays_at taken None not is = absurd (not tt)
  stays_at taken (Some named) not is =
      first_stays_before taken (taken ++ Load serial class trace name ∷ []) class serial trace name
      (one_behind taken (Load serial class trace name)) named (elim (leb_tells named.serial serial) [
        | inl le ↦ le.1
        | inr gt ↦ absurd (not gt.1)
      ]) is

  of_other : (other : ℕ) → other ≢ class → (taken : List FactValue) (first : Option Named) → IsFirst taken other first
      → IsFirst (taken ++ Load serial class trace name ∷ []) other first
  of_other other differ taken first is =
      first_stays taken (taken ++ Load serial class trace name ∷ []) other (Load serial class trace name) first
      (one_behind taken (Load serial class trace name)) (other_class other class serial trace name differ) is

  pub notes_later : ¬ (IsBelow serial (get nat_cmp names.names class)) → NotesFact (Load serial class trace name) names names
  notes_later not taken are other =
      elim (cases_eq other class) [
        | inl same ↦ rw same (stays_at taken (get nat_cmp names.names class) not (are class))
        | inr differ ↦ of_other other differ taken (get nat_cmp names.names other) (are other)
      ]

  -- one that comes first is put in the place of what was there
  pub notes_first : (new : ClassNames) → get nat_cmp new.names class ≡ Some (record { serial = serial; name = name })
      → ((key : ℕ) → is_at (nat_cmp class) key ≡ false → get nat_cmp new.names key ≡ get nat_cmp names.names key)
      → IsBelow serial (get nat_cmp names.names class) → NotesFact (Load serial class trace name) names new
  notes_first new here there below taken are other =
      elim (cases_eq other class) [
        | inl same ↦ rw (same, here)
            (first_comes taken (taken ++ Load serial class trace name ∷ []) class serial trace name
            (one_behind taken (Load serial class trace name)) (get nat_cmp names.names class) below (are class))
        | inr differ ↦ rw (there other (apart class other differ))
            (of_other other differ taken (get nat_cmp names.names other) (are other))
      ]

-- ---- all loads were gone over

-- the table of loads has all of them
in_table : (facts : List FactValue) (serial class trace name : ℕ) → Has facts (Load serial class trace name)
    → Has (facts_of_table tables.Loads facts) (Load serial class trace name)
in_table facts serial class trace name has =
    picked (stands_in 1) facts (Load serial class trace name) (record { has = has; passes = refl })

of_table : (facts : List FactValue) (serial class trace name : ℕ) → Has (facts_of_table tables.Loads facts) (Load serial class trace name)
    → Has facts (Load serial class trace name)
of_table facts serial class trace name has = (picked_is (stands_in 1) facts (Load serial class trace name) has).has

names_of_all : (facts : List FactValue) (class : ℕ) (first : Option Named) → IsFirst (facts_of_table tables.Loads facts) class first
    → NamesClass facts class (option_map (λ named. named.name) first)
names_of_all facts class None is = λ serial trace name has. is serial trace name (in_table facts serial class trace name has)
names_of_all facts class (Some named) is = record {
  serial = named.serial;
  trace = is.trace;
  loaded = of_table facts named.serial class is.trace named.name is.loaded;
  least = λ other trace_too name has. is.least other trace_too name (in_table facts other class trace_too name has);
}

pub all_names : (facts : List FactValue) (names : ClassNames) → AreFirst (facts_of_table tables.Loads facts) names
    → AreClassNames facts names
all_names facts names are class = names_of_all facts class (get nat_cmp names.names class) (are class)

-- ---- one name each

-- whether a fact loads the class, with which serial
data Loads (class : ℕ) : FactValue → Type 0 where
  It : (serial trace name : ℕ) → Loads class (Load serial class trace name)
  Not : (fact : FactValue) → ((serial trace name : ℕ) → Load serial class trace name ≡ fact → ⊥) → Loads class fact

loads_or_not : (class : ℕ) (fact : FactValue) → Loads class fact
loads_or_not class (Load serial other trace name) =
    elim (cases_eq class other) as (λ w. Loads class (Load serial other trace name)) [
      | inl same ↦ subst (λ (n : ℕ). Loads class (Load serial n trace name)) same (It serial trace name)
      | inr differ ↦ Not (Load serial other trace name) (other_class class other serial trace name differ)
    ]
loads_or_not class (Name id text) = Not (Name id text) (λ serial trace name e. absurd cc)
loads_or_not class (Unload serial) = Not (Unload serial) (λ serial trace name e. absurd cc)
loads_or_not class (Frame id method signature source class_serial line) =
    Not (Frame id method signature source class_serial line) (λ serial trace name e. absurd cc)
loads_or_not class (Trace serial thread frames) = Not (Trace serial thread frames) (λ s trace name e. absurd cc)
loads_or_not class (Start thread object trace name group parent_group) =
    Not (Start thread object trace name group parent_group) (λ serial t n e. absurd cc)
loads_or_not class (End thread) = Not (End thread) (λ serial trace name e. absurd cc)
loads_or_not class (Rooted root) = Not (Rooted root) (λ serial trace name e. absurd cc)
loads_or_not class (Class id trace parent loader signers domain reserved1 reserved2 size constants statics fields) =
    Not (Class id trace parent loader signers domain reserved1 reserved2 size constants statics fields) (λ serial t name e. absurd cc)
loads_or_not class (Instance id trace other bytes) = Not (Instance id trace other bytes) (λ serial t name e. absurd cc)
loads_or_not class (ObjArray id trace other elements) = Not (ObjArray id trace other elements) (λ serial t name e. absurd cc)
loads_or_not class (PrimArray id trace elem bytes) = Not (PrimArray id trace elem bytes) (λ serial t name e. absurd cc)

-- of one fact more
first_with : (facts : List FactValue) (class : ℕ) (first : Option Named) (fact : FactValue) → Loads class fact → IsFirst facts class first
    → (next : Option Named) × IsFirst (fact ∷ facts) class next
first_with facts class first fact (Not _ other) is =
    (first, first_stays facts (fact ∷ facts) class fact first (one_before facts fact) other is)
first_with facts class None _ (It serial trace name) is = (
  Some (record { serial = serial; name = name }),
  first_comes facts (Load serial class trace name ∷ facts) class serial trace name
      (one_before facts (Load serial class trace name)) None tt is,
)
first_with facts class (Some named) _ (It serial trace name) is =
    let more = Load serial class trace name ∷ facts in
    let one = one_before facts (Load serial class trace name) in
    elim (leb_tells named.serial serial) [
      | inl le ↦ (Some named, first_stays_before facts more class serial trace name one named le.1 is)
      | inr gt ↦ (Some (record { serial = serial; name = name }), first_comes facts more class serial trace name one (Some named) gt.1 is)
    ]

first_of : (facts : List FactValue) (class : ℕ) → (first : Option Named) × IsFirst facts class first
first_of [] class = (None, λ serial trace name none. none)
first_of (fact ∷ facts) class =
    let before = first_of facts class in
    first_with facts class before.0 fact (loads_or_not class fact) before.1

name_in : FactValue → ℕ
name_in (Load serial class trace name) = name
name_in fact = 0

-- a class has a name or none
pub class_name_exists : (facts : List FactValue) (class : ℕ) → (name : Option ℕ) × NamesClass facts class name
class_name_exists facts class =
    let first = first_of (facts_of_table tables.Loads facts) class in
    (option_map (λ named. named.name) first.0, names_of_all facts class first.0 first.1)

-- and where the facts agree, it has one
pub one_class_name : (facts : List FactValue) (class : ℕ) (one other : Option ℕ) → IsConsistent facts → NamesClass facts class one
    → NamesClass facts class other
    → one ≡ other
unfolding name_in
one_class_name facts class None None agree is is_too = refl
one_class_name facts class None (Some name) agree is is_too = absurd (is is_too.serial is_too.trace name is_too.loaded)
one_class_name facts class (Some name) None agree is is_too = absurd (is_too is.serial is.trace name is.loaded)
one_class_name facts class (Some name) (Some other) agree is is_too =
    let le = is.least is_too.serial is_too.trace other is_too.loaded in
    let ge = is_too.least is.serial is.trace name is.loaded in
    let same : is.serial ≡ is_too.serial = omega (arith, le, ge) in
    ap Some (ap name_in (agree (keys.Load is.serial) (Load is.serial class is.trace name) (Load is_too.serial class is_too.trace other)
    is.loaded is_too.loaded refl (ap (λ (n : ℕ). Some (keys.Load n)) (sym same))))

-- ---- going over loads

-- the loads that were gone over, and those that are left
pub record AreFirstSoFar (all : List FactValue) (names : ClassNames) (left : List FactValue) : Type 0 where
  pub taken : List FactValue
  pub parts : all ≡ taken ++ left
  pub first : AreFirst taken names

pub first_of_none : (all left : List FactValue) (names : ClassNames) → left ≡ all → ((class : ℕ) → get nat_cmp names.names class ≡ None)
    → AreFirstSoFar all names left
first_of_none all left names e empty = record {
  taken = [];
  parts = sym e;
  first = λ class. rw (empty class) (λ serial trace name none. none);
}

pub first_of_more : (all left rest : List FactValue) (old new : ClassNames) (fact : FactValue) → left ≡ fact ∷ rest
    → AreFirstSoFar all old left → NotesFact fact old new → AreFirstSoFar all new rest
first_of_more all left rest old new fact e so_far notes = record {
  taken = so_far.taken ++ fact ∷ [];
  parts = so_far.parts ∙ ap (λ (l : List FactValue). so_far.taken ++ l) e ∙ sym (append_assoc so_far.taken (fact ∷ []) rest);
  first = notes so_far.taken so_far.first;
}

pub first_of_all : (all left : List FactValue) (names : ClassNames) → left ≡ [] → AreFirstSoFar all names left → AreFirst all names
first_of_all all left names e so_far =
    let same : all ≡ so_far.taken = so_far.parts ∙ ap (λ (l : List FactValue). so_far.taken ++ l) e ∙ append-nil so_far.taken in
    rw same so_far.first
