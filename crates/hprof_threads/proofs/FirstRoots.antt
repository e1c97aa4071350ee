-- The first root of each thread, as far as roots were gone over in canonical order.
use Rattle.std.proofs.Common.{◌≡◌, ◌≢◌, ◌↔◌, inl, inr, ℕ, ◌<◌, Bool, true, false, List, [], ◌∷◌, ◌++◌, Option, Some, None, ◌==◌}
use Rattle.std.proofs.Common.{refl, sym, ap, subst, ◌∙◌, append_assoc, append-nil}
use Rattle.std.specs.Prelude.{◌&&◌, not}
use Rattle.std.specs.Ordering.{nat_cmp}
use Rattle.std.specs.BTreeMap.{get, is_at}
use Rattle.std.specs.Ordering.{MatchOrdering, is_eq}
use Rattle.std.specs.declared.cmp.Ordering.{Ordering}
use Rattle.std.specs.declared.cmp.Ordering.TheVariants.{Less, Equal, Greater}
use Rattle.std.proofs.lemmas.Bool.{cases_eq, eqb-true, eq-eqb}
use Rattle.std.proofs.lemmas.Cmp.{ranked}
use Rattle.hprof_values.specs.declared.root.Root.TheVariants as roots
use Rattle.hprof_items.specs.FactValue.{FactValue, Rooted}
use Rattle.hprof_rows.specs.declared.table.Table.TheVariants as tables
use Rattle.hprof_rows.specs.Conflict.{IsConsistent}
use Rattle.hprof_rows.specs.Facts.{Has}
use Rattle.hprof_rows.specs.Order.{IsBefore, IsCanonicalOrder}
use Rattle.hprof_rows.specs.Tables.{facts_of_table, stands_in}
use Rattle.hprof_rows.proofs.FactSets.{All-has, Has-back}
use Rattle.hprof_rows.proofs.Inserting.{agreeing-order}
use Rattle.hprof_rows.proofs.Order.{IsBefore-asym}
use Rattle.hprof_rows.proofs.Picking.{picked, picked_is}
use Rattle.hprof_naming.proofs.FirstLoads.{IsOneMore, one_behind}
use Rattle.hprof_threads.specs.declared.thread_root.ThreadRoot.{ThreadRoot}
use Rattle.hprof_threads.specs.declared.thread_roots.ThreadRoots.{ThreadRoots}
use Rattle.hprof_threads.specs.Threads.{HasThreadRoot, IsFirstRoot, IsRootOfThread, fact_of_root}
use Rattle.hprof_threads.specs.ThreadRoots.{AreThreadRoots, NotesRoot, gives_way, thread_root_in}

-- ---- what a root says

abbrev object_in : FactValue → ℕ
object_in (Rooted (roots.ThreadObject object serial trace)) = object
object_in fact = 0

abbrev serial_in : FactValue → ℕ
serial_in (Rooted (roots.ThreadObject object serial trace)) = serial
serial_in fact = 0

abbrev trace_in : FactValue → ℕ
trace_in (Rooted (roots.ThreadObject object serial trace)) = trace
trace_in fact = 0

pub same_root : (serial : ℕ) (one other : ThreadRoot) → fact_of_root serial one ≡ fact_of_root serial other → one ≡ other
same_root serial one other e =
    let objects : one.object ≡ other.object = ap object_in e in
    let traces : one.trace ≡ other.trace = ap trace_in e in
    λ i. record { object = objects i; trace = traces i }

-- a root of one thread is none of another
other_thread : (one other : ℕ) → one ≢ other → (root own : ThreadRoot) → fact_of_root one root ≡ fact_of_root other own → ⊥
other_thread one other apart root own e = apart (ap serial_in e)

abbrev root_found : ℕ → ThreadRoot → Option (ℕ × ThreadRoot)
root_found serial root = Some (serial, root)

abbrev serial_found : Option (ℕ × ThreadRoot) → ℕ
serial_found (Some found) = found.0
serial_found None = 0

abbrev stated_root : Option (ℕ × ThreadRoot) → ThreadRoot
stated_root (Some found) = found.1
stated_root None = record { object = 0; trace = 0 }

is_that_root : (serial own : ℕ) (root stated : ThreadRoot) → root_found own stated ≡ root_found serial root
    → fact_of_root own stated ≡ fact_of_root serial root
is_that_root serial own root stated e =
    let serials : own ≡ serial = ap serial_found e in
    let same : stated ≡ root = ap stated_root e in
    λ i. fact_of_root (serials i) (same i)

-- a fact that states a root of a thread is one
pub is_thread_root : (fact : FactValue) (serial : ℕ) (root : ThreadRoot) → thread_root_in fact ≡ Some (serial, root)
    → fact ≡ fact_of_root serial root
is_thread_root (Rooted (roots.ThreadObject object own trace)) serial root e =
    is_that_root serial own root (record { object = object; trace = trace }) e
is_thread_root _ serial root e = absurd cc

-- and another one is none
no_thread_root : (fact : FactValue) (serial : ℕ) (root : ThreadRoot) → thread_root_in fact ≡ None → fact_of_root serial root ≡ fact → ⊥
no_thread_root fact serial root none e = let clash : root_found serial root ≡ None = ap thread_root_in e ∙ none in cc

-- ---- one thread, and one fact more

module _ (facts more : List FactValue) (serial : ℕ) where
  -- a fact that is no root of the thread
  pub other_stays : (fact : FactValue) (first : Option ThreadRoot) → IsOneMore facts more fact
      → ((root : ThreadRoot) → fact_of_root serial root ≡ fact → ⊥) → IsRootOfThread facts serial first
      → IsRootOfThread more serial first
  other_stays fact None one other is = λ root has.
      elim (one.only (fact_of_root serial root) has) [ inl h ↦ is root h | inr e ↦ other root e ]
  other_stays fact (Some first) one other is = record {
    has = one.kept (fact_of_root serial first) is.has;
    with_object = λ root has.
        elim (one.only (fact_of_root serial root) has) [ inl h ↦ is.with_object root h | inr e ↦ absurd (other root e) ];
    first = λ root has.
        elim (one.only (fact_of_root serial root) has) [ inl h ↦ is.first root h | inr e ↦ absurd (other root e) ];
  }

  module _ (last : ThreadRoot) (one : IsOneMore facts more (fact_of_root serial last))
      (behind : (fact : FactValue) → Has facts fact → IsBefore fact (fact_of_root serial last)) where
    -- a root that changes nothing, since the first has an object if it has
    pub first_stays : (first : ThreadRoot) → (last.object ≢ 0 → first.object ≢ 0) → IsFirstRoot facts serial first
        → IsFirstRoot more serial first
    first_stays first given is = record {
      has = one.kept (fact_of_root serial first) is.has;
      with_object = λ root has there.
          elim (one.only (fact_of_root serial root) has) [
            | inl h ↦ is.with_object root h there
            | inr e ↦ given (subst (λ (r : ThreadRoot). r.object ≢ 0) (same_root serial root last e) there)
          ];
      first = λ root has before.
          elim (one.only (fact_of_root serial root) has) [
            | inl h ↦ is.first root h before
            | inr e ↦ absurd
                (IsBefore-asym (fact_of_root serial first) (fact_of_root serial last) (behind (fact_of_root serial first) is.has)
                (subst (λ (f : FactValue). IsBefore f (fact_of_root serial first)) e before))
          ];
    }

    -- a root that is the first, since it has an object and those before it have none
    pub last_is_first : ((root : ThreadRoot) → HasThreadRoot facts serial root → (root.object ≡ 0) × (last.object ≢ 0))
        → IsFirstRoot more serial last
    last_is_first none_has = record {
      has = one.added;
      with_object = λ root has there.
          elim (one.only (fact_of_root serial root) has) [
            | inl h ↦ (none_has root h).1
            | inr e ↦ subst (λ (r : ThreadRoot). r.object ≢ 0) (same_root serial root last e) there
          ];
      first = λ root has before.
          elim (one.only (fact_of_root serial root) has) [
            | inl h ↦ none_has root h
            | inr e ↦
                let itself = subst (λ (f : FactValue). IsBefore f (fact_of_root serial last)) e before in
                absurd (IsBefore-asym (fact_of_root serial last) (fact_of_root serial last) itself itself)
          ];
    }

    -- if the first gives way, the last is the first
    pub last_comes : (first : Option ThreadRoot) → gives_way first last.object ≡ true → IsRootOfThread facts serial first
        → IsFirstRoot more serial last
    last_comes None gives is = last_is_first (λ root has. absurd (is root has))
    last_comes (Some first) gives is =
        last_is_first
        (λ root has. (
          elim (cases_eq root.object 0) [
            | inl none ↦ none
            | inr some ↦ absurd (is.with_object root has some (no_object first.object last.object gives))
          ],
          an_object first.object last.object gives,
        ))
      where
        no_object : (old new : ℕ) → ((old == 0) && not (new == 0)) ≡ true → old ≡ 0
        no_object old new e = by_test (old == 0) refl e where
          by_test : (b : Bool) → (old == 0) ≡ b → (b && not (new == 0)) ≡ true → old ≡ 0
          by_test true is_zero e = eqb-true old 0 is_zero
          by_test false is_zero e = absurd cc

        an_object : (old new : ℕ) → ((old == 0) && not (new == 0)) ≡ true → new ≢ 0
        an_object old new e zero = by_test (old == 0) (new == 0) (eq-eqb new 0 zero) e where
          by_test : (a b : Bool) → b ≡ true → (a && not b) ≡ true → ⊥
          by_test true true is_zero e = cc
          by_test false true is_zero e = cc
          by_test a false is_zero e = cc

    -- else it stays
    pub first_keeps : (first : Option ThreadRoot) → gives_way first last.object ≡ false → IsRootOfThread facts serial first
        → IsRootOfThread more serial first
    first_keeps None gives is = absurd cc
    first_keeps (Some first) gives is = first_stays first (λ some zero. some (none_new first.object last.object gives zero)) is where
      none_new : (old new : ℕ) → ((old == 0) && not (new == 0)) ≡ false → old ≡ 0 → new ≡ 0
      none_new old new e zero = by_test (old == 0) (new == 0) refl (eq-eqb old 0 zero) e where
        by_test : (a b : Bool) → (new == 0) ≡ b → a ≡ true → (a && not b) ≡ false → new ≡ 0
        by_test true true is is_zero e = eqb-true new 0 is
        by_test true false is is_zero e = absurd cc
        by_test false b is is_zero e = absurd cc

-- ---- all threads, and one fact more

-- a key is not at another
apart : (one other : ℕ) → other ≢ one → is_at (nat_cmp one) other ≡ false
apart one other differ = go (nat_cmp one other) (ranked one other (nat_cmp one other) refl) where
  go : (o : Ordering) → MatchOrdering o (one < other) (one ≡ other) (other < one) → is_eq o ≡ false
  go Less lt = refl
  go Equal same = absurd (differ (sym same))
  go Greater gt = refl

-- a fact that states no root of a thread changes nothing
pub notes_other : (fact : FactValue) (gathered : ThreadRoots) → None ≡ thread_root_in fact → NotesRoot fact gathered gathered
notes_other fact gathered none taken behind are serial =
    other_stays taken (taken ++ fact ∷ []) serial fact (get nat_cmp gathered.roots serial) (one_behind taken fact)
    (λ root e. no_thread_root fact serial root (sym none) e) (are serial)

module _ (gathered : ThreadRoots) (serial : ℕ) (root : ThreadRoot) where
  abbrev more_of : List FactValue → List FactValue
  more_of taken = taken ++ fact_of_root serial root ∷ []

  of_other : (other : ℕ) → other ≢ serial → (taken : List FactValue) (first : Option ThreadRoot) → IsRootOfThread taken other first
      → IsRootOfThread (more_of taken) other first
  of_other other differ taken first is =
      other_stays taken (more_of taken) other (fact_of_root serial root) first (one_behind taken (fact_of_root serial root))
      (λ own e. other_thread other serial differ own root e) is

  -- nor does one for which the first does not give way
  pub notes_later : gives_way (get nat_cmp gathered.roots serial) root.object ≡ false
      → NotesRoot (fact_of_root serial root) gathered gathered
  notes_later keeps taken behind are other =
      elim (cases_eq other serial) [
        | inl same ↦ rw same
            (first_keeps taken (more_of taken) serial root (one_behind taken (fact_of_root serial root)) behind
            (get nat_cmp gathered.roots serial) keeps (are serial))
        | inr differ ↦ of_other other differ taken (get nat_cmp gathered.roots other) (are other)
      ]

  -- one for which it does is put in its place
  pub notes_first : (new : ThreadRoots) → get nat_cmp new.roots serial ≡ Some root
      → ((key : ℕ) → is_at (nat_cmp serial) key ≡ false → get nat_cmp new.roots key ≡ get nat_cmp gathered.roots key)
      → gives_way (get nat_cmp gathered.roots serial) root.object ≡ true → NotesRoot (fact_of_root serial root) gathered new
  notes_first new here there gives taken behind are other =
      elim (cases_eq other serial) [
        | inl same ↦ rw (same, here)
            (last_comes taken (more_of taken) serial root (one_behind taken (fact_of_root serial root)) behind
            (get nat_cmp gathered.roots serial) gives (are serial))
        | inr differ ↦ rw (there other (apart serial other differ))
            (of_other other differ taken (get nat_cmp gathered.roots other) (are other))
      ]

-- ---- going over roots

-- in canonical order, what is in front of a fact stands before it
pub front_before : (taken left : List FactValue) (fact : FactValue) → IsCanonicalOrder (taken ++ fact ∷ left) → (other : FactValue)
    → Has taken other → IsBefore other fact
front_before [] left fact ordered other has = absurd has
front_before (first ∷ taken) left fact ordered other has = elim has [
  | inl same ↦
      let before = All-has (IsBefore first) (taken ++ fact ∷ left) fact ordered.0 (Has-back taken (fact ∷ left) fact (inl refl)) in
      subst (λ (f : FactValue). IsBefore f fact) (sym same) before
  | inr later ↦ front_before taken left fact ordered.1 other later
]

-- the roots that were gone over, and those that are left
pub record AreRootsSoFar (all : List FactValue) (gathered : ThreadRoots) (left : List FactValue) : Type 0 where
  pub taken : List FactValue
  pub parts : all ≡ taken ++ left
  pub ordered : IsCanonicalOrder all
  pub are : AreThreadRoots taken gathered

pub roots_of_none : (all left : List FactValue) (gathered : ThreadRoots) → left ≡ all → IsCanonicalOrder left
    → ((serial : ℕ) → get nat_cmp gathered.roots serial ≡ None) → AreRootsSoFar all gathered left
roots_of_none all left gathered e ordered empty = record {
  taken = [];
  parts = sym e;
  ordered = subst IsCanonicalOrder e ordered;
  are = λ serial. rw (empty serial) (λ root none. none);
}

pub roots_of_more : (all left rest : List FactValue) (old new : ThreadRoots) (fact : FactValue) → left ≡ fact ∷ rest
    → AreRootsSoFar all old left → NotesRoot fact old new → AreRootsSoFar all new rest
roots_of_more all left rest old new fact e so_far notes =
    let whole : all ≡ so_far.taken ++ fact ∷ rest = so_far.parts ∙ ap (λ (l : List FactValue). so_far.taken ++ l) e in
    record {
      taken = so_far.taken ++ fact ∷ [];
      parts = whole ∙ sym (append_assoc so_far.taken (fact ∷ []) rest);
      ordered = so_far.ordered;
      are = notes so_far.taken (front_before so_far.taken rest fact (subst IsCanonicalOrder whole so_far.ordered)) so_far.are;
    }

-- the same roots of a thread
abbrev pub HaveSameRoots : List FactValue → List FactValue → ℕ → Type 0
HaveSameRoots facts more serial = (root : ThreadRoot) → HasThreadRoot facts serial root ↔ HasThreadRoot more serial root

pub root_of_same : (facts more : List FactValue) (serial : ℕ) (first : Option ThreadRoot) → HaveSameRoots facts more serial
    → IsRootOfThread facts serial first → IsRootOfThread more serial first
root_of_same facts more serial None same is = λ root has. is root ((same root).1 has)
root_of_same facts more serial (Some first) same is = record {
  has = (same first).0 is.has;
  with_object = λ root has. is.with_object root ((same root).1 has);
  first = λ root has. is.first root ((same root).1 has);
}

-- the table of roots has all of them
pub roots_of_all : (facts left : List FactValue) (gathered : ThreadRoots) → left ≡ []
    → AreRootsSoFar (facts_of_table tables.Roots facts) gathered left → AreThreadRoots facts gathered
roots_of_all facts left gathered none so_far serial =
    let table = facts_of_table tables.Roots facts in
    let whole : table ≡ so_far.taken =
    so_far.parts ∙ ap (λ (l : List FactValue). so_far.taken ++ l) none ∙ append-nil so_far.taken in
    root_of_same table facts serial (get nat_cmp gathered.roots serial)
    (λ root. (
      λ there. (picked_is (stands_in 7) facts (fact_of_root serial root) there).has,
      λ here. picked (stands_in 7) facts (fact_of_root serial root) (record { has = here; passes = refl }),
    )) (subst (λ (l : List FactValue). IsRootOfThread l serial (get nat_cmp gathered.roots serial)) (sym whole) (so_far.are serial))

-- ---- a thread has a root or none

abbrev SomeRoot : List FactValue → ℕ → Type 0
SomeRoot facts serial = (root : Option ThreadRoot) × IsRootOfThread facts serial root

module _ (serial : ℕ) (taken : List FactValue) (fact : FactValue)
    (behind : (other : FactValue) → Has taken other → IsBefore other fact) where
  with_root : (first : Option ThreadRoot) (root : ThreadRoot) → fact ≡ fact_of_root serial root → IsRootOfThread taken serial first
      → SomeRoot (taken ++ fact ∷ []) serial
  with_root first root same is = by_test (gives_way first root.object) refl where
    last_behind : (other : FactValue) → Has taken other → IsBefore other (fact_of_root serial root)
    last_behind other has = subst (λ (f : FactValue). IsBefore other f) same (behind other has)

    one : IsOneMore taken (taken ++ fact ∷ []) (fact_of_root serial root)
    one = subst (λ (f : FactValue). IsOneMore taken (taken ++ fact ∷ []) f) same (one_behind taken fact)

    by_test : (gives : Bool) → gives_way first root.object ≡ gives → SomeRoot (taken ++ fact ∷ []) serial
    by_test true e = (Some root, last_comes taken (taken ++ fact ∷ []) serial root one last_behind first e is)
    by_test false e = (first, first_keeps taken (taken ++ fact ∷ []) serial root one last_behind first e is)

  with_fact : SomeRoot taken serial → SomeRoot (taken ++ fact ∷ []) serial
  with_fact some = by_root (thread_root_in fact) refl where
    by_root : (found : Option (ℕ × ThreadRoot)) → thread_root_in fact ≡ found → SomeRoot (taken ++ fact ∷ []) serial
    by_root None none = (
      some.0,
      other_stays taken (taken ++ fact ∷ []) serial fact some.0 (one_behind taken fact)
          (λ root e. no_thread_root fact serial root none e) some.1,
    )
    by_root (Some (own, root)) e =
        let same = is_thread_root fact own root e in
        elim (cases_eq serial own) [
          | inl serials ↦ with_root some.0 root (subst (λ (n : ℕ). fact ≡ fact_of_root n root) (sym serials) same) some.1
          | inr differ ↦ (
            some.0,
            other_stays taken (taken ++ fact ∷ []) serial fact some.0 (one_behind taken fact)
                (λ other is. other_thread serial own differ other root (is ∙ same)) some.1,
          )
        ]

along : (serial : ℕ) (left taken : List FactValue) → IsCanonicalOrder (taken ++ left) → SomeRoot taken serial
    → SomeRoot (taken ++ left) serial
along serial [] taken ordered some = subst (λ (l : List FactValue). SomeRoot l serial) (sym (append-nil taken)) some
along serial (fact ∷ left) taken ordered some =
    let parts : (taken ++ fact ∷ []) ++ left ≡ taken ++ fact ∷ left = append_assoc taken (fact ∷ []) left in
    subst (λ (l : List FactValue). SomeRoot l serial) parts
    (along serial left (taken ++ fact ∷ []) (subst IsCanonicalOrder (sym parts) ordered)
    (with_fact serial taken fact (front_before taken left fact ordered) some))

pub root_exists : (facts : List FactValue) (serial : ℕ) → IsConsistent facts → (root : Option ThreadRoot) × IsRootOfThread facts serial root
root_exists facts serial agree =
    let rows = agreeing-order facts agree in
    let some = along serial rows.0 [] rows.1 (None, λ root none. none) in
    (some.0, root_of_same rows.0 facts serial some.0 (λ root. rows.2 (fact_of_root serial root)) some.1)
