-- A thread has one object and one stack.
use Rattle.std.specs.List.{find}
use Rattle.std.proofs.Common.{◌≡◌, inl, inr, ℕ, Bool, true, false, List, [], Option, Some, None, ◌==◌, refl, sym, ap, subst, ◌∙◌}
use Rattle.std.specs.Prelude.{if◌then◌else◌}
use Rattle.hprof_values.specs.Lists.{identifiers_of}
use Rattle.hprof_values.specs.declared.lists.ids.IdList.{IdList}
use Rattle.hprof_items.specs.declared.fact.Fact.{Fact}
use Rattle.hprof_items.specs.declared.fact.Fact.TheVariants as handed
use Rattle.hprof_items.specs.FactValue.{FactValue, value_of, Start, Trace}
use Rattle.hprof_rows.specs.declared.key.Key.TheVariants as keys
use Rattle.hprof_rows.specs.Conflict.{IsConsistent}
use Rattle.hprof_rows.specs.Facts.{Has}
use Rattle.hprof_rows.specs.Key.{has_key}
use Rattle.hprof_rows.specs.Order.{IsBefore}
use Rattle.hprof_rows.proofs.Keys.{same_place, same_place-true}
use Rattle.hprof_rows.proofs.Order.{is_before, is_before-true, is_before-false}
use Rattle.hprof_threads.specs.declared.thread_root.ThreadRoot.{ThreadRoot}
use Rattle.hprof_threads.specs.Threads.{IsFirstRoot, IsRootOfThread, IsStartFound, IsStarted, IsThreadObject, IsThreadStack}
use Rattle.hprof_threads.specs.Threads.{IsTraceFound, IsTraceOfRoot, IsTraced, fact_of_root, object_of_root, object_of_start}
use Rattle.hprof_threads.proofs.FirstRoots.{root_exists, same_root}
use Rattle.hprof_threads.proofs.KeyedFacts.{Found, NotFound, is_of_key, keyed, look_up}

-- ---- what is found

pub start_there : (facts : List FactValue) (serial own object trace name group parent : ℕ) (fact : Fact)
    → Some (value_of fact) ≡ find (has_key (keys.Thread serial)) facts → fact ≡ handed.Start own object trace name group parent
    → IsStarted facts serial object
start_there facts serial own object trace name group parent fact e is =
    let it = keyed facts (keys.Thread serial) (Start own object trace name group parent)
    (subst (λ (f : Fact). Some (value_of f) ≡ find (has_key (keys.Thread serial)) facts) is e) in
    let same : Some (keys.Thread own) ≡ Some (keys.Thread serial) = it.key_is in
    let one : own ≡ serial = cc in
    record {
      trace = trace;
      name = name;
      group = group;
      parent_group = parent;
      has = subst (λ (n : ℕ). Has facts (Start n object trace name group parent)) one it.has;
    }

pub trace_there : (facts : List FactValue) (serial own thread : ℕ) (frames : IdList) (fact : Fact)
    → Some (value_of fact) ≡ find (has_key (keys.Trace serial)) facts → fact ≡ handed.Trace own thread frames
    → IsTraced facts serial (identifiers_of frames)
trace_there facts serial own thread frames fact e is =
    let it = keyed facts (keys.Trace serial) (Trace own thread (identifiers_of frames))
    (subst (λ (f : Fact). Some (value_of f) ≡ find (has_key (keys.Trace serial)) facts) is e) in
    let same : Some (keys.Trace own) ≡ Some (keys.Trace serial) = it.key_is in
    let one : own ≡ serial = cc in
    record { thread = thread; has = subst (λ (n : ℕ). Has facts (Trace n thread (identifiers_of frames))) one it.has }

-- ---- there is one

start_exists : (facts : List FactValue) (serial : ℕ) → (start : Option ℕ) × IsStartFound facts serial start
start_exists facts serial = elim (look_up facts (keys.Thread serial)) [
  | Found fact is ↦
      let of = is_of_key (keys.Thread serial) fact is.key_is in
      let has = subst (Has facts) of.5 is.has in
      (Some of.0, record { trace = of.1; name = of.2; group = of.3; parent_group = of.4; has = has })
  | NotFound none ↦
      (None, λ object is. none (Start serial object is.trace is.name is.group is.parent_group) is.has refl)
]

trace_exists : (facts : List FactValue) (serial : ℕ) → (frames : Option (List ℕ)) × IsTraceFound facts serial frames
trace_exists facts serial = elim (look_up facts (keys.Trace serial)) [
  | Found fact is ↦
      let of = is_of_key (keys.Trace serial) fact is.key_is in
      (Some of.1, record { thread = of.0; has = subst (Has facts) of.2 is.has })
  | NotFound none ↦ (None, λ frames is. none (Trace serial is.thread frames) is.has refl)
]

pub object_exists : (facts : List FactValue) (serial : ℕ) → IsConsistent facts → (object : ℕ) × IsThreadObject facts serial object
object_exists facts serial agree =
    let root = root_exists facts serial agree in
    let start = start_exists facts serial in (
      if object_of_root root.0 == 0 then object_of_start start.0 else object_of_root root.0,
      record { root = root.0; is_root = root.1; start = start.0; is_start = start.1; is = refl },
    )

trace_of_root : (facts : List FactValue) (root : Option ThreadRoot) → (frames : Option (List ℕ)) × IsTraceOfRoot facts root frames
trace_of_root facts (Some root) = trace_exists facts root.trace
trace_of_root facts None = (None, refl)

pub stack_exists : (facts : List FactValue) (serial : ℕ) → IsConsistent facts
    → (frames : Option (List ℕ)) × IsThreadStack facts serial frames
stack_exists facts serial agree =
    let root = root_exists facts serial agree in
    let frames = trace_of_root facts root.0 in
    (frames.0, record { root = root.0; is_root = root.1; is = frames.1 })

-- ---- and one at most

object_in : FactValue → ℕ
object_in (Start thread object trace name group parent) = object
object_in fact = 0

frames_in : FactValue → List ℕ
frames_in (Trace serial thread frames) = frames
frames_in fact = []

module _ (facts : List FactValue) (serial : ℕ) where
  -- of two first roots, neither stands before the other
  not_before : (one other : ThreadRoot) → IsFirstRoot facts serial one → IsFirstRoot facts serial other
      → IsBefore (fact_of_root serial one) (fact_of_root serial other) → ⊥
  not_before one other is too before =
      let apart = too.first one is.has before in
      is.with_object other too.has apart.1 apart.0

  first_once : (one other : ThreadRoot) → IsFirstRoot facts serial one → IsFirstRoot facts serial other → one ≡ other
  first_once one other is too =
      by_test (is_before (fact_of_root serial one) (fact_of_root serial other))
      (same_place (fact_of_root serial one) (fact_of_root serial other)) refl refl
    where
      by_test : (before same : Bool) → is_before (fact_of_root serial one) (fact_of_root serial other) ≡ before
          → same_place (fact_of_root serial one) (fact_of_root serial other) ≡ same → one ≡ other
      by_test true same e s =
          absurd (not_before one other is too (is_before-true (fact_of_root serial one) (fact_of_root serial other) e))
      by_test false false e s =
          absurd (not_before other one too is (is_before-false (fact_of_root serial one) (fact_of_root serial other) e s))
      by_test false true e s = elim (same_place-true (fact_of_root serial one) (fact_of_root serial other) s) [
        | inl keyed_both ↦ let clash : None ≡ Some keyed_both.key = keyed_both.key_of_one in absurd cc
        | inr same ↦ same_root serial one other same
      ]

  pub root_once : (one other : Option ThreadRoot) → IsRootOfThread facts serial one → IsRootOfThread facts serial other → one ≡ other
  root_once None None is too = refl
  root_once None (Some other) is too = absurd (is other too.has)
  root_once (Some one) None is too = absurd (too one is.has)
  root_once (Some one) (Some other) is too = ap Some (first_once one other is too)

module _ (facts : List FactValue) (agree : IsConsistent facts) where
  start_once : (serial : ℕ) (one other : Option ℕ) → IsStartFound facts serial one → IsStartFound facts serial other → one ≡ other
  unfolding object_in
  start_once serial None None is too = refl
  start_once serial None (Some other) is too = absurd (is other too)
  start_once serial (Some one) None is too = absurd (too one is)
  start_once serial (Some one) (Some other) is too =
      ap Some (ap object_in (agree (keys.Thread serial) (Start serial one is.trace is.name is.group is.parent_group)
      (Start serial other too.trace too.name too.group too.parent_group) is.has too.has refl refl))

  trace_once : (serial : ℕ) (one other : Option (List ℕ)) → IsTraceFound facts serial one → IsTraceFound facts serial other → one ≡ other
  unfolding frames_in
  trace_once serial None None is too = refl
  trace_once serial None (Some other) is too = absurd (is other too)
  trace_once serial (Some one) None is too = absurd (too one is)
  trace_once serial (Some one) (Some other) is too =
      ap Some (ap frames_in (agree (keys.Trace serial) (Trace serial is.thread one) (Trace serial too.thread other)
      is.has too.has refl refl))

  pub object_once : (serial one other : ℕ) → IsThreadObject facts serial one → IsThreadObject facts serial other → one ≡ other
  object_once serial one other is too =
      let root = root_once facts serial is.root too.root is.is_root too.is_root in
      let start = start_once serial is.start too.start is.is_start too.is_start in
      is.is ∙ ap (λ (r : Option ThreadRoot). if object_of_root r == 0 then object_of_start is.start else object_of_root r) root
      ∙ ap (λ (s : Option ℕ). if object_of_root too.root == 0 then object_of_start s else object_of_root too.root) start ∙ sym too.is

  frames_once : (root : Option ThreadRoot) (one other : Option (List ℕ)) → IsTraceOfRoot facts root one → IsTraceOfRoot facts root other
      → one ≡ other
  frames_once None one other is too = is ∙ sym too
  frames_once (Some root) one other is too = trace_once root.trace one other is too

  pub stack_once : (serial : ℕ) (one other : Option (List ℕ)) → IsThreadStack facts serial one → IsThreadStack facts serial other
      → one ≡ other
  stack_once serial one other is too =
      let root = root_once facts serial is.root too.root is.is_root too.is_root in
      frames_once too.root one other (subst (λ (r : Option ThreadRoot). IsTraceOfRoot facts r one) root is.is) too.is
