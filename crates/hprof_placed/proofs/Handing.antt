-- Runs of a sink that lists what it is handed, and of a sink that holds the same.
use Rattle.std.proofs.Common.{◌≡◌, ℕ, List, [], ◌∷◌, ◌++◌, Option, Some, None, refl, sym, ap, subst, ◌∙◌, append_assoc, append-nil}
use Rattle.hprof_items.specs.declared.header.Header.{Header}
use Rattle.hprof_items.specs.FactValue.{FactValue}
use Rattle.hprof_stream.specs.declared.limits.Limits.{Limits}
use Rattle.hprof_stream.specs.Run.{Run, Steps, became}
use Rattle.hprof_placed.specs.Handed.{Handed, handed_so}
use Rattle.hprof_placed.specs.Handed as listing

-- ---- a sink that lists

hands_steps : (header : Option Header) (before facts : List FactValue)
    → Steps {S = Handed} listing.begins listing.steps (handed_so header before) facts (handed_so header (before ++ facts))
hands_steps header before [] = ap (handed_so header) (sym (append-nil before))
hands_steps header before (fact ∷ facts) = (
  handed_so header (before ++ fact ∷ []),
  refl,
  subst (λ (l : List FactValue). Steps {S = Handed} listing.begins listing.steps (handed_so header (before ++ fact ∷ [])) facts
      (handed_so header l)) (append_assoc before (fact ∷ []) facts) (hands_steps header (before ++ fact ∷ []) facts),
)

pub hands_run : (from to : Option Header) (before facts : List FactValue) → ((header : Header) → from ≡ Some header → to ≡ Some header)
    → Run {S = Handed} listing.begins listing.steps (handed_so from before) (became from to) facts (handed_so to (before ++ facts))
hands_run None None before facts stays = hands_steps None before facts
hands_run None (Some header) before facts stays = (handed_so (Some header) before, refl, hands_steps (Some header) before facts)
hands_run (Some header) to before facts stays =
    subst (λ (h : Option Header). Run {S = Handed} listing.begins listing.steps (handed_so (Some header) before) None facts
    (handed_so h (before ++ facts))) (sym (stays header refl)) (hands_steps (Some header) before facts)

-- such a run leaves nothing else
steps_hand : (old : Handed) (facts : List FactValue) (new : Handed) → Steps {S = Handed} listing.begins listing.steps old facts new
    → new ≡ record old { facts = old.facts ++ facts }
steps_hand old [] new same = sym same ∙ ap (λ (l : List FactValue). record old { facts = l }) (sym (append-nil old.facts))
steps_hand old (fact ∷ facts) new run =
    steps_hand run.0 facts new run.2
    ∙ ap (λ (h : Handed). record h { facts = h.facts ++ facts }) run.1
    ∙ ap (λ (l : List FactValue). record old { facts = l }) (append_assoc old.facts (fact ∷ []) facts)

pub run_hands : (header : Option Header) (facts : List FactValue) (new : Handed)
    → Run {S = Handed} listing.begins listing.steps (handed_so None []) header facts new → new ≡ handed_so header facts
run_hands None facts new run = steps_hand (handed_so None []) facts new run
run_hands (Some header) facts new run =
    steps_hand run.0 facts new run.2 ∙ ap (λ (h : Handed). record h { facts = h.facts ++ facts }) run.1

-- ---- a sink that holds what it was handed

module _ {S : Type 0} (begins : S → Header → S → Type 0) (steps : S → FactValue → S → Type 0)
    (holds : S → Limits → Option Header → List ℕ → List FactValue → Type 0)
    (begins_part : (old : S) (header : Header) (new : S) → begins old header new → (limits : Limits) (bytes : List ℕ)
    → holds old limits None bytes [] → holds new limits (Some header) bytes [])
    (takes_fact : (old : S) (fact : FactValue) (new : S) → steps old fact new → (limits : Limits) (header : Header) (bytes : List ℕ)
    (facts : List FactValue) → holds old limits (Some header) bytes facts
    → holds new limits (Some header) bytes (facts ++ fact ∷ []))
    (limits : Limits) (bytes : List ℕ) where
  holds_steps : (header : Header) (old new : S) (before facts : List FactValue) → Steps begins steps old facts new
      → holds old limits (Some header) bytes before → holds new limits (Some header) bytes (before ++ facts)
  holds_steps header old new before [] same held =
      subst (λ (l : List FactValue). holds new limits (Some header) bytes l) (sym (append-nil before))
      (subst (λ (s : S). holds s limits (Some header) bytes before) same held)
  holds_steps header old new before (fact ∷ facts) run held =
      subst (λ (l : List FactValue). holds new limits (Some header) bytes l) (append_assoc before (fact ∷ []) facts)
      (holds_steps header run.0 new (before ++ fact ∷ []) facts run.2 (takes_fact old fact run.0 run.1 limits header bytes before held))

  -- no fact comes before a header, and a header that was read stays
  pub holds_run : (from to : Option Header) (old new : S) (before facts : List FactValue) → (from ≡ None → before ≡ [])
      → (to ≡ None → before ++ facts ≡ []) → ((header : Header) → from ≡ Some header → to ≡ Some header)
      → Run begins steps old (became from to) facts new
      → holds old limits from bytes before → holds new limits to bytes (before ++ facts)
  holds_run None None old new before facts bare none stays run held =
      let nothing : facts ≡ [] = subst (λ (l : List FactValue). l ++ facts ≡ []) (bare refl) (none refl) in
      let same : old ≡ new = subst (λ (l : List FactValue). Steps begins steps old l new) nothing run in
      subst (λ (l : List FactValue). holds new limits None bytes l) (bare refl ∙ sym (none refl))
      (subst (λ (s : S). holds s limits None bytes before) same held)
  holds_run None (Some header) old new before facts bare none stays run held =
      let empty : holds old limits None bytes [] = subst (λ (l : List FactValue). holds old limits None bytes l) (bare refl) held in
      subst (λ (l : List FactValue). holds new limits (Some header) bytes (l ++ facts)) (sym (bare refl))
      (holds_steps header run.0 new [] facts run.2 (begins_part old header run.0 run.1 limits bytes empty))
  holds_run (Some header) to old new before facts bare none stays run held =
      subst (λ (h : Option Header). holds new limits h bytes (before ++ facts)) (sym (stays header refl))
      (holds_steps header old new before facts run held)
