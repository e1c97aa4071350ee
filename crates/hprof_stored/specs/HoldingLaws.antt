-- What a sink holds, as a header and facts come.
use Rattle.std.proofs.Common.{◌≡◌, ℕ, Bool, true, false, not, List, [], ◌∷◌, ◌++◌, Option, Some, None, refl, sym, ap, subst, ◌∙◌}
use Rattle.std.proofs.Common.{append-nil, cond}
use Rattle.std.proofs.lemmas.List.Elements.{filter-append}
use Rattle.hprof_items.specs.declared.header.Header.{Header}
use Rattle.hprof_items.specs.FactValue.{FactValue}
use Rattle.hprof_devices.specs.declared.health.Health.{Health}
use Rattle.hprof_stream.specs.declared.limits.Limits.{Limits}
use Rattle.hprof_stream.specs.Run.{Run, Steps}
use Rattle.hprof_heap.specs.Gathering.{Begins, Gathered, Takes}
use Rattle.hprof_objects.specs.Whole.{is_object, no_objects}
use Rattle.hprof_stored.specs.Holding.{Earlier, HoldsStored}
use Rattle.hprof_stored.specs.Storing.{BeginsStored, StepsStored, Storing, TakesOther}

-- one step more
steps_more : (old mid new : Gathered) (facts : List FactValue) (fact : FactValue) → Steps Begins Takes old facts mid → Takes mid fact new
    → Steps Begins Takes old (facts ++ fact ∷ []) new
steps_more old mid new [] fact steps takes = (new, subst (λ (g : Gathered). Takes g fact new) (sym steps) takes, refl)
steps_more old mid new (first ∷ facts) fact steps takes = (steps.0, steps.1, steps_more steps.0 mid new facts fact steps.2 takes)

-- a fact more, among those that are no objects
others_more : (is : Bool) (facts : List FactValue) (fact : FactValue) → is_object fact ≡ is → (old mid new : Gathered) (header : Header)
    → Run Begins Takes old (Some header) (no_objects facts) mid → TakesOther is mid fact new
    → Run Begins Takes old (Some header) (no_objects (facts ++ fact ∷ [])) new
others_more true facts fact e old mid new header ran same =
    let alike : no_objects (facts ++ fact ∷ []) ≡ no_objects facts =
    filter-append (λ (f : FactValue). not (is_object f)) facts (fact ∷ [])
    ∙ ap (λ (b : Bool). no_objects facts ++ (cond (not b) (fact ∷ []) [])) e ∙ append-nil (no_objects facts) in
    subst (λ (l : List FactValue). Run Begins Takes old (Some header) l new) (sym alike)
    (subst (λ (g : Gathered). Run Begins Takes old (Some header) (no_objects facts) g) (sym same) ran)
others_more false facts fact e old mid new header ran takes =
    let alike : no_objects (facts ++ fact ∷ []) ≡ no_objects facts ++ fact ∷ [] =
    filter-append (λ (f : FactValue). not (is_object f)) facts (fact ∷ [])
    ∙ ap (λ (b : Bool). no_objects facts ++ (cond (not b) (fact ∷ []) [])) e in
    subst (λ (l : List FactValue). Run Begins Takes old (Some header) l new) (sym alike)
    (ran.0, ran.1, steps_more ran.0 mid new (no_objects facts) fact ran.2 takes)

module _ {S : Type 0} (written : S → Option (List ℕ)) (health : S → Health) (limits : Limits) (earlier : Earlier) where
  pub holds_begun : (header : Header) (bytes : List ℕ) (old new : Storing S) → BeginsStored written health old header new
      → HoldsStored written health limits earlier None bytes [] old → HoldsStored written health limits earlier (Some header) bytes [] new
  holds_begun header bytes old new begins held = record {
    mid = old.gathered;
    gathers = held.gathers;
    ran = (new.gathered, begins.gathers, refl);
    begun = begins.gathers.begun;
    logs = λ told. begins.logs limits earlier.reads bytes (held.logs told) held.number (held.place header.ids);
    number = begins.part ∙ held.number;
    within = begins.within;
    sound = begins.sound;
  }

  pub holds_taken : (header : Header) (bytes : List ℕ) (facts : List FactValue) (fact : FactValue) (old new : Storing S)
      → StepsStored written health old fact new → HoldsStored written health limits earlier (Some header) bytes facts old
      → HoldsStored written health limits earlier (Some header) bytes (facts ++ fact ∷ []) new
  holds_taken header bytes facts fact old new steps held = record {
    mid = held.mid;
    gathers = held.gathers;
    ran = others_more (is_object fact) facts fact refl held.mid old.gathered new.gathered header held.ran steps.gathers;
    begun = steps.begun ∙ held.begun;
    logs = λ told. steps.logs limits earlier.reads (record { ids = header.ids; bytes = bytes; facts = facts }) held.begun
        (held.logs told);
    number = steps.part ∙ held.number;
    within = steps.within ∙ held.within;
    sound = steps.sound;
  }
