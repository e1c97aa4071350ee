-- Runs of a gatherer, seen by what it shows.
use Rattle.std.proofs.Common.{◌≡◌, false, List, [], ◌∷◌, ◌++◌, Option, Some, None, refl, sym, ap, subst, ◌∙◌}
use Rattle.hprof_items.specs.declared.header.Header.{Header}
use Rattle.hprof_items.specs.FactValue.{FactValue}
use Rattle.hprof_stream.specs.Run.{Steps, Run}
use Rattle.hprof_heap.specs.Gathering.{Gathered, Given, Begins, Takes, Gathers}

-- what gathers parts, by what it has gathered
module _ {G : Type 0} (gathered : G → Gathered) (begins : G → Header → G → Type 0) (steps : G → FactValue → G → Type 0)
    (begins_parts : (old : G) (header : Header) (new : G) → begins old header new → Begins (gathered old) header (gathered new))
    (takes_facts : (old : G) (fact : FactValue) (new : G) → steps old fact new → Takes (gathered old) fact (gathered new)) where
  -- facts that step it on step on what it has gathered
  Steps-shown : (old new : G) (facts : List FactValue) → Steps begins steps old facts new
      → Steps Begins Takes (gathered old) facts (gathered new)
  Steps-shown old new [] run = ap gathered run
  Steps-shown old new (fact ∷ facts) run =
      (gathered run.0, takes_facts old fact run.0 run.1, Steps-shown run.0 new facts run.2)

  -- a run of it is one of what it has gathered
  pub Run-shown : (old new : G) (header : Option Header) (facts : List FactValue) → Run begins steps old header facts new
      → Run Begins Takes (gathered old) header facts (gathered new)
  Run-shown old new None facts run = Steps-shown old new facts run
  Run-shown old new (Some header) facts run =
      (gathered run.0, begins_parts old header run.0 run.1, Steps-shown run.0 new facts run.2)

-- what a run keeps
module _ {G : Type 0} (begins : G → Header → G → Type 0) (steps : G → FactValue → G → Type 0) (Keeps : G → Type 0)
    (on : (old : G) (header : Header) (new : G) → begins old header new → Keeps old → Keeps new)
    (still : (old : G) (fact : FactValue) (new : G) → steps old fact new → Keeps old → Keeps new) where
  Steps-kept : (old new : G) (facts : List FactValue) → Steps begins steps old facts new → Keeps old → Keeps new
  Steps-kept old new [] run keeps = subst Keeps run keeps
  Steps-kept old new (fact ∷ facts) run keeps = Steps-kept run.0 new facts run.2 (still old fact run.0 run.1 keeps)

  pub Run-kept : (old new : G) (header : Option Header) (facts : List FactValue) → Run begins steps old header facts new
      → Keeps old → Keeps new
  Run-kept old new None facts run keeps = Steps-kept old new facts run keeps
  Run-kept old new (Some header) facts run keeps = Steps-kept run.0 new facts run.2 (on old header run.0 run.1 keeps)

-- facts leave it as sound as it was
Steps-sound : (old new : Gathered) (facts : List FactValue) → Steps Begins Takes old facts new → old.failed ≡ false → new.failed ≡ false
Steps-sound old new [] run sound = ap (λ (g : Gathered). g.failed) (sym run) ∙ sound
Steps-sound old new (fact ∷ facts) run sound = let step = run.1 in Steps-sound run.0 new facts run.2 step.sound

-- a run leaves it as sound as it was
pub Run-sound : (old new : Gathered) (header : Option Header) (facts : List FactValue) → Run Begins Takes old header facts new
    → old.failed ≡ false → new.failed ≡ false
Run-sound old new None facts run sound = Steps-sound old new facts run sound
Run-sound old new (Some header) facts run sound = let step = run.1 in Steps-sound run.0 new facts run.2 step.sound

-- parts, and then one more
pub Gathers-more : (old mid new : Gathered) (parts : List Given) (header : Header) (facts : List FactValue) → Gathers old parts mid
    → Run Begins Takes mid (Some header) facts new
    → Gathers old (parts ++ record { header = header; facts = facts } ∷ []) new
Gathers-more old mid new [] header facts gathers run =
    (new, subst (λ (g : Gathered). Run Begins Takes g (Some header) facts new) (sym gathers) run, refl)
Gathers-more old mid new (part ∷ parts) header facts gathers run =
    (gathers.0, gathers.1, Gathers-more gathers.0 mid new parts header facts gathers.2 run)

-- parts leave it as sound as it was
pub Gathers-sound : (old new : Gathered) (parts : List Given) → Gathers old parts new → old.failed ≡ false → new.failed ≡ false
Gathers-sound old new [] gathers sound = ap (λ (g : Gathered). g.failed) (sym gathers) ∙ sound
Gathers-sound old new (part ∷ parts) gathers sound =
    Gathers-sound gathers.0 new parts gathers.2 (Run-sound old gathers.0 (Some part.header) part.facts gathers.1 sound)
