-- The objects that were stored when readers were read, as a pass reads them again, and the counts of them that watched.
use Rattle.std.proofs.Common.{◌≡◌, ℕ, List, map, Option, Some, sym, subst, ◌∙◌, ap}
use Rattle.std.specs.Prelude.{IsSome}
use Rattle.hprof_values.specs.declared.ids.IdSize.{IdSize}
use Rattle.hprof_items.specs.FactValue.{FactValue}
use Rattle.hprof_devices.specs.declared.health.Health.{Health}
use Rattle.hprof_stream.specs.declared.limits.Limits.{Limits}
use Rattle.hprof_objects.specs.declared.stored_objects.StoredObjects.{StoredObjects}
use Rattle.hprof_objects.specs.Log.{HoldsParts}
use Rattle.hprof_objects.specs.PartsRead.{PartRead}
use Rattle.hprof_objects.specs.StoredObjects.{HoldsObjects}
use Rattle.hprof_engine.specs.Joining.{Tell}
use Rattle.hprof_stored.specs.declared.in_parts.InParts.{InParts}
use Rattle.hprof_stored.specs.declared.stored_heap.StoredHeap.{StoredHeap}
use Rattle.hprof_stored.specs.InParts.{AreStoredOf, limits_under, objects_under, parts_under}
use Rattle.hprof_stored.specs.Reading.{HoldsWatched}
use Rattle.hprof_stored.specs.Watching.{Watched}

module _ {R S P T : Type 0} (left : R → Option (List ℕ)) (written : S → Option (List ℕ)) (health : S → Health)
    (bytes : P → List (Option (List ℕ))) (takes : T → IdSize → FactValue → T → Type 0) (readers : List R) (scratch : Option (List ℕ))
    (stored : StoredHeap S) (it : InParts S P) (start now : Option T) where
  -- what was stored of parts that were told, and what a sink took that watched
  pub record AreWatchedOf (told : List (List ℕ)) : Type 0 where
    pub are : AreStoredOf left written health bytes readers scratch stored it told
    pub watched : Watched takes start are.holds.parts now

  pub are_watched_of : (limits : Limits) (objects : StoredObjects S) (parts : P) → limits_under it ≡ limits → objects_under it ≡ objects
      → parts_under it ≡ parts → HoldsWatched written health takes limits (map left readers) scratch start stored now
      → ((limits : Limits) (reads : List PartRead) → HoldsParts written health limits reads stored.objects
      → HoldsObjects written health limits reads objects)
      → (told : List (List ℕ)) → Tell left readers told → bytes parts ≡ map Some told → IsSome scratch → AreWatchedOf told
  are_watched_of limits objects parts limited are_objects are_parts holds finished told tell same some =
      let held = subst (λ (l : Limits). HoldsWatched written health takes l (map left readers) scratch start stored now) (sym limited)
      holds in
      record {
        are = record {
          tell = tell;
          holds = held.holds;
          finished = λ reads kept. subst (λ (o : StoredObjects S). HoldsObjects written health (limits_under it) reads o) (sym are_objects)
              (finished (limits_under it) reads kept);
          same = ap bytes are_parts ∙ same;
          scratch_tells = some;
        };
        watched = held.watched;
      }
