-- Choosing objects one by one.
use Rattle.std.specs.Prelude.{◌≡◌, [], ◌∷◌, ◌++◌, map}
use Rattle.hprof_values.specs.declared.ids.IdSize.{IdSize}
use Rattle.hprof_items.specs.FactValue.{FactValue}
use Rattle.hprof_histogram.specs.declared.chosen.Choosing.{Choosing}
use Rattle.hprof_histogram.specs.Chosen.{chosen_among}
use Rattle.hprof_histogram.specs.Objects.{sized_of}

-- an object is put behind those that were chosen before, if it is chosen
pub record ChoosesObject (old : Choosing) (ids : IdSize) (object : FactValue) (new : Choosing) : Type 0 where
  pub chosen : new.chosen ≡ old.chosen
  pub objects : new.objects.items ≡ old.objects.items ++ map (sized_of ids) (chosen_among old.chosen (object ∷ []))
