use Rattle.std.proofs.Common.{nat_lt, rules, of_calls}
use Rattle.std.proofs.lemmas.Fn.{always_returns_same}
use Rattle.std.proofs.lemmas.List.Sorted.{IsPartitionedBy-ltb}
use Rattle.hprof_runs.specs.declared.place.Place.{Place}
use Rattle.hprof_runs.proofs.sorted_rows.first_from.Goals as goal

pub returns : goal.returns
returns c =
    c.partition_point.ensures.partitioned (λ place. nat_lt place.key c.args.key)
    (always_returns_same _ _ _ (λ a r f k. search (rules, of_calls)))
    (IsPartitionedBy-ltb (λ (place : Place). place.key) c.args.places.now c.args.key c.requires)
