-- What a pass finds of the border of what strong references reach; no public contract speaks of it.
use Rattle.std.specs.Prelude.{◌≡◌, ◌↔◌, ◌⊎◌, ℕ, Contains}
use Rattle.hprof_items.specs.FactValue.{FactValue}
use Rattle.hprof_edges.specs.LeftOut.{fields_in}
use Rattle.hprof_retained.specs.Border.{IsOnBorder, IsOutside}
use Rattle.hprof_retained.specs.declared.border_sink.BorderSink.{BorderSink}

-- the object is on its side of the border, if it is to be kept there
pub record TakesBorder (object : FactValue) (old new : BorderSink) : Type 0 where
  pub retained : new.retained.now ≡ old.retained.now
  pub weak : new.border.weak.now ≡ old.border.weak.now
  pub others : (node : ℕ) → Contains new.border.others.items node
      ↔ (Contains old.border.others.items node ⊎ IsOutside old.retained.now object node)
  pub sources : (node : ℕ) → Contains new.border.sources.items node
      ↔ (Contains old.border.sources.items node ⊎ IsOnBorder (fields_in old.border.weak.now) old.retained.now object node)
