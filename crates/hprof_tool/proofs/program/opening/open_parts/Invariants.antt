use Rattle.std.proofs.Common.{◌≡◌, All, length, take}
use Rattle.hprof_devices.specs.declared.health.Health.TheVariants.{Well}
use Rattle.hprof_tool.specs.Folder.{AreOpened}
use Rattle.hprof_tool.proofs.program.opening.open_parts.Given as goal

-- the files of the names so far were opened, and each part is well
abbrev pub invariant-loop-index : goal.invariant-loop-index
invariant-loop-index g l = record {
  opened : AreOpened (g.F.Folder.answered l.files) (take l.index l.names) l.parts.items;
  well : All (λ part. g.F.Part.Source.health part ≡ Well) l.parts.items;
  count : length l.parts.items ≡ l.index;
}
