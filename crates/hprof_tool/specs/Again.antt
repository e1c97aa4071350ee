-- What is needed to read the objects of parts again.
use Rattle.std.specs.Prelude.{◌≡◌, ℕ, List, [], ◌∷◌, map, Option, Some, ⊤}
use Rattle.hprof_devices.specs.declared.health.Health.{Health}
use Rattle.hprof_devices.specs.declared.health.Health.TheVariants.{Well}
use Rattle.hprof_runs.specs.ReadBack.{HoldsNothing}
use Rattle.hprof_engine.specs.Makes.{Making}
use Rattle.hprof_stored.specs.StoredMaking.{CanBeReadAgain, stored_making}
use Rattle.hprof_questions.specs.declared.report.Report.{Report}
use Rattle.hprof_ask.specs.Report.{IsReportText, RefusesReport}
use Rattle.hprof_tool.specs.declared.program.again.Again.{Again}

-- each of these reads the part of its place again: where the part tells its bytes, so does it
--   left: what a part has left to tell;  bytes: what is told of what reads it again
abbrev pub AreHandles : {P H : Type 0} → (P → Option (List ℕ)) → (H → Option (List ℕ)) → List P → List H → Type 0
AreHandles left bytes [] [] = ⊤
AreHandles left bytes (part ∷ parts) (handle ∷ handles) =
    ((told : List ℕ) → left part ≡ Some told → bytes handle ≡ Some told) × AreHandles left bytes parts handles
AreHandles left bytes [] (handle ∷ handles) = ⊥
AreHandles left bytes (part ∷ parts) [] = ⊥

-- the objects of these parts can be read again with that, and the scratch is well and holds no bytes
--   written, health: what scratch tells that it holds, and how it is doing
abbrev pub IsReadyFor : {P H S : Type 0} → (P → Option (List ℕ)) → (H → Option (List ℕ)) → (S → Option (List ℕ)) → (S → Health)
    → List P → Again H S → Type 0
IsReadyFor left bytes written health parts again = CanBeReadAgain left parts (map bytes again.handles.items) (written again.scratch)
    × HoldsNothing (written again.scratch) × (health again.scratch ≡ Well)

-- what a report makes of parts; where objects may be read again, memory is taken for each, also for one that is known
abbrev pub report_of_parts : Report → Making
report_of_parts report = stored_making (IsReportText report) (λ refusal heap. RefusesReport heap.facts report refusal)
