use Rattle.std.proofs.Common.{◌≡◌, ℕ, ◌≤◌, ◌<◌, ◌^◌, List, ◌++◌, length, Result, Ok, Err, refl, sym, ◌∙◌, arith, rules}
use Rattle.std.specs.Prelude.{IfOk, OnOk, IsOkAnd, MatchResult}
use Rattle.hprof_values.specs.declared.ids.IdSize.{IdSize}
use Rattle.hprof_values.specs.declared.parse_stop.ParseStop.{ParseStop}
use Rattle.hprof_values.specs.Ids.{IsBytes}
use Rattle.hprof_items.specs.declared.fact.Fact.{Fact}
use Rattle.hprof_items.specs.FactValue.{FactValue, value_of, ListsHave}
use Rattle.hprof_items.specs.SubRecord.{sub_at, dump_bytes, DumpFits}
use Rattle.hprof_items.specs.SubReading.{bounds_within, IsSubRead}
use Rattle.hprof_items.proofs.SubRecords.{answer_parts}
use Rattle.hprof_items.proofs.Dumps.{sub_read, sub_is, sub_never}
use Rattle.hprof_items.proofs.sub_reading.read_sub_into.Goals as goal

module _ (ids : IdSize) (room longest : ℕ) (bytes : List ℕ) (fact : Fact) where
  -- what was read, or what stopped it
  abbrev pub IsRead : Result ℕ ParseStop → Type 0
  IsRead result = MatchResult result
      (λ end. sub_at ids (bounds_within room longest bytes) bytes ≡ Ok (value_of fact, end))
      (λ stop. sub_at ids (bounds_within room longest bytes) bytes ≡ Err stop)

  found_of : (result : Result ℕ ParseStop) → IsBytes bytes → room < 2 ^ 32 → IsRead result → OnOk result (ListsHave ids fact)
      → IfOk result (λ end. IsSubRead ids room longest bytes fact end)
  found_of (Ok end) are small read lists = sub_read ids room longest bytes fact end are small lists read
  found_of (Err stop) are small read lists = tt

  only_of : (result : Result ℕ ParseStop) → IsRead result → (spelled : FactValue) (rest : List ℕ) → DumpFits ids spelled
      → bytes ≡ dump_bytes ids spelled ++ rest
      → length (dump_bytes ids spelled) ≤ room → length (dump_bytes ids spelled) ≤ longest
      → IsOkAnd result (λ end. (value_of fact ≡ spelled) × (end ≡ length (dump_bytes ids spelled)))
  only_of (Ok end) read spelled rest fits is in_room in_longest =
      answer_parts _ spelled end _ _ refl (sym read ∙ sub_is ids room longest bytes _ spelled rest refl fits is in_room in_longest)
  only_of (Err stop) read spelled rest fits is in_room in_longest =
      sub_never ids room longest bytes stop read spelled rest fits is in_room in_longest

pub returns-clause-found : goal.returns-clause-found
returns-clause-found c =
    found_of c.args.ids c.args.room c.args.longest c.args.bytes.now c.read_item.new.fact c.read_item.result (λ i.
    omega (arith, c.type_inv.bytes i)) (omega arith)
    c.read_item.ensures.fact c.read_item.ensures.lists

pub returns-clause-only : goal.returns-clause-only
returns-clause-only c = only_of c.args.ids c.args.room c.args.longest c.args.bytes.now c.read_item.new.fact c.read_item.result
    c.read_item.ensures.fact

pub returns-clause-exact : goal.returns-clause-exact
returns-clause-exact c = search rules
