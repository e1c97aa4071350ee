use Rattle.std.proofs.Common.{◌≡◌, ◌<◌, ℕ, zero, suc, ◌+◌, [], ◌∷◌, Option, Some, None, get_or, refl, sym, ap, subst, ◌∙◌, arith}
use Rattle.hprof_tables.specs.SideBySide.{IsFirstDifference}
use Rattle.hprof_rows.specs.declared.table.Table.{Table}
use Rattle.hprof_rows.specs.declared.table.Table.TheVariants.{Names, Loads, Frames, Traces, Starts, Roots, Classes, Objects}
use Rattle.hprof_rows.specs.EachTable.{DiffersFirst, IsNumberIn, key_in}
use Rattle.hprof_rows.specs.HeapRows.{HeapRows}
use Rattle.hprof_rows.proofs.Differing.{NoneBelow, none_fewer, none_agree, first_least, first_fits}
use Rattle.hprof_rows.proofs.EachTable.{table_of_rank}
use Rattle.hprof_heap.specs.Heap.{rows_in}
use Rattle.hprof_heap.specs.Tables.{Differs}
use Rattle.hprof_heap.proofs.heap.Heap.first_difference.Goals as goal

-- the tables are in the order of their ranks
abbrev keyed : ℕ → Table
keyed rank = get_or (Names ∷ Loads ∷ Frames ∷ Traces ∷ Starts ∷ Classes ∷ Objects ∷ []) rank Names

in_order : (rank : ℕ) → rank < 7 → keyed rank ≡ table_of_rank rank
in_order zero lt = refl
in_order (suc zero) lt = refl
in_order (suc (suc zero)) lt = refl
in_order (suc (suc (suc zero))) lt = refl
in_order (suc (suc (suc (suc zero)))) lt = refl
in_order (suc (suc (suc (suc (suc zero))))) lt = refl
in_order (suc (suc (suc (suc (suc (suc zero)))))) lt = refl
in_order (suc (suc (suc (suc (suc (suc (suc rank))))))) lt = absurd (omega arith)

differs_first : (table : Table) (one other : HeapRows) (found : Option ℕ) → Differs table one other found
    → DiffersFirst table one other found
differs_first Roots one other found e = record {
  first = subst (IsFirstDifference [] []) (sym e) (λ key d. let none : None ≡ Some d.content = d.has_content in absurd cc);
}
differs_first table one other found first = first

differs : (one other : HeapRows) (rank : ℕ) (found : Option ℕ) → rank < 7 → Differs (keyed rank) one other found
    → DiffersFirst (table_of_rank rank) one other found
differs one other rank found lt first =
    subst (λ (table : Table). DiffersFirst table one other found) (in_order rank lt) (differs_first (keyed rank) one other found first)

pub key_under-requires : goal.key_under-requires
key_under-requires c =
    let one = c.args.self.now in
    let other = c.args.other.now in
    let rank = c.loop-table.table-index in
    let number = c.in-Some.number in
    let lt = c.loop-table-test.true in
    subst (λ (table : Table). IsNumberIn table number) (sym (in_order rank lt))
    (first_fits (rows_in one) (rows_in other) one.sound other.sound c.requires number rank lt
    (differs (rows_in one) (rows_in other) rank (Some number) lt c.in-Some.ensures))

pub returns-in-Some-clause-some : goal.returns-in-Some-clause-some
returns-in-Some-clause-some c =
    let one = c.args.self.now in
    let other = c.args.other.now in
    let rank = c.loop-table.table-index in
    let number = c.in-Some.number in
    let lt = c.loop-table-test.true in
    λ key e. first_least (rows_in one) (rows_in other) one.sound other.sound c.requires number rank lt c.loop-table.invariant
    (differs (rows_in one) (rows_in other) rank (Some number) lt c.in-Some.ensures) key
    (ap (λ (table : Table). key_in table number) (sym (in_order rank lt)) ∙ sym c.key_under.ensures ∙ e)

pub loop-table-preserved : goal.loop-table-preserved
loop-table-preserved c =
    let one = rows_in c.args.self.now in
    let other = rows_in c.args.other.now in
    let rank = c.loop-table.table-index in
    let next : suc rank ≡ rank + 1 = omega arith in
    subst (NoneBelow one other) next
    (c.loop-table.invariant, (differs one other rank _ c.loop-table-test.true c.in_default.ensures).first)

pub returns-clause-none : goal.returns-clause-none
returns-clause-none c =
    let one = c.args.self.now in
    let other = c.args.other.now in
    λ nothing. none_agree (rows_in one) (rows_in other) one.sound other.sound c.requires
    (none_fewer (rows_in one) (rows_in other) 7 c.loop-table.table-index c.loop-table-test.false c.loop-table.invariant)
