use Rattle.std.proofs.Common.{◌≡◌, Some, None, Ok, Err, refl, sym, ◌∙◌}
use Rattle.hprof_values.specs.BoundedBytes.{bounds_of}
use Rattle.hprof_items.specs.declared.walk.Walk.TheVariants.{Entries}
use Rattle.hprof_items.specs.Walk.{next_kind}
use Rattle.hprof_items.proofs.Walks.{list_there, list_stopped, lists_done, answer_by, list_after}
use Rattle.hprof_items.proofs.walk.pass_lists.Goals as goal

pub returns-in-Err-clause-end : goal.returns-in-Err-clause-end
returns-in-Err-clause-end c =
    let walk = c.pass_entries-walk.result.0 in
    let begun = Entries c.loop-end.kind c.loop-end.left c.loop-end.at in
    let first = Entries c.args.kind c.args.left c.args.at in
    let stopped = rw c.in-Err.is at c.pass_entries-walk.ensures.answer in
    answer_by c.args.ids c.args.item.now walk walk begun first (Err c.in-Err.stop) refl stopped
    c.pass_entries-walk.ensures.kept c.loop-end.invariant.kept

pub returns-in_default-clause-end : goal.returns-in_default-clause-end
returns-in_default-clause-end c =
    let item = c.args.item.now in
    let kind = c.loop-end.kind in
    let end = c.in-Ok.end in
    let begun = Entries kind c.loop-end.left c.loop-end.at in
    let first = Entries c.args.kind c.args.left c.args.at in
    let passed = rw c.in-Ok.is at c.pass_entries-walk.ensures.answer in
    let none : next_kind kind ≡ None = sym c.next_kind.ensures ∙ c.in_default.is in
    let done = lists_done c.args.ids kind (bounds_of item) item.bytes.now end none in
    answer_by c.args.ids item c.pass_entries-walk.result.0 (Entries kind 0 end) begun first (Ok end) passed done
    c.pass_entries-walk.ensures.kept c.loop-end.invariant.kept

pub loop-end-preserved : goal.loop-end-preserved
loop-end-preserved c =
    let item = c.args.item.now in
    let kind = c.loop-end.kind in
    let end = c.in-Ok.end in
    let left = c.in-Ok-count_at.count in
    let begin = c.in-Ok-count_at.begin in
    let begun = Entries kind c.loop-end.left c.loop-end.at in
    let first = Entries c.args.kind c.args.left c.args.at in
    let passed = rw c.in-Ok.is at c.pass_entries-walk.ensures.answer in
    let behind_it : next_kind kind ≡ Some c.in-Some.next = sym c.next_kind.ensures ∙ c.in-Some.is in
    let count = sym c.count_at.ensures ∙ c.in-Ok-count_at.is in
    record {
      placed = list_there item end left begin count;
      kept = list_after c.args.ids kind c.in-Some.next item end left begin c.pass_entries-walk.result.0 begun first
          behind_it count passed c.pass_entries-walk.ensures.kept c.loop-end.invariant.kept;
    }

pub returns-in-Err-count_at-clause-end : goal.returns-in-Err-count_at-clause-end
returns-in-Err-count_at-clause-end c =
    let item = c.args.item.now in
    let kind = c.loop-end.kind in
    let end = c.in-Ok.end in
    let stop = c.in-Err-count_at.stop in
    let begun = Entries kind c.loop-end.left c.loop-end.at in
    let first = Entries c.args.kind c.args.left c.args.at in
    let passed = rw c.in-Ok.is at c.pass_entries-walk.ensures.answer in
    let behind_it : next_kind kind ≡ Some c.in-Some.next = sym c.next_kind.ensures ∙ c.in-Some.is in
    let count = sym c.count_at.ensures ∙ c.in-Err-count_at.is in
    let stopped = list_stopped c.args.ids kind c.in-Some.next (bounds_of item) item.bytes.now end stop behind_it count in
    answer_by c.args.ids item c.pass_entries-walk.result.0 (Entries kind 0 end) begun first (Err stop) passed stopped
    c.pass_entries-walk.ensures.kept c.loop-end.invariant.kept
