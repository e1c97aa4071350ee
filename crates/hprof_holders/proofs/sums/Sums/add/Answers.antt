use Rattle.std.proofs.Common.{◌≡◌, ◌+◌, ◌∙◌, ℕ, Some, cond, ap, string_bytes}
use Rattle.std.specs.Prelude.{bytes_eq}
use Rattle.std.specs.BTreeMap.{get_by_text}
use Rattle.std.proofs.lemmas.Map.Text.{btree_map_updates_text}
use Rattle.hprof_holders.specs.SumCounts.{count_in}
use Rattle.hprof_holders.proofs.sums.Sums.add.Goals as goal

pub returns : goal.returns
returns c = λ other.
    let text = string_bytes c.args.text in
    let old = c.args.self.now in
    let count : c.count-count.result ≡ count_in old text = c.count-count.ensures ∙ ap (count_in old) c.as_str.ensures.value in
    btree_map_updates_text text old.counts c.insert.new.self _ c.in_ok-insert.ensures.updates other
    ∙ ap (λ (n : ℕ). cond (bytes_eq text other) (Some (n + 1)) (get_by_text old.counts other)) count
