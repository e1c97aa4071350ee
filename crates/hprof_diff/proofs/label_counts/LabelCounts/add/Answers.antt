use Rattle.std.proofs.Common.{◌≡◌, ◌∙◌, ap, string_bytes}
use Rattle.std.proofs.lemmas.Map.Text.{btree_map_updates_text}
use Rattle.hprof_diff.specs.declared.counted.Counted.{Counted}
use Rattle.hprof_diff.specs.Sources.{both}
use Rattle.hprof_diff.specs.Kept.{kept_in}
use Rattle.hprof_diff.specs.KeptLabels.{kept_updated}
use Rattle.hprof_diff.proofs.label_counts.LabelCounts.add.Goals as goal

pub returns : goal.returns
returns c = λ text.
    let sum : c.in-Some.sum ≡ both (kept_in c.args.self.now (string_bytes c.args.label)) c.args.counted =
    c.in-Some.ensures ∙ ap (λ (k : Counted). both k c.args.counted)
    (c.counted.ensures ∙ ap (kept_in c.args.self.now) c.as_str.ensures.value) in
    kept_updated c.args.self.now (record { labels = c.insert.new.self })
    (string_bytes c.args.label) text c.args.counted c.in-Some.sum sum
    (btree_map_updates_text (string_bytes c.args.label) c.args.self.now.labels c.insert.new.self _ c.in_ok-insert.ensures.updates text)
