use Rattle.std.proofs.Common.{◌≡◌, Ok, refl, sym, ap, ◌∙◌, rules}
use Rattle.hprof_values.specs.BoundedBytes.{bounds_of}
use Rattle.hprof_values.specs.declared.entry.EntryKind.TheVariants as kinds
use Rattle.hprof_values.specs.declared.sub_tag.SubTag.TheVariants as tags
use Rattle.hprof_items.specs.declared.walk.Walk.TheVariants.{Front, Entries}
use Rattle.hprof_items.specs.SubRecord.{tag_at}
use Rattle.hprof_items.proofs.Walks.{found_now}
use Rattle.hprof_items.proofs.WalksFronts.{front_tagged, tag_stopped, class_entered, class_stopped, tested_at_once}
use Rattle.hprof_items.proofs.walk.pass_front.Goals as goal

pub returns-in-Err-clause-end : goal.returns-in-Err-clause-end
returns-in-Err-clause-end c =
    let item = c.args.item.now in
    sym (tag_stopped c.args.ids (bounds_of item) item.bytes.now c.in-Err.stop (sym c.read_tag.ensures ∙ c.in-Err.is))

pub returns-in_default : goal.returns-in_default
returns-in_default c =
    let item = c.args.item.now in
    let tagged : tag_at (bounds_of item) item.bytes.now ≡ Ok c.in-Ok.tag = sym c.read_tag.ensures ∙ c.in-Ok.is in
    record {
      placed = tt;
      kept = λ more. refl;
      end = c.plain_end.ensures ∙ sym (front_tagged c.args.ids c.in-Ok.tag (bounds_of item) item.bytes.now tagged);
      stands = tested_at_once c.args.ids item c.in-Ok.tag c.plain_end.result tagged c.in_default.not-ClassDump;
    }

pub returns-in-Ok-class_count-clause-kept : goal.returns-in-Ok-class_count-clause-kept
returns-in-Ok-class_count-clause-kept c =
    let item = c.args.item.now in
    let tagged : tag_at (bounds_of item) item.bytes.now ≡ Ok tags.ClassDump = sym c.read_tag.ensures ∙ c.in-Ok.is
    ∙ ap Ok c.in-ClassDump.is in
    let count = sym c.class_count.ensures ∙ c.in-Ok-class_count.is in
    let entered = class_entered c.args.ids item c.in-Ok-class_count.left c.in-Ok-class_count.at tagged count in
    λ more. c.pass_lists.ensures.kept more ∙ entered more

pub returns-in-Ok-class_count-clause-end : goal.returns-in-Ok-class_count-clause-end
returns-in-Ok-class_count-clause-end c =
    let item = c.args.item.now in
    let left = c.in-Ok-class_count.left in
    let at = c.in-Ok-class_count.at in
    let tagged : tag_at (bounds_of item) item.bytes.now ≡ Ok tags.ClassDump = sym c.read_tag.ensures ∙ c.in-Ok.is
    ∙ ap Ok c.in-ClassDump.is in
    let entered = class_entered c.args.ids item left at tagged (sym c.class_count.ensures ∙ c.in-Ok-class_count.is) in
    c.pass_lists.ensures.end ∙ found_now c.args.ids item (Entries kinds.Constant left at) Front entered

pub returns-in-Err-class_count-clause-end : goal.returns-in-Err-class_count-clause-end
returns-in-Err-class_count-clause-end c =
    let item = c.args.item.now in
    let tagged : tag_at (bounds_of item) item.bytes.now ≡ Ok tags.ClassDump = sym c.read_tag.ensures ∙ c.in-Ok.is
    ∙ ap Ok c.in-ClassDump.is in
    let count = sym c.class_count.ensures ∙ c.in-Err-class_count.is in
    sym (class_stopped c.args.ids (bounds_of item) item.bytes.now c.in-Err-class_count.stop tagged count)

pub returns-in-Ok-class_count-clause-stands : goal.returns-in-Ok-class_count-clause-stands
returns-in-Ok-class_count-clause-stands c = search rules
