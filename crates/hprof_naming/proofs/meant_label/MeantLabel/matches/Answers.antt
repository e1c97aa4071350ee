use Rattle.std.proofs.Common.{refl, false}
use Rattle.std.proofs.lemmas.Bool.{both_ways}
use Rattle.hprof_naming.specs.MeantLabel.{descriptor_of}
use Rattle.hprof_naming.proofs.Labels.{never_behind, said_of_arrays, same_behind}
use Rattle.hprof_naming.proofs.meant_label.MeantLabel.matches.Goals as goal

pub returns-in-Some : goal.returns-in-Some
returns-in-Some c = λ word is.
    let meant = c.args.self.now in
    let descriptor = descriptor_of meant.elem meant.name.now in
    let same = same_behind meant.dimensions c.args.label.now c.in-Some.text.now descriptor c.in-Some.ensures in
    said_of_arrays meant.dimensions meant.elem meant.name.now c.if-self-eq0.false word c.args.label.now c.has_descriptor.result is
    (λ yes. same.0 (c.has_descriptor.ensures.0 yes), λ means. c.has_descriptor.ensures.1 (same.1 means))

pub returns-in-None : goal.returns-in-None
returns-in-None c = λ word is.
    let meant = c.args.self.now in
    said_of_arrays meant.dimensions meant.elem meant.name.now c.if-self-eq0.false word c.args.label.now false is (
      λ no. absurd (both_ways _ refl no),
      λ means. absurd (never_behind meant.dimensions c.args.label.now (descriptor_of meant.elem meant.name.now) c.in-None.ensures means),
    )
