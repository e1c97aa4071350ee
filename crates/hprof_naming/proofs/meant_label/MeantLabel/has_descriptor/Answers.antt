use Rattle.std.proofs.Common.{refl, ◌≡◌, ◌∙◌, ap, sym}
use Rattle.std.proofs.lemmas.Bool.{both_ways}
use Rattle.std.proofs.lemmas.Bool.Decides.{Decides-eqb}
use Rattle.std.proofs.lemmas.Slice.Eq.{slice_eq-Decides}
use Rattle.hprof_naming.specs.TypeNames.{type_letter}
use Rattle.hprof_naming.specs.MeantLabel.{slashed}
use Rattle.hprof_naming.proofs.Labels.{never_between, only_letter}
use Rattle.hprof_naming.proofs.meant_label.MeantLabel.has_descriptor.Goals as goal

pub returns-in-Some : goal.returns-in-Some
returns-in-Some c =
    let elem = c.in-Some.elem in
    let text = c.args.text.now in
    let letter : c.as_bytes.result.now ≡ type_letter elem = c.as_bytes.ensures.value ∙ c.type_letter.ensures in
    let decides = slice_eq-Decides Decides-eqb text c.as_bytes.result.now c.eq.result c.eq.ensures in
    rw c.in-Some.is
    (λ yes. ap slashed (decides.0 yes ∙ letter), λ same. decides.1 (only_letter elem text same ∙ sym letter))

pub returns-in-None-between : goal.returns-in-None-between
returns-in-None-between c =
    let never = never_between c.args.text.now c.args.self.now.name.now c.in-None-between.ensures in
    rw c.in-None.is (λ no. absurd (both_ways _ refl no), λ same. absurd (never same))
