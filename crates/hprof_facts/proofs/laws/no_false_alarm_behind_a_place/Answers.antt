use Rattle.std.proofs.Common.{◌++◌, ◌≤◌, ℕ, List, length, subst, sym}
use Rattle.hprof_stream.specs.Fault.{HasNoFault}
use Rattle.hprof_stream.specs.Part.{IsPart, IsSummary}
use Rattle.hprof_facts.proofs.Agreeing.{all_at_end, given_of_part, never_of_bytes}
use Rattle.hprof_facts.proofs.Standing.{stands_in_part}
use Rattle.hprof_facts.proofs.laws.no_false_alarm_behind_a_place.Goals as goal

pub returns-clause-given : goal.returns-clause-given
returns-clause-given g c = λ origin bytes rest ids millis facts was given reader sound within part parts tells has.
    let sound_too = subst (HasNoFault origin.limits.max_item) parts sound in
    let within_too = subst (λ (b : List ℕ). length b ≤ origin.limits.max_bytes) parts within in
    let part_too = subst (λ (b : List ℕ). IsPart b ids millis facts) parts part in
    given_of_part g.R.Source.left g.R.Source.health g.R.Source.pulls origin was rest tells ids millis facts sound_too within_too part_too
    given reader has

pub returns-clause-passed : goal.returns-clause-passed
returns-clause-passed g c = λ origin bytes rest ids millis passed others was reader sound within part parts tells has.
    let sound_too = subst (HasNoFault origin.limits.max_item) parts sound in
    let within_too = subst (λ (b : List ℕ). length b ≤ origin.limits.max_bytes) parts within in
    let part_too = subst (λ (b : List ℕ). IsPart b ids millis ((origin.told ++ passed) ++ others)) parts part in
    stands_in_part g.R.Source.left g.R.Source.health g.R.Source.pulls origin was rest tells ids millis passed others reader sound_too
    within_too
    part_too has

pub returns-clause-faults : goal.returns-clause-faults
returns-clause-faults g c = λ origin bytes rest ids millis facts was is given fault sound within part parts tells ends.
    let sound_too = subst (HasNoFault origin.limits.max_item) parts sound in
    let within_too = subst (λ (b : List ℕ). length b ≤ origin.limits.max_bytes) parts within in
    let part_too = subst (λ (b : List ℕ). IsPart b ids millis facts) parts part in
    never_of_bytes g.R.Source.left g.R.Source.health g.R.Source.pulls origin was rest tells ids millis facts sound_too within_too part_too
    is fault given ends

pub returns-clause-end : goal.returns-clause-end
returns-clause-end g c = λ origin bytes rest ids millis facts was is given summary sound within part parts tells ends.
    let sound_too = subst (HasNoFault origin.limits.max_item) parts sound in
    let within_too = subst (λ (b : List ℕ). length b ≤ origin.limits.max_bytes) parts within in
    let part_too = subst (λ (b : List ℕ). IsPart b ids millis facts) parts part in
    let it = all_at_end g.R.Source.left g.R.Source.health g.R.Source.pulls origin was rest tells ids millis facts sound_too within_too
    part_too is summary given ends in
    (it.0, subst (λ (b : List ℕ). IsSummary b summary) (sym parts) it.1)
