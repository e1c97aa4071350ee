use Rattle.std.proofs.Common.{◌≤◌, ◌++◌, ◌∷◌, [], ℕ, List, length, refl, subst}
use Rattle.hprof_stream.specs.Fault.{HasNoFault}
use Rattle.hprof_stream.specs.Part.{IsPart}
use Rattle.hprof_facts.proofs.Sizes.{size_of_part}
use Rattle.hprof_facts.proofs.laws.facts_have_the_size_of_their_part.Goals as goal

pub returns : goal.returns
returns g c = λ origin bytes rest ids millis facts was given fact reader sound within part parts tells has.
    size_of_part g.R.Source.left g.R.Source.health g.R.Source.pulls origin was rest tells ids millis facts (given ++ fact ∷ []) reader
    (subst (HasNoFault origin.limits.max_item) parts sound)
    (subst (λ (b : List ℕ). length b ≤ origin.limits.max_bytes) parts within)
    (subst (λ (b : List ℕ). IsPart b ids millis facts) parts part) has fact given [] refl
