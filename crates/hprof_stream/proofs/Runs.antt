-- Runs of a sink, one after the other.
use Rattle.std.proofs.Common.{◌≡◌, List, [], ◌∷◌, ◌++◌, Option, Some, None, refl, sym, subst}
use Rattle.hprof_items.specs.declared.header.Header.{Header}
use Rattle.hprof_items.specs.FactValue.{FactValue}
use Rattle.hprof_stream.specs.Run.{Steps, Run, became}

module _ {S : Type 0} (begins : S → Header → S → Type 0) (steps : S → FactValue → S → Type 0) where
  -- no header and no fact
  pub Run-none : (header : Option Header) (sink : S) → Run begins steps sink (became header header) [] sink
  Run-none None sink = refl
  Run-none (Some header) sink = refl

  -- facts, and then more facts
  pub Steps-then : (old mid new : S) (facts more : List FactValue) → Steps begins steps old facts mid → Steps begins steps mid more new
      → Steps begins steps old (facts ++ more) new
  Steps-then old mid new [] more first second = subst (λ (s : S). Steps begins steps s more new) (sym first) second
  Steps-then old mid new (fact ∷ facts) more first second = (first.0, first.1, Steps-then first.0 mid new facts more first.2 second)

  -- a header and facts, and then more facts
  pub Run-steps : (old mid new : S) (header : Option Header) (facts more : List FactValue) → Run begins steps old header facts mid
      → Steps begins steps mid more new → Run begins steps old header (facts ++ more) new
  Run-steps old mid new None facts more first second = Steps-then old mid new facts more first second
  Run-steps old mid new (Some header) facts more first second = (first.0, first.1, Steps-then first.0 mid new facts more first.2 second)

  -- one run and then another: no fact comes before a header, and a header that was read stays
  pub Run-then : (old mid new : S) (before between after : Option Header) (facts more : List FactValue)
      → (between ≡ None → (before ≡ None) × (facts ≡ [])) → ((header : Header) → between ≡ Some header → after ≡ Some header)
      → Run begins steps old (became before between) facts mid → Run begins steps mid (became between after) more new
      → Run begins steps old (became before after) (facts ++ more) new
  Run-then old mid new None None after facts more bare stays first second =
      let none : facts ≡ [] = (bare refl).1 in
      let same : old ≡ mid = subst (λ (f : List FactValue). Steps begins steps old f mid) none first in
      subst (λ (f : List FactValue). Run begins steps old after (f ++ more) new) (sym none)
      (subst (λ (s : S). Run begins steps s after more new) (sym same) second)
  Run-then old mid new None (Some header) after facts more bare stays first second =
      subst (λ (h : Option Header). Run begins steps old h (facts ++ more) new) (sym (stays header refl))
      (Run-steps old mid new (Some header) facts more first second)
  Run-then old mid new (Some before) None after facts more bare stays first second = let no : Some before ≡ None =
      (bare refl).0 in absurd cc
  Run-then old mid new (Some before) (Some header) after facts more bare stays first second = Steps-then old mid new facts more first second
