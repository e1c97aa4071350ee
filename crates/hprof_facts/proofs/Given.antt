-- What a reader that is pulled has given, as pieces come and facts go.
use Rattle.std.proofs.Common.{◌≡◌, ℕ, ◌+◌, ◌<◌, Bool, true, false, List, [], ◌∷◌, ◌++◌, length, Option, Some, None, Result, Ok, Err}
use Rattle.std.proofs.Common.{is_some, refl, sym, subst, ap}
use Rattle.std.proofs.Common.{append_assoc, append-nil, arith, ◌∙◌}
use Rattle.std.proofs.lemmas.Bool.{both_ways}
use Rattle.hprof_devices.specs.declared.health.Health.{Health}
use Rattle.hprof_devices.specs.declared.health.Health.TheVariants as healths
use Rattle.hprof_items.specs.FactValue.{FactValue}
use Rattle.hprof_stream.specs.declared.part_fault.PartFault.{PartFault}
use Rattle.hprof_stream.specs.declared.part_reader.PartReader.{PartReader}
use Rattle.hprof_stream.specs.declared.summary.PartSummary.{PartSummary}
use Rattle.hprof_stream.specs.Reader.{Feeds, HasRead, IsPull, once_more}
use Rattle.hprof_facts.specs.declared.queue.Queue.{Queue}
use Rattle.hprof_facts.specs.FactReader.{EndsFrom, IsReadTo, IsReading, Origin, is_refused, summary_by}
use Rattle.hprof_facts.specs.Queues.{HasCurrent, Holds, given_of, has_refused, queue_begins, queue_refuses, queue_steps}
use Rattle.hprof_facts.proofs.Listed.{IsFilled, IsListed, feeds_lists}

module _ {R : Type 0} (left : R → Option (List ℕ)) (health : R → Health) (pulls : R → ℕ) (origin : Origin) (was : R) where
  -- a piece came, and was fed
  --   allowed, less: the reads that could come before, and those that may come still
  pub reading_on : (part next : PartReader) (before is : R) (allowed less : ℕ) (facts handed : List FactValue) (piece : List ℕ)
      → allowed ≡ less + 1 → IsPull left pulls before piece is → 0 < length piece
      → (reading : IsReading left health pulls origin was part before allowed facts)
      → HasRead origin.limits ((origin.front ++ reading.came) ++ piece) ((origin.told ++ facts) ++ handed) next
      → IsReading left health pulls origin was next is less (facts ++ handed)
  reading_on part next before is allowed less facts handed piece one_less last some reading read =
      let spent = reading.spent in
      record {
        came = reading.came ++ piece;
        turns = reading.turns + 1;
        pulled = once_more reading.pulled last some;
        read = subst (λ (b : List ℕ). HasRead origin.limits b (origin.told ++ (facts ++ handed)) next)
            (append_assoc origin.front reading.came piece)
            (subst (λ (l : List FactValue). HasRead origin.limits ((origin.front ++ reading.came) ++ piece) l next)
            (append_assoc origin.told facts handed) read);
        spent = omega (arith, spent, one_less);
      }

  -- a piece came, and feeding it was refused
  pub ends_refused : (part next : PartReader) (before is : R) (allowed : ℕ) (facts : List FactValue) (piece : List ℕ) (fault : PartFault)
      (old new : Queue) → IsPull left pulls before piece is → 0 < length piece → health is ≡ healths.Well → IsFilled [] old
      → ((bytes : List ℕ) (others : List FactValue) → HasRead origin.limits bytes others part
      → Feeds {S = Queue} queue_begins queue_steps queue_refuses has_refused origin.limits bytes others part piece old (Err fault) next new)
      → IsReading left health pulls origin was part before allowed facts → 0 < allowed
      → IsListed (EndsFrom left health pulls origin was is (Err fault)) facts new
  ends_refused part next before is allowed facts piece fault old new last some well filled feeds reading can =
      let bytes : List ℕ = origin.front ++ reading.came in
      let all : List FactValue = origin.told ++ facts in
      let it = feeds_lists origin.limits bytes facts all part piece old fault next new filled (feeds bytes all reading.read) in
      record { handed = it.handed; holds = it.holds; none = it.none; comes = is_refused next reading can last some well it.comes }

  -- ---- what is left in the queue

  -- reading is over, and nothing is queued
  pub read_over : (part : Option PartReader) (is : R) (allowed : ℕ) (outcome : Result PartSummary PartFault) (full : Bool)
      (facts queued : List FactValue) → part ≡ None → EndsFrom left health pulls origin was is outcome (facts ++ queued)
      → IsReadTo left health pulls origin was part is allowed outcome full (facts ++ queued)
  read_over part is allowed outcome full facts queued none ends =
      subst (λ (p : Option PartReader). IsReadTo left health pulls origin was p is allowed outcome full (facts ++ queued)) (sym none)
      ends

  -- the same behind no fact of the queue
  pub read_over_none : (part : Option PartReader) (is : R) (allowed : ℕ) (outcome : Result PartSummary PartFault) (full : Bool)
      (facts : List FactValue) → part ≡ None → EndsFrom left health pulls origin was is outcome facts
      → IsReadTo left health pulls origin was part is allowed outcome full (facts ++ [])
  read_over_none part is allowed outcome full facts none ends =
      read_over part is allowed outcome full facts [] none
      (subst (λ (l : List FactValue). EndsFrom left health pulls origin was is outcome l) (sym (append-nil facts)) ends)

  -- and then it has ended
  pub over_ends : (part : Option PartReader) (is : R) (allowed : ℕ) (outcome : Result PartSummary PartFault) (full : Bool)
      (given queued : List FactValue) → part ≡ None → queued ≡ []
      → IsReadTo left health pulls origin was part is allowed outcome full (given ++ queued)
      → EndsFrom left health pulls origin was is outcome given
  over_ends part is allowed outcome full given queued none empty read =
      subst (λ (l : List FactValue). EndsFrom left health pulls origin was is outcome l) (ap (λ (l : List FactValue). given ++ l) empty
      ∙ append-nil given)
      (subst (λ (p : Option PartReader). IsReadTo left health pulls origin was p is allowed outcome full (given ++ queued)) none read)

  -- a part that is read on, with nothing queued
  pub part_reads : (part : Option PartReader) (from : PartReader) (is : R) (allowed : ℕ) (outcome : Result PartSummary PartFault)
      (full : Bool) (given queued : List FactValue) → part ≡ Some from → queued ≡ []
      → IsReadTo left health pulls origin was part is allowed outcome full (given ++ queued)
      → IsReading left health pulls origin was from is allowed given × (full ≡ false)
  part_reads part from is allowed outcome full given queued some empty read =
      subst (λ (l : List FactValue). IsReading left health pulls origin was from is allowed l × (full ≡ false))
      (ap (λ (l : List FactValue). given ++ l) empty ∙ append-nil given)
      (subst (λ (p : Option PartReader). IsReadTo left health pulls origin was p is allowed outcome full (given ++ queued)) some read)

  -- the first that is queued is given
  --   Kept: what holds of the facts that were given, and of those that are queued behind them
  pub record GivesFirst (part : Option PartReader) (is : R) (allowed : ℕ) (outcome : Result PartSummary PartFault) (full : Bool)
      (Kept : List FactValue → Type 0) (given : List FactValue) (old new : Queue) : Type 0 where
    pub fact : FactValue
    pub rest : List FactValue
    pub holds : Holds new rest
    pub read : IsReadTo left health pulls origin was part is allowed outcome full ((given ++ fact ∷ []) ++ rest)
    pub kept : Kept ((given ++ fact ∷ []) ++ rest)
    pub current : HasCurrent new fact
    pub one_more : given_of new ≡ given_of old + 1

  pub gives_first : (part : Option PartReader) (is : R) (allowed : ℕ) (outcome : Result PartSummary PartFault) (full : Bool)
      (Kept : List FactValue → Type 0) (given queued : List FactValue) (old new : Queue) (more : Bool) → more ≡ true → Holds old queued
      → ((fact : FactValue) (facts : List FactValue) → Holds old (fact ∷ facts)
      → (more ≡ true) × Holds new facts × HasCurrent new fact × (given_of new ≡ given_of old + 1))
      → (Holds old [] → (more ≡ false) × (new ≡ old))
      → IsReadTo left health pulls origin was part is allowed outcome full (given ++ queued) → Kept (given ++ queued)
      → GivesFirst part is allowed outcome full Kept given old new
  gives_first part is allowed outcome full Kept given [] old new more is_more holds some none read kept =
      absurd (both_ways more (none holds).0 is_more)
  gives_first part is allowed outcome full Kept given (fact ∷ rest) old new more is_more holds some none read kept =
      let it = some fact rest holds in
      record {
        fact = fact;
        rest = rest;
        holds = it.1;
        read = subst (λ (l : List FactValue). IsReadTo left health pulls origin was part is allowed outcome full l)
            (sym (append_assoc given (fact ∷ []) rest)) read;
        kept = subst Kept (sym (append_assoc given (fact ∷ []) rest)) kept;
        current = it.2;
        one_more = it.3;
      }

-- nothing was queued
pub none_queued : (queued : List FactValue) (old new : Queue) (more : Bool) → more ≡ false → Holds old queued
    → ((fact : FactValue) (facts : List FactValue) → Holds old (fact ∷ facts)
    → (more ≡ true) × Holds new facts × HasCurrent new fact × (given_of new ≡ given_of old + 1))
    → queued ≡ []
none_queued [] old new more no_more holds some = refl
none_queued (fact ∷ rest) old new more no_more holds some = absurd (both_ways more no_more (some fact rest holds).0)

-- what a part that is over came to
pub over_summary : (part : Option PartReader) (outcome : Result PartSummary PartFault) (summary : PartSummary) → part ≡ None
    → outcome ≡ Ok summary → summary_by part outcome ≡ Some summary
over_summary part outcome summary none ok =
    ap (λ (p : Option PartReader). summary_by p outcome) none ∙ ap (λ (o : Result PartSummary PartFault). summary_by None o) ok

-- a part that is gone is not there
pub never_over : (part : Option PartReader) → part ≡ None → is_some part ≡ true → ⊥
never_over part none some = both_ways (is_some part) (ap is_some none) some
