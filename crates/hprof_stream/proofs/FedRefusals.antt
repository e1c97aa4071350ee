-- What is refused while a piece is fed, and what is kept.
use Rattle.std.proofs.Common.{◌≡◌, ◌⊎◌, ℕ, ◌<◌, ◌≤◌, Bool, true, false, List, [], ◌++◌, length, take}
use Rattle.std.proofs.Common.{Option, Some, Result, Ok, Err, inl, inr, refl, sym, ap, subst, ◌∙◌, append_assoc, arith, is_ok}
use Rattle.std.specs.Prelude.{OnOk, OnErr}
use Rattle.std.specs.Result.{is_err}
use Rattle.hprof_items.specs.declared.header.Header.{Header}
use Rattle.hprof_values.specs.declared.parse_stop.ParseStop.TheVariants.{Short, TooLong, Fault}
use Rattle.hprof_items.specs.FactValue.{FactValue}
use Rattle.hprof_stream.specs.declared.limits.Limits.{Limits}
use Rattle.hprof_stream.specs.declared.part_fault.PartFault.{PartFault}
use Rattle.hprof_stream.specs.declared.part_fault.PartFault.TheVariants as faults
use Rattle.hprof_stream.specs.declared.part_reader.PartReader.{PartReader}
use Rattle.hprof_stream.specs.declared.progress.Progress.{Progress}
use Rattle.hprof_stream.specs.declared.rest.Rest.{Rest}
use Rattle.hprof_stream.specs.declared.sink.SinkFault.{SinkFault}
use Rattle.hprof_stream.specs.Item.{Place, IsItem}
use Rattle.hprof_stream.specs.Item.{held_of, item_at}
use Rattle.hprof_stream.specs.Fault.{IsFirstFault, HasNoSettledFault, is_settled}
use Rattle.hprof_stream.specs.Progress.{place_of}
use Rattle.hprof_stream.specs.Rest.{IsRest}
use Rattle.hprof_stream.specs.Reader.{header_of, has_failed, HasRead, BeginsWhole, RanOver, RefusesLast, IsFeedFault, Feeds}
use Rattle.hprof_stream.specs.Walking.{Stops, Halts, ReadsOn}
use Rattle.hprof_stream.proofs.Faults.{fault_is_first, too_long_is_first, short_unsettled}
use Rattle.hprof_stream.proofs.Refusals.{item_stays, item_stays_long}
use Rattle.hprof_stream.proofs.PieceRoom.{taken_within, some_of_taken}
use Rattle.hprof_stream.proofs.Feeding.{walk_kept, HasWalked, HasWalked-on, HasRead-walked}
use Rattle.hprof_stream.proofs.Feeding.{IsWithinItem-read, IsWithinItem-walked, RanOver-walked, RanUpTo-walked}

-- ---- what was refused

module _ {S : Type 0} (begins : S → Header → S → Type 0) (steps : S → FactValue → S → Type 0) (refuses : S → List FactValue → SinkFault
    → S → Type 0)
    (failed : S → Bool) where
  -- what was refused stays so, whatever follows
  Stops-more : (progress : Progress) (bytes more : List ℕ) (old new : S) (fault : PartFault) (told : Option Header)
      → Stops refuses failed progress bytes old fault told new → Stops refuses failed progress (bytes ++ more) old fault told new
  Stops-more progress bytes more old new (faults.Malformed at reason) told stop =
      (item_stays progress.limits.max_item (place_of progress) bytes more reason stop.0, stop.1, stop.2, stop.3)
  Stops-more progress bytes more old new (faults.ItemTooLong at) told stop =
      (item_stays_long progress.limits.max_item (place_of progress) bytes more stop.0, stop.1, stop.2, stop.3)
  Stops-more progress bytes more old new (faults.Sink fault) told stop = (
    stop.0,
    stop.1,
    stop.2 ++ more,
    stop.3,
    stop.4,
    stop.5,
    ap (λ (b : List ℕ). b ++ more) stop.6 ∙ append_assoc stop.0.bytes stop.2 more,
    stop.7,
  )
  Stops-more progress bytes more old new faults.OutOfMemory told stop = absurd stop
  Stops-more progress bytes more old new faults.Failed told stop = absurd stop
  Stops-more progress bytes more old new faults.Read told stop = absurd stop
  Stops-more progress bytes more old new faults.ReadsExceeded told stop = absurd stop
  Stops-more progress bytes more old new faults.BytesExceeded told stop = absurd stop

  -- the rest was refused
  IsFeedFault-stopped : (limits : Limits) (bytes whole : List ℕ) (facts : List FactValue) (before told : Option Header) (at : Progress)
      (rest : List ℕ) (old mid new : S) (fault : PartFault)
      → whole ≡ take limits.max_bytes bytes → HasWalked begins steps limits whole facts before at rest old mid
      → ((header : Header) → before ≡ Some header → at.header ≡ Some header) → Stops refuses failed at rest mid fault told new
      → IsFeedFault begins steps refuses failed limits bytes facts before told old fault new
  unfolding RanUpTo-walked
  IsFeedFault-stopped limits bytes whole facts before told at rest old mid new (faults.Malformed n reason) taken walked stays stop =
      let place : Place = place_of at in
      let test : item_at limits.max_item place rest ≡ Err (Fault reason) =
      subst (λ (l : Limits). item_at l.max_item place rest ≡ Err (Fault reason)) walked.has_limits stop.0 in
      let first = fault_is_first limits.max_item whole walked.items place rest reason walked.splits test in
      let ran = RanOver-walked begins steps limits whole facts before at rest old mid walked (ap is_ok test) in
      subst (λ (b : List ℕ). (IsFirstFault limits.max_item b (faults.Malformed n reason) × (is_settled (faults.Malformed n reason) ≡ true))
      × RanOver begins steps limits.max_item b facts before told old new) taken (
        (subst (λ (k : ℕ). IsFirstFault limits.max_item whole (faults.Malformed k reason)) (sym (stop.1 ∙ walked.offset)) first.0, first.1),
        subst (λ (h : Option Header). RanOver begins steps limits.max_item whole facts before h old new) (sym stop.2)
            (subst (RanOver begins steps limits.max_item whole facts before at.header old) stop.3 ran),
      )
  IsFeedFault-stopped limits bytes whole facts before told at rest old mid new (faults.ItemTooLong n) taken walked stays stop =
      let place : Place = place_of at in
      let test : item_at limits.max_item place rest ≡ Err TooLong =
      subst (λ (l : Limits). item_at l.max_item place rest ≡ Err TooLong) walked.has_limits stop.0 in
      let first = too_long_is_first limits.max_item whole walked.items place rest walked.splits test in
      let ran = RanOver-walked begins steps limits whole facts before at rest old mid walked (ap is_ok test) in
      subst (λ (b : List ℕ). (IsFirstFault limits.max_item b (faults.ItemTooLong n) × (is_settled (faults.ItemTooLong n) ≡ true))
      × RanOver begins steps limits.max_item b facts before told old new) taken (
        (subst (λ (k : ℕ). IsFirstFault limits.max_item whole (faults.ItemTooLong k)) (sym (stop.1 ∙ walked.offset)) first, refl),
        subst (λ (h : Option Header). RanOver begins steps limits.max_item whole facts before h old new) (sym stop.2)
            (subst (RanOver begins steps limits.max_item whole facts before at.header old) stop.3 ran),
      )
  IsFeedFault-stopped limits bytes whole facts before told at rest old mid new (faults.Sink fault) taken walked stays stop =
      let is : IsItem limits.max_item (place_of at) stop.0 stop.1 =
      subst (λ (l : Limits). IsItem l.max_item (place_of at) stop.0 stop.1) walked.has_limits stop.3 in
      let up = RanUpTo-walked begins steps limits whole facts before at rest old mid walked stop.0 stop.1 stop.2 told stays is stop.4
      stop.5 stop.6 in
      subst (λ (b : List ℕ). (w : BeginsWhole limits.max_item b told) × RefusesLast begins steps refuses failed w facts before
      old fault new)
      taken (up.0, record { mid = mid; ran = up.1; refused = stop.7 })
  IsFeedFault-stopped limits bytes whole facts before told at rest old mid new faults.OutOfMemory taken walked stays stop = absurd stop
  IsFeedFault-stopped limits bytes whole facts before told at rest old mid new faults.Failed taken walked stays stop = absurd stop
  IsFeedFault-stopped limits bytes whole facts before told at rest old mid new faults.Read taken walked stays stop = absurd stop
  IsFeedFault-stopped limits bytes whole facts before told at rest old mid new faults.ReadsExceeded taken walked stays stop = absurd stop
  IsFeedFault-stopped limits bytes whole facts before told at rest old mid new faults.BytesExceeded taken walked stays stop = absurd stop

  -- an item was refused
  feed_halts : (limits : Limits) (bytes piece taken : List ℕ) (facts : List FactValue) (from : PartReader) (at : Progress)
      (told : Option Header) (old new : S) (fault : PartFault)
      → (read : HasRead limits bytes facts from) → bytes ++ taken ≡ take limits.max_bytes (bytes ++ piece)
      → Halts begins steps refuses failed from.progress (read.unfinished ++ taken) old fault at new → told ≡ at.header
      → IsFeedFault begins steps refuses failed limits (bytes ++ piece) facts (header_of from) told old fault new
  feed_halts limits bytes piece taken facts from at told old new fault read whole halts tells =
      let left : List ℕ = halts.shown ++ halts.rest in
      let walked = HasWalked-on begins steps limits bytes taken facts from halts.at left old halts.mid read halts.walked in
      subst (λ (h : Option Header). IsFeedFault begins steps refuses failed limits (bytes ++ piece) facts (header_of from) h old fault new)
      (sym tells)
      (IsFeedFault-stopped limits (bytes ++ piece) (bytes ++ taken) facts (header_of from) at.header halts.at left old halts.mid new fault
      whole walked
      (λ header e. walk_kept begins steps from.progress.limits.max_item from.progress halts.at (read.unfinished ++ taken) left old halts.mid
      header halts.walked e)
      (Stops-more halts.at halts.shown halts.rest halts.mid new fault at.header halts.stops))

  -- reading on was refused
  --   at, rest: where it stopped
  pub Feeds-refused : (limits : Limits) (bytes piece taken : List ℕ) (facts : List FactValue) (from to : PartReader) (at : Progress)
      (rest : Rest) (old new : S) (fault : PartFault)
      → (read : HasRead limits bytes facts from) → bytes ++ taken ≡ take limits.max_bytes (bytes ++ piece)
      → ReadsOn begins steps refuses failed from.progress read.unfinished taken old (Err fault) at rest new → header_of to ≡ at.header
      → Feeds begins steps refuses failed limits bytes facts from piece old (Err fault) to new
  Feeds-refused limits bytes piece taken facts from to at rest old new (faults.Malformed n reason) read whole on tells =
      feed_halts limits bytes piece taken facts from at (header_of to) old new (faults.Malformed n reason) read whole on tells
  Feeds-refused limits bytes piece taken facts from to at rest old new (faults.ItemTooLong n) read whole on tells =
      feed_halts limits bytes piece taken facts from at (header_of to) old new (faults.ItemTooLong n) read whole on tells
  Feeds-refused limits bytes piece taken facts from to at rest old new (faults.Sink fault) read whole on tells =
      feed_halts limits bytes piece taken facts from at (header_of to) old new (faults.Sink fault) read whole on tells
  Feeds-refused limits bytes piece taken facts from to at rest old new faults.OutOfMemory read whole on tells =
      let holds : 0 < length (held_of limits.max_item (place_of from.progress) read.unfinished) =
      subst (λ (l : Limits). 0 < length (held_of l.max_item (place_of from.progress) read.unfinished)) read.has_limits on.holds in (
        some_of_taken limits.max_bytes bytes piece taken whole on.some,
        (
          inr (
            omega (arith, taken_within limits.max_bytes bytes piece taken whole, on.some),
            IsWithinItem-read limits bytes facts from read holds,
          ),
          (tells ∙ ap (λ (p : Progress). p.header) on.stands, on.same),
        ),
      )
  Feeds-refused limits bytes piece taken facts from to at rest old new faults.Failed read whole on tells = absurd on.stops
  Feeds-refused limits bytes piece taken facts from to at rest old new faults.Read read whole on tells = absurd on.stops
  Feeds-refused limits bytes piece taken facts from to at rest old new faults.ReadsExceeded read whole on tells = absurd on.stops
  Feeds-refused limits bytes piece taken facts from to at rest old new faults.BytesExceeded read whole on tells = absurd on.stops

  -- there are more bytes than the limit, and no item is refused
  pub IsFeedFault-excess : (limits : Limits) (bytes piece taken left : List ℕ) (facts : List FactValue) (from : PartReader) (at : Progress)
      (told : Option Header) (rest : Rest) (old new : S)
      → (read : HasRead limits bytes facts from) → bytes ++ taken ≡ take limits.max_bytes (bytes ++ piece)
      → limits.max_bytes < length (bytes ++ piece)
      → ReadsOn begins steps refuses failed from.progress read.unfinished taken old (Ok left) at rest new → told ≡ at.header
      → IsFeedFault begins steps refuses failed limits (bytes ++ piece) facts (header_of from) told old faults.BytesExceeded new
  IsFeedFault-excess limits bytes piece taken left facts from at told rest old new read whole many on tells =
      let place : Place = place_of at in
      let behind : List ℕ = on.0 ++ left in
      let walked = HasWalked-on begins steps limits bytes taken facts from at behind old new read on.1 in
      let short : item_at limits.max_item place behind ≡ Err Short =
      subst (λ (l : Limits). item_at l.max_item place behind ≡ Err Short) read.has_limits on.3 in
      let over : RanOver begins steps limits.max_item (bytes ++ taken) facts (header_of from) told old new =
      subst (λ (h : Option Header). RanOver begins steps limits.max_item (bytes ++ taken) facts (header_of from) h old new) (sym tells)
      (RanOver-walked begins steps limits (bytes ++ taken) facts (header_of from) at behind old new walked (ap is_ok short)) in
      subst (λ (b : List ℕ). ((limits.max_bytes < length (bytes ++ piece)) × HasNoSettledFault limits.max_item b)
      × RanOver begins steps limits.max_item b facts (header_of from) told old new) whole
      ((many, short_unsettled limits.max_item (bytes ++ taken) walked.items place behind walked.splits short), over)

-- ---- what is left was kept

-- a call that answers nothing but a fault
abbrev refused : PartFault → Result (Unit {0}) PartFault
refused fault = Err fault

-- the one fault of holding bytes
out_of_memory : (fault : PartFault) → refused fault ≡ refused faults.OutOfMemory → faults.OutOfMemory ≡ fault
out_of_memory fault e = cc

-- what is left is kept behind what was kept, of an item that is not whole
abbrev pub KeepsLeft : Progress → Rest → (left : List ℕ) → Rest → Type 0
KeepsLeft progress from left to =
    (still : List ℕ) → IsRest progress.limits.max_item (place_of progress) still from
    → item_at progress.limits.max_item (place_of progress) (still ++ left) ≡ Err Short → (still ≡ []) ⊎ (left ≡ [])
    → IsRest progress.limits.max_item (place_of progress) (still ++ left) to

-- there was no memory to hold it
abbrev pub CannotHold : Progress → (left : List ℕ) → Result (Unit {0}) PartFault → Type 0
CannotHold progress left result =
    (result ≡ Err faults.OutOfMemory) × (0 < length left)
    × ((still : List ℕ) → (still ≡ []) ⊎ (left ≡ [])
    → 0 < length (held_of progress.limits.max_item (place_of progress) (still ++ left)))

module _ {S : Type 0} (begins : S → Header → S → Type 0) (steps : S → FactValue → S → Type 0) (refuses : S → List FactValue → SinkFault
    → S → Type 0)
    (failed : S → Bool) (limits : Limits) (bytes piece taken left : List ℕ) (facts : List FactValue) (from to : PartReader) (at : Progress)
    (rest : Rest) (old new : S) (read : HasRead limits bytes facts from) (within : length (bytes ++ piece) ≤ limits.max_bytes)
    (all : taken ≡ piece) (reads : ReadsOn begins steps refuses failed from.progress read.unfinished taken old (Ok left) at rest new) where
  on : ReadsOn begins steps refuses failed from.progress read.unfinished piece old (Ok left) at rest new
  on =
      subst (λ (t : List ℕ). ReadsOn begins steps refuses failed from.progress read.unfinished t old (Ok left) at rest new) all reads

  -- what was read before what is left
  walked : HasWalked begins steps limits (bytes ++ piece) facts (header_of from) at (on.0 ++ left) old new
  walked = HasWalked-on begins steps limits bytes piece facts from at (on.0 ++ left) old new read on.1

  short : item_at limits.max_item (place_of at) (on.0 ++ left) ≡ Err Short
  short = subst (λ (l : Limits). item_at l.max_item (place_of at) (on.0 ++ left) ≡ Err Short) read.has_limits on.3

  -- it is kept
  keeps_left : KeepsLeft at rest left to.rest → IsRest limits.max_item (place_of at) (on.0 ++ left) to.rest
  keeps_left kept =
      let here : IsRest at.limits.max_item (place_of at) on.0 rest =
      subst (λ (l : Limits). IsRest l.max_item (place_of at) on.0 rest) (read.has_limits ∙ sym walked.has_limits) on.2 in
      let still_short : item_at at.limits.max_item (place_of at) (on.0 ++ left) ≡ Err Short =
      subst (λ (l : Limits). item_at l.max_item (place_of at) (on.0 ++ left) ≡ Err Short) (sym walked.has_limits) short in
      subst (λ (l : Limits). IsRest l.max_item (place_of at) (on.0 ++ left) to.rest) walked.has_limits (kept on.0 here still_short on.4)

  pub Feeds-kept : (result : Result (Unit {0}) PartFault) → is_err result ≡ false → to.progress ≡ at → has_failed to ≡ false
      → OnOk result (KeepsLeft at rest left to.rest) → Feeds begins steps refuses failed limits bytes facts from piece old result to new
  Feeds-kept (Ok done) fine stands sound kept =
      let both : HasWalked begins steps limits (bytes ++ piece) facts (header_of from) to.progress (on.0 ++ left) old new
      × IsRest limits.max_item (place_of to.progress) (on.0 ++ left) to.rest =
      subst (λ (p : Progress). HasWalked begins steps limits (bytes ++ piece) facts (header_of from) p (on.0 ++ left) old new
      × IsRest limits.max_item (place_of p) (on.0 ++ left) to.rest) (sym stands) (walked, keeps_left kept) in (
        both.0.handed,
        HasRead-walked begins steps limits (bytes ++ piece) facts (header_of from) (on.0 ++ left) old new to both.0 sound both.1 within,
        both.0.ran,
      )
  Feeds-kept (Err fault) fine stands sound kept = absurd cc

  -- there is no memory to hold it
  lacks_memory : header_of to ≡ at.header → length left ≤ length piece → CannotHold at left (Err faults.OutOfMemory)
      → Feeds begins steps refuses failed limits bytes facts from piece old (Err faults.OutOfMemory) to new
  lacks_memory tells shorter lacks =
      let some : 0 < length (held_of limits.max_item (place_of at) (on.0 ++ left)) =
      subst (λ (l : Limits). 0 < length (held_of l.max_item (place_of at) (on.0 ++ left))) walked.has_limits (lacks.2 on.0 on.4) in
      let over : RanOver begins steps limits.max_item (bytes ++ piece) facts (header_of from) (header_of to) old new =
      subst (λ (h : Option Header). RanOver begins steps limits.max_item (bytes ++ piece) facts (header_of from) h old new) (sym tells)
      (RanOver-walked begins steps limits (bytes ++ piece) facts (header_of from) at (on.0 ++ left) old new walked (ap is_ok short)) in (
        omega (arith, lacks.1, shorter),
        (
          inl (
            (within, short_unsettled limits.max_item (bytes ++ piece) walked.items (place_of at) (on.0 ++ left) walked.splits short),
            IsWithinItem-walked begins steps limits (bytes ++ piece) facts (header_of from) at (on.0 ++ left) old new walked short some,
          ),
          over,
        ),
      )

  pub Feeds-unheld : (result : Result (Unit {0}) PartFault) → is_err result ≡ true → header_of to ≡ at.header → length left ≤ length taken
      → OnErr result (CannotHold at left result) → Feeds begins steps refuses failed limits bytes facts from piece old result to new
  Feeds-unheld (Ok done) wrong tells shorter lacks = absurd cc
  Feeds-unheld (Err fault) wrong tells shorter lacks =
      let same : faults.OutOfMemory ≡ fault = out_of_memory fault lacks.0 in
      subst (λ (f : PartFault). Feeds begins steps refuses failed limits bytes facts from piece old (Err f) to new) same
      (lacks_memory tells (omega (arith, shorter, ap length all)) (refl, lacks.1, lacks.2))
