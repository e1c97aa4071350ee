-- A part that is read again: what its next facts are.
use Rattle.std.proofs.Common.{◌≡◌, ◌⊎◌, ◌+◌, ◌-◌, ◌^◌, ◌≤◌, min, ℕ, Bool, true, false, List, [], ◌∷◌, ◌++◌, length, take, Option}
use Rattle.std.proofs.Common.{Some, None, Result, Ok, Err, inl, inr, refl, sym, ap, subst, ◌∙◌, append_assoc, arith}
use Rattle.std.proofs.lemmas.Bool.{both_ways}
use Rattle.std.proofs.lemmas.List.{length-append, length-take}
use Rattle.hprof_devices.specs.declared.health.Health.{Health}
use Rattle.hprof_values.specs.declared.ids.IdSize.{IdSize}
use Rattle.hprof_values.specs.declared.reason.Reason.TheVariants.{Truncated}
use Rattle.hprof_values.specs.declared.parse_stop.ParseStop.{ParseStop}
use Rattle.hprof_values.specs.declared.parse_stop.ParseStop.TheVariants.{Short, TooLong, Fault}
use Rattle.hprof_items.specs.FactValue.{FactValue, Name, Load, Unload, Frame, Trace, Start, End, Rooted, Class, Instance, ObjArray}
use Rattle.hprof_items.specs.FactValue.{PrimArray}
use Rattle.hprof_items.specs.SubRecord.{dump_bytes}
use Rattle.hprof_stream.specs.declared.limits.Limits.{Limits}
use Rattle.hprof_stream.specs.declared.part_fault.PartFault.{PartFault}
use Rattle.hprof_stream.specs.declared.part_fault.PartFault.TheVariants as faults
use Rattle.hprof_stream.specs.declared.part_reader.PartReader.{PartReader}
use Rattle.hprof_stream.specs.declared.summary.PartSummary.{PartSummary}
use Rattle.hprof_stream.specs.Part.{all_bytes}
use Rattle.hprof_stream.specs.Item.{Found, Start, item_at}
use Rattle.hprof_stream.specs.Fault.{IsFirstFault, fault_at}
use Rattle.hprof_stream.specs.Reader.{Feeds, Finishes, Pulled, header_of, none, once_more}
use Rattle.hprof_stream.specs.Run.{SpellsBegun}
use Rattle.hprof_stream.proofs.ItemLists.{items_size}
use Rattle.hprof_facts.specs.declared.fact_reader.FactReader.{FactReader}
use Rattle.hprof_facts.specs.FactReader.{AdvancesFrom, EndsFrom, HasGivenFrom, IsCurrent, IsOver, Origin, answer_of, comes_to_end, ids_of}
use Rattle.hprof_facts.specs.FactReader.{is_refused, reads_are_spent, source_fails, source_of, spelled_of}
use Rattle.hprof_facts.specs.Listing as listing
use Rattle.hprof_facts.specs.OfBytes.{IsOfBytes, is_of_bytes}
use Rattle.hprof_facts.proofs.Spelled.{current_spelled}
use Rattle.hprof_merge.specs.Rows.{ByteRow}
use Rattle.hprof_merge.specs.Showing.{only}
use Rattle.hprof_objects.specs.declared.stretch_fault.StretchFault.{StretchFault}
use Rattle.hprof_objects.specs.declared.stretch_fault.StretchFault.TheVariants as whys
use Rattle.hprof_facts.specs.ObjectKeys.{object_key}
use Rattle.hprof_objects.specs.ObjectRows.{object_row, object_rows}
use Rattle.hprof_objects.specs.ReadAgain.{CannotRead, HasObjects, IsOverBefore, StatesFirst}
use Rattle.hprof_objects.specs.StretchFault.{ByFault, stretch_fault}
use Rattle.hprof_objects.proofs.AllGiven.{all_given, next_given}

-- ---- one fact

-- a fact that is no object has no row
no_row : (ids : IdSize) (fact : FactValue) → object_key fact ≡ None → object_row ids fact ≡ None
no_row ids (Instance id trace class bytes) empty = absurd cc
no_row ids (ObjArray id trace class elements) empty = absurd cc
no_row ids (PrimArray id trace elem bytes) empty = absurd cc
no_row ids (Name id text) empty = refl
no_row ids (Load serial class trace name) empty = refl
no_row ids (Unload serial) empty = refl
no_row ids (Frame id method signature source class_serial line) empty = refl
no_row ids (Trace serial thread frames) empty = refl
no_row ids (Start thread object trace name group parent_group) empty = refl
no_row ids (End thread) empty = refl
no_row ids (Rooted root) empty = refl
no_row ids (Class id trace parent loader signers domain reserved1 reserved2 size constants statics fields) empty = refl

-- an object has its identifier and its bytes
row_by_key : (ids : IdSize) (fact : FactValue) (id : ℕ) → object_key fact ≡ Some id → object_row ids fact ≡ Some (id, dump_bytes ids fact)
row_by_key ids (Instance one trace class bytes) id is =
    let same : one ≡ id = cc in ap (λ (n : ℕ). Some (n, dump_bytes ids (Instance one trace class bytes))) same
row_by_key ids (ObjArray one trace class elements) id is =
    let same : one ≡ id = cc in ap (λ (n : ℕ). Some (n, dump_bytes ids (ObjArray one trace class elements))) same
row_by_key ids (PrimArray one trace elem bytes) id is =
    let same : one ≡ id = cc in ap (λ (n : ℕ). Some (n, dump_bytes ids (PrimArray one trace elem bytes))) same
row_by_key ids (Name one text) id is = absurd cc
row_by_key ids (Load serial class trace name) id is = absurd cc
row_by_key ids (Unload serial) id is = absurd cc
row_by_key ids (Frame one method signature source class_serial line) id is = absurd cc
row_by_key ids (Trace serial thread frames) id is = absurd cc
row_by_key ids (Start thread object trace name group parent_group) id is = absurd cc
row_by_key ids (End thread) id is = absurd cc
row_by_key ids (Rooted root) id is = absurd cc
row_by_key ids (Class one trace parent loader signers domain reserved1 reserved2 size constants statics fields) id is = absurd cc

no_elements : (facts : List FactValue) → length facts ≡ 0 → facts ≡ []
no_elements [] e = refl
no_elements (fact ∷ facts) e = cc

-- ---- faults

-- a fault is told by what decides it
pub by_fault : (fault : PartFault) (P Q : Type 0) → (stretch_fault fault ≡ whys.Read → P) → (is_of_bytes fault ≡ true → Q)
    → ByFault (stretch_fault fault) P Q
by_fault (faults.Malformed at reason) P Q read changed = changed refl
by_fault (faults.ItemTooLong at) P Q read changed = changed refl
by_fault faults.OutOfMemory P Q read changed = tt
by_fault (faults.Sink fault) P Q read changed = tt
by_fault faults.Failed P Q read changed = read refl
by_fault faults.Read P Q read changed = read refl
by_fault faults.ReadsExceeded P Q read changed = read refl
by_fault faults.BytesExceeded P Q read changed = changed refl

-- what a fault tells tells more
pub by_fault_too : (fault : StretchFault) (P Q More Other : Type 0) → (P → More) → (Q → Other) → ByFault fault P Q
    → ByFault fault More Other
by_fault_too whys.OutOfMemory P Q More Other read changed tells = tt
by_fault_too whys.Read P Q More Other read changed tells = read tells
by_fault_too whys.Changed P Q More Other read changed tells = changed tells

-- a fault of an item is one of the bytes
item_fault : (offset : ℕ) (step : Result (Found × ℕ) ParseStop) (fault : PartFault) → fault_at offset step ≡ Some fault
    → stretch_fault fault ≡ whys.Read → ⊥
item_fault offset (Ok found) fault fails is = cc
item_fault offset (Err Short) fault fails is =
    let same : faults.Malformed offset Truncated ≡ fault = cc in
    let never = ap stretch_fault same ∙ is in cc
item_fault offset (Err TooLong) fault fails is =
    let same : faults.ItemTooLong offset ≡ fault = cc in
    let never = ap stretch_fault same ∙ is in cc
item_fault offset (Err (Fault reason)) fault fails is =
    let same : faults.Malformed offset reason ≡ fault = cc in
    let never = ap stretch_fault same ∙ is in cc

first_fault : (longest : ℕ) (bytes : List ℕ) (fault : PartFault) → IsFirstFault longest bytes fault → stretch_fault fault ≡ whys.Read → ⊥
first_fault longest bytes fault first is =
    item_fault (length (all_bytes first.items)) (item_at longest first.place first.rest) fault first.fails is

-- and so is one with which a piece is refused, but for memory and the queue
fed_fault : (limits : Limits) (bytes : List ℕ) (facts : List FactValue) (from : PartReader) (piece : List ℕ) (old : List FactValue)
    (fault : PartFault) (to : PartReader) (new : List FactValue)
    → Feeds {S = List FactValue} listing.begins listing.steps listing.refuses listing.failed limits bytes facts from piece old (Err fault)
    to new
    → stretch_fault fault ≡ whys.Read → ⊥
fed_fault limits bytes facts from piece old fault to new fed is = by fault fed is
  where
    by : (f : PartFault)
        → Feeds {S = List FactValue} listing.begins listing.steps listing.refuses listing.failed limits bytes facts from piece old (Err f)
        to new
        → stretch_fault f ≡ whys.Read → ⊥
    by (faults.Malformed at reason) fed is = cc
    by (faults.ItemTooLong at) fed is = cc
    by faults.OutOfMemory fed is = cc
    by (faults.Sink why) fed is = cc
    by faults.Failed fed is = first_fault limits.max_item (take limits.max_bytes (bytes ++ piece)) faults.Failed fed.0.0 is
    by faults.Read fed is = first_fault limits.max_item (take limits.max_bytes (bytes ++ piece)) faults.Read fed.0.0 is
    by faults.ReadsExceeded fed is = first_fault limits.max_item (take limits.max_bytes (bytes ++ piece)) faults.ReadsExceeded fed.0.0 is
    by faults.BytesExceeded fed is = cc

-- ---- pulls

pull_more : (count before after most : ℕ) → before ≡ min count most → after ≡ min (before + 1) most → after ≡ min (count + 1) most
pull_more count before after most first one = omega (arith, first, one)

module _ {R : Type 0} (left : R → Option (List ℕ)) (health : R → Health) (pulls : R → ℕ) where
  -- so many pulls were made
  pulled_count : (was : R) (came : List ℕ) (count : ℕ) (is : R) → Pulled left pulls was came count is → pulls was ≡ 0
      → pulls is ≡ min count (2 ^ 64 - 1)
  pulled_count was came count is none fresh = omega (arith, fresh)
  pulled_count was came count is (once_more {came = first} {count = before} {mid = mid} pulled last some) fresh =
      pull_more before (pulls mid) (pulls is) (2 ^ 64 - 1) (pulled_count was first before mid pulled fresh) last.one

  -- reading ends only where the source fails or the reads are spent, if neither the bytes nor memory end it
  ends_unread : (origin : Origin) (was is : R) (result : Result PartSummary PartFault) (facts : List FactValue)
      → EndsFrom left health pulls origin was is result facts → (fault : PartFault) → result ≡ Err fault
      → stretch_fault fault ≡ whys.Read → pulls was ≡ 0 → CannotRead health pulls origin.reads is
  ends_unread origin was is result facts
      (comes_to_end {part = part} {before = before} {allowed = allowed} reading can last end well finishes) fault same read fresh =
      let finished = subst (Finishes origin.limits (origin.front ++ reading.came) (origin.told ++ facts) (header_of part)) same finishes in
      absurd (first_fault origin.limits.max_item (origin.front ++ reading.came) fault finished.0 read)
  ends_unread origin was is result facts
      (is_refused {part = part} next {before = before} {allowed = allowed} {piece = piece} {fault = other} {facts = given} reading can last
      some well feeds) fault same read fresh =
      let one : other ≡ fault = cc in
      absurd (fed_fault origin.limits (origin.front ++ reading.came) (origin.told ++ given) part piece given other next facts feeds
      (ap stretch_fault one ∙ read))
  ends_unread origin was is result facts (source_fails {part = part} {before = before} {allowed = allowed} reading can last ill) fault same
      read fresh = inl ill
  ends_unread origin was is result facts (reads_are_spent {part = part} reading well) fault same read fresh =
      let spent = reading.spent in
      let all : reading.turns ≡ origin.reads = omega (arith, spent) in
      inr (pulled_count was reading.came reading.turns is reading.pulled fresh ∙ ap (λ (n : ℕ). min n (2 ^ 64 - 1)) all)

-- ---- how many facts a part has

facts_size : (limits : Limits) (bytes : List ℕ) (ids : IdSize) (facts : List FactValue) → StatesFirst limits bytes ids facts
    → length facts ≤ limits.max_bytes
facts_size limits bytes ids facts its =
    let size = items_size limits.max_item Start its.place its.items its.splits.each in
    omega (
      arith,
      size.1,
      length-take limits.max_bytes bytes,
      ap length its.has_facts,
      ap length its.splits.parts,
      length-append (all_bytes its.items) its.rest,
    )

-- ---- the next fact

module _ {R : Type 0} (left : R → Option (List ℕ)) (health : R → Health) (pulls : R → ℕ) where
  -- these are the next objects, and at least so many facts were given
  pub record HasGone (reads count : ℕ) (reader : FactReader R) (rows : List ByteRow) : Type 0 where
    pub objects : HasObjects left health pulls reads reader rows
    pub many : count ≤ length objects.given

  -- there are fewer before an object
  pub never_so_many : (reads : ℕ) (reader : FactReader R) (row : ByteRow) (rows : List ByteRow)
      → HasGone reads (2 ^ 64 - 1) reader (row ∷ rows) → ⊥
  never_so_many reads reader row rows gone = some has.behind has.are size
    where
      has : HasObjects left health pulls reads reader (row ∷ rows)
      has = gone.objects

      size : length ((has.origin.told ++ has.given) ++ has.behind) ≤ has.origin.limits.max_bytes
      size = facts_size has.origin.limits (has.origin.front ++ has.rest) has.ids ((has.origin.told ++ has.given) ++ has.behind) has.states

      some : (behind : List FactValue) → object_rows has.ids behind ≡ (row ∷ rows) ++ has.more
          → length ((has.origin.told ++ has.given) ++ behind) ≤ has.origin.limits.max_bytes → ⊥
      some [] are long = cc
      some (fact ∷ behind) are long =
          let many = gone.many in
          let fits = has.fits in
          omega (
            arith,
            many,
            fits,
            long,
            length-append (has.origin.told ++ has.given) (fact ∷ behind),
            length-append has.origin.told has.given,
          )

module _ {R : Type 0} (left : R → Option (List ℕ)) (health : R → Health) (pulls : R → ℕ) (old new : FactReader R)
    (result : Result Bool PartFault)
    (advances : (origin : Origin) (was : R) (given : List FactValue) → HasGivenFrom left health pulls origin was given old
    → AdvancesFrom left health pulls origin was given result new)
    (over : IsOver old → (result ≡ answer_of old) × (new ≡ old)) (reads : ℕ) where
  -- it went on to the next of these facts
  record GoesTo (rows : List ByteRow) (has : HasObjects left health pulls reads old rows) : Type 0 where
    fact : FactValue
    rest : List FactValue
    current : IsCurrent new fact
    is_next : has.behind ≡ fact ∷ rest
    given : HasGivenFrom left health pulls has.origin has.was (has.given ++ fact ∷ []) new
    size : ids_of new ≡ Some has.ids

  -- there are facts before an object
  some_behind : (behind : List FactValue) (ids : IdSize) (row : ByteRow) (rows more : List ByteRow)
      → object_rows ids behind ≡ (row ∷ rows) ++ more → behind ≡ [] → ⊥
  some_behind [] ids row rows more are e = cc
  some_behind (fact ∷ behind) ids row rows more are e = cc

  goes_to : result ≡ Ok true → (row : ByteRow) (rows : List ByteRow) (has : HasObjects left health pulls reads old (row ∷ rows))
      → GoesTo (row ∷ rows) has
  goes_to is row rows has = step has.stands
    where
      step : HasGivenFrom left health pulls has.origin has.was has.given old ⊎ IsOverBefore left health pulls has.origin has.was old
          → GoesTo (row ∷ rows) has
      step (inl stands) =
          let next = subst (λ (r : Result Bool PartFault). AdvancesFrom left health pulls has.origin has.was has.given r new) is
          (advances has.origin has.was has.given stands) in
          let first = next_given left health pulls has.origin has.was has.rest has.tells has.ids has.given has.behind has.states next.0 new
          next.1 (some_behind has.behind has.ids row rows has.more has.are) in
          record {
            fact = next.0;
            rest = first.0.0;
            current = next.2;
            is_next = first.0.1;
            given = next.1;
            size = first.1;
          }
      step (inr fails) =
          let same = (over fails.over).0 in
          let why = fails.answers in
          absurd cc

  -- the facts behind it
  goes_behind : (count : ℕ) (rows more : List ByteRow) (has : HasObjects left health pulls reads old rows) (to : GoesTo rows has)
      (others : List ByteRow) → count ≤ length has.given → object_rows has.ids to.rest ≡ others ++ more
      → HasGone left health pulls reads (count + 1) new others
  goes_behind count rows more has to others many are =
      let origin = has.origin in
      let facts : (origin.told ++ has.given) ++ has.behind ≡ (origin.told ++ (has.given ++ to.fact ∷ [])) ++ to.rest =
      ap (λ (l : List FactValue). (origin.told ++ has.given) ++ l) to.is_next
      ∙ (sym (append_assoc (origin.told ++ has.given) (to.fact ∷ []) to.rest)
      ∙ ap (λ (l : List FactValue). l ++ to.rest) (append_assoc origin.told has.given (to.fact ∷ []))) in
      record {
        objects = record {
          origin = origin;
          allowed = has.allowed;
          fits = has.fits;
          was = has.was;
          fresh = has.fresh;
          rest = has.rest;
          tells = has.tells;
          ids = has.ids;
          given = has.given ++ to.fact ∷ [];
          behind = to.rest;
          states = subst (StatesFirst origin.limits (origin.front ++ has.rest) has.ids) facts has.states;
          more = more;
          are = are;
          stands = inl to.given;
        };
        many = omega (arith, many, length-append has.given (to.fact ∷ []));
      }

  -- a fact that is no object changes nothing
  pub passes : (key : Option ℕ) → result ≡ Ok true → ((fact : FactValue) → IsCurrent new fact → key ≡ object_key fact) → key ≡ None
      → (count : ℕ) (row : ByteRow) (rows : List ByteRow) → HasGone left health pulls reads count old (row ∷ rows)
      → HasGone left health pulls reads (count + 1) new (row ∷ rows)
  passes key is keyed empty count row rows gone =
      let has = gone.objects in
      let to = goes_to is row rows has in
      let no = no_row has.ids to.fact (sym (keyed to.fact to.current) ∙ empty) in
      goes_behind count (row ∷ rows) has.more has to (row ∷ rows) gone.many
      (sym (ap (object_rows has.ids) to.is_next
      ∙ ap (λ (row : Option ByteRow). only row ++ object_rows has.ids to.rest) no) ∙ has.are)

  -- an object is the first row
  pub shows_next : (key : Option ℕ) (id : ℕ) → result ≡ Ok true → ((fact : FactValue) → IsCurrent new fact → key ≡ object_key fact)
      → key ≡ Some id → (row : ByteRow) (rows : List ByteRow) → HasObjects left health pulls reads old (row ∷ rows)
      → (row ≡ (id, spelled_of new)) × HasObjects left health pulls reads new rows
  shows_next key id is keyed some row rows has =
      let to = goes_to is row rows has in
      let fact = to.fact in
      let ids = has.ids in
      let object = row_by_key ids fact id (sym (keyed fact to.current) ∙ some) in
      let all : (id, dump_bytes ids fact) ∷ object_rows ids to.rest ≡ row ∷ (rows ++ has.more) =
      sym (ap (object_rows ids) to.is_next ∙ ap (λ (one : Option ByteRow). only one ++ object_rows ids to.rest) object) ∙ has.are in
      let first : (id, dump_bytes ids fact) ≡ row = cc in
      let behind : object_rows ids to.rest ≡ rows ++ has.more = cc in
      let spelled = subst (λ (b : Option IdSize). SpellsBegun b fact (spelled_of new)) to.size
      (current_spelled new.queue fact to.current) in (
        sym first ∙ ap (λ (bytes : List ℕ). (id, bytes)) (sym spelled),
        (goes_behind 0 (row ∷ rows) has.more has to rows (omega arith) behind).objects,
      )

  -- the bytes do not end it before the last object
  never_over : (end : Result PartSummary PartFault) → IsOfBytes end → (row : ByteRow) (rows : List ByteRow)
      → (has : HasObjects left health pulls reads old (row ∷ rows))
      → EndsFrom left health pulls has.origin has.was (source_of new) end has.given → ⊥
  never_over end of_bytes row rows has ends =
      let origin = has.origin in
      let all = all_given left health pulls origin has.was has.rest has.tells has.ids has.given has.behind has.states (source_of new) end
      has.given ends of_bytes in
      let empty : length has.behind ≡ 0 =
      omega (
        arith,
        ap (λ (l : List FactValue). length l) all.1,
        length-append ((origin.told ++ has.given) ++ has.behind) all.0,
        length-append (origin.told ++ has.given) has.behind,
      ) in
      some_behind has.behind has.ids row rows has.more has.are (no_elements has.behind empty)

  -- there is no end before the last object
  pub never_ends : result ≡ Ok false → (row : ByteRow) (rows : List ByteRow) → HasObjects left health pulls reads old (row ∷ rows) → ⊥
  never_ends is row rows has = step has.stands
    where
      step : HasGivenFrom left health pulls has.origin has.was has.given old ⊎ IsOverBefore left health pulls has.origin has.was old → ⊥
      step (inl stands) =
          let ended = subst (λ (r : Result Bool PartFault). AdvancesFrom left health pulls has.origin has.was has.given r new) is
          (advances has.origin has.was has.given stands) in
          never_over (Ok ended.2.0) tt row rows has ended.2.2
      step (inr fails) =
          let same = (over fails.over).0 in
          let why = fails.answers in
          absurd cc

  -- ---- faults

  -- it ended with this fault
  record EndsWith (rows : List ByteRow) (has : HasObjects left health pulls reads old rows) (fault : PartFault) : Type 0 where
    given : List FactValue
    ends : EndsFrom left health pulls has.origin has.was (source_of new) (Err fault) given

  ends_with : (fault : PartFault) → result ≡ Err fault → (rows : List ByteRow) (has : HasObjects left health pulls reads old rows)
      → EndsWith rows has fault
  ends_with fault is rows has = step has.stands
    where
      failed : (given : List FactValue) → HasGivenFrom left health pulls has.origin has.was given old → EndsWith rows has fault
      failed given gave = record {
        given = given;
        ends = (subst (λ (r : Result Bool PartFault). AdvancesFrom left health pulls has.origin has.was given r new) is
            (advances has.origin has.was given gave)).2;
      }

      step : HasGivenFrom left health pulls has.origin has.was has.given old ⊎ IsOverBefore left health pulls has.origin has.was old
          → EndsWith rows has fault
      step (inl stands) = failed has.given stands
      step (inr fails) = failed fails.given fails.gave

  -- the bytes do not decide it before the last object
  pub never_changed : (fault : PartFault) → result ≡ Err fault → (row : ByteRow) (rows : List ByteRow)
      → HasObjects left health pulls reads old (row ∷ rows) → is_of_bytes fault ≡ true → ⊥
  never_changed fault is row rows has judged = step has.stands
    where
      step : HasGivenFrom left health pulls has.origin has.was has.given old ⊎ IsOverBefore left health pulls has.origin has.was old → ⊥
      step (inl stands) =
          let ended = subst (λ (r : Result Bool PartFault). AdvancesFrom left health pulls has.origin has.was has.given r new) is
          (advances has.origin has.was has.given stands) in
          never_over (Err fault) judged row rows has ended.2
      step (inr fails) =
          let same : Err fails.fault ≡ Err fault = sym fails.answers ∙ (sym (over fails.over).0 ∙ is) in
          let one : fails.fault ≡ fault = cc in
          both_ways (is_of_bytes fault) (ap is_of_bytes (sym one) ∙ fails.undecided) judged

  -- if the part could not be read, the source failed, or the reads are spent
  pub cannot_read : (fault : PartFault) → result ≡ Err fault → stretch_fault fault ≡ whys.Read → (rows : List ByteRow)
      → HasObjects left health pulls reads old rows → CannotRead health pulls reads (source_of new)
  cannot_read fault is read rows has =
      let it = ends_with fault is rows has in
      subst (λ (n : ℕ). CannotRead health pulls n (source_of new)) has.allowed
      (ends_unread left health pulls has.origin has.was (source_of new) (Err fault) it.given it.ends fault refl read has.fresh)
