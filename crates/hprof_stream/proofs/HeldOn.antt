-- Going on with what is held of an item.
use Rattle.std.proofs.Common.{◌≡◌, ℕ, zero, suc, ◌+◌, ◌-◌, ◌<◌, ◌≤◌, ◌⊎◌, inl, inr, ltb, Bool, true, false, List, [], ◌++◌}
use Rattle.std.proofs.Common.{length, take, drop, Option, Some, None, IfOk, Bor, is_some, Ok, Err, refl, sym, ap, subst, ◌∙◌}
use Rattle.std.proofs.Common.{append_assoc, append-nil, take-append-drop, arith}
use Rattle.std.proofs.lemmas.Bool.{ltb-true, ltb-false}
use Rattle.std.proofs.lemmas.List.{length-append, take-append-le, drop-append-le}
use Rattle.std.proofs.Math.Seq.{drop-append-add}
use Rattle.hprof_values.specs.Ids.{IsBytes}
use Rattle.hprof_items.specs.declared.header.Header.{Header}
use Rattle.hprof_values.specs.declared.parse_stop.ParseStop.{ParseStop}
use Rattle.hprof_values.specs.declared.parse_stop.ParseStop.TheVariants.{Short}
use Rattle.hprof_items.specs.declared.walk.Walk.{Walk}
use Rattle.hprof_items.specs.declared.walk.Walk.TheVariants.{Front}
use Rattle.hprof_items.specs.FactValue.{FactValue}
use Rattle.std.specs.Prelude.{Result}
use Rattle.hprof_stream.specs.declared.part_fault.PartFault.{PartFault}
use Rattle.hprof_stream.specs.declared.part_fault.PartFault.TheVariants as faults
use Rattle.hprof_stream.specs.declared.progress.Progress.{Progress}
use Rattle.hprof_stream.specs.declared.rest.Passing.{Passing}
use Rattle.hprof_stream.specs.declared.rest.Rest.{Rest}
use Rattle.hprof_stream.specs.declared.sink.SinkFault.{SinkFault}
use Rattle.hprof_stream.specs.Part.{Stated}
use Rattle.hprof_stream.specs.Item.{Place, Start, Between, Within, HasRoom, Found, place_behind}
use Rattle.hprof_stream.specs.Item.{held_of, item_at}
use Rattle.hprof_stream.specs.Progress.{place_of, advanced, IsCounted}
use Rattle.hprof_stream.specs.ItemStep.{Stands, place_after}
use Rattle.hprof_stream.specs.ItemValue as items
use Rattle.hprof_items.specs.Spelling.{longest_body}
use Rattle.hprof_stream.specs.Rest.{IsWalkOf, IsRest, PassesOver, passed_len, rest_len}
use Rattle.hprof_stream.specs.Walking.{Walks, StepsOver, Halts, GoesOn, IsHalted, ReadsOn, WalksAll, seen}
use Rattle.hprof_stream.proofs.Items.{item_found, item_again}
use Rattle.hprof_stream.proofs.Rests.{held_none, passing_none, IsBytes-append, IsRest-none}
use Rattle.hprof_stream.proofs.Stepping.{Halts-step, Halts-then, Halts-same}
use Rattle.hprof_stream.proofs.Walks.{Walks-none, Walks-item, Walks-more, Walks-then, Walks-at, Walks-counted, same_item}
use Rattle.hprof_stream.proofs.Holding.{IsWalkOf-front, IsRest-empty, some_not_none}

-- ---- an item that is whole with the bytes that came

-- it is longer than what was there of it
longer_if : (longest : ℕ) (place : Place) (front more : List ℕ) (found : Found) (n : ℕ) → HasRoom place → IsBytes (front ++ more)
    → item_at longest place front ≡ Err Short → item_at longest place (front ++ more) ≡ Ok (found, n) → (longer : Bool)
    → ltb (length front) n ≡ longer → length front < n
longer_if longest place front more found n room are short e true is = ltb-true (length front) n is
longer_if longest place front more found n room are short e false is =
    let few : n ≤ length front = omega (arith, ltb-false (length front) n is) in
    let read = item_found longest place (front ++ more) found n room are e in
    let one : Stated = record { bytes = take n (front ++ more); facts = found.facts } in
    let again = item_again longest place found.next one (drop n front) read.2 in
    let same : one.bytes ++ drop n front ≡ front = ap (λ (b : List ℕ). b ++ drop n front) (take-append-le n front more few)
    ∙ take-append-drop n front in
    let now : Err Short ≡ item_at longest place (one.bytes ++ drop n front) = sym (ap (item_at longest place) same ∙ short) in
    absurd cc

pub item_longer : (longest : ℕ) (place : Place) (front more : List ℕ) (found : Found) (n : ℕ) → HasRoom place → IsBytes (front ++ more)
    → item_at longest place front ≡ Err Short → item_at longest place (front ++ more) ≡ Ok (found, n) → length front < n
item_longer longest place front more found n room are short e = longer_if longest place front more found n room are short e
    (ltb (length front) n) refl

-- what is behind it
pub behind_item : (front more behind : List ℕ) (n : ℕ) → length front < n → n ≤ length (front ++ more)
    → drop n (front ++ more) ++ behind ≡ drop (n - length front) (more ++ behind)
behind_item front more behind n long there =
    let k : ℕ = n - length front in
    let split : drop n (front ++ more) ≡ drop k more = ap (λ (i : ℕ). drop i (front ++ more)) (omega (arith, long))
    ∙ drop-append-add front more k in
    ap (λ (b : List ℕ). b ++ behind) split ∙ sym (drop-append-le k more behind (omega (arith, long, there, length-append front more)))

module _ {S : Type 0} (begins : S → Header → S → Type 0) (steps : S → FactValue → S → Type 0) (refuses : S → List FactValue → SinkFault
    → S → Type 0) (failed : S → Bool) where
  -- it was handed on, and nothing is kept
  pub GoesOn-whole : (from to : Progress) (front more behind : List ℕ) (n : ℕ) (old new : S) (rest : Rest)
      → Walks begins steps from.limits.max_item from (front ++ more) old to (drop n (front ++ more)) new
      → length front < n → n ≤ length (front ++ more) → IsRest from.limits.max_item (place_of to) [] rest
      → GoesOn begins steps refuses failed from front (more ++ behind) old to (drop (n - length front) (more ++ behind)) rest new
  GoesOn-whole from to front more behind n old new rest walk long there keeps =
      let on = Walks-more begins steps from.limits.max_item from to (front ++ more) (drop n (front ++ more)) behind old new walk in
      let whole : Walks begins steps from.limits.max_item from (front ++ (more ++ behind)) old to (drop n (front ++ more) ++ behind) new =
      subst (λ (b : List ℕ). Walks begins steps from.limits.max_item from b old to (drop n (front ++ more) ++ behind) new)
      (append_assoc front more behind) on in
      inl (
        subst (λ (b : List ℕ). Walks begins steps from.limits.max_item from (front ++ (more ++ behind)) old to b new)
            (behind_item front more behind n long there) whole,
        keeps,
      )

  -- it needs more still
  pub GoesOn-still : (from : Progress) (front more behind : List ℕ) (sink : S) (rest : Rest)
      → IsRest from.limits.max_item (place_of from) (front ++ more) rest
      → GoesOn begins steps refuses failed from front (more ++ behind) sink from behind rest sink
  GoesOn-still from front more behind sink rest keeps = inr (refl, refl, (front ++ more, sym (append_assoc front more behind), keeps))

  -- a walk that was halted did not want memory
  pub Halts-held : (from to : Progress) (front bytes : List ℕ) (old new : S) (fault : PartFault)
      → Halts begins steps refuses failed from (front ++ bytes) old fault to new
      → IsHalted begins steps refuses failed from front bytes old fault to new
  Halts-held from to front bytes old new (faults.Malformed at reason) halts = halts
  Halts-held from to front bytes old new (faults.ItemTooLong at) halts = halts
  Halts-held from to front bytes old new faults.OutOfMemory halts = absurd halts.stops
  Halts-held from to front bytes old new (faults.Sink fault) halts = halts
  Halts-held from to front bytes old new faults.Failed halts = halts
  Halts-held from to front bytes old new faults.Read halts = halts
  Halts-held from to front bytes old new faults.ReadsExceeded halts = halts
  Halts-held from to front bytes old new faults.BytesExceeded halts = halts

  -- it was refused
  pub FinishesHeld-refused : (from to : Progress) (front more behind : List ℕ) (old new : S) (fault : PartFault)
      → StepsOver begins steps refuses failed from (front ++ more) old (Err fault) to new
      → IsHalted begins steps refuses failed from front (more ++ behind) old fault to new
  FinishesHeld-refused from to front more behind old new fault step =
      Halts-held from to front (more ++ behind) old new fault
      (subst (λ (b : List ℕ). Halts begins steps refuses failed from b old fault to new) (append_assoc front more behind)
      (Halts-step begins steps refuses failed from to (front ++ more) behind old new fault step))

  -- ---- one time after the other

  -- while bytes are held, it needs more still
  pub GoesOn-held : (from to : Progress) (front bytes left : List ℕ) (old new : S) (rest : Rest)
      → GoesOn begins steps refuses failed from front bytes old to left rest new → 0 < length rest.held.items
      → (to ≡ from) × (old ≡ new) × ((still : List ℕ) × (front ++ bytes ≡ still ++ left)
      × IsRest from.limits.max_item (place_of from) still rest)
  GoesOn-held from to front bytes left old new rest (inl done) some =
      absurd (omega (arith, some, ap length done.1.held, ap length (held_none from.limits.max_item (place_of to))))
  GoesOn-held from to front bytes left old new rest (inr on) some = on

  -- the same bytes, cut elsewhere
  pub GoesOn-same : (from to : Progress) (front bytes still more left : List ℕ) (old new : S) (rest : Rest)
      → front ++ bytes ≡ still ++ more → GoesOn begins steps refuses failed from still more old to left rest new
      → GoesOn begins steps refuses failed from front bytes old to left rest new
  GoesOn-same from to front bytes still more left old new rest same (inl done) =
      inl (subst (λ (b : List ℕ). Walks begins steps from.limits.max_item from b old to left new) (sym same) done.0, done.1)
  GoesOn-same from to front bytes still more left old new rest same (inr on) = inr (on.0, on.1, (on.2.0, same ∙ on.2.1, on.2.2))

  pub IsHalted-same : (from to : Progress) (front bytes still more : List ℕ) (old new : S) (fault : PartFault)
      → front ++ bytes ≡ still ++ more → 0 < length (held_of from.limits.max_item (place_of from) front) → 0 < length bytes
      → IsHalted begins steps refuses failed from still more old fault to new
      → IsHalted begins steps refuses failed from front bytes old fault to new
  IsHalted-same from to front bytes still more old new (faults.Malformed at reason) same holds some halts =
      Halts-same begins steps refuses failed from to (still ++ more) (front ++ bytes) old new (faults.Malformed at reason) (sym same) halts
  IsHalted-same from to front bytes still more old new (faults.ItemTooLong at) same holds some halts =
      Halts-same begins steps refuses failed from to (still ++ more) (front ++ bytes) old new (faults.ItemTooLong at) (sym same) halts
  IsHalted-same from to front bytes still more old new faults.OutOfMemory same holds some wants =
      record { stands = wants.stands; same = wants.same; holds = holds; some = some }
  IsHalted-same from to front bytes still more old new (faults.Sink fault) same holds some halts =
      Halts-same begins steps refuses failed from to (still ++ more) (front ++ bytes) old new (faults.Sink fault) (sym same) halts
  IsHalted-same from to front bytes still more old new faults.Failed same holds some halts =
      Halts-same begins steps refuses failed from to (still ++ more) (front ++ bytes) old new faults.Failed (sym same) halts
  IsHalted-same from to front bytes still more old new faults.Read same holds some halts =
      Halts-same begins steps refuses failed from to (still ++ more) (front ++ bytes) old new faults.Read (sym same) halts
  IsHalted-same from to front bytes still more old new faults.ReadsExceeded same holds some halts =
      Halts-same begins steps refuses failed from to (still ++ more) (front ++ bytes) old new faults.ReadsExceeded (sym same) halts
  IsHalted-same from to front bytes still more old new faults.BytesExceeded same holds some halts =
      Halts-same begins steps refuses failed from to (still ++ more) (front ++ bytes) old new faults.BytesExceeded (sym same) halts

  module _ (from mid to : Progress) (front bytes left : List ℕ) (old between new : S) (kept rest : Rest)
      (was : GoesOn begins steps refuses failed from front bytes old mid left kept between)
      (some : 0 < length kept.held.items) where
    -- it goes on
    pub GoesOn-then : (behind : List ℕ) → ((still : List ℕ) → IsRest mid.limits.max_item (place_of mid) still kept
        → GoesOn begins steps refuses failed mid still left between to behind rest new)
        → GoesOn begins steps refuses failed from front bytes old to behind rest new
    GoesOn-then behind next =
        let on = GoesOn-held from mid front bytes left old between kept was some in
        let here = subst (λ (p : Progress). (still : List ℕ) → IsRest p.limits.max_item (place_of p) still kept
        → GoesOn begins steps refuses failed p still left between to behind rest new) on.0 next in
        let now = subst (λ (s : S). GoesOn begins steps refuses failed from on.2.0 left s to behind rest new) (sym on.1)
        (here on.2.0 on.2.2) in
        GoesOn-same from to front bytes on.2.0 left behind old new rest on.2.1 now

    -- or is halted
    pub GoesOn-halted : (fault : PartFault) → ((still : List ℕ) → IsRest mid.limits.max_item (place_of mid) still kept
        → IsHalted begins steps refuses failed mid still left between fault to new)
        → 0 < length (held_of from.limits.max_item (place_of from) front) → 0 < length bytes
        → IsHalted begins steps refuses failed from front bytes old fault to new
    GoesOn-halted fault next holds any =
        let on = GoesOn-held from mid front bytes left old between kept was some in
        let here = subst (λ (p : Progress). (still : List ℕ) → IsRest p.limits.max_item (place_of p) still kept
        → IsHalted begins steps refuses failed p still left between fault to new) on.0 next in
        let now = subst (λ (s : S). IsHalted begins steps refuses failed from on.2.0 left s fault to new) (sym on.1) (here on.2.0 on.2.2) in
        IsHalted-same from to front bytes on.2.0 left old new fault on.2.1 holds any now

  -- ---- what is passed over, and the walk behind it

  -- behind what was held, and what is passed over: an item is begun there, or bytes are left, or neither
  pub record Behind (from : Progress) (bytes : List ℕ) (old : S) (to : Progress) (left : List ℕ) (rest : Rest) (new : S) : Type 0 where
    pub still : List ℕ
    pub walked : Walks begins steps from.limits.max_item from bytes old to (still ++ left) new
    pub keeps : IsRest from.limits.max_item (place_of to) still rest

  pub Behind-held : (from to : Progress) (front bytes left : List ℕ) (old new : S) (rest : Rest)
      → GoesOn begins steps refuses failed from front bytes old to left rest new
      → Behind from (front ++ bytes) old to left rest new
  Behind-held from to front bytes left old new rest (inl done) = record { still = []; walked = done.0; keeps = done.1 }
  Behind-held from to front bytes left old new rest (inr on) =
      let same : from ≡ to = sym on.0 in
      let none = Walks-none begins steps from.limits.max_item from (front ++ bytes) old in
      record {
        still = on.2.0;
        walked = subst (λ (p : Progress). Walks begins steps from.limits.max_item from (front ++ bytes) old p (on.2.0 ++ left) new) same
            (subst (λ (s : S). Walks begins steps from.limits.max_item from (front ++ bytes) old from (on.2.0 ++ left) s) on.1
            (subst (λ (b : List ℕ). Walks begins steps from.limits.max_item from (front ++ bytes) old from b old) on.2.1 none));
        keeps = subst (λ (p : Progress). IsRest from.limits.max_item (place_of p) on.2.0 rest) same on.2.2;
      }

  -- nothing is left, or nothing is kept
  abbrev pub IsLeft : Rest → List ℕ → Type 0
  IsLeft rest left = (left ≡ []) ⊎ ((length rest.held.items ≡ 0) × (rest.passing ≡ None))

  -- what pass_over is given and gives
  abbrev pub Passes : Progress → List ℕ → Rest → Progress → List ℕ → Rest → Type 0
  Passes mid bytes kept to left rest =
      ((front : List ℕ) (p : Passing) → kept.passing ≡ Some p → IsRest mid.limits.max_item (place_of mid) front kept
      → PassesOver mid front bytes to left rest)
      × (kept.passing ≡ None → (to ≡ mid) × (rest ≡ kept) × (left ≡ bytes))

  abbrev skipped_to : Place → ℕ → Result (Found × ℕ) ParseStop
  skipped_to place n = Ok (record { next = place; facts = [] }, n)

  skipped_room : (header : Option Header) (room : ℕ) → Stands (place_behind header room) items.Skipped → room ≤ longest_body
  skipped_room None room stands = absurd stands
  skipped_room (Some header) zero stands = omega arith
  skipped_room (Some header) (suc room) stands = absurd stands

  skipped_after : (place : Place) (n : ℕ) → Stands place items.Skipped → place_after place items.Skipped n ≡ place
  skipped_after Start n stands = absurd stands
  skipped_after (Between header) n stands = refl
  skipped_after (Within header room) n stands = absurd stands

  IsLeft-none : (left behind : List ℕ) (kept rest : Rest) → kept.passing ≡ None → rest ≡ kept → behind ≡ left
      → (length kept.held.items ≡ 0) ⊎ (left ≡ []) → IsLeft rest behind
  IsLeft-none left behind kept rest e same all (inl empty) =
      inr (ap (λ (r : Rest). length r.held.items) same ∙ empty, ap (λ (r : Rest). r.passing) same ∙ e)
  IsLeft-none left behind kept rest e same all (inr none) = inl (all ∙ none)

  behind_over : (from mid to : Progress) (bytes left behind : List ℕ) (old new : S) (kept rest : Rest)
      → (is : Behind from bytes old mid left kept new) → IsBytes left
      → PassesOver mid is.still left to behind rest → Behind from bytes old to behind rest new × IsLeft rest behind
  behind_over from mid to bytes left behind old new kept rest is are (inl over) =
      let same = same_item begins steps from.limits.max_item from mid bytes (is.still ++ left) old new is.walked in
      let all = IsBytes-append is.still left is.keeps.are_bytes are in
      let found = over.1 ∙ ap (λ (p : Place). skipped_to p over.0) (sym (skipped_after (place_of mid) over.0 over.4.0)) in
      let small = skipped_room mid.header mid.room over.4.0 in
      let item = Walks-item begins steps mid.limits.max_item mid (is.still ++ left) new new items.Skipped over.0 all small found over.4
      refl in
      let next : Progress = advanced mid items.Skipped over.0 in
      let on = Walks-at begins steps mid.limits.max_item from.limits.max_item mid next (is.still ++ left)
      (drop over.0 (is.still ++ left)) new new same item.0 in
      let walk = Walks-then begins steps from.limits.max_item from mid next bytes (is.still ++ left) (drop over.0 (is.still ++ left))
      old new new is.walked on in
      let keeps = subst (λ (l : ℕ). IsRest l (place_of mid) [] rest) same over.5 in (
        subst (λ (p : Progress). Behind from bytes old p behind rest new) (sym over.2)
            (subst (λ (b : List ℕ). Behind from bytes old next b rest new) (sym over.3) (record {
              still = [];
              walked = walk;
              keeps =
                  keeps;
            })),
        inr (
          ap length keeps.held ∙ ap length (held_none from.limits.max_item (place_of mid)),
          keeps.passing
              ∙ passing_none from.limits.max_item (place_of mid),
        ),
      )
  behind_over from mid to bytes left behind old new kept rest is are (inr on) =
      let same = same_item begins steps from.limits.max_item from mid bytes (is.still ++ left) old new is.walked in
      let walk = subst (λ (b : List ℕ). Walks begins steps from.limits.max_item from bytes old mid b new)
      (sym (append-nil (is.still ++ left))) is.walked in
      let keeps = subst (λ (l : ℕ). IsRest l (place_of mid) (is.still ++ left) rest) same on.2 in (
        subst (λ (p : Progress). Behind from bytes old p behind rest new) (sym on.0)
            (subst (λ (b : List ℕ). Behind from bytes old mid b rest new) (sym on.1) (record {
              still = is.still ++ left;
              walked =
                  walk;
              keeps = keeps;
            })),
        inl on.1,
      )

  behind_by : (passing : Option Passing) (from mid to : Progress) (bytes left behind : List ℕ) (old new : S) (kept rest : Rest)
      → kept.passing ≡ passing → Behind from bytes old mid left kept new → IsBytes left
      → (length kept.held.items ≡ 0) ⊎ (left ≡ []) → Passes mid left kept to behind rest → Behind from bytes old to behind rest new
      × IsLeft rest behind
  behind_by (Some p) from mid to bytes left behind old new kept rest e is are done passes =
      let same = same_item begins steps from.limits.max_item from mid bytes (is.still ++ left) old new is.walked in
      let keeps = subst (λ (l : ℕ). IsRest l (place_of mid) is.still kept) (sym same) is.keeps in
      behind_over from mid to bytes left behind old new kept rest is are (passes.0 is.still p e keeps)
  behind_by None from mid to bytes left behind old new kept rest e is are done passes =
      let stays = passes.1 e in (
        subst (λ (p : Progress). Behind from bytes old p behind rest new) (sym stays.0)
            (subst (λ (r : Rest). Behind from bytes old mid behind r new) (sym stays.1)
            (subst (λ (b : List ℕ). Behind from bytes old mid b kept new) (sym stays.2) is)),
        IsLeft-none left behind kept rest e stays.1 stays.2 done,
      )

  -- behind what is passed over
  pub Behind-over : (from mid to : Progress) (bytes left behind : List ℕ) (old new : S) (kept rest : Rest)
      → Behind from bytes old mid left kept new → IsBytes left
      → (length kept.held.items ≡ 0) ⊎ (left ≡ []) → Passes mid left kept to behind rest → Behind from bytes old to behind rest new
      × IsLeft rest behind
  Behind-over from mid to bytes left behind old new kept rest is are done passes =
      behind_by kept.passing from mid to bytes left behind old new kept rest refl is are done passes

  -- an item is begun, and nothing is left
  pub ReadsOn-kept : (from to : Progress) (front bytes left : List ℕ) (old new : S) (rest : Rest)
      → Behind from (front ++ bytes) old to left rest new → left ≡ []
      → ReadsOn begins steps refuses failed from front bytes old (Ok left) to rest new
  ReadsOn-kept from to front bytes left old new rest is none =
      let all : is.still ++ left ≡ is.still = ap (λ (b : List ℕ). is.still ++ b) none ∙ append-nil is.still in
      (is.still, is.walked, is.keeps, ap (item_at from.limits.max_item (place_of to)) all ∙ is.keeps.short, inr none)

  module _ (from mid to : Progress) (front bytes left : List ℕ) (old between new : S) (kept rest : Rest)
      (is : Behind from (front ++ bytes) old mid left kept between)
      (empty : length kept.held.items ≡ 0) (none : kept.passing ≡ None) where
    same_mid : mid.limits.max_item ≡ from.limits.max_item
    same_mid = same_item begins steps from.limits.max_item from mid (front ++ bytes) (is.still ++ left) old between is.walked

    first : Walks begins steps from.limits.max_item from (front ++ bytes) old mid left between
    first = subst (λ (b : List ℕ). Walks begins steps from.limits.max_item from (front ++ bytes) old mid (b ++ left) between)
        (IsRest-empty from.limits.max_item (place_of mid) is.still kept is.keeps empty none) is.walked

    -- nothing was kept, and what was left was walked over
    pub ReadsOn-walked : (last : List ℕ) → WalksAll begins steps refuses failed mid left between (Ok last) to new → rest.held.items ≡ []
        → rest.passing ≡ None → rest.walk ≡ Front
        → ReadsOn begins steps refuses failed from front bytes old (Ok last) to rest new
    ReadsOn-walked last walk held passing front_walk =
        let same = same_item begins steps mid.limits.max_item mid to left last between new walk.0 ∙ same_mid in
        let on = Walks-at begins steps mid.limits.max_item from.limits.max_item mid to left last between new same_mid walk.0 in
        let whole = Walks-then begins steps from.limits.max_item from mid to (front ++ bytes) left last old between new first on in
        let keeps = IsRest-none from.limits.max_item (place_of to) rest held passing
        (subst (λ (w : Walk). IsWalkOf from.limits.max_item (place_of to) [] w) (sym front_walk)
        (IsWalkOf-front from.limits.max_item (place_of to) [])) in
        ([], whole, keeps, subst (λ (l : ℕ). item_at l (place_of to) last ≡ Err Short) same walk.1, inl refl)

    -- or refused
    pub ReadsOn-refused : (fault : PartFault) → Halts begins steps refuses failed mid left between fault to new
        → IsHalted begins steps refuses failed from front bytes old fault to new
    ReadsOn-refused fault halts = Halts-held from to front bytes old new fault (Halts-then begins steps refuses failed from mid to
        (front ++ bytes) left old between new fault first halts)

    -- in either case
    pub ReadsOn-walk : (result : Result (Bor (List ℕ)) PartFault) → WalksAll begins steps refuses failed mid left between (seen result)
        to new → rest.held.items ≡ [] → rest.passing ≡ None → rest.walk ≡ Front
        → ReadsOn begins steps refuses failed from front bytes old (seen result) to rest new
    ReadsOn-walk (Ok last) walk held passing front_walk = ReadsOn-walked last.now walk held passing front_walk
    ReadsOn-walk (Err fault) halts held passing front_walk = ReadsOn-refused fault halts

  -- where something is kept nothing is left
  pub none_left : (rest : Rest) (left : List ℕ) → IsLeft rest left → (is_some rest.passing ≡ true) ⊎ (0 < length rest.held.items)
      → left ≡ []
  none_left rest left (inl none) keeps = none
  none_left rest left (inr nothing) (inl passes) = let no_passing = nothing.1 in absurd (some_not_none (sym passes ∙ ap is_some no_passing))
  none_left rest left (inr nothing) (inr holds) = absurd (omega (arith, holds, nothing.0))

  -- there is room for what a walk left
  pub counted_behind : (mid to : Progress) (left : List ℕ) (between new : S) (rest : Rest) (result : Result (Bor (List ℕ)) PartFault)
      → WalksAll begins steps refuses failed mid left between (seen result) to new
      → IsCounted mid (length left) → rest.held.items ≡ [] → rest.passing ≡ None
      → IfOk result (λ last. IsCounted to (rest_len rest + length last.now))
  counted_behind mid to left between new rest (Ok last) walk counted held passing =
      let room = Walks-counted begins steps mid.limits.max_item mid to left last.now between new walk.0 counted in
      subst (IsCounted to) (omega (arith, ap length held, ap passed_len passing)) room
  counted_behind mid to left between new rest (Err fault) walk counted held passing = tt
