-- What a sink of parts holds that shows their objects, as a header and facts come.
use Rattle.std.proofs.Common.{◌≡◌, ◌<◌, ◌≤◌, ℕ, List, [], ◌∷◌, ◌++◌, Option, Some, None, inl, inr, refl, sym, ap, subst, ◌∙◌}
use Rattle.std.proofs.Common.{◌⊎◌, append-nil, append_assoc, arith}
use Rattle.std.proofs.lemmas.Grind.{flat_map-append}
use Rattle.std.proofs.lemmas.List.Elements.{filter-append}
use Rattle.hprof_values.specs.declared.ids.IdSize.{IdSize}
use Rattle.hprof_items.specs.declared.header.Header.{Header}
use Rattle.hprof_items.specs.FactValue.{FactValue, Instance, ObjArray, PrimArray}
use Rattle.hprof_items.specs.SubRecord.{dump_bytes}
use Rattle.hprof_devices.specs.declared.health.Health.{Health}
use Rattle.hprof_devices.specs.declared.target.Target.{Ghosts}
use Rattle.hprof_stream.specs.declared.limits.Limits.{Limits}
use Rattle.hprof_rows.specs.Tables.{stands_in}
use Rattle.hprof_facts.specs.ObjectKeys.{object_key}
use Rattle.hprof_merge.specs.Rows.{ByteRow, Has, IsAscending}
use Rattle.hprof_merge.specs.Showing.{only}
use Rattle.hprof_merge.proofs.Lists.{Has-append, append-ascending, append-last}
use Rattle.hprof_objects.specs.ObjectRows.{object_row, object_rows}
use Rattle.hprof_passes.specs.Passing.{TakesObjects, objects_among}
use Rattle.hprof_passes.proofs.GoingOver.{takes_more}
use Rattle.hprof_stored.specs.declared.watched_sink.WatchedSink.{WatchedSink}
use Rattle.hprof_stored.specs.HoldingLaws.{holds_begun, holds_taken}
use Rattle.hprof_stored.specs.Parts.{PartStored}
use Rattle.hprof_stored.specs.Storing.{storing}
use Rattle.hprof_stored.specs.WatchedSink.{BeginsWatched, DroppedSoFar, EarlierWatched, HoldsWatchedSink, IsHighest}
use Rattle.hprof_stored.specs.WatchedSink.{StepsWatched, WatchesOn, WatchesSoFar, earlier_of}
use Rattle.hprof_stored.specs.Watching.{Dropped, EndsWatch, IsAbove, ShowsFact, Watched}

-- ---- a fact more

-- behind the objects of facts comes no other, and their rows stay
record AddsNone (ids : IdSize) (facts : List FactValue) (fact : FactValue) : Type 0 where
  objects : objects_among (facts ++ fact ∷ []) ≡ objects_among facts
  rows : object_rows ids (facts ++ fact ∷ []) ≡ object_rows ids facts

-- the object comes behind them, and its row behind theirs
record AddsOne (ids : IdSize) (facts : List FactValue) (fact : FactValue) (id : ℕ) : Type 0 where
  objects : objects_among (facts ++ fact ∷ []) ≡ objects_among facts ++ fact ∷ []
  rows : object_rows ids (facts ++ fact ∷ []) ≡ object_rows ids facts ++ (id, dump_bytes ids fact) ∷ []

-- a fact alone
alone_none : (ids : IdSize) (fact : FactValue) → object_key fact ≡ None
    → (objects_among (fact ∷ []) ≡ []) × (object_rows ids (fact ∷ []) ≡ [])
alone_none ids (Instance id trace class bytes) none = absurd cc
alone_none ids (ObjArray id trace class elements) none = absurd cc
alone_none ids (PrimArray id trace elem bytes) none = absurd cc
alone_none ids fact none = (refl, refl)

row_at : (at id : ℕ) (bytes : List ℕ) → at ≡ id → ◌≡◌ {A = List ByteRow} ((at, bytes) ∷ []) ((id, bytes) ∷ [])
row_at at id bytes same = ap (λ (n : ℕ). let row : ByteRow = (n, bytes) in row ∷ []) same

alone_one : (ids : IdSize) (fact : FactValue) (id : ℕ) → object_key fact ≡ Some id
    → (objects_among (fact ∷ []) ≡ fact ∷ []) × (object_rows ids (fact ∷ []) ≡ (id, dump_bytes ids fact) ∷ [])
alone_one ids (Instance at trace class bytes) id key = (refl, row_at at id (dump_bytes ids (Instance at trace class bytes)) cc)
alone_one ids (ObjArray at trace class elements) id key = (refl, row_at at id (dump_bytes ids (ObjArray at trace class elements)) cc)
alone_one ids (PrimArray at trace elem bytes) id key = (refl, row_at at id (dump_bytes ids (PrimArray at trace elem bytes)) cc)
alone_one ids fact id key = absurd cc

-- a fact behind others
adds_none : (ids : IdSize) (facts : List FactValue) (fact : FactValue) → object_key fact ≡ None → AddsNone ids facts fact
adds_none ids facts fact none =
    let alone = alone_none ids fact none in
    record {
      objects = filter-append (stands_in 9) facts (fact ∷ []) ∙ ap (λ (l : List FactValue). objects_among facts ++ l) alone.0
          ∙ append-nil (objects_among facts);
      rows = flat_map-append (λ (f : FactValue). only (object_row ids f)) facts (fact ∷ [])
          ∙ ap (λ (l : List ByteRow). object_rows ids facts ++ l) alone.1 ∙ append-nil (object_rows ids facts);
    }

adds_one : (ids : IdSize) (facts : List FactValue) (fact : FactValue) (id : ℕ) → object_key fact ≡ Some id → AddsOne ids facts fact id
adds_one ids facts fact id key =
    let alone = alone_one ids fact id key in
    record {
      objects = filter-append (stands_in 9) facts (fact ∷ []) ∙ ap (λ (l : List FactValue). objects_among facts ++ l) alone.0;
      rows = flat_map-append (λ (f : FactValue). only (object_row ids f)) facts (fact ∷ [])
          ∙ ap (λ (l : List ByteRow). object_rows ids facts ++ l) alone.1;
    }

-- rows are below a key that is above the last one
below : (rows : List ByteRow) (last : Option ℕ) (id : ℕ) → IsHighest rows last → IsAbove id last → (row : ByteRow) → Has rows row
    → row.0 < id
below rows None id none above row has = absurd (subst (λ (l : List ByteRow). Has l row) none has)
below rows (Some last) id highest above row has = let le = highest.1 row has in omega (arith, le, above)

-- the row of that key is the highest behind them
at_most_one : (rows : List ByteRow) (one : ByteRow) → ((row : ByteRow) → Has rows row → row.0 < one.0) → (row : ByteRow)
    → Has (rows ++ one ∷ []) row → row.0 ≤ one.0
at_most_one rows one lower row has = elim (Has-append rows one row has) [
  | inl there ↦ let lt = lower row there in omega (arith, lt)
  | inr same ↦ let e : row.0 ≡ one.0 = ap (λ (r : ByteRow). r.0) same in omega (arith, e)
]

highest_now : (rows : List ByteRow) (one : ByteRow) → ((row : ByteRow) → Has rows row → row.0 < one.0)
    → IsHighest (rows ++ one ∷ []) (Some one.0)
highest_now rows one lower = ((one.1, append-last rows one), at_most_one rows one lower)

-- rows do not ascend behind which comes one that is not above the last
has_front : (rows more : List ByteRow) (row : ByteRow) → Has rows row → Has (rows ++ more) row
has_front [] more row has = absurd has
has_front (first ∷ rows) more row (inl same) = inl same
has_front (first ∷ rows) more row (inr has) = inr (has_front rows more row has)

front_ascends : (rows more : List ByteRow) → IsAscending (rows ++ more) → IsAscending rows
front_ascends [] more up = tt
front_ascends (first ∷ rows) more up = ((λ row has. up.0 row (has_front rows more row has)), front_ascends rows more up.1)

below_last : (rows : List ByteRow) (one row : ByteRow) → IsAscending (rows ++ one ∷ []) → Has rows row → row.0 < one.0
below_last [] one row up has = absurd has
below_last (first ∷ rows) one row up (inl same) =
    let lt = up.0 one (append-last rows one) in let e : row.0 ≡ first.0 = ap (λ (r : ByteRow). r.0) same in omega (arith, lt, e)
below_last (first ∷ rows) one row up (inr has) = below_last rows one row up.1 has

not_ascending : (rows : List ByteRow) (last : Option ℕ) (one : ByteRow) → IsHighest rows last → (IsAbove one.0 last → ⊥)
    → IsAscending (rows ++ one ∷ []) → ⊥
not_ascending rows None one none not up = not tt
not_ascending rows (Some last) one highest not up = not (below_last rows one (last, highest.0.0) up highest.0.1)

-- ---- the sink that watches

module _ {T : Type 0} (takes : T → IdSize → FactValue → T → Type 0) (parts : List PartStored) (header : Header) where
  watches_begun : (start now : Option T) → Watched takes start parts now → WatchesSoFar takes start parts (Some header) [] now None
  watches_begun None None watched = tt
  watches_begun (Some start) None watched = tt
  watches_begun None (Some now) watched = absurd watched
  watches_begun (Some start) (Some now) watched =
      record { mid = now; before = watched; so_far = record { took = refl; ascend = tt }; highest = refl }

  module _ (facts : List FactValue) (fact : FactValue) where
    none_shown : object_key fact ≡ None → (start now : Option T) (last : Option ℕ)
        → WatchesSoFar takes start parts (Some header) facts now last
        → WatchesSoFar takes start parts (Some header) (facts ++ fact ∷ []) now last
    none_shown none None None last watches = tt
    none_shown none (Some start) None last watches = tt
    none_shown none None (Some now) last watches = absurd watches
    none_shown none (Some start) (Some now) last watches =
        let adds = adds_none header.ids facts fact none in
        record {
          mid = watches.mid;
          before = watches.before;
          so_far = record {
            took = subst (λ (l : List FactValue). TakesObjects takes header.ids watches.mid l now) (sym adds.objects)
                watches.so_far.took;
            ascend = subst IsAscending (sym adds.rows) watches.so_far.ascend;
          };
          highest = subst (λ (l : List ByteRow). IsHighest l last) (sym adds.rows) watches.highest;
        }

    one_shown : (id : ℕ) → object_key fact ≡ Some id → (start was now : T) (last highest : Option ℕ) → takes was header.ids fact now
        → IsAbove id last → highest ≡ Some id → WatchesSoFar takes (Some start) parts (Some header) facts (Some was) last
        → WatchesSoFar takes (Some start) parts (Some header) (facts ++ fact ∷ []) (Some now) highest
    one_shown id key start was now last highest took above is watches =
        let adds = adds_one header.ids facts fact id key in
        let rows = object_rows header.ids facts in
        let one : ByteRow = (id, dump_bytes header.ids fact) in
        let lower = below rows last id watches.highest above in
        record {
          mid = watches.mid;
          before = watches.before;
          so_far = record {
            took = subst (λ (l : List FactValue). TakesObjects takes header.ids watches.mid l now) (sym adds.objects)
                (takes_more takes header.ids watches.mid was now (objects_among facts) fact watches.so_far.took took);
            ascend = subst IsAscending (sym adds.rows) (append-ascending rows one watches.so_far.ascend lower);
          };
          highest = subst (λ (h : Option ℕ). IsHighest (object_rows header.ids (facts ++ fact ∷ [])) h) (sym is)
              (subst (λ (l : List ByteRow). IsHighest l (Some id)) (sym adds.rows) (highest_now rows one lower));
        }

    watches_shown : {E : Type 0} (refuses : T → IdSize → FactValue → E → T → Type 0) (key : Option ℕ) → object_key fact ≡ key
        → (start old : Option T) (last : Option ℕ) (new : Option T) (highest : Option ℕ)
        → ShowsFact takes refuses header.ids fact key old last new highest
        → WatchesSoFar takes start parts (Some header) facts old last
        → WatchesSoFar takes start parts (Some header) (facts ++ fact ∷ []) new highest
    watches_shown refuses None is start old last new highest shown watches =
        subst (λ (t : Option T). WatchesSoFar takes start parts (Some header) (facts ++ fact ∷ []) t highest) (sym shown.0)
        (subst (λ (h : Option ℕ). WatchesSoFar takes start parts (Some header) (facts ++ fact ∷ []) old h) (sym shown.1)
        (none_shown is start old last watches))
    watches_shown refuses (Some id) is None old last None highest shown watches = tt
    watches_shown refuses (Some id) is (Some start) old last None highest shown watches = tt
    watches_shown refuses (Some id) is start None last (Some new) highest shown watches = absurd shown
    watches_shown refuses (Some id) is None (Some was) last (Some new) highest shown watches = absurd watches
    watches_shown refuses (Some id) is (Some start) (Some was) last (Some new) highest shown watches =
        one_shown id is start was new last highest shown.0 shown.1 shown.2 watches

-- ---- why it is dropped

module _ {T E : Type 0} (takes : T → IdSize → FactValue → T → Type 0) (refuses : T → IdSize → FactValue → E → T → Type 0)
    (parts : List PartStored) (header : Header) where
  dropped_begun : (start now : Option T) → Dropped takes refuses start parts now
      → DroppedSoFar takes refuses start parts (Some header) [] now
  dropped_begun None now dropped = tt
  dropped_begun (Some start) None dropped = inl dropped
  dropped_begun (Some start) (Some now) dropped = tt

  module _ (facts : List FactValue) (fact : FactValue) where
    -- a part that ends it does so with a fact more
    ends_more : (start : T) → EndsWatch takes refuses start parts (record { header = header; facts = facts })
        → EndsWatch takes refuses start parts (record { header = header; facts = facts ++ fact ∷ [] })
    ends_more start (inl not) = inl (λ up. not (front_ascends (object_rows header.ids facts) (object_rows header.ids (fact ∷ []))
        (subst IsAscending (flat_map-append (λ (f : FactValue). only (object_row header.ids f)) facts (fact ∷ [])) up)))
    ends_more start (inr refused) =
        let it = refused.refused in
        inr (record {
          mid = refused.mid;
          watches = refused.watches;
          fault = refused.fault;
          now = refused.now;
          refused = record {
            front = it.front;
            object = it.object;
            behind = it.behind ++ objects_among (fact ∷ []);
            are = filter-append (stands_in 9) facts (fact ∷ []) ∙ ap (λ (l : List FactValue). l ++ objects_among (fact ∷ [])) it.are
                ∙ append_assoc it.front (it.object ∷ it.behind) (objects_among (fact ∷ []));
            mid = it.mid;
            took = it.took;
            refused = it.refused;
          };
        })

    dropped_more : (start now : Option T) → DroppedSoFar takes refuses start parts (Some header) facts now
        → DroppedSoFar takes refuses start parts (Some header) (facts ++ fact ∷ []) now
    dropped_more None now dropped = tt
    dropped_more (Some start) None (inl stops) = inl stops
    dropped_more (Some start) None (inr ends) = inr (ends_more start ends)
    dropped_more (Some start) (Some now) dropped = tt

    -- the part ends it with this object
    ends_here : (id : ℕ) → object_key fact ≡ Some id → (start was : T) (last : Option ℕ)
        → (IsAbove id last → ⊥) ⊎ ((fault : E) × (now : T) × refuses was header.ids fact fault now)
        → WatchesOn takes start parts (record { header = header; facts = facts }) was last
        → EndsWatch takes refuses start parts (record { header = header; facts = facts ++ fact ∷ [] })
    ends_here id key start was last (inl not) watches =
        inl (λ up. not_ascending (object_rows header.ids facts) last (id, dump_bytes header.ids fact) watches.highest not
        (subst IsAscending (adds_one header.ids facts fact id key).rows up))
    ends_here id key start was last (inr refused) watches =
        inr (record {
          mid = watches.mid;
          watches = watches.before;
          fault = refused.0;
          now = refused.1;
          refused = record {
            front = objects_among facts;
            object = fact;
            behind = [];
            are = (adds_one header.ids facts fact id key).objects;
            mid = was;
            took = watches.so_far.took;
            refused = refused.2;
          };
        })

    dropped_shown : (key : Option ℕ) → object_key fact ≡ key → (start old : Option T) (last : Option ℕ) (new : Option T)
        (highest : Option ℕ) → ShowsFact takes refuses header.ids fact key old last new highest
        → WatchesSoFar takes start parts (Some header) facts old last
        → DroppedSoFar takes refuses start parts (Some header) facts old
        → DroppedSoFar takes refuses start parts (Some header) (facts ++ fact ∷ []) new
    dropped_shown None is start old last new highest shown watches dropped =
        subst (λ (t : Option T). DroppedSoFar takes refuses start parts (Some header) (facts ++ fact ∷ []) t) (sym shown.0)
        (dropped_more start old dropped)
    dropped_shown (Some id) is None old last new highest shown watches dropped = tt
    dropped_shown (Some id) is (Some start) old last (Some new) highest shown watches dropped = tt
    dropped_shown (Some id) is (Some start) None last None highest shown watches dropped = dropped_more (Some start) None dropped
    dropped_shown (Some id) is (Some start) (Some was) last None highest shown watches dropped =
        inr (ends_here id is start was last shown watches)

-- ---- the sink of parts

module _ {S T E : Type 0} {g : Ghosts S} (written : S → Option (List ℕ)) (health : S → Health)
    (takes : T → IdSize → FactValue → T → Type 0) (refuses : T → IdSize → FactValue → E → T → Type 0) (limits : Limits)
    (earlier : EarlierWatched T) where
  pub watched_begun : (header : Header) (bytes : List ℕ) (old new : WatchedSink S T g)
      → BeginsWatched {g = g} written health takes refuses old header new
      → HoldsWatchedSink {g = g} written health takes refuses limits earlier None bytes [] old
      → HoldsWatchedSink {g = g} written health takes refuses limits earlier (Some header) bytes [] new
  watched_begun header bytes old new begins held = record {
    stored = holds_begun written health limits (earlier_of earlier) header bytes (storing old.sink) (storing new.sink) begins.stored
        held.stored;
    watches =
        subst (λ (t : Option T). WatchesSoFar takes earlier.start earlier.parts (Some header) [] t new.last) (sym begins.watch)
        (subst (λ (h : Option ℕ). WatchesSoFar takes earlier.start earlier.parts (Some header) [] old.watch h) (sym begins.last)
        (watches_begun takes earlier.parts header earlier.start old.watch held.watches));
    dropped =
        subst (λ (t : Option T). DroppedSoFar takes refuses earlier.start earlier.parts (Some header) [] t) (sym begins.watch)
        (dropped_begun takes refuses earlier.parts header earlier.start old.watch held.dropped);
  }

  pub watched_taken : (header : Header) (bytes : List ℕ) (facts : List FactValue) (fact : FactValue) (old new : WatchedSink S T g)
      → StepsWatched {g = g} written health takes refuses old fact new
      → HoldsWatchedSink {g = g} written health takes refuses limits earlier (Some header) bytes facts old
      → HoldsWatchedSink {g = g} written health takes refuses limits earlier (Some header) bytes (facts ++ fact ∷ []) new
  watched_taken header bytes facts fact old new steps held = record {
    stored = holds_taken written health limits (earlier_of earlier) header bytes facts fact (storing old.sink) (storing new.sink)
        steps.stored held.stored;
    watches = watches_shown takes earlier.parts header facts fact refuses (object_key fact) refl earlier.start old.watch old.last
        new.watch new.last (steps.shown header.ids held.stored.begun) held.watches;
    dropped = dropped_shown takes refuses earlier.parts header facts fact (object_key fact) refl earlier.start old.watch old.last
        new.watch new.last (steps.shown header.ids held.stored.begun) held.watches held.dropped;
  }
