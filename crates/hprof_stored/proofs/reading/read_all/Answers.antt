use Rattle.std.proofs.Common.{◌≡◌, ◌≢◌, ℕ, ◌+◌, ◌-◌, ◌<◌, ◌≤◌, [], ◌∷◌, ◌++◌, length, map, take, set, get_or, Option, Some, Err, ap}
use Rattle.std.proofs.Common.{subst, sym, refl, ◌∙◌}
use Rattle.std.proofs.Common.{arith, get_or-set_other}
use Rattle.hprof_devices.specs.declared.health.Health.TheVariants.{Well}
use Rattle.hprof_stream.specs.declared.part_fault.PartFault.{PartFault}
use Rattle.hprof_placed.specs.Reading.{ListsPart}
use Rattle.hprof_stored.specs.declared.stored_fault.StoredFault.{StoredFault}
use Rattle.std.proofs.lemmas.List.{length-set, length-append, length-map}
use Rattle.hprof_engine.proofs.Reading.{element_at, element_set, same_at, summarised_if_told, HoldsFirst-more, HoldsFirst-none}
use Rattle.hprof_engine.proofs.Reading.{AreReadOut-kept, AreReadOut-more}
use Rattle.hprof_stored.specs.Holding.{Earlier, HoldsAll, parts_before}
use Rattle.hprof_stored.specs.Parts.{PartStored, given_of, read_of}
use Rattle.hprof_stored.specs.Reading.{AreSoMany, StoresAll, StoresFirst}
use Rattle.hprof_stored.specs.Storing.{storing}
use Rattle.hprof_stored.specs.WatchedSink.{EarlierWatched}
use Rattle.hprof_stored.specs.Watching.{Dropped, Watched}
use Rattle.hprof_stored.proofs.Ended.{are_given, dropped_ended, dropped_first, is_stored, lefts_stored, one_part_more, part_ended}
use Rattle.hprof_stored.proofs.Ended.{watched_ended, watched_first}
use Rattle.hprof_stored.proofs.Read.{Comes, read_whole, so_many, stops_so, watched_fault, watched_full, watched_starts}
use Rattle.hprof_stored.proofs.reading.read_all.Goals as goal

-- room for all that are to come is room for the next one and for those behind it
room_behind : {S : Type 0} (has_room : S → ℕ → Type 0) (count index : ℕ) (summaries : S) → index < count
    → has_room summaries (count - index) → has_room summaries (count - (index + 1) + 1)
room_behind has_room count index summaries within room =
    let same : count - index ≡ count - (index + 1) + 1 = omega (arith, within) in
    subst (λ (n : ℕ). has_room summaries n) same room

pub loop-index-init : goal.loop-index-init
loop-index-init g c = record {
  unread = λ k d after below. refl;
  first = record {
    parts = [];
    all = refl;
    stored = tt;
    given = tt;
    holds = c.in-Ok.ensures.holds c.args.limits;
    watched = watched_first g.T.ObjectSink.takes c.args.watch c.in-Ok.sink.watch c.in-Ok.ensures.watch;
    dropped = dropped_first g.T.ObjectSink.takes g.T.ObjectSink.refuses c.args.watch c.in-Ok.sink.watch c.in-Ok.ensures.watch;
  };
  out = λ k below. absurd (omega (arith, below));
  kept = HoldsFirst-none g.R.Source.left (g.M.Summaries.holds c.args.summaries.now) c.args.readers.now c.args.kept.now c.requires.none;
  room = let all : length c.args.readers.now ≡ length c.args.readers.now - 0 = omega arith in
      subst (λ (n : ℕ). g.M.Summaries.has_room c.args.summaries.now c.args.kept.now n) all c.requires.room;
}

pub read_placed-requires : goal.read_placed-requires
read_placed-requires g c =
    let index = c.loop-index.index in
    let found = c.index-readers-index.result in
    let within : index < length c.args.readers.now = c.loop-index-test.true in
    let there : index ≤ index = omega arith in
    subst (λ (r : g.row.R.Denot). g.R.Source.health r ≡ Well) (sym (c.loop-index.invariant.unread index found there within))
    (c.requires.readers index found within)

pub end_part-requires : goal.end_part-requires
end_part-requires g c =
    let first = c.loop-index.invariant.first in
    let read = c.in-Ok-read_placed.ensures.read in
    let scratch = g.S.Target.written c.args.scratch in
    let before : EarlierWatched g.row.T.Denot = record { scratch = scratch; parts = first.parts; start = c.args.watch } in
    let front = read.2.2 before (watched_starts g.S.Target.written g.S.Target.health c.args.limits scratch first.parts g.T.ObjectSink.takes
    g.T.ObjectSink.refuses c.args.watch c.loop-index.sink first.holds first.watched first.dropped) in
    let whole = read_whole g.S.Target.written g.S.Target.health c.args.limits scratch first.parts g.T.ObjectSink.takes
    g.T.ObjectSink.refuses c.args.watch g.R.Source.left g.R.Source.health g.R.Source.pulls (get_or c.loop-index.readers c.loop-index.index
    c.index-readers-index.result) c.read_placed.new.source read.0 front.before c.in-Ok-read_placed.summary read.2.0 c.read_placed.new.sink
    read.2.1 front.held in
    let held = whole.2.stored in
    let number : c.read_placed.new.sink.sink.part ≡ length first.parts = held.number ∙ length-map first.parts read_of in
    omega (arith, number, first.all, c.loop-index-test.true)

pub keep-requires : goal.keep-requires
keep-requires g c =
    let index = c.loop-index.index in
    let within : index < length c.args.readers.now = c.loop-index-test.true in (
      length c.args.readers.now - (index + 1),
      room_behind (g.M.Summaries.has_room c.args.summaries.now) (length c.args.readers.now) index c.loop-index.kept within
          c.loop-index.invariant.room,
    )

pub returns-in-Err-clause-read : goal.returns-in-Err-clause-read
returns-in-Err-clause-read g c =
    let index = c.loop-index.index in
    let found = c.index-readers-index.result in
    let was = get_or c.loop-index.readers index found in
    let is = c.read_placed.new.source in
    let within : index < length c.args.readers.now = c.loop-index-test.true in
    let same_length : length c.loop-index.readers ≡ length c.args.readers.now = c.loop-index.auto.readers in
    let still : index < length c.loop-index.readers = omega (arith, within, same_length) in
    let first = c.loop-index.invariant.first in
    let read = c.in-Err.ensures.read in
    let scratch = g.S.Target.written c.args.scratch in
    let before : EarlierWatched g.row.T.Denot = record { scratch = scratch; parts = first.parts; start = c.args.watch } in
    let handed = read.2.0 in
    let comes = read.2.2 before (watched_starts g.S.Target.written g.S.Target.health c.args.limits scratch first.parts g.T.ObjectSink.takes
    g.T.ObjectSink.refuses c.args.watch c.loop-index.sink first.holds first.watched first.dropped) in
    let there = element_at c.args.readers.now c.loop-index.readers index found within (c.loop-index.invariant.unread index found
    (omega arith) within) c.index-readers-index.is ∙ ap Some c.index-readers-index.is in
    subst (λ (f : StoredFault). StoresAll g.R.Source.left g.R.Source.health g.R.Source.pulls {S = g.row.S.Denot} {g = g.S.Target}
    g.S.Target.written g.S.Target.health g.T.ObjectSink.takes g.T.ObjectSink.refuses c.args.limits (g.S.Target.written c.args.scratch)
    c.args.watch c.args.readers.now (Err f) (set c.loop-index.readers index is))
    (sym c.stop_at.ensures)
    (stops_so g.R.Source.left g.R.Source.health g.R.Source.pulls {S = g.row.S.Denot} g.S.Target g.S.Target.written g.S.Target.health
    g.T.ObjectSink.takes g.T.ObjectSink.refuses c.args.limits (g.S.Target.written c.args.scratch) c.args.watch c.args.readers.now
    (set c.loop-index.readers index is) index was there c.read_placed.new.sink.sink.full c.in-Err.fault
    (λ failed. watched_full g.S.Target.written g.S.Target.health c.args.limits scratch first.parts g.T.ObjectSink.takes
    g.T.ObjectSink.refuses c.args.watch g.R.Source.left g.R.Source.health g.R.Source.pulls was is read.0 handed c.read_placed.new.sink
    (subst (λ (f : PartFault). ListsPart g.R.Source.left g.R.Source.health g.R.Source.pulls c.args.limits was read.0 is (Err f) handed)
    failed read.2.1)
    (subst (λ (f : PartFault). Comes g.S.Target.written g.S.Target.health c.args.limits scratch first.parts g.T.ObjectSink.takes
    g.T.ObjectSink.refuses c.args.watch g.R.Source.left g.R.Source.health g.R.Source.pulls was is read.0 handed c.read_placed.new.sink f)
    failed comes))
    (λ other. record {
      given = given_of first.parts;
      of_readers = first.given;
      at = record {
        was = was;
        is = is;
        was_there = there;
        is_there = element_set c.loop-index.readers index is still;
        came = read.0;
        consumed = read.1;
        spared = c.in-Err.ensures.pulls;
        refused = watched_fault g.S.Target.written g.S.Target.health c.args.limits scratch first.parts g.T.ObjectSink.takes
            g.T.ObjectSink.refuses c.args.watch g.R.Source.left g.R.Source.health g.R.Source.pulls was is read.0 handed
            c.read_placed.new.sink c.in-Err.fault other read.2.1 comes;
        unread = λ k behind. same_at (set c.loop-index.readers index is) c.args.readers.now k
            (length-set c.loop-index.readers index is ∙ same_length)
            (λ d below. let other : k ≢ index = omega (arith, behind) in
            get_or-set_other c.loop-index.readers index k is d other
            ∙ c.loop-index.invariant.unread k d (omega (arith, behind)) below);
      };
    }))

pub returns-in-Err-clause-first : goal.returns-in-Err-clause-first
returns-in-Err-clause-first g c =
    let index = c.loop-index.index in
    record {
      count = index;
      so_many = subst (λ (f : StoredFault). AreSoMany (Some f) (length c.args.readers.now) index) (sym c.stop_at.ensures)
          (so_many c.read_placed.new.sink.sink.full index (length c.args.readers.now) c.in-Err.fault
          (omega (arith, c.loop-index-test.true)));
      read_out = AreReadOut-kept g.R.Source.left g.R.Source.health g.R.Source.pulls c.args.limits c.args.readers.now c.loop-index.readers
          index c.read_placed.new.source c.loop-index.invariant.out;
      summaries = c.loop-index.invariant.kept;
    }

pub loop-index-preserved : goal.loop-index-preserved
loop-index-preserved g c =
    let index = c.loop-index.index in
    let found = c.index-readers-index.result in
    let was = get_or c.loop-index.readers index found in
    let is = c.read_placed.new.source in
    let within : index < length c.args.readers.now = c.loop-index-test.true in
    let first = c.loop-index.invariant.first in
    let read = c.in-Ok-read_placed.ensures.read in
    let summary = c.in-Ok-read_placed.summary in
    let reads = read.2.1 in
    let scratch = g.S.Target.written c.args.scratch in
    let before : EarlierWatched g.row.T.Denot = record { scratch = scratch; parts = first.parts; start = c.args.watch } in
    let front = read.2.2 before (watched_starts g.S.Target.written g.S.Target.health c.args.limits scratch first.parts g.T.ObjectSink.takes
    g.T.ObjectSink.refuses c.args.watch c.loop-index.sink first.holds first.watched first.dropped) in
    let whole = read_whole g.S.Target.written g.S.Target.health c.args.limits scratch first.parts g.T.ObjectSink.takes
    g.T.ObjectSink.refuses c.args.watch g.R.Source.left g.R.Source.health g.R.Source.pulls was is read.0 front.before summary read.2.0
    c.read_placed.new.sink reads front.held in
    let part : PartStored = record { given = record { header = summary.header; facts = whole.0 }; bytes = read.0 } in
    let there = element_at c.args.readers.now c.loop-index.readers index found within (c.loop-index.invariant.unread index found
    (omega arith) within) c.index-readers-index.is ∙ ap Some c.index-readers-index.is in
    let stored = lefts_stored g.R.Source.left c.args.limits c.args.readers.now index was first.parts part there first.stored
    (is_stored c.args.limits (g.R.Source.left was) (g.R.Source.left is) part read.1 reads.1 (reads.4, reads.3) whole.1) in
    record {
      unread = λ k d after below.
          let other : k ≢ index = omega (arith, after) in
          get_or-set_other c.loop-index.readers index k is d other
          ∙ c.loop-index.invariant.unread k d (omega (arith, after)) below;
      first = record {
        parts = first.parts ++ part ∷ [];
        all = length-append first.parts (part ∷ []) ∙ ap (λ (n : ℕ). n + 1) first.all;
        stored = stored;
        given = are_given c.args.limits (map g.R.Source.left (take (index + 1) c.args.readers.now)) (first.parts ++ part ∷ []) stored;
        holds = subst (λ (e : Earlier). HoldsAll g.S.Target.written g.S.Target.health c.args.limits e (storing c.end_part.new.self.sink))
            (one_part_more scratch first.parts part)
            (part_ended g.S.Target.written g.S.Target.health c.args.limits (parts_before scratch first.parts) summary.header whole.0 read.0
            front.before front.piece (storing c.read_placed.new.sink.sink) (storing c.end_part.new.self.sink) front.parts whole.2.stored
            c.end_part.ensures.stored);
        watched = subst (λ (t : Option g.row.T.Denot). Watched g.T.ObjectSink.takes c.args.watch (first.parts ++ part ∷ []) t)
            (sym c.end_part.ensures.watch)
            (watched_ended g.T.ObjectSink.takes first.parts summary.header whole.0 read.0 c.args.watch c.read_placed.new.sink.watch
            c.read_placed.new.sink.last whole.2.watches);
        dropped = subst (λ (t : Option g.row.T.Denot). Dropped g.T.ObjectSink.takes g.T.ObjectSink.refuses c.args.watch
            (first.parts ++ part ∷ []) t) (sym c.end_part.ensures.watch)
            (dropped_ended g.T.ObjectSink.takes g.T.ObjectSink.refuses first.parts summary.header whole.0 read.0 c.args.watch
            c.read_placed.new.sink.watch whole.2.dropped);
      };
      out = AreReadOut-more g.R.Source.left g.R.Source.health g.R.Source.pulls c.args.limits c.args.readers.now c.loop-index.readers
          index was is there (omega (arith, within, c.loop-index.auto.readers)) c.loop-index.invariant.out (record {
            came = read.0;
            consumed = read.1;
            pulled = reads.0;
            at_end = reads.1;
            accepted = (reads.4, reads.3);
            well = reads.2;
            spared = c.in-Ok-read_placed.ensures.pulls;
          });
      kept = HoldsFirst-more g.R.Source.left (g.M.Summaries.holds c.args.summaries.now) c.args.readers.now index was
          c.loop-index.kept c.keep.new.kept summary there c.loop-index.invariant.kept c.keep.ensures.holds
          (summarised_if_told (g.R.Source.left was) (g.R.Source.left is) read.0 summary read.1 reads.1 reads.5);
      room = c.keep.ensures.room (length c.args.readers.now - (index + 1))
          (room_behind (g.M.Summaries.has_room c.args.summaries.now) (length c.args.readers.now) index c.loop-index.kept within
          c.loop-index.invariant.room);
    }

pub returns-clause-read : goal.returns-clause-read
returns-clause-read g c =
    let all : c.loop-index.index ≡ length c.args.readers.now = omega (arith, c.loop-index.auto.index-end) in
    subst (λ (count : ℕ). StoresFirst g.R.Source.left g.R.Source.health g.R.Source.pulls g.S.Target.written g.S.Target.health
    g.T.ObjectSink.takes g.T.ObjectSink.refuses c.args.limits (g.S.Target.written c.args.scratch) c.args.watch c.args.readers.now count
    c.loop-index.sink) all c.loop-index.invariant.first

pub returns-clause-first : goal.returns-clause-first
returns-clause-first g c =
    let all : c.loop-index.index ≡ length c.args.readers.now = omega (arith, c.loop-index.auto.index-end) in
    record {
      count = c.loop-index.index;
      so_many = all;
      read_out = c.loop-index.invariant.out;
      summaries = c.loop-index.invariant.kept;
    }
