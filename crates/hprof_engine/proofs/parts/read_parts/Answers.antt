use Rattle.std.proofs.lemmas.List.{length-set}
use Rattle.std.proofs.Common.{◌≡◌, ◌≢◌, ℕ, ◌+◌, ◌-◌, ◌<◌, length, set, get_or, Some, ap, subst, ◌∙◌, arith, get_or-set_other, rules}
use Rattle.hprof_items.specs.declared.header.Header.{Header}
use Rattle.hprof_engine.proofs.Gathered.{Run-shown, Run-sound, Run-kept}
use Rattle.hprof_engine.proofs.PartFaults.{fault_of_came}
use Rattle.hprof_engine.proofs.Answers.{from_nothing}
use Rattle.hprof_engine.proofs.Reading.{element_at, element_set, same_at, given_if_told, summarised_if_told, GathersFirst-more}
use Rattle.hprof_engine.proofs.Reading.{HoldsFirst-more, AreReadOut-kept, AreReadOut-more}
use Rattle.hprof_engine.specs.Summaries.{HoldsFirst}
use Rattle.hprof_engine.proofs.parts.read_parts.Goals as goal

-- room for all that are to come is room for the next one and for those behind it
room_behind : {S : Type 0} (has_room : S → ℕ → Type 0) (count index : ℕ) (summaries : S) → index < count
    → has_room summaries (count - index) → has_room summaries (count - (index + 1) + 1)
room_behind has_room count index summaries within room =
    let same : count - index ≡ count - (index + 1) + 1 = omega (arith, within) in
    subst (λ (n : ℕ). has_room summaries n) same room

pub returns-in-Err : goal.returns-in-Err
returns-in-Err g c =
    let index = c.loop-index.index in
    let found = c.index-readers-index.result in
    let was = get_or c.loop-index.readers index found in
    let within : index < length c.args.readers.now = omega arith in
    let still : index < length c.loop-index.readers = omega arith in
    let same_length : length c.loop-index.readers ≡ length c.args.readers.now = omega arith in
    let read = c.in-Err.ensures.read in
    let first = c.loop-index.invariant.first in
    let gathers = from_nothing (g.G.Gather.gathered c.args.gatherer.now)
    (g.G.Gather.gathered c.loop-index.gatherer) first.given c.requires.nothing
    first.gathers in
    record {
      read = record {
        mid = g.G.Gather.gathered c.loop-index.gatherer;
        before = c.loop-index.invariant.first;
        out = AreReadOut-kept g.R.Source.left g.R.Source.health g.R.Source.pulls c.args.limits c.args.readers.now c.loop-index.readers
            index c.read_part.new.source c.loop-index.invariant.out;
        at = record {
          was = was;
          is = c.read_part.new.source;
          was_there = element_at c.args.readers.now c.loop-index.readers index found within (c.loop-index.invariant.unread index found
              (omega arith) within) c.index-readers-index.is ∙ ap Some c.index-readers-index.is;
          is_there = element_set c.loop-index.readers index c.read_part.new.source still;
          came = read.0;
          consumed = read.1;
          spared = c.in-Err.ensures.pulls;
          refused = fault_of_came g.G.Gather.gathered g.G.Sink.begins g.G.Sink.steps g.G.Sink.refuses g.G.Sink.failed
              g.met.G.Gather.begins_parts g.met.G.Gather.takes_facts g.met.G.Gather.refuses_facts g.R.Source.left g.R.Source.health
              g.R.Source.pulls c.args.limits first.given was read.0
              c.read_part.new.source c.loop-index.gatherer c.read_part.new.sink c.in-Err.fault c.loop-index.invariant.sound gathers read.2;
          unread = λ k behind. same_at (set c.loop-index.readers index c.read_part.new.source) c.args.readers.now k
              (length-set c.loop-index.readers index c.read_part.new.source ∙ same_length)
              (λ d below. let other : k ≢ index = omega (arith, behind) in
              get_or-set_other c.loop-index.readers index k c.read_part.new.source d other
              ∙ c.loop-index.invariant.unread k d (omega (arith, behind)) below);
        };
      };
      watches = λ id watched. tt;
      summaries = c.loop-index.invariant.kept;
    }

pub loop-index-preserved : goal.loop-index-preserved
loop-index-preserved g c =
    let index = c.loop-index.index in
    let found = c.index-readers-index.result in
    let was = get_or c.loop-index.readers index found in
    let within : index < length c.args.readers.now = omega arith in
    let read = c.in-Ok.ensures.read in
    let header : Header = c.in-Ok.summary.header in
    let facts = read.2.6.0 in
    let there = element_at c.args.readers.now c.loop-index.readers index found within (c.loop-index.invariant.unread index found
    (omega arith) within) c.index-readers-index.is ∙ ap Some c.index-readers-index.is in
    let is = given_if_told c.args.limits (g.R.Source.left was) (g.R.Source.left c.read_part.new.source) read.0
    (record { header = header; facts = facts }) read.1 read.2.1 (read.2.4, read.2.3) read.2.6.1 in
    let run = Run-shown g.G.Gather.gathered g.G.Sink.begins g.G.Sink.steps g.met.G.Gather.begins_parts g.met.G.Gather.takes_facts
    c.loop-index.gatherer c.read_part.new.sink (Some header) facts read.2.6.2 in
    record {
      unread = λ k d after below.
          let other : k ≢ index = omega arith in
          get_or-set_other c.loop-index.readers index k c.read_part.new.source d other
          ∙ c.loop-index.invariant.unread k d (omega arith) below;
      first = GathersFirst-more g.R.Source.left c.args.limits c.args.readers.now index was (g.G.Gather.gathered c.args.gatherer.now)
          (g.G.Gather.gathered c.loop-index.gatherer) (g.G.Gather.gathered c.read_part.new.sink) header facts there
          c.loop-index.invariant.first run is;
      out = AreReadOut-more g.R.Source.left g.R.Source.health g.R.Source.pulls c.args.limits c.args.readers.now c.loop-index.readers
          index was c.read_part.new.source there (omega arith) c.loop-index.invariant.out (record {
            came = read.0;
            consumed = read.1;
            pulled = read.2.0;
            at_end = read.2.1;
            accepted = (read.2.4, read.2.3);
            well = read.2.2;
            spared = c.in-Ok.ensures.pulls;
          });
      kept = HoldsFirst-more g.R.Source.left (g.S.Summaries.holds c.args.summaries.now) c.args.readers.now index was
          c.loop-index.kept c.keep.new.kept c.in-Ok.summary there c.loop-index.invariant.kept c.keep.ensures.holds
          (summarised_if_told (g.R.Source.left was) (g.R.Source.left c.read_part.new.source) read.0 c.in-Ok.summary read.1 read.2.1
          read.2.5);
      room = c.keep.ensures.room (length c.args.readers.now - (index + 1))
          (room_behind (g.S.Summaries.has_room c.args.summaries.now) (length c.args.readers.now) index c.loop-index.kept within
          c.loop-index.invariant.room);
      watches = λ id watched. Run-kept g.G.Sink.begins g.G.Sink.steps (λ it. g.G.Gather.watches it id)
          (λ old header new begins. g.met.G.Gather.watches_on old header new begins id)
          (λ old fact new steps. g.met.G.Gather.watches_still old fact new steps id)
          c.loop-index.gatherer c.read_part.new.sink (Some header) facts read.2.6.2 (c.loop-index.invariant.watches id watched);
      sound = Run-sound (g.G.Gather.gathered c.loop-index.gatherer) (g.G.Gather.gathered c.read_part.new.sink) (Some header) facts run
          c.loop-index.invariant.sound;
    }

pub keep-requires : goal.keep-requires
keep-requires g c =
    let index = c.loop-index.index in
    let within : index < length c.args.readers.now = omega arith in (
      length c.args.readers.now - (index + 1),
      room_behind (g.S.Summaries.has_room c.args.summaries.now) (length c.args.readers.now) index c.loop-index.kept within
          c.loop-index.invariant.room,
    )

pub returns-clause-summaries : goal.returns-clause-summaries
returns-clause-summaries g c =
    let all : c.loop-index.index ≡ length c.args.readers.now = omega arith in
    subst (λ (count : ℕ). HoldsFirst g.R.Source.left (g.S.Summaries.holds c.args.summaries.now) c.args.readers.now count c.loop-index.kept)
    all c.loop-index.invariant.kept

pub returns-clause-read : goal.returns-clause-read
returns-clause-read g c = search rules
