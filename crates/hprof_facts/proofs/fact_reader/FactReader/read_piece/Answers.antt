use Rattle.std.proofs.Common.{◌≡◌, ◌+◌, ◌-◌, ◌<◌, ◌≤◌, ◌++◌, ℕ, List, [], Err, length, take, drop, subst, ap, ◌∙◌, arith}
use Rattle.std.proofs.KnownBytes.{Consumes-kept, Consumes-nil}
use Rattle.std.proofs.Math.Seq.{take-append_seam}
use Rattle.std.proofs.lemmas.List.{length-take-le}
use Rattle.std.specs.Io.KnownBytes.{Consumes}
use Rattle.hprof_items.specs.FactValue.{FactValue}
use Rattle.hprof_stream.specs.Reader.{Feeds, HasRead, IsPull, header_of}
use Rattle.hprof_stream.specs.Run.{became}
use Rattle.hprof_stream.specs.declared.part_fault.PartFault.TheVariants as faults
use Rattle.hprof_facts.specs.FactReader.{IsReading, comes_to_end, reads_are_spent, source_fails}
use Rattle.hprof_facts.specs.Queues.{begun_with, given_of, has_refused, queue_begins, queue_refuses, queue_steps}
use Rattle.hprof_facts.specs.declared.queue.Queue.{Queue}
use Rattle.hprof_facts.proofs.Given.{ends_refused, read_over, read_over_none, reading_on}
use Rattle.hprof_facts.proofs.Listed.{IsFilled, run_holds}
use Rattle.hprof_facts.proofs.Placed.{placed_on, placed_same}
use Rattle.hprof_facts.proofs.Sizes.{reading_sized, sized_none, sized_refused}
use Rattle.hprof_facts.proofs.fact_reader.FactReader.read_piece.Goals as goal

pub returns-then-self-eq0-clause-given : goal.returns-then-self-eq0-clause-given
returns-then-self-eq0-clause-given g c = λ origin was facts reading sound none placed.
    let its = c.args.self.now in
    let left = g.R.Source.left in
    let health = g.R.Source.health in
    let pulls = g.R.Source.pulls in
    let spent = subst (λ (n : ℕ). IsReading left health pulls origin was c.args.part its.source n facts) c.if-self-eq0.true reading in
    record {
      queued = [];
      holds = c.requires.empty;
      read = read_over_none left health pulls origin was its.part its.source its.reads_left (Err faults.ReadsExceeded)
          (has_refused its.queue) facts c.requires.none (reads_are_spent spent c.requires.well);
      placed = placed_same left health pulls origin was its.source facts its.before (given_of its.queue) none placed;
      sized = sized_none left health pulls origin was c.args.part its.source its.reads_left facts (begun_with its.queue) reading
          c.requires.ready;
    }

pub returns-in_default-clause-given : goal.returns-in_default-clause-given
returns-in_default-clause-given g c = λ origin was facts reading sound none placed.
    let its = c.args.self.now in
    let left = g.R.Source.left in
    let health = g.R.Source.health in
    let pulls = g.R.Source.pulls in
    let nothing : Consumes (left its.source) (left c.pull.new.self) [] = Consumes-kept (left its.source) (left its.source)
    (left c.pull.new.self) [] (Consumes-nil (left its.source)) c.in_default.ensures.bytes in
    let some = c.if-self-eq0.false in
    let can : 0 < its.reads_left = omega (arith, some) in
    record {
      queued = [];
      holds = c.requires.empty;
      read = read_over_none left health pulls origin was its.part c.pull.new.self (its.reads_left - 1) (Err faults.Read)
          (has_refused its.queue) facts c.requires.none
          (source_fails reading can (record { gave = nothing; one = c.in_default.ensures.pulls; few = omega arith })
          c.in_default.ensures.health);
      placed = placed_on left health pulls origin was its.source c.pull.new.self [] facts its.before (given_of its.queue) nothing
          (placed_same left health pulls origin was its.source facts its.before (given_of its.queue) none placed);
      sized = sized_none left health pulls origin was c.args.part its.source its.reads_left facts (begun_with its.queue) reading
          c.requires.ready;
    }

pub returns-then-count-eq0-clause-given : goal.returns-then-count-eq0-clause-given
returns-then-count-eq0-clause-given g c = λ origin was facts reading sound none placed.
    let its = c.args.self.now in
    let left = g.R.Source.left in
    let health = g.R.Source.health in
    let pulls = g.R.Source.pulls in
    let piece = c.pull.new.piece in
    let value = ap (λ (l : List ℕ). length l) c.deref_mut.ensures.value in
    let full = c.requires.room in
    let room : 0 < length piece = omega (arith, full, value) in
    let nothing = subst (λ (n : ℕ). Consumes (left its.source) (left c.pull.new.self) (take n piece)) c.if-count-eq0.true
    c.in-Ok.ensures.bytes in
    let some = c.if-self-eq0.false in
    let can : 0 < its.reads_left = omega (arith, some) in
    record {
      queued = [];
      holds = c.requires.empty;
      read = read_over_none left health pulls origin was its.part c.pull.new.self (its.reads_left - 1) c.finish-self.result
          (has_refused its.queue) facts c.requires.none
          (comes_to_end reading can (record { gave = nothing; one = c.in-Ok.ensures.pulls; few = omega arith })
          (c.in-Ok.ensures.end c.if-count-eq0.true room) c.in-Ok.ensures.health
          (c.finish-self.ensures.finished origin.limits (origin.front ++ reading.came) (origin.told ++ facts) reading.read));
      placed = placed_on left health pulls origin was its.source c.pull.new.self [] facts its.before (given_of its.queue) nothing
          (placed_same left health pulls origin was its.source facts its.before (given_of its.queue) none placed);
      sized = sized_none left health pulls origin was c.args.part its.source its.reads_left facts (begun_with its.queue) reading
          c.requires.ready;
    }

whole : (len : ℕ) (bytes rest : List ℕ) → len ≡ length bytes → take len (bytes ++ rest) ≡ bytes
whole len bytes rest e = ap (λ (n : ℕ). take n (bytes ++ rest)) e ∙ take-append_seam bytes rest

pub returns-in-Ok-feed-clause-can : goal.returns-in-Ok-feed-clause-can
returns-in-Ok-feed-clause-can g c =
    let its = c.args.self.now in
    let piece = c.pull.new.piece in
    let all : its.piece.len ≡ length piece =
    omega (arith, c.deref_mut.ensures.len, ap (λ (l : List ℕ). length l) c.deref_mut.ensures.value) in
    let back : take its.piece.len (piece ++ drop (length piece) its.piece.items) ≡ piece =
    whole its.piece.len piece (drop (length piece) its.piece.items) all in
    let long = ap (λ (l : List ℕ). length l) back in
    let full = c.requires.room in
    let value = ap (λ (l : List ℕ). length l) c.deref_mut.ensures.value in
    (c.in-Ok.ensures.health, c.in-Ok-feed.ensures.ready, omega (arith, long, full, value))

pub returns-in-Ok-feed-clause-given : goal.returns-in-Ok-feed-clause-given
returns-in-Ok-feed-clause-given g c = λ origin was facts reading sound none placed.
    let its = c.args.self.now in
    let left = g.R.Source.left in
    let health = g.R.Source.health in
    let pulls = g.R.Source.pulls in
    let piece = c.pull.new.piece in
    let came = length-take-le c.in-Ok.count piece c.in-Ok.ensures.count in
    let some : 0 < length (take c.in-Ok.count piece) = omega (arith, c.if-count-eq0.false, came) in
    let value = ap (λ (l : List ℕ). length l) c.deref_mut.ensures.value in
    let full = c.requires.room in
    let few : length (take c.in-Ok.count piece) ≤ 65536 = omega (arith, came, c.in-Ok.ensures.count, full, value) in
    let all : its.piece.len ≡ length piece = omega (arith, c.deref_mut.ensures.len, value) in
    let back : take its.piece.len (piece ++ drop (length piece) its.piece.items) ≡ piece =
    whole its.piece.len piece (drop (length piece) its.piece.items) all in
    let bytes : List ℕ = origin.front ++ reading.came in
    let told : List FactValue = origin.told ++ facts in
    let fed = c.in-Ok-feed.ensures.fed origin.limits bytes told reading.read in
    let held = run_holds its.queue (became (header_of c.args.part) (header_of c.feed.new.self)) fed.0 c.feed.new.sink
    (record { sound = sound; holds = c.requires.empty; none = none }) fed.2 in
    let more = c.if-self-eq0.false in
    let one_more : its.reads_left ≡ its.reads_left - 1 + 1 = omega (arith, more) in
    let now = reading_on left health pulls origin was c.args.part c.feed.new.self its.source c.pull.new.self its.reads_left
    (its.reads_left - 1) facts fed.0 (take c.in-Ok.count piece) one_more
    (record { gave = c.in-Ok.ensures.bytes; one = c.in-Ok.ensures.pulls; few = few }) some reading
    (subst (λ (l : List ℕ). HasRead origin.limits (bytes ++ take c.in-Ok.count l) (told ++ fed.0) c.feed.new.self)
    (c.deref.ensures.value ∙ back) fed.1) in
    record {
      queued = fed.0;
      holds = held.holds;
      read = (now, held.sound);
      placed = placed_on left health pulls origin was its.source c.pull.new.self (take c.in-Ok.count piece) facts its.before
          (given_of c.feed.new.sink) c.in-Ok.ensures.bytes
          (placed_same left health pulls origin was its.source facts its.before (given_of c.feed.new.sink) held.none placed);
      sized = reading_sized left health pulls origin was c.feed.new.self c.pull.new.self (its.reads_left - 1) (facts ++ fed.0)
          (begun_with c.feed.new.sink) now c.in-Ok-feed.ensures.ready;
    }

pub returns-in-Err-clause-given : goal.returns-in-Err-clause-given
returns-in-Err-clause-given g c = λ origin was facts reading sound none placed.
    let its = c.args.self.now in
    let left = g.R.Source.left in
    let health = g.R.Source.health in
    let pulls = g.R.Source.pulls in
    let piece = c.pull.new.piece in
    let came = length-take-le c.in-Ok.count piece c.in-Ok.ensures.count in
    let some : 0 < length (take c.in-Ok.count piece) = omega (arith, c.if-count-eq0.false, came) in
    let value = ap (λ (l : List ℕ). length l) c.deref_mut.ensures.value in
    let full = c.requires.room in
    let few : length (take c.in-Ok.count piece) ≤ 65536 = omega (arith, came, c.in-Ok.ensures.count, full, value) in
    let all : its.piece.len ≡ length piece = omega (arith, c.deref_mut.ensures.len, value) in
    let back : take its.piece.len (piece ++ drop (length piece) its.piece.items) ≡ piece =
    whole its.piece.len piece (drop (length piece) its.piece.items) all in
    let more = c.if-self-eq0.false in
    let can : 0 < its.reads_left = omega (arith, more) in
    let filled : IsFilled [] its.queue = record { sound = sound; holds = c.requires.empty; none = none } in
    let last : IsPull left pulls its.source (take c.in-Ok.count piece) c.pull.new.self =
    record { gave = c.in-Ok.ensures.bytes; one = c.in-Ok.ensures.pulls; few = few } in
    let feeds : (bytes : List ℕ) (others : List FactValue) → HasRead origin.limits bytes others c.args.part
    → Feeds {S = Queue} queue_begins queue_steps queue_refuses has_refused origin.limits bytes others c.args.part (take c.in-Ok.count piece)
    its.queue (Err c.in-Err.fault) c.feed.new.self c.feed.new.sink =
    λ bytes others read. subst (λ (l : List ℕ). Feeds queue_begins queue_steps queue_refuses has_refused origin.limits bytes others
    c.args.part (take c.in-Ok.count l) its.queue (Err c.in-Err.fault) c.feed.new.self c.feed.new.sink) (c.deref.ensures.value ∙ back)
    (c.in-Err.ensures.fed origin.limits bytes others read) in
    let ends = ends_refused left health pulls origin was c.args.part c.feed.new.self its.source c.pull.new.self its.reads_left facts
    (take c.in-Ok.count piece) c.in-Err.fault its.queue c.feed.new.sink last some c.in-Ok.ensures.health filled feeds reading can in
    record {
      queued = ends.handed;
      holds = ends.holds;
      read = read_over left health pulls origin was its.part c.pull.new.self (its.reads_left - 1) (Err c.in-Err.fault)
          (has_refused c.feed.new.sink) facts ends.handed c.requires.none ends.comes;
      placed = placed_on left health pulls origin was its.source c.pull.new.self (take c.in-Ok.count piece) facts its.before
          (given_of c.feed.new.sink) c.in-Ok.ensures.bytes
          (placed_same left health pulls origin was its.source facts its.before (given_of c.feed.new.sink) ends.none placed);
      sized = sized_refused left health pulls origin was c.args.part c.feed.new.self its.source c.pull.new.self its.reads_left facts
          ends.handed (take c.in-Ok.count piece) c.in-Err.fault its.queue c.feed.new.sink last filled c.requires.ready
          c.in-Err.ensures.kept feeds ends.holds reading;
    }
