use Rattle.std.proofs.Common.{◌≡◌, ◌+◌, ◌<◌, ◌≤◌, ℕ, List, Some, length, min}
use Rattle.hprof_items.specs.declared.header.Header.{Header}
use Rattle.hprof_stream.specs.Progress.{place_of, IsCounted}
use Rattle.hprof_stream.specs.Rest.{IsRest, IsSound, KeepsRoom, rest_len}
use Rattle.hprof_stream.specs.Walking.{IsBegun, GoesOn}
use Rattle.hprof_stream.proofs.held.finish_held.Given as goal

abbrev pub invariant-loop-progress : goal.invariant-loop-progress
invariant-loop-progress g l = record {
  on : (front : List ℕ) → IsRest l.fn.progress.limits.max_item (place_of l.fn.progress) front l.fn.rest
      → GoesOn g.S.Sink.begins g.S.Sink.steps g.S.Sink.refuses g.S.Sink.failed l.fn.progress front l.fn.bytes l.fn.sink l.progress
      l.left l.rest l.sink;
  held : 0 < length l.rest.held.items → 0 < length l.fn.rest.held.items;
  counted : IsCounted l.progress (rest_len l.rest + length l.left);
  sound : IsSound l.rest;
  begun : IsBegun l.progress.header (g.S.Sink.begun l.sink);
  less : length l.left ≤ length l.fn.bytes;
  room : KeepsRoom l.fn.rest (length l.fn.bytes) l.rest (length l.left);
  kept : (header : Header) → l.fn.progress.header ≡ Some header → l.progress.header ≡ Some header;
}

abbrev pub decreases-loop-progress : goal.decreases-loop-progress
decreases-loop-progress g l = length l.left + min 1 (length l.rest.held.items)
