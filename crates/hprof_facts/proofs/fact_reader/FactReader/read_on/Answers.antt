use Rattle.std.proofs.Common.{◌++◌, ℕ, List, [], subst, sym, append-nil, arith}
use Rattle.std.proofs.KnownBytes.{Consumes-nil}
use Rattle.hprof_items.specs.FactValue.{FactValue}
use Rattle.hprof_stream.specs.Reader.{HasRead, IsReady, none}
use Rattle.hprof_facts.specs.FactReader.{IsReading, Origin}
use Rattle.hprof_facts.specs.Queues.{begun_with, given_of}
use Rattle.hprof_facts.proofs.Placed.{placed_now, placed_same}
use Rattle.hprof_facts.proofs.Sizes.{reading_sized}
use Rattle.hprof_facts.proofs.fact_reader.FactReader.read_on.Goals as goal

pub returns-clause-given : goal.returns-clause-given
returns-clause-given g c = λ limits front told read.
    let left = g.R.Source.left in
    let health = g.R.Source.health in
    let pulls = g.R.Source.pulls in
    let part = c.args.part in
    let origin : Origin = record { limits = limits; front = front; told = told; reads = c.args.reads_left } in
    let all : HasRead limits (front ++ []) (told ++ []) part =
    subst (λ (b : List ℕ). HasRead limits b (told ++ []) part) (sym (append-nil front))
    (subst (λ (l : List FactValue). HasRead limits front l part) (sym (append-nil told)) read) in
    let reading : IsReading left health pulls origin c.args.source part c.args.source c.args.reads_left [] =
    record { came = []; turns = 0; pulled = none; read = all; spent = omega arith } in
    let ready = subst (IsReady part) (sym c.new.ensures.begun) c.size_read-begun.ensures in
    let sized = reading_sized left health pulls origin c.args.source part c.args.source c.args.reads_left [] (begun_with c.new.result)
    reading ready in
    record {
      queued = [];
      holds = c.new.ensures.holds;
      read = (reading, c.new.ensures.well);
      placed = placed_same left health pulls origin c.args.source c.args.source [] c.place-before.result (given_of c.new.result)
          c.new.ensures.given (placed_now left health pulls origin c.args.source part c.args.source [] [] c.place-before.result
          (Consumes-nil (left c.args.source)) all c.place-before.ensures.some c.place-before.ensures.behind);
      sized = sized;
    }

pub returns-clause-can : goal.returns-clause-can
returns-clause-can g c = (
  c.requires,
  subst (IsReady c.args.part) (sym c.new.ensures.begun) c.size_read-begun.ensures,
  omega (
    arith,
    c.in-Ok.ensures.len,
    c.in-Ok.piece.ok.0,
  ),
)
