use Rattle.std.specs.Prelude.{map}
use Rattle.std.proofs.Common.{ℕ, List, refl, sym, subst}
use Rattle.std.proofs.lemmas.Result.{err_from_is_err_and}
use Rattle.hprof_heap.specs.HeapFacts.{facts_of, size_of}
use Rattle.hprof_lines.proofs.TextWriting.{text_unwritten}
use Rattle.hprof_describe.proofs.OneFinding.{findings_exist}
use Rattle.hprof_retained.specs.Retained.{IsHeld}
use Rattle.hprof_retained.specs.Tree.{node_at}
use Rattle.hprof_keeps.specs.Chosen.{IsChosen}
use Rattle.hprof_keeps.specs.KeepsText.{above_lines}
use Rattle.hprof_keeps.specs.Order.{AreLargestFirst, retained_in}
use Rattle.hprof_keeps.proofs.Held.{are_retained}
use Rattle.hprof_keeps.proofs.SomeBiggest.{chosen_exist}
use Rattle.hprof_keeps.proofs.biggest.write_biggest.Goals as goal

-- memory was wanted before the first line
pub returns-in_err-places-clause-bytes : goal.returns-in_err-places-clause-bytes
returns-in_err-places-clause-bytes g c =
    let some = chosen_exist (size_of c.args.heap.now) (facts_of c.args.heap.now) c.holds_of_heap.ensures.agree c.args.choice in
    let r = c.from_residual in
    let p = err_from_is_err_and r.result r.ensures.1 in
    (some.0, some.1, text_unwritten r.result (g.W.Target.written c.args.target.now) p.0 some.0 p.1)

pub returns-clause-bytes : goal.returns-clause-bytes
returns-clause-bytes g c =
    let ids = size_of c.args.heap.now in
    let facts = facts_of c.args.heap.now in
    let retained = c.args.retained.now in
    let found = findings_exist ids facts c.holds_of_heap.ensures.agree in
    let nodes = map (node_at retained) c.deref.result.now in
    let Listed : ℕ → Type 0 = λ node. IsHeld ids facts node × IsChosen facts c.args.choice node in (
      above_lines found.0 (retained_in retained) nodes,
      record {
        agree = c.holds_of_heap.ensures.agree;
        found = found.0;
        are_found = found.1;
        retained = retained_in retained;
        are_retained = are_retained ids facts retained c.requires.retained;
        nodes = nodes;
        are_nodes = subst (λ (places : List ℕ). AreLargestFirst (retained_in retained) Listed (map (node_at retained) places))
            (sym c.deref.ensures.value) c.in_ok-places.ensures.nodes;
        is = refl;
      },
      c.write_nodes.ensures.bytes found.0 found.1,
    )
