use Rattle.std.specs.String.{string_bytes}
use Rattle.std.proofs.Common.{◌∙◌, arith}
use Rattle.hprof_retained.specs.Tree.{node_at}
use Rattle.hprof_keeps.specs.Order.{retained_in}
use Rattle.hprof_suspects.proofs.ChainTexts.{nodes_all, nodes_more}
use Rattle.hprof_suspects.proofs.chain.push_nodes.Goals as goal

pub loop-place-preserved : goal.loop-place-preserved
loop-place-preserved c = λ found is.
    let retained = c.args.retained.now in
    nodes_more found (retained_in retained) (node_at retained) c.args.places.now c.loop-place.place-index (string_bytes c.args.text.now)
    (string_bytes c.loop-place.text) c.deref.result.now (string_bytes c.push_str.new.self) c.loop-place-test.true
    (c.loop-place.invariant found is) c.in_ok-push_str.ensures.bytes (c.deref.ensures ∙ c.in_ok-line.ensures found is)

pub returns : goal.returns
returns c = λ found is.
    let retained = c.args.retained.now in
    nodes_all found (retained_in retained) (node_at retained) c.args.places.now c.loop-place.place-index (string_bytes c.args.text.now)
    (string_bytes c.loop-place.text) (omega (arith, c.loop-place-test.false, c.loop-place.auto.place-index-end))
    (c.loop-place.invariant found is)
