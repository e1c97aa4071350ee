use Rattle.std.proofs.Common.{◌∙◌, ◌++◌, ap}
use Rattle.std.specs.String.{string_bytes}
use Rattle.std.proofs.lemmas.Result.{on_ok_weaker}
use Rattle.hprof_retained.specs.Tree.{node_at}
use Rattle.hprof_keeps.specs.Order.{retained_in}
use Rattle.hprof_suspects.proofs.ChainTexts.{long_chain, short_chain}
use Rattle.hprof_suspects.proofs.chain.push_chain.Goals as goal

pub returns-then-places-le20 : goal.returns-then-places-le20
returns-then-places-le20 c = λ found is.
    let retained = c.args.retained.now in
    on_ok_weaker c.push_nodes.result
    (λ e. e ∙ ap (λ t. string_bytes c.args.text.now ++ t)
    (short_chain found (retained_in retained) (node_at retained) c.args.places.now c.if-places-le20.true)) (c.push_nodes.ensures found is)

pub returns : goal.returns
returns c = λ found is.
    let retained = c.args.retained.now in
    on_ok_weaker c.push_nodes-3.result
    (λ e. long_chain found (retained_in retained) (node_at retained) c.args.places.now (string_bytes c.args.text.now)
    (string_bytes c.push_nodes-2.new.text) (string_bytes c.push_str.new.self) (string_bytes c.push_nodes-3.new.text)
    (string_bytes c.in_ok-more.more) c.if-places-le20.false (c.in_ok-push_nodes.ensures found is) c.in_ok-more.ensures
    (c.in_ok-push_str.ensures.bytes ∙ ap (λ t. string_bytes c.push_nodes-2.new.text ++ t) c.deref.ensures) e)
    (c.push_nodes-3.ensures found is)
