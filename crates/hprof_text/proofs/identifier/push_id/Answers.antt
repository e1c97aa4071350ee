use Rattle.std.proofs.Common.{◌≡◌, ◌-◌, take, drop, set, rules, ◌∙◌}
use Rattle.std.proofs.lemmas.Result.{MatchResult-at_ok}
use Rattle.hprof_text.specs.Identifier.{id_digits}
use Rattle.hprof_text.proofs.IdTexts.{remains_all, remains_more, remains_last, IsUtf8-id_digits, reads_as_text, pushes}
use Rattle.hprof_text.proofs.identifier.push_id.Goals as goal
use Rattle.hprof_text.proofs.identifier.push_id.Goals.{After-hex_digit-2}

pub loop-rest-init : goal.loop-rest-init
loop-rest-init c = remains_all c.args.id (search rules)

pub loop-rest-preserved : goal.loop-rest-preserved
loop-rest-preserved c =
    rw c.hex_digit.ensures (remains_more c.args.id c.loop-rest.start c.loop-rest.rest c.loop-rest.digits c.loop-rest.invariant
    c.loop-rest-test.true)

written : (c : After-hex_digit-2)
    → take (16 - c.loop-rest.start) (drop c.loop-rest.start (set c.loop-rest.digits c.loop-rest.start c.hex_digit-2.result))
    ≡ id_digits c.args.id
written c =
    remains_last c.args.id c.loop-rest.start c.loop-rest.rest c.hex_digit-2.result c.loop-rest.digits c.loop-rest.invariant
    c.loop-rest-test.false c.hex_digit-2.ensures

pub unwrap-requires : goal.unwrap-requires
unwrap-requires c =
    reads_as_text c.from_utf8.result _ _ _
    (IsUtf8-id_digits c.args.id _ (written (goal.at.unwrap-requires c).After-hex_digit-2)) c.from_utf8.ensures.cases

pub returns-clause-ok : goal.returns-clause-ok
returns-clause-ok c =
    let text = (MatchResult-at_ok _ _ c.unwrap.result c.unwrap.ensures c.from_utf8.ensures.cases).0 in
    pushes c.push_str.result _ _ c.unwrap.result.now _ (text ∙ written (goal.at.returns-clause-ok c).After-hex_digit-2)
    c.push_str.ensures.bytes

pub returns-clause-err : goal.returns-clause-err
returns-clause-err c = search rules
