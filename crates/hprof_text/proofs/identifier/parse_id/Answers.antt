use Rattle.std.proofs.Common.{◌≢◌, get_or, None, rules, arith}
use Rattle.std.specs.Option.{SomeIff}
use Rattle.std.proofs.lemmas.Grind.{common_steps}
use Rattle.hprof_text.specs.Identifier.{IsIdText, id_value}
use Rattle.hprof_text.proofs.IdTexts.{parsed_is, parses_to}
use Rattle.hprof_text.proofs.identifier.parse_id.Goals as goal

pub returns-then-text-gt16-clause-digits : goal.returns-then-text-gt16-clause-digits
returns-then-text-gt16-clause-digits c =
    let none : SomeIff None (IsIdText c.args.text.now) (id_value c.args.text.now) = first_of (search rules, grind (arith, common_steps)) in
    parses_to c.args.text.now None none

pub returns-clause-value : goal.returns-clause-value
returns-clause-value c =
    let no_plus : get_or c.args.text.now 0 0 ≢ 43 = search rules in
    rw c.ok.ensures.value (parsed_is c.args.text.now c.from_str_radix.result no_plus c.if-text-gt16.false c.from_str_radix.ensures.value)

pub returns-clause-digits : goal.returns-clause-digits
returns-clause-digits c = parses_to c.args.text.now c.ok.result (returns-clause-value c)

pub returns-then-text-gt16-clause-value : goal.returns-then-text-gt16-clause-value
returns-then-text-gt16-clause-value c = search rules
