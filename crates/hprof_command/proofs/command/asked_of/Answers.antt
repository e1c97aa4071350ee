use Rattle.std.proofs.Common.{◌≡◌, ◌∙◌, ℕ, List, [], Option, ap, map, refl, subst, true}
use Rattle.std.specs.Prelude.{string_bytes}
use Rattle.clap.specs.Words.{App, HasKind, Row, fault_of, is_simple, is_simple_and_free, subcommand_of, subcommand_rows_of}
use Rattle.clap.proofs.OnLiterals.{clap_on_literals}
use Rattle.hprof_command.specs.CommandLine.{IsAskedByWords, IsMisunderstanding, command_line}
use Rattle.hprof_command.specs.Commands.{IsAsked}
use Rattle.hprof_command.specs.declared.command.Misunderstood.TheVariants as misunderstood
use Rattle.hprof_command.proofs.CommandLine.{match_error, match_more, unmatched}
use Rattle.hprof_command.proofs.command.asked_of.Goals as goal

simple : is_simple command_line ≡ true
unfolding clap_on_literals
simple = refl

free : is_simple_and_free command_line ≡ true
unfolding clap_on_literals
free = refl

pub returns-in_err-matches : goal.returns-in_err-matches
returns-in_err-matches c = match_error _ _ c.from_residual-in_err-matches.result (misunderstood.Words c.in_err-matches.field-0.0)
    c.from_residual-in_err-matches.ensures.1
    (subst (λ (app : App). HasKind (fault_of app (map string_bytes c.args.words.now)) c.in_err-matches.field-0.0) c.in_ok-command.ensures
    (c.in_err-matches.ensures.kinds (ap is_simple_and_free c.in_ok-command.ensures ∙ free)))

pub returns : goal.returns
returns c =
    let words = map string_bytes c.args.words.now in
    let found = subcommand_rows_of c.in_ok-matches.matches in
    let same : found ≡ subcommand_of command_line words =
    (c.in_ok-matches.ensures.matches (ap is_simple c.in_ok-command.ensures ∙ simple)).1
    ∙ ap (λ (app : App). subcommand_of app words) c.in_ok-command.ensures in
    let taken : fault_of command_line words ≡ [] = subst (λ (app : App). fault_of app words ≡ []) c.in_ok-command.ensures
    (c.in_ok-matches.ensures.kinds (ap is_simple_and_free c.in_ok-command.ensures ∙ free)) in
    match_more _ (IsAskedByWords words) _ (IsMisunderstanding words) c.asked_matched.result
    (λ asked is. (taken, subst (λ (f : Option (List ℕ × List Row)). IsAsked f asked) same is))
    (unmatched words found same taken) c.asked_matched.ensures
