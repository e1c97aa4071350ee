use Rattle.std.proofs.Common.{◌≡◌, subst, rules, Ok, Err}
use Rattle.hprof_heap.specs.declared.standing.Refusal.TheVariants as refusals
use Rattle.hprof_heap.specs.Heap.{heap_of}
use Rattle.hprof_heap.specs.Gathering.{gathered, answer_of, Tells}
use Rattle.hprof_heap.proofs.Told.{told}
use Rattle.hprof_heap.proofs.gatherer.Gatherer.finish.Goals as goal

pub returns-then-failed-clause-told : goal.returns-then-failed-clause-told
returns-then-failed-clause-told c =
    let answer : answer_of (gathered c.args.self) ≡ Err refusals.Failed = search rules in
    λ parts gathers. subst (Tells parts) answer (told c.args.self parts gathers)

pub returns-in-None-default-clause-told : goal.returns-in-None-default-clause-told
returns-in-None-default-clause-told c =
    let answer : answer_of (gathered c.args.self) ≡ Err refusals.NoParts = search rules in
    λ parts gathers. subst (Tells parts) answer (told c.args.self parts gathers)

pub returns-in-Some-default-clause-told : goal.returns-in-Some-default-clause-told
returns-in-Some-default-clause-told c =
    let answer : answer_of (gathered c.args.self) ≡ Err refusals.IdSizes = search rules in
    λ parts gathers. subst (Tells parts) answer (told c.args.self parts gathers)

pub returns-in-Some-Some-clause-told : goal.returns-in-Some-Some-clause-told
returns-in-Some-Some-clause-told c =
    let answer : answer_of (gathered c.args.self) ≡ Err (refusals.Conflict c.in-Some-Some.key) = search rules in
    λ parts gathers. subst (Tells parts) answer (told c.args.self parts gathers)

pub returns-in-Some-None-clause-told : goal.returns-in-Some-None-clause-told
returns-in-Some-None-clause-told c =
    let answer : answer_of (gathered c.args.self) ≡ Ok (heap_of c.in-Some-default.field-0-0) = search rules in
    λ parts gathers. subst (Tells parts) answer (told c.args.self parts gathers)

pub returns-in-Some-Some-clause-answer : goal.returns-in-Some-Some-clause-answer
returns-in-Some-Some-clause-answer c = search rules

pub returns-in-Some-default-clause-answer : goal.returns-in-Some-default-clause-answer
returns-in-Some-default-clause-answer c = search rules
