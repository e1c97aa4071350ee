use Rattle.std.proofs.Common.{List, Option, sym, subst}
use Rattle.std.specs.Option.{option_map}
use Rattle.hprof_values.specs.Lists.{identifiers_of}
use Rattle.hprof_values.specs.declared.lists.ids.IdList.{IdList}
use Rattle.hprof_heap.specs.HeapFacts.{facts_of}
use Rattle.hprof_threads.specs.declared.held.Held.{Held}
use Rattle.hprof_lines.specs.Stopping.{WritesText}
use Rattle.hprof_holders.specs.ThreadFindings.{frames_in}
use Rattle.hprof_holders.specs.ThreadsText.{elsewhere_text}
use Rattle.hprof_holders.proofs.ThreadTexts.{no_places, places_text}
use Rattle.hprof_holders.proofs.threads_report.write_places.Goals as goal

pub returns-in-Some-clause-bytes : goal.returns-in-Some-clause-bytes
returns-in-Some-clause-bytes g c = λ found threads serial are are_threads held.
    let rows = c.args.rows.now in
    let old = g.W.Target.written c.args.target.now in
    let new = g.W.Target.written c.write_framed.new.target in
    subst (λ (frames : Option IdList). WritesText old new c.write_framed.result
    (places_text found threads rows (frames_in (option_map identifiers_of frames)))) (sym c.in-Some.is)
    (c.write_framed.ensures.bytes found threads serial are are_threads held)

pub returns-in-None-clause-bytes : goal.returns-in-None-clause-bytes
returns-in-None-clause-bytes g c = λ found threads serial are are_threads held.
    let rows = c.args.rows.now in
    let old = g.W.Target.written c.args.target.now in
    let new = g.W.Target.written c.write_elsewhere.new.target in
    let r = c.write_elsewhere.result in
    let all = subst (λ (left : List Held). WritesText old new r (elsewhere_text found left))
    (c.rows_elsewhere-rest.ensures (facts_of c.args.heap.now) serial held) (c.write_elsewhere.ensures.bytes found are) in
    subst (λ (frames : Option IdList). WritesText old new r
    (places_text found threads rows (frames_in (option_map identifiers_of frames)))) (sym c.in-None.is)
    (subst (WritesText old new r) (no_places found threads rows) all)
