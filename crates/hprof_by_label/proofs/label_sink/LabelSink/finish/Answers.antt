use Rattle.std.proofs.Common.{◌∙◌, sym}
use Rattle.hprof_by_label.proofs.TakenLabels.{texts_apart}
use Rattle.hprof_by_label.proofs.label_sink.LabelSink.finish.Goals as goal

pub invariant_of-result : goal.invariant_of-result
invariant_of-result c =
    let sink = c.args.self in
    let sound = sink.sound c.if-failed.false in
    record {
      within = sound.1;
      apart = texts_apart sink.labelling.texts sound.0.numbered;
      sized = sink.sized ∙ sym sink.as_many;
    }
