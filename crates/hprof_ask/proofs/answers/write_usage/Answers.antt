use Rattle.std.proofs.lemmas.Result.{err_from_is_err_and}
use Rattle.hprof_lines.proofs.TextWriting.{text_stops, text_then}
use Rattle.hprof_lines.specs.Stopping.{WritesText}
use Rattle.std.proofs.Common.{◌≡◌, ◌∙◌, ap, subst}
use Rattle.std.specs.Io.KnownBytes.{Appends}
use Rattle.hprof_questions.specs.Words.{follows_of, follows_text, word_of}
use Rattle.hprof_ask.proofs.answers.write_usage.Goals as goal

pub returns-in_err-write_str-clause-bytes : goal.returns-in_err-write_str-clause-bytes
returns-in_err-write_str-clause-bytes g c =
    let p = err_from_is_err_and c.from_residual.result c.from_residual.ensures.1 in
    text_stops c.from_residual.result (g.W.Target.written c.args.target.now) (g.W.Target.written c.write_str.new.target) p.0
    (word_of c.args.word) (follows_text (follows_of c.args.word)) p.1 (rw c.row-row.ensures.word at c.in_err-write_str.ensures.bytes)

pub returns-clause-bytes : goal.returns-clause-bytes
returns-clause-bytes g c =
    let old = g.W.Target.written c.args.target.now in
    let mid = g.W.Target.written c.write_str.new.target in
    let new = g.W.Target.written c.write_str-2.new.target in
    let first : Appends old mid (word_of c.args.word) = subst (Appends old mid) c.row-row.ensures.word c.in_ok-write_str.ensures.bytes in
    let behind : c.follows_text.result.now ≡ follows_text (follows_of c.args.word) =
    c.follows_text.ensures ∙ ap follows_text c.row-row.ensures.follows in
    text_then c.write_str-2.result old mid new (word_of c.args.word) (follows_text (follows_of c.args.word)) first
    (subst (WritesText mid new c.write_str-2.result) behind c.write_str-2.ensures.bytes)
