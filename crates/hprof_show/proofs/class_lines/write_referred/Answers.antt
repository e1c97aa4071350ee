use Rattle.std.proofs.Common.{◌++◌, codes, subst}
use Rattle.std.proofs.lemmas.Result.{err_from_is_err_and}
use Rattle.hprof_heap.specs.ClassDump.{class_value}
use Rattle.hprof_lines.specs.Stopping.{WritesText}
use Rattle.hprof_lines.proofs.TextWriting.{text_stops, text_then}
use Rattle.hprof_show.proofs.Regrouped.{four}
use Rattle.hprof_show.specs.ClassLines.{named_line, referred_text}
use Rattle.hprof_show.proofs.class_lines.write_referred.Goals as goal

pub returns-in_err-write_line-clause-bytes : goal.returns-in_err-write_line-clause-bytes
unfolding referred_text
returns-in_err-write_line-clause-bytes g c = λ found is.
    let dump = class_value c.args.dump.now in
    let parent = named_line found (codes "super") dump.parent in
    let loader = named_line found (codes "loader") dump.loader in
    let signers = named_line found (codes "signers") dump.signers in
    let domain = named_line found (codes "domain") dump.domain in
    let r = c.from_residual.result in
    let old = g.W.Target.written c.args.target.now in
    let after_parent = g.W.Target.written c.write_line.new.target in
    let p = err_from_is_err_and r c.from_residual.ensures.1 in
    subst (WritesText old after_parent r) (four parent loader signers domain)
    (text_stops r old after_parent p.0 parent (loader ++ (signers ++ domain)) p.1
    (c.in_err-write_line.ensures.bytes parent (c.named_line.ensures found is)))

pub returns-in_err-write_line-2-clause-bytes : goal.returns-in_err-write_line-2-clause-bytes
unfolding referred_text
returns-in_err-write_line-2-clause-bytes g c = λ found is.
    let dump = class_value c.args.dump.now in
    let parent = named_line found (codes "super") dump.parent in
    let loader = named_line found (codes "loader") dump.loader in
    let signers = named_line found (codes "signers") dump.signers in
    let domain = named_line found (codes "domain") dump.domain in
    let r = c.from_residual-in_err-write_line-2.result in
    let old = g.W.Target.written c.args.target.now in
    let after_parent = g.W.Target.written c.write_line.new.target in
    let after_loader = g.W.Target.written c.write_line-2.new.target in
    let p = err_from_is_err_and r c.from_residual-in_err-write_line-2.ensures.1 in
    subst (WritesText old after_loader r) (four parent loader signers domain)
    (text_then r old after_parent after_loader parent (loader ++ (signers ++ domain))
    (c.in_ok-write_line.ensures.bytes parent (c.named_line.ensures found is))
    (text_stops r after_parent after_loader p.0 loader (signers ++ domain) p.1
    (c.in_err-write_line-2.ensures.bytes loader (c.named_line-2.ensures found is))))

pub returns-in_err-write_line-3-clause-bytes : goal.returns-in_err-write_line-3-clause-bytes
unfolding referred_text
returns-in_err-write_line-3-clause-bytes g c = λ found is.
    let dump = class_value c.args.dump.now in
    let parent = named_line found (codes "super") dump.parent in
    let loader = named_line found (codes "loader") dump.loader in
    let signers = named_line found (codes "signers") dump.signers in
    let domain = named_line found (codes "domain") dump.domain in
    let r = c.from_residual-in_err-write_line-3.result in
    let old = g.W.Target.written c.args.target.now in
    let after_parent = g.W.Target.written c.write_line.new.target in
    let after_loader = g.W.Target.written c.write_line-2.new.target in
    let after_signers = g.W.Target.written c.write_line-3.new.target in
    let p = err_from_is_err_and r c.from_residual-in_err-write_line-3.ensures.1 in
    subst (WritesText old after_signers r) (four parent loader signers domain)
    (text_then r old after_parent after_signers parent (loader ++ (signers ++ domain))
    (c.in_ok-write_line.ensures.bytes parent (c.named_line.ensures found is))
    (text_then r after_parent after_loader after_signers loader (signers ++ domain)
    (c.in_ok-write_line-2.ensures.bytes loader (c.named_line-2.ensures found is))
    (text_stops r after_loader after_signers p.0 signers domain p.1
    (c.in_err-write_line-3.ensures.bytes signers (c.named_line-3.ensures found is)))))

pub returns-clause-bytes : goal.returns-clause-bytes
unfolding referred_text
returns-clause-bytes g c = λ found is.
    let dump = class_value c.args.dump.now in
    let parent = named_line found (codes "super") dump.parent in
    let loader = named_line found (codes "loader") dump.loader in
    let signers = named_line found (codes "signers") dump.signers in
    let domain = named_line found (codes "domain") dump.domain in
    let r = c.write_line-4.result in
    let old = g.W.Target.written c.args.target.now in
    let after_parent = g.W.Target.written c.write_line.new.target in
    let after_loader = g.W.Target.written c.write_line-2.new.target in
    let after_signers = g.W.Target.written c.write_line-3.new.target in
    let after_domain = g.W.Target.written c.write_line-4.new.target in
    subst (WritesText old after_domain r) (four parent loader signers domain)
    (text_then r old after_parent after_domain parent (loader ++ (signers ++ domain))
    (c.in_ok-write_line.ensures.bytes parent (c.named_line.ensures found is))
    (text_then r after_parent after_loader after_domain loader (signers ++ domain)
    (c.in_ok-write_line-2.ensures.bytes loader (c.named_line-2.ensures found is))
    (text_then r after_loader after_signers after_domain signers domain
    (c.in_ok-write_line-3.ensures.bytes signers (c.named_line-3.ensures found is))
    (c.write_line-4.ensures.bytes domain (c.named_line-4.ensures found is)))))
