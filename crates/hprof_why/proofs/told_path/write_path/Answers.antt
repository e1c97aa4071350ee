use Rattle.std.proofs.Common.{◌++◌, sym, ap, subst, ◌∙◌, codes}
use Rattle.std.specs.Io.KnownBytes.{Appends}
use Rattle.std.proofs.lemmas.Result.{err_from_is_err_and}
use Rattle.hprof_devices.proofs.Writes.{WritesFront}
use Rattle.hprof_heap.specs.HeapFacts.{facts_of, size_of}
use Rattle.hprof_edges.specs.LeftOut.{IsKept, fields_in}
use Rattle.hprof_reports.specs.PathText.{distance_line}
use Rattle.hprof_lines.specs.Stopping.{WritesText}
use Rattle.hprof_lines.proofs.TextWriting.{text_stops, text_then}
use Rattle.hprof_describe.specs.Nodes.{node_text}
use Rattle.hprof_holders.specs.RootsText.{roots_text}
use Rattle.hprof_why.proofs.Telling.{told_pieces}
use Rattle.hprof_why.proofs.told_path.write_path.Goals as goal

pub returns-in_err-write_line-clause-bytes : goal.returns-in_err-write_line-clause-bytes
returns-in_err-write_line-clause-bytes g c = λ found text are told.
    let ids = size_of c.args.view.heap.now in
    let facts = facts_of c.args.view.heap.now in
    let path = c.args.path.now in
    let first = c.in-Some.first.now in
    let roots = c.in_ok-roots.roots.items in
    let pieces = told_pieces (IsKept (fields_in c.args.left_out.now) facts) ids facts found path.distance path.nodes.items text first
    c.in-Some.rest.now roots told (sym c.deref.ensures.value ∙ c.in-Some.ensures.cases.0) c.in_ok-roots.ensures in
    let r = c.from_residual-in_err-write_line in
    let p = err_from_is_err_and r.result r.ensures.1 in
    let old = g.W.Target.written c.args.target.now in
    let new = g.W.Target.written c.write_line.new.target in
    let node = node_text found.nodes first ++ codes "\n" in
    subst (WritesText old new r.result) (sym pieces.2)
    (text_stops r.result old new p.0 (distance_line path.distance) (roots_text found.nodes found.threads roots ++ (node ++ pieces.0)) p.1
    (c.in_err-write_line.ensures.bytes (distance_line path.distance) c.distance_line.ensures))

pub returns-in_err-write_roots-clause-bytes : goal.returns-in_err-write_roots-clause-bytes
returns-in_err-write_roots-clause-bytes g c = λ found text are told.
    let ids = size_of c.args.view.heap.now in
    let facts = facts_of c.args.view.heap.now in
    let path = c.args.path.now in
    let first = c.in-Some.first.now in
    let roots = c.in_ok-roots.roots.items in
    let pieces = told_pieces (IsKept (fields_in c.args.left_out.now) facts) ids facts found path.distance path.nodes.items text first
    c.in-Some.rest.now roots told (sym c.deref.ensures.value ∙ c.in-Some.ensures.cases.0) c.in_ok-roots.ensures in
    let r = c.from_residual-in_err-write_roots in
    let p = err_from_is_err_and r.result r.ensures.1 in
    let old = g.W.Target.written c.args.target.now in
    let mid = g.W.Target.written c.write_line.new.target in
    let new = g.W.Target.written c.write_roots.new.target in
    let node = node_text found.nodes first ++ codes "\n" in
    let lines = roots_text found.nodes found.threads roots in
    subst (WritesText old new r.result) (sym pieces.2)
    (text_then r.result old mid new (distance_line path.distance) (lines ++ (node ++ pieces.0))
    (c.in_ok-write_line.ensures.bytes (distance_line path.distance) c.distance_line.ensures)
    (text_stops r.result mid new p.0 lines (node ++ pieces.0) p.1
    (subst (WritesFront mid new) (ap (roots_text found.nodes found.threads) c.deref-2.ensures.value)
    (c.in_err-write_roots.ensures.bytes found.nodes found.threads are.are_nodes are.are_threads))))

pub returns-in_err-write_line-2-clause-bytes : goal.returns-in_err-write_line-2-clause-bytes
returns-in_err-write_line-2-clause-bytes g c = λ found text are told.
    let ids = size_of c.args.view.heap.now in
    let facts = facts_of c.args.view.heap.now in
    let path = c.args.path.now in
    let first = c.in-Some.first.now in
    let roots = c.in_ok-roots.roots.items in
    let pieces = told_pieces (IsKept (fields_in c.args.left_out.now) facts) ids facts found path.distance path.nodes.items text first
    c.in-Some.rest.now roots told (sym c.deref.ensures.value ∙ c.in-Some.ensures.cases.0) c.in_ok-roots.ensures in
    let r = c.from_residual-in_err-write_line-2 in
    let p = err_from_is_err_and r.result r.ensures.1 in
    let old = g.W.Target.written c.args.target.now in
    let one = g.W.Target.written c.write_line.new.target in
    let two = g.W.Target.written c.write_roots.new.target in
    let new = g.W.Target.written c.write_line-2.new.target in
    let node = node_text found.nodes first ++ codes "\n" in
    let lines = roots_text found.nodes found.threads roots in
    subst (WritesText old new r.result) (sym pieces.2)
    (text_then r.result old one new (distance_line path.distance) (lines ++ (node ++ pieces.0))
    (c.in_ok-write_line.ensures.bytes (distance_line path.distance) c.distance_line.ensures)
    (text_then r.result one two new lines (node ++ pieces.0)
    (subst (Appends one two) (ap (roots_text found.nodes found.threads) c.deref-2.ensures.value)
    (c.in_ok-write_roots.ensures.bytes found.nodes found.threads are.are_nodes are.are_threads))
    (text_stops r.result two new p.0 node pieces.0 p.1
    (c.in_err-write_line-2.ensures.bytes node (c.node_line.ensures found.nodes are.are_nodes)))))

pub returns-clause-bytes : goal.returns-clause-bytes
returns-clause-bytes g c = λ found text are told.
    let ids = size_of c.args.view.heap.now in
    let facts = facts_of c.args.view.heap.now in
    let path = c.args.path.now in
    let first = c.in-Some.first.now in
    let roots = c.in_ok-roots.roots.items in
    let pieces = told_pieces (IsKept (fields_in c.args.left_out.now) facts) ids facts found path.distance path.nodes.items text first
    c.in-Some.rest.now roots told (sym c.deref.ensures.value ∙ c.in-Some.ensures.cases.0) c.in_ok-roots.ensures in
    let r = c.write_parts.result in
    let old = g.W.Target.written c.args.target.now in
    let one = g.W.Target.written c.write_line.new.target in
    let two = g.W.Target.written c.write_roots.new.target in
    let three = g.W.Target.written c.write_line-2.new.target in
    let new = g.W.Target.written c.write_parts.new.target in
    let node = node_text found.nodes first ++ codes "\n" in
    let lines = roots_text found.nodes found.threads roots in
    subst (WritesText old new r) (sym pieces.2)
    (text_then r old one new (distance_line path.distance) (lines ++ (node ++ pieces.0))
    (c.in_ok-write_line.ensures.bytes (distance_line path.distance) c.distance_line.ensures)
    (text_then r one two new lines (node ++ pieces.0)
    (subst (Appends one two) (ap (roots_text found.nodes found.threads) c.deref-2.ensures.value)
    (c.in_ok-write_roots.ensures.bytes found.nodes found.threads are.are_nodes are.are_threads))
    (text_then r two three new node pieces.0
    (c.in_ok-write_line-2.ensures.bytes node (c.node_line.ensures found.nodes are.are_nodes))
    (c.write_parts.ensures.bytes found pieces.0 are pieces.1))))
