use Rattle.std.proofs.Common.{[], codes}
use Rattle.hprof_histogram.proofs.Members.{Contains-from_in}
use Rattle.hprof_words.proofs.WordsInAll.{node_in_all}
use Rattle.hprof_keeps.proofs.NamedNodes.{lines_same}
use Rattle.hprof_keeps.proofs.laws.lines_depend_on_few_objects.Goals as goal

pub returns-clause-above : goal.returns-clause-above
returns-clause-above c = λ ids wanted all small one other agree is are too sums nodes words.
    lines_same one other sums [] nodes
    (λ node has. node_in_all ids wanted all small agree is one other are too node (words node (Contains-from_in nodes node has)))

pub returns-clause-children : goal.returns-clause-children
returns-clause-children c = λ ids wanted all small one other agree is are too sums nodes words.
    lines_same one other sums (codes "  ") nodes
    (λ node has. node_in_all ids wanted all small agree is one other are too node (words node (Contains-from_in nodes node has)))
