use Rattle.hprof_words.proofs.WordsInAll.{kind_in_all, node_in_all, object_words_in_all, reference_in_all}
use Rattle.hprof_words.proofs.laws.words_depend_on_few_objects.Goals as goal

pub returns-clause-kind : goal.returns-clause-kind
returns-clause-kind c = λ ids wanted all small one other agree is are are_too id has.
    kind_in_all ids wanted all small agree is one other are are_too id has

pub returns-clause-node : goal.returns-clause-node
returns-clause-node c = λ ids wanted all small one other agree is are are_too id has.
    node_in_all ids wanted all small agree is one other are are_too id has

pub returns-clause-reference : goal.returns-clause-reference
returns-clause-reference c = λ ids wanted all small one other agree is are are_too id has.
    reference_in_all ids wanted all small agree is one other are are_too id has

pub returns-clause-object : goal.returns-clause-object
returns-clause-object c = λ ids wanted all small one other agree is are are_too id has fact.
    object_words_in_all ids wanted all small agree is one other are are_too id has fact
