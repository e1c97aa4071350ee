use Rattle.std.proofs.Common.{◌∷◌, []}
use Rattle.std.proofs.lemmas.Bool.Decides.{Decides-eqb}
use Rattle.std.proofs.lemmas.Slice.Eq.{strip_suffix_is}
use Rattle.hprof_naming.proofs.Pairs.{all_dropped, one_dropped}
use Rattle.hprof_naming.proofs.meant_label.split_pairs.Goals as goal

pub loop-front-preserved : goal.loop-front-preserved
loop-front-preserved c =
    let told = strip_suffix_is Decides-eqb c.loop-front.text.now (91 ∷ 93 ∷ []) c.strip_suffix.result c.strip_suffix.ensures.cases in
    one_dropped c.args.word.now c.loop-front.text.now c.in-Some.front.now c.loop-front.pairs c.loop-front.invariant.0
    (rw c.in-Some.is at told)

pub returns-clause-text : goal.returns-clause-text
returns-clause-text c =
    let told = strip_suffix_is Decides-eqb c.loop-front.text.now (91 ∷ 93 ∷ []) c.strip_suffix.result c.strip_suffix.ensures.cases in
    (all_dropped c.args.word.now c.loop-front.text.now c.loop-front.pairs c.loop-front.invariant.0 (rw c.in_default.is at told)).0

pub returns-clause-pairs : goal.returns-clause-pairs
returns-clause-pairs c =
    let told = strip_suffix_is Decides-eqb c.loop-front.text.now (91 ∷ 93 ∷ []) c.strip_suffix.result c.strip_suffix.ensures.cases in
    (all_dropped c.args.word.now c.loop-front.text.now c.loop-front.pairs c.loop-front.invariant.0 (rw c.in_default.is at told)).1
