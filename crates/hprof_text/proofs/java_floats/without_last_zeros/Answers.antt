use Rattle.std.proofs.Common.{◌≡◌, ◌++◌, ◌∷◌, [], length, length-append, arith, rules, sym, ap, ◌∙◌}
use Rattle.std.proofs.lemmas.Str.Pattern.{strip_suffix_char}
use Rattle.hprof_text.specs.JavaFloats.{without_last_zeros}
use Rattle.hprof_text.proofs.LastZeros.{without_last_zeros-push, without_last_zeros-same}
use Rattle.hprof_text.proofs.java_floats.without_last_zeros.Goals as goal

pub loop-front-preserved : goal.loop-front-preserved
loop-front-preserved c =
    let kept = c.loop-front.kept.now in
    let front = c.in-Some.front.now in
    let found = strip_suffix_char 48 kept c.strip_suffix.result c.strip_suffix.ensures.cases (omega arith) in
    let split : kept ≡ front ++ 48 ∷ [] = rw c.in-Some.is at found in
    let counted = ap length split ∙ length-append front (48 ∷ []) in
    record {
      utf8 = search rules;
      same = sym (without_last_zeros-push front) ∙ sym (ap without_last_zeros split) ∙ c.loop-front.invariant.same;
      shorter = let before = c.loop-front.invariant.shorter in omega (arith, counted);
    }

pub returns-clause-text : goal.returns-clause-text
returns-clause-text c =
    let kept = c.loop-front.kept.now in
    let found = strip_suffix_char 48 kept c.strip_suffix.result c.strip_suffix.ensures.cases (omega arith) in
    let ends = rw c.in_default.is at found in
    sym (without_last_zeros-same kept ends) ∙ c.loop-front.invariant.same
