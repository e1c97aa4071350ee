use Rattle.std.proofs.Common.{◌≡◌, ◌-◌, length, take, rules}
use Rattle.hprof_scratch.proofs.Sizes.{cut_before, cut_nowhere, last_code}
use Rattle.hprof_scratch.proofs.size.split_suffix.Goals as goal

pub returns-in-Some-bytes_of-clause-only : goal.returns-in-Some-bytes_of-clause-only
returns-in-Some-bytes_of-clause-only c digits suffix bytes numeral suffix_is parts =
    let front : c.range.result.now ≡ take (length c.args.text.now - 1) c.args.text.now = search rules in
    let last : c.in-Some.letter.now ≡ last_code c.args.text.now = search rules in
    rw front
    (cut_before c.args.text.now digits suffix bytes c.in-Some.letter.now c.in-Some-bytes_of.bytes last c.in-Some-bytes_of.ensures numeral
    suffix_is parts)

pub returns-in-None-clause-only : goal.returns-in-None-clause-only
returns-in-None-clause-only c digits suffix bytes numeral suffix_is parts =
    let last : c.in-Some.letter.now ≡ last_code c.args.text.now = search rules in
    cut_nowhere c.args.text.now digits suffix bytes c.in-Some.letter.now last c.in-None.ensures suffix_is parts
