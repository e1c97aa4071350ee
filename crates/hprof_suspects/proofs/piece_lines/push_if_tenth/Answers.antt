use Rattle.std.proofs.Common.{◌≡◌, ◌+◌, ◌∙◌, refl, sym, subst, arith, slice_index}
use Rattle.std.proofs.lemmas.Bool.{both_ways}
use Rattle.std.proofs.lemmas.Grind.{get_or_default_zero}
use Rattle.hprof_suspects.specs.LabelSums.{AreLinesTo}
use Rattle.hprof_suspects.proofs.PieceOrder.{line_more, no_pieces, too_small}
use Rattle.hprof_suspects.proofs.piece_lines.push_if_tenth.Goals as goal

pub returns-then-count-eq0 : goal.returns-then-count-eq0
returns-then-count-eq0 c =
    let bytes = c.args.sums.now.bytes.items in
    let counts = c.args.sums.now.counts.items in
    let count : c.index-count.result.now ≡ slice_index counts c.args.label =
    c.index-count.ensures ∙ get_or_default_zero counts c.args.label c.index-count.result.now c.requires.counts in
    no_pieces bytes counts c.args.pieces c.args.label c.args.lines.now.items c.requires.before (sym count ∙ c.if-count-eq0.true)

pub returns-then-not-is_tenth : goal.returns-then-not-is_tenth
returns-then-not-is_tenth c =
    let bytes = c.args.sums.now.bytes.items in
    let counts = c.args.sums.now.counts.items in
    let sum : c.index-bytes.result.now ≡ slice_index bytes c.args.label =
    c.index-bytes.ensures ∙ get_or_default_zero bytes c.args.label c.index-bytes.result.now c.requires.bytes in
    too_small bytes counts c.args.pieces c.args.label c.args.lines.now.items c.requires.before
    (λ enough. both_ways c.is_tenth.result c.if-not-is_tenth.true (c.is_tenth.ensures.1 (omega (arith, enough, sum))))

pub returns : goal.returns
returns c =
    let bytes = c.args.sums.now.bytes.items in
    let counts = c.args.sums.now.counts.items in
    let sum : c.index-bytes.result.now ≡ slice_index bytes c.args.label =
    c.index-bytes.ensures ∙ get_or_default_zero bytes c.args.label c.index-bytes.result.now c.requires.bytes in
    let count : c.index-count.result.now ≡ slice_index counts c.args.label =
    c.index-count.ensures ∙ get_or_default_zero counts c.args.label c.index-count.result.now c.requires.counts in
    subst (AreLinesTo bytes counts c.args.pieces (c.args.label + 1)) (sym c.in_ok-push.ensures.items)
    (line_more bytes counts c.args.pieces c.args.label c.args.lines.now.items c.requires.before
    (record { label = c.args.label; bytes = c.index-bytes.result.now; count = c.index-count.result.now }) refl (record {
      before = omega arith;
      bytes_are = sum;
      count_is = count;
      some = c.if-count-eq0.false;
      enough = c.is_tenth.ensures.0 c.if-not-is_tenth.false;
    }))
