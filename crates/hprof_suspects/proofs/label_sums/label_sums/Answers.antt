use Rattle.std.proofs.Common.{◌≡◌, ◌<◌, ◌+◌, ◌∙◌, ℕ, List, Global, Vec, ap, length, replicate, rules, slice_index, slice_set, sym, subst}
use Rattle.std.proofs.Common.{subst₂, arith}
use Rattle.std.proofs.lemmas.Bool.{both_ways}
use Rattle.std.proofs.lemmas.Grind.{get_or_default_zero}
use Rattle.std.proofs.lemmas.List.{length-replicate}
use Rattle.std.proofs.Math.ListN.{length-set}
use Rattle.hprof_numbers.specs.Numbers.{items_in}
use Rattle.hprof_retained.specs.Tree.{count_of, sum_at}
use Rattle.hprof_by_label.specs.Labels.{label_at, label_count}
use Rattle.hprof_suspects.proofs.LabelSumsSoFar.{AreLabelSumsTo, few_begin, few_more, labels_begin, labels_end, labels_fit, labels_more}
use Rattle.hprof_suspects.proofs.LabelSumsSoFar.{labels_same}
use Rattle.hprof_suspects.proofs.label_sums.label_sums.Goals as goal
use Rattle.hprof_suspects.proofs.label_sums.label_sums.Goals.{then-is_piece, else-is_piece}

pub loop-place-init : goal.loop-place-init
loop-place-init c =
    let labels = c.args.labels.now in
    let bytes : c.in_ok-bytes.bytes.items ≡ replicate c.len.result 0 = search rules in
    let counts : c.in_ok-counts.counts.items ≡ replicate c.len-2.result 0 = search rules in
    let bytes_are = bytes ∙ ap (λ n. replicate n 0) c.len.ensures in
    let counts_are = counts ∙ ap (λ n. replicate n 0) c.len-2.ensures in
    record {
      as_many = ap length bytes_are ∙ length-replicate (label_count labels) 0;
      as_many_counts = ap length counts_are ∙ length-replicate (label_count labels) 0;
      few = few_begin c.in_ok-counts.counts.items (label_count labels) counts_are;
      sums = λ ids facts agree tree labelled heads parts. labels_begin ids facts agree c.args.retained.now tree
          labels labelled (items_in c.args.heads.now) heads c.args.parts.now.items parts c.args.part
          c.requires.within c.in_ok-bytes.bytes.items c.in_ok-counts.counts.items bytes_are counts_are;
    }

pub overflow_add-index_mut : goal.overflow_add-index_mut
overflow_add-index_mut c =
    let counts = c.loop-place.counts.items in
    let within = c.number-label.ensures.within in
    let many = c.loop-place.invariant.as_many_counts in
    let at = c.index_mut-then-is_piece.ensures.value
    ∙ get_or_default_zero counts c.number-label.result c.index_mut-then-is_piece.result.now (omega (arith, many, within)) in
    let few = c.loop-place.invariant.few c.number-label.result within in
    omega (arith, at, few, c.loop-place-test.true, c.len-place-end.type_inv)

pub loop-place-preserved : goal.loop-place-preserved
loop-place-preserved c =
    let retained = c.args.retained.now in
    let labels = c.args.labels.now in
    let heads = items_in c.args.heads.now in
    let parts = c.args.parts.now.items in
    let part = c.args.part in
    let place = c.loop-place.place in
    let bytes = c.loop-place.bytes.items in
    let counts = c.loop-place.counts.items in
    let so = c.loop-place.invariant in
    let some : 0 < place = let one = c.loop-place.auto.place in omega arith in
    let low : place < count_of retained = omega (arith, c.loop-place-test.true, c.len-place-end.ensures) in
    let label = label_at labels place in
    let many = so.as_many in
    let many_counts = so.as_many_counts in
    elim c.if-is_piece.branch [
      | then-is_piece w ↦
          let piece = c.is_piece.ensures.0 w.if-is_piece.true in
          let same : w.number-label.result ≡ label = w.number-label.ensures.value in
          let within : label < label_count labels = omega (arith, same, w.number-label.ensures.within) in
          let bytes_at : w.index.result.now ≡ slice_index bytes label = w.index.ensures
          ∙ get_or_default_zero bytes w.number-label.result w.index.result.now (omega (arith, same, many, within))
          ∙ ap (slice_index bytes) same in
          let counts_at : w.index_mut-then-is_piece.result.now ≡ slice_index counts label = w.index_mut-then-is_piece.ensures.value
          ∙ get_or_default_zero counts w.number-label.result w.index_mut-then-is_piece.result.now (omega (arith, same, many_counts, within))
          ∙ ap (slice_index counts) same in
          let new : c.if-is_piece.bytes.items ≡ slice_set bytes label w.min.result =
          ap (λ (v : Vec ℕ Global). v.items) w.bytes-is ∙ ap (λ l. slice_set bytes l w.min.result) same in
          let new_counts : c.if-is_piece.counts.items ≡ slice_set counts label (slice_index counts label + 1) =
          ap (λ (v : Vec ℕ Global). v.items) w.counts-is ∙ (λ i. slice_set counts (same i) (counts_at i + 1)) in
          record {
            as_many = ap length new ∙ length-set bytes label w.min.result ∙ many;
            as_many_counts = ap length new_counts ∙ length-set counts label (slice_index counts label + 1) ∙ many_counts;
            few = λ other other_low.
                subst (λ (n : List ℕ). slice_index n other < place + 1) (sym new_counts)
                (few_more counts label place (omega (arith, many_counts, within))
                (λ l l_low. so.few l (omega (arith, many_counts, l_low))) other (omega (arith, many_counts, other_low)));
            sums = λ ids facts agree tree labelled are marked.
                let before = so.sums ids facts agree tree labelled are marked in
                let fits = labels_fit ids facts agree retained tree labels labelled heads are parts marked part c.requires.within
                bytes counts place before some low piece in
                let sum : w.min.result ≡ slice_index bytes label + (sum_at retained place).bytes =
                omega (
                  arith,
                  fits,
                  bytes_at,
                  w.bytes.ensures,
                  w.saturating_add-sum.ensures,
                  w.min.ensures,
                  c.bytes-most.ensures,
                  c.bytes-most.type_inv,
                ) in
                subst₂ (λ b n. AreLabelSumsTo ids facts retained labels heads parts part b n (place + 1))
                (ap (slice_set bytes label) (sym sum) ∙ sym new) (sym new_counts)
                (labels_more ids facts agree retained tree labels labelled heads are parts marked part c.requires.within
                bytes counts place before some low piece);
          }
      | else-is_piece w ↦
          let same_bytes = sym (ap (λ (v : Vec ℕ Global). v.items) w.bytes-is) in
          let same_counts = sym (ap (λ (v : Vec ℕ Global). v.items) w.counts-is) in
          record {
            as_many = sym (ap length same_bytes) ∙ many;
            as_many_counts = sym (ap length same_counts) ∙ many_counts;
            few = λ other other_low.
                subst (λ (n : List ℕ). slice_index n other < place + 1) same_counts
                (let few = so.few other other_low in omega arith);
            sums = λ ids facts agree tree labelled are marked.
                subst₂ (λ b n. AreLabelSumsTo ids facts retained labels heads parts part b n (place + 1)) same_bytes same_counts
                (labels_same ids facts agree retained tree labels labelled heads are parts marked part c.requires.within
                bytes counts place (so.sums ids facts agree tree labelled are marked)
                (λ piece. both_ways c.is_piece.result w.if-is_piece.false (c.is_piece.ensures.1 piece)));
          }
    ]

pub returns-clause-bytes : goal.returns-clause-bytes
returns-clause-bytes c = c.loop-place.invariant.as_many

pub returns-clause-counts : goal.returns-clause-counts
returns-clause-counts c = c.loop-place.invariant.as_many_counts

pub returns-clause-sums : goal.returns-clause-sums
returns-clause-sums c = λ ids facts agree tree labelled heads parts.
    labels_end ids facts agree c.args.retained.now tree c.args.labels.now labelled (items_in c.args.heads.now) heads
    c.args.parts.now.items parts c.args.part c.requires.within c.loop-place.bytes.items c.loop-place.counts.items c.loop-place.place
    (omega (arith, c.loop-place-test.false, c.len-place-end.ensures, c.loop-place.auto.place-end, c.args.retained.now.numbered.some))
    (c.loop-place.invariant.sums ids facts agree tree labelled heads parts)
