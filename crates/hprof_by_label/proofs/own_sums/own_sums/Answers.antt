use Rattle.std.proofs.Common.{◌≡◌, ◌<◌, ◌∙◌, ◌+◌, ℕ, Global, Vec, ap, length, rules, replicate, sym, subst₂, arith, slice_index}
use Rattle.std.proofs.Common.{slice_set}
use Rattle.std.proofs.lemmas.Grind.{get_or_default_zero}
use Rattle.hprof_numbers.specs.Numbered.{nodes_in}
use Rattle.hprof_numbers.specs.declared.numbered.Numbered.{Numbered}
use Rattle.hprof_retained.specs.Retained.{IsSizeOf}
use Rattle.hprof_by_label.specs.Labels.{label_at, label_count, size_at}
use Rattle.hprof_by_label.proofs.Labelled.{numbered_place, numbered_place_node}
use Rattle.hprof_by_label.proofs.OwnSoFar.{AreCountedTo, AreOwnTo, counted_begin, counted_more, counted_none, own_begin, own_end}
use Rattle.hprof_by_label.proofs.OwnSoFar.{own_more, own_more_none}
use Rattle.hprof_by_label.proofs.own_sums.own_sums.Goals as goal
use Rattle.hprof_by_label.proofs.own_sums.own_sums.Goals.{then-place-ne0, else-place-ne0}

pub loop-number-init : goal.loop-number-init
loop-number-init c =
    let bytes : c.in_ok-bytes.bytes.items ≡ replicate c.len.result 0 = search rules in
    let counts : c.in_ok-counts.counts.items ≡ replicate c.len-2.result 0 = search rules in
    let bytes_are = bytes ∙ ap (λ n. replicate n 0) c.len.ensures in
    let counts_are = counts ∙ ap (λ n. replicate n 0) c.len-2.ensures in
    record {
      counted = counted_begin c.args.labels.now c.in_ok-bytes.bytes.items c.in_ok-counts.counts.items bytes_are counts_are;
      own = λ ids facts tree sizes. own_begin ids facts c.args.retained.now c.args.labels.now c.in_ok-bytes.bytes.items
          c.in_ok-counts.counts.items bytes_are counts_are;
    }

pub overflow_add-index_mut : goal.overflow_add-index_mut
overflow_add-index_mut c =
    let so = c.loop-number.invariant.counted in
    let within = c.number-label.ensures.within in
    let many = so.as_many in
    let at = c.index_mut.ensures.value
    ∙ get_or_default_zero c.loop-number.bytes.items c.number-label.result c.index_mut.result.now (omega (arith, many, within)) in
    let small = so.small c.number-label.result within in
    omega (arith, at, small, c.size.type_inv, c.loop-number-test.true, c.len-number-end.type_inv)

pub overflow_add-index_mut-then-place-ne0 : goal.overflow_add-index_mut-then-place-ne0
overflow_add-index_mut-then-place-ne0 c =
    let so = c.loop-number.invariant.counted in
    let within = c.number-label.ensures.within in
    let many = so.as_many_counts in
    let at = c.index_mut-then-place-ne0.ensures.value
    ∙ get_or_default_zero c.loop-number.counts.items c.number-label.result c.index_mut-then-place-ne0.result.now
    (omega (arith, many, within)) in
    let few = so.few c.number-label.result within in
    omega (arith, at, few, c.loop-number-test.true, c.len-number-end.type_inv)

pub loop-number-preserved : goal.loop-number-preserved
loop-number-preserved c =
    let retained = c.args.retained.now in
    let labels = c.args.labels.now in
    let number = c.loop-number.number in
    let bytes = c.loop-number.bytes.items in
    let counts = c.loop-number.counts.items in
    let so = c.loop-number.invariant.counted in
    let place : c.place_by_number-place.result ≡ numbered_place retained number = c.place_by_number-place.ensures in
    elim c.if-place-ne0.branch [
      | then-place-ne0 w ↦
          let some : 0 < numbered_place retained number = omega (arith, w.if-place-ne0.true, place) in
          let low = (retained.numbered.new number some).0 in
          let label = label_at labels (numbered_place retained number) in
          let same : w.number-label.result ≡ label = w.number-label.ensures.value ∙ ap (label_at labels) place in
          let within : label < label_count labels = omega (arith, same, w.number-label.ensures.within) in
          let many = so.as_many in
          let many_counts = so.as_many_counts in
          let bytes_at : w.index_mut.result.now ≡ slice_index bytes label = w.index_mut.ensures.value
          ∙ get_or_default_zero bytes w.number-label.result w.index_mut.result.now (omega (arith, same, many, within))
          ∙ ap (slice_index bytes) same in
          let counts_at : w.index_mut-then-place-ne0.result.now ≡ slice_index counts label = w.index_mut-then-place-ne0.ensures.value
          ∙ get_or_default_zero counts w.number-label.result w.index_mut-then-place-ne0.result.now
          (omega (arith, same, many_counts, within))
          ∙ ap (slice_index counts) same in
          let size : w.size.result ≡ size_at labels (numbered_place retained number) = w.size.ensures ∙ ap (size_at labels) place in
          let new_bytes : c.if-place-ne0.bytes.items ≡ slice_set bytes label (slice_index bytes label + w.size.result) =
          ap (λ (v : Vec ℕ Global). v.items) w.bytes-is ∙ (λ i. slice_set bytes (same i) (bytes_at i + w.size.result)) in
          let new_counts : c.if-place-ne0.counts.items ≡ slice_set counts label (slice_index counts label + 1) =
          ap (λ (v : Vec ℕ Global). v.items) w.counts-is ∙ (λ i. slice_set counts (same i) (counts_at i + 1)) in
          record {
            counted = subst₂ (λ b n. AreCountedTo labels b n (number + 1)) (sym new_bytes) (sym new_counts)
                (counted_more labels bytes counts number so label w.size.result within w.size.type_inv);
            own = λ ids facts tree sizes.
                let is_size = subst₂ (IsSizeOf ids facts) (numbered_place_node retained number some) (sym size)
                (sizes (numbered_place retained number) some low) in
                subst₂ (λ b n. AreOwnTo ids facts retained labels b n (number + 1)) (sym new_bytes) (sym new_counts)
                (own_more ids facts retained labels bytes counts number w.size.result tree so (c.loop-number.invariant.own ids facts tree
                sizes) some within is_size);
          }
      | else-place-ne0 w ↦
          let bytes_same = ap (λ (v : Vec ℕ Global). v.items) w.bytes-is in
          let counts_same = ap (λ (v : Vec ℕ Global). v.items) w.counts-is in
          record {
            counted = subst₂ (λ b n. AreCountedTo labels b n (number + 1)) (sym bytes_same) (sym counts_same)
                (counted_none labels bytes counts number so);
            own = λ ids facts tree sizes. subst₂ (λ b n. AreOwnTo ids facts retained labels b n (number + 1)) (sym bytes_same)
                (sym counts_same)
                (own_more_none ids facts retained labels bytes counts number (c.loop-number.invariant.own ids facts tree sizes)
                (omega (arith, w.if-place-ne0.false, place)));
          }
    ]

pub returns-clause-bytes : goal.returns-clause-bytes
returns-clause-bytes c = c.loop-number.invariant.counted.as_many

pub returns-clause-counts : goal.returns-clause-counts
returns-clause-counts c = c.loop-number.invariant.counted.as_many_counts

pub returns-clause-sums : goal.returns-clause-sums
returns-clause-sums c = λ ids facts agree tree labels sizes.
    let nodes = ap (λ (n : Numbered). length (nodes_in n)) c.nodes-nodes.ensures in
    own_end ids facts c.args.retained.now c.args.labels.now c.loop-number.bytes.items c.loop-number.counts.items c.loop-number.number agree
    tree labels (omega (arith, nodes, c.len-number-end.ensures, c.loop-number-test.false)) c.loop-number.invariant.counted
    (c.loop-number.invariant.own ids facts tree sizes)
