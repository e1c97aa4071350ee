use Rattle.std.proofs.Common.{◌≡◌, ◌+◌, ◌<◌, ◌≤◌, ℕ, [], ◌++◌, length, drop, Option, Some, refl, sym, ap, ◌∙◌, inl, inr, drop_of_length-le}
use Rattle.std.proofs.Common.{arith}
use Rattle.std.proofs.lemmas.List.{length-append}
use Rattle.std.proofs.Math.Seq.{drop-append-add}
use Rattle.hprof_stream.specs.ItemValue as items
use Rattle.hprof_stream.specs.declared.rest.Passing.{Passing}
use Rattle.hprof_stream.specs.Progress.{place_of, advanced}
use Rattle.hprof_stream.proofs.Rests.{passed_of, passed_whole, passed_short, passed_held, passed_none_held, passed_on, passed_walk}
use Rattle.hprof_stream.proofs.Rests.{passed_fewer, passed_stands, IsBytes-append, IsRest-none}
use Rattle.hprof_stream.proofs.rest.pass_over.Goals as goal

abbrev passing_with : ℕ → ℕ → Option Passing
passing_with seen left = Some (record { seen = seen; left = left })

same_passing : (seen left other_seen other_left : ℕ) → seen ≡ other_seen → left ≡ other_left
    → passing_with seen left ≡ passing_with other_seen other_left
same_passing seen left other_seen other_left e f = rw (e, f) refl

pub returns-then-count-left-clause-passed : goal.returns-then-count-left-clause-passed
returns-then-count-left-clause-passed c front p e keeps =
    let from = c.args.progress.now in
    let longest = from.limits.max_item in
    let place = place_of from in
    let bytes = c.args.bytes.now in
    let is = passed_of longest place front p (sym keeps.passing ∙ e) in
    let was = ap (λ (q : Passing). q.seen) is.same in
    let seen = sym (rw e at c.in-Some.seen-is) ∙ was in
    let left = sym (rw e at c.in-Some.left-is) ∙ ap (λ (q : Passing). q.left) is.same in
    let fewer = passed_fewer longest place front p is keeps.short in
    let size : c.in-Some.seen + c.min-count.result ≡ 9 + is.head.length = omega (arith, seen, left, fewer, c.if-count-left.true) in
    let there : 9 + is.head.length ≤ length (front ++ bytes) = omega (arith, size, seen, c.min-count.ensures, length-append front bytes) in
    let are = IsBytes-append front bytes keeps.are_bytes (λ i. omega (arith, c.type_inv.bytes i)) in
    inl (
      9 + is.head.length,
      passed_whole longest place front p is bytes there,
      (rw e at c.advance.ensures) ∙ ap (advanced from items.Skipped) (omega (arith, size, was, seen)),
      c.split_at.ensures.back ∙ sym (drop-append-add front bytes c.min-count.result) ∙ ap (λ (n : ℕ). drop n (front ++ bytes))
          (omega (arith, size, seen)),
      passed_stands longest place front bytes p is are,
      IsRest-none longest place _ (keeps.held ∙ passed_none_held longest place front p is) refl
          (passed_walk longest place front p is [] c.args.rest.now.walk),
    )

pub returns-else-count-left-clause-passed : goal.returns-else-count-left-clause-passed
returns-else-count-left-clause-passed c front p e keeps =
    let from = c.args.progress.now in
    let longest = from.limits.max_item in
    let place = place_of from in
    let bytes = c.args.bytes.now in
    let is = passed_of longest place front p (sym keeps.passing ∙ e) in
    let was = ap (λ (q : Passing). q.seen) is.same in
    let seen = sym (rw e at c.in-Some.seen-is) ∙ was in
    let was_left = ap (λ (q : Passing). q.left) is.same in
    let left = sym (rw e at c.in-Some.left-is) ∙ was_left in
    let fewer = passed_fewer longest place front p is keeps.short in
    let all : c.min-count.result ≡ length bytes = omega (arith, c.min-count.ensures, c.if-count-left.false) in
    let count = length-append front bytes in
    let few : length (front ++ bytes) < 9 + is.head.length =
    omega (arith, left, seen, fewer, all, count, c.min-count.ensures, c.if-count-left.false) in
    inr (
      refl,
      c.split_at.ensures.back ∙ drop_of_length-le bytes (omega (arith, all)),
      record {
        are_bytes = IsBytes-append front bytes keeps.are_bytes (λ i. omega (arith, c.type_inv.bytes i));
        short = passed_short longest place front p is bytes few;
        held = keeps.held ∙ passed_none_held longest place front p is ∙ sym (passed_held longest place front p is bytes);
        passing = rw e (same_passing (p.seen + c.min-count.result) _ _ _ (omega (arith, was, all, count))
            (omega (arith, was_left, all, count)) ∙ sym (passed_on longest place front p is bytes));
        walk = passed_walk longest place front p is (front ++ bytes) c.args.rest.now.walk;
      },
    )
