use Rattle.std.proofs.Common.{sym, subst, arith}
use Rattle.hprof_values.proofs.Counting.{Counted, Counted-more, Counted-all, Counted-last, Counted-never, first_lies, not_empty, empty}
use Rattle.hprof_values.proofs.entries.count_entries.Goals as goal

pub returns-in_err-len-clause-only : goal.returns-in_err-len-clause-only
returns-in_err-len-clause-only c = λ entries list.
    absurd (Counted-never _ _ _ _ _ entries c.loop-rest.invariant (not_empty _ _ c.is_empty.ensures c.loop-rest-test.true)
    (sym c.in_err-len.ensures) list)

pub split_at-requires : goal.split_at-requires
split_at-requires c = (first_lies _ _ _ _ c.loop-rest.invariant.are_bytes (sym c.in_ok-len.ensures)).1

pub loop-rest-smaller : goal.loop-rest-smaller
loop-rest-smaller c = let lies = first_lies _ _ _ _ c.loop-rest.invariant.are_bytes (sym c.in_ok-len.ensures) in omega (
  arith,
  c.split_at.ensures.back_len,
)

pub loop-rest-preserved : goal.loop-rest-preserved
loop-rest-preserved c =
    subst (Counted c.args.ids c.args.kind _ c.args.bytes.now) (sym c.split_at.ensures.back)
    (Counted-more _ _ _ _ _ _ c.loop-rest.invariant (omega arith) (not_empty _ _ c.is_empty.ensures c.loop-rest-test.true)
    (sym c.in_ok-len.ensures))

pub returns-clause-found : goal.returns-clause-found
returns-clause-found c = Counted-all _ _ _ _ (λ i. omega (arith, c.type_inv.bytes i))
    (subst (Counted c.args.ids c.args.kind c.loop-rest.count c.args.bytes.now) (empty _ _ c.is_empty.ensures c.loop-rest-test.false)
    c.loop-rest.invariant)

pub returns-clause-only : goal.returns-clause-only
returns-clause-only c = λ entries list. Counted-last _ _ _ _ entries
    (subst (Counted c.args.ids c.args.kind c.loop-rest.count c.args.bytes.now) (empty _ _ c.is_empty.ensures c.loop-rest-test.false)
    c.loop-rest.invariant) list
