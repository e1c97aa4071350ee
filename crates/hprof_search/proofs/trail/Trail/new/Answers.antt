use Rattle.std.proofs.Common.{rules, ◌≡◌, false, replicate}
use Rattle.hprof_search.proofs.Once.{distinct_none, none_found, none_leads}
use Rattle.hprof_search.proofs.trail.Trail.new.Goals as goal

pub invariant_of-result-clause-back : goal.invariant_of-result-clause-back
invariant_of-result-clause-back c = none_leads _ c.args.count c.in_ok-zeros.ensures.items

pub invariant_of-result-clause-ordered : goal.invariant_of-result-clause-ordered
invariant_of-result-clause-ordered c =
    let is : c.in_ok-vec.field-0.items ≡ replicate c.args.count false = search rules in
    none_found c.in_ok-vec.field-0.items c.in_ok-with_capacity.field-0.items c.args.count is c.in_ok-with_capacity.ensures.items

pub invariant_of-result-clause-once : goal.invariant_of-result-clause-once
invariant_of-result-clause-once c = distinct_none c.in_ok-with_capacity.field-0.items c.in_ok-with_capacity.ensures.items
