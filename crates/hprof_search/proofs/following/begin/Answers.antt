use Rattle.std.proofs.Common.{◌≡◌, ◌+◌, ◌∙◌, Some, None, slice_index, refl, sym, subst, take}
use Rattle.hprof_search.specs.declared.trail.Trail.{Trail}
use Rattle.hprof_search.specs.Finds.{Follows, LeadsTo, finds_of}
use Rattle.hprof_numbers.specs.Places.{number_in}
use Rattle.hprof_search.proofs.Targets.{to_none, to_number}
use Rattle.hprof_search.proofs.following.begin.Goals as goal
use Rattle.hprof_search.proofs.following.begin.Goals.{in-Some+in_ok-arrive, in_default}

pub loop-start-preserved : goal.loop-start-preserved
loop-start-preserved c =
    let nodes = c.args.numbered.now.nodes.items in
    let starts = c.args.starts.now in
    let index = c.loop-start.start-index in
    let start = slice_index starts index in
    let old = finds_of c.args.trail.now in
    let middle = finds_of c.loop-start.trail in
    let P : Trail → Type 0 = λ trail. Follows (LeadsTo nodes None (take (index + 1) starts)) old (finds_of trail) in
    elim c.match-number_of.branch [
      | in-Some+in_ok-arrive w ↦
          let some : number_in nodes start ≡ Some w.in-Some.number = sym c.number_of.ensures ∙ w.in-Some.is in
          subst P (sym w.trail-is) (to_number nodes starts index start c.loop-start-test.true refl old middle c.requires.as_many
          c.loop-start.invariant c.args.numbered.now.ascend w.in-Some.number (finds_of w.arrive.new.self) some w.in_ok-arrive.ensures)
      | in_default w ↦
          let none : number_in nodes start ≡ None = sym c.number_of.ensures ∙ w.in_default.is in
          subst P (sym w.trail-is) (to_none nodes starts index start c.loop-start-test.true refl old middle c.requires.as_many
          c.loop-start.invariant none)
    ]
