use Rattle.std.proofs.Common.{◌≡◌, ◌++◌, ◌∷◌, ℕ, [], sym, ap, subst}
use Rattle.hprof_items.specs.FactValue.{Instance}
use Rattle.hprof_layouts.specs.Known.{HasLayout}
use Rattle.hprof_layouts.specs.WaitingLists.{put, waiting_for}
use Rattle.hprof_layouts.specs.declared.waiting_lists.WaitingLists.{WaitingLists}
use Rattle.hprof_graph.specs.declared.derived.Derived.{Derived}
use Rattle.hprof_graph.specs.Derived.{IsDerived}
use Rattle.hprof_graph.proofs.Instances.{is_there}
use Rattle.hprof_graph.proofs.FactsMore.{instance_came, instance_laid, instance_waits, was_not_laid}
use Rattle.hprof_graph.proofs.derived.Derived.add_instance.Goals as goal

pub returns-then-branch-clause-adds : goal.returns-then-branch-clause-adds
returns-then-branch-clause-adds c = λ before facts trace adds is.
    let ids = c.args.ids in
    let instance = c.args.instance in
    let class = c.args.class in
    let bytes = c.args.bytes.now in
    let derived = c.args.self.now in
    let set = c.edge_to_class.new.into in
    let instances = c.saturating_add-self.result in
    let counted = c.saturating_add-self.ensures in
    let came = instance_came ids before facts instance trace class bytes adds derived is set
    (λ edges of. c.in_ok-edge_to_class.ensures.holds edges of) instances counted in
    let layout = (c.in_ok-lay.ensures.known ids facts came.knows).0 c.if-branch.true in
    instance_laid ids before facts instance trace class bytes adds derived is set
    (λ edges of. c.in_ok-edge_to_class.ensures.holds edges of) instances counted c.lay.new.self
    (c.in_ok-lay.ensures.lays facts is.laid (is.laid ++ instance ∷ []) trace
    (is_there before (Instance instance trace class bytes) facts adds) layout
    (was_not_laid ids before facts instance trace class bytes adds derived is) came)

pub returns-clause-adds : goal.returns-clause-adds
returns-clause-adds c = λ before facts trace adds is.
    let ids = c.args.ids in
    let instance = c.args.instance in
    let class = c.args.class in
    let bytes = c.args.bytes.now in
    let derived = c.args.self.now in
    let set = c.edge_to_class.new.into in
    let instances = c.saturating_add-self.result in
    let counted = c.saturating_add-self.ensures in
    let came = instance_came ids before facts instance trace class bytes adds derived is set
    (λ edges of. c.in_ok-edge_to_class.ensures.holds edges of) instances counted in
    let unlaid = c.in_ok-lay.ensures.unlaid c.if-branch.false in
    let unknown : HasLayout facts class → ⊥ = λ layout.
    (let laid = (c.in_ok-lay.ensures.known ids facts came.knows).1 layout in let is_not = c.if-branch.false in cc) in
    let waits : waiting_for c.add.new.self ≡ put (waiting_for derived.waiting) class (waiting_for derived.waiting class ++ instance ∷ []) =
    subst (λ (w : WaitingLists ℕ). waiting_for c.add.new.self ≡ put (waiting_for w) class (waiting_for w class ++ instance ∷ []))
    (ap (λ (d : Derived). d.waiting) unlaid) c.in_ok-add.ensures in
    subst (λ (d : Derived). IsDerived ids facts (record d { waiting = c.add.new.self })) (sym unlaid)
    (instance_waits ids before facts instance trace class bytes adds derived is set
    (λ edges of. c.in_ok-edge_to_class.ensures.holds edges of) instances counted unknown c.lay.new.self.references c.add.new.self waits)
