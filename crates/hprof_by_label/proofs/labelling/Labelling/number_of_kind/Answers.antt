use Rattle.std.proofs.Common.{◌<◌, ℕ, length, refl, string_bytes, sym, subst, subst₂, inl, inr}
use Rattle.hprof_heap.specs.HeapFacts.{facts_of}
use Rattle.hprof_by_label.specs.Labelling.{IsNumberOfKind}
use Rattle.hprof_by_label.specs.declared.kinds.Kind.{Kind}
use Rattle.hprof_by_label.proofs.labelling.Labelling.number_of_kind.Goals as goal

pub returns-clause-sound : goal.returns-clause-sound
returns-clause-sound c = record {
  numbered = c.in_ok-number.ensures.numbered;
  within = λ kind number is. elim (c.in_ok-put.ensures kind number is) [
    | inl old ↦
        let low = c.requires.sound.within kind number (c.number_of.ensures.stays kind number old) in
        (c.in_ok-number.ensures.stays number _ (low, refl)).0
    | inr new ↦ subst (λ n. n < length c.number_of-2.new.self.texts.items) (sym new.1) c.in_ok-number.ensures.number.0
  ];
}

pub returns-clause-labelling : goal.returns-clause-labelling
returns-clause-labelling c = λ named was.
    let facts = facts_of c.args.heap.now in
    let texts = c.number_of-2.new.self.texts.items in
    let here : IsNumberOfKind facts (record { texts = c.number_of-2.new.self; kinds = c.put.new.self }) c.args.kind c.in_ok-number.number =
    (string_bytes c.in_ok-label.label, c.in_ok-label.ensures named, c.in_ok-number.ensures.number) in
    let P : Kind → ℕ → Type 0 = λ kind number. IsNumberOfKind facts (record { texts = c.number_of-2.new.self; kinds = c.put.new.self }) kind
    number in (
      λ kind number is. elim (c.in_ok-put.ensures kind number is) [
        | inl old ↦
            let text = was kind number (c.number_of.ensures.stays kind number old) in
            (text.0, text.1, c.in_ok-number.ensures.stays number text.0 text.2)
        | inr new ↦ subst₂ P (sym new.0) (sym new.1) here
      ],
      here,
    )
