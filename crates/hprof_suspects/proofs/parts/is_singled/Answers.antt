use Rattle.std.proofs.Common.{◌≡◌, ◌∙◌, false, get_or, inl, inr, sym, subst, arith}
use Rattle.std.specs.BTreeMap.{get}
use Rattle.std.proofs.lemmas.Bool.{both_ways}
use Rattle.std.proofs.lemmas.List.{get_or_default}
use Rattle.std.proofs.Common.{Some}
use Rattle.hprof_suspects.specs.PartPlaces.{key_cmp}
use Rattle.hprof_suspects.specs.declared.only.GroupLabel.{GroupLabel}
use Rattle.hprof_suspects.proofs.parts.is_singled.Goals as goal

pub returns : goal.returns
returns c = λ facts alone.
    let marks = c.args.alone.now.items in
    let place = c.args.place in
    let is = alone place c.requires.some c.requires.within in
    let mark : get_or marks place false ≡ c.index.result.now =
    get_or_default marks place false c.index.result.now (omega (arith, c.requires.within, c.requires.alone)) ∙ sym c.index.ensures in (
      λ yes. inr (inr (is.0 (mark ∙ yes))),
      λ singled. elim singled [
        | inl top ↦ absurd (omega (arith, top, c.over.ensures, c.if-over-eq0.false))
        | inr other ↦ elim other [
          | inl found ↦ absurd (both_ways c.is_only.result c.if-is_only.false (c.is_only.ensures.1
              (subst (λ (key : GroupLabel). get key_cmp c.args.only.now key ≡ Some place) (sym c.key_at.ensures) found)))
          | inr dump ↦ sym mark ∙ is.1 dump
        ]
      ],
    )
