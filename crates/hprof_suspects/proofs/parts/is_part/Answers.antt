use Rattle.std.proofs.Common.{◌≡◌, ◌∙◌, true, false, get_or, sym, ap, arith}
use Rattle.std.proofs.lemmas.Bool.{both_ways}
use Rattle.hprof_numbers.specs.Numbers.{items_in}
use Rattle.hprof_suspects.specs.PartPlaces.{over_in}
use Rattle.std.proofs.lemmas.List.{get_or_default}
use Rattle.hprof_suspects.proofs.HeadPlaces.{over_low}
use Rattle.hprof_suspects.proofs.parts.is_part.Goals as goal

pub index-requires : goal.index-requires
index-requires c =
    let low = over_low c.args.retained.now (items_in c.args.heads.now) c.requires.heads c.args.place c.requires.some c.requires.within in
    omega (arith, low, c.over.ensures, c.requires.as_many)

pub returns : goal.returns
returns c = λ facts alone.
    let low = over_low c.args.retained.now (items_in c.args.heads.now) c.requires.heads c.args.place c.requires.some c.requires.within in
    let mark : get_or c.args.parts.now.items (over_in c.args.retained.now (items_in c.args.heads.now) c.args.place) false ≡ true =
    ap (λ p. get_or c.args.parts.now.items p false) (sym c.over.ensures)
    ∙ get_or_default c.args.parts.now.items c.over.result false c.index.result.now
    (omega (arith, low, c.over.ensures, c.requires.as_many)) ∙ sym c.index.ensures ∙ c.if-not-index.false in (
      λ yes. record {
        large = c.is_large_head.ensures.0 c.if-not-is_large_head.false;
        above = mark;
        singled = (c.is_singled.ensures facts alone).0 yes;
      },
      λ by. (c.is_singled.ensures facts alone).1 by.singled,
    )

pub returns-then-not-index : goal.returns-then-not-index
returns-then-not-index c = λ facts alone. (
  λ yes. absurd cc,
  λ by.
      let low = over_low c.args.retained.now (items_in c.args.heads.now) c.requires.heads c.args.place c.requires.some c.requires.within in
      let mark : c.index.result.now ≡ true = c.index.ensures
      ∙ get_or_default c.args.parts.now.items c.over.result c.index.result.now false
      (omega (arith, low, c.over.ensures, c.requires.as_many))
      ∙ ap (λ p. get_or c.args.parts.now.items p false) c.over.ensures ∙ by.above in
      absurd (both_ways c.index.result.now c.if-not-index.true mark),
)
