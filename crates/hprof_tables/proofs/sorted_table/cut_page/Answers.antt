use Rattle.std.proofs.Common.{◌++◌, ◌∷◌, [], length, List, ap, refl, ◌∙◌, rules}
use Rattle.std.specs.Prelude.{slice_set}
use Rattle.std.proofs.lemmas.Option.{slice_get_read}
use Rattle.hprof_tables.specs.declared.page.Page.{Page}
use Rattle.hprof_tables.proofs.sorted_table.cut_page.Goals as goal

pub returns-clause-pages : goal.returns-clause-pages
returns-clause-pages g c = record {
  page = c.index_mut.result.now;
  first = c.cut.new.self;
  next = c.in_ok-above-in-Vacant.above;
  there = slice_get_read c.args.pages.now.items (length c.args.pages.now.items) c.args.number c.index_mut.result.now refl c.requires.within
      (search rules);
  pages = c.push_reserved.ensures.items
      ∙ ap (λ (l : List (Page g.row.V.Denot)). slice_set l c.args.number c.cut.new.self ++ c.in_ok-above-in-Vacant.above ∷ [])
      c.reserve.ensures.items;
  cut = c.in_ok-above-in-Vacant.ensures.ok;
}
