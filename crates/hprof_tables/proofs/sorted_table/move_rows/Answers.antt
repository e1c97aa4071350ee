use Rattle.std.proofs.Common.{◌≡◌, ◌≤◌, ◌<◌, ◌+◌, ◌++◌, ◌∷◌, ℕ, List, length, Option, Some, ap, sym, subst, ◌∙◌, arith, refl, [], rules}
use Rattle.std.specs.Prelude.{slice_get, slice_set, vec_len, vec_capacity}
use Rattle.std.specs.Map.{values_of}
use Rattle.std.proofs.lemmas.List.{append-nil, length-append}
use Rattle.std.proofs.lemmas.Option.{slice_get_read}
use Rattle.hprof_tables.specs.declared.page.Page.{Page}
use Rattle.hprof_tables.specs.Pages.{AreChained, rows_along, rows_in}
use Rattle.hprof_tables.proofs.TablePages.{moved_rows, some_chain, taken_page}
use Rattle.hprof_tables.proofs.sorted_table.move_rows.Goals as goal

pub loop-number-init : goal.loop-number-init
loop-number-init g c =
    let all : c.into_iter-number-iterator.result ≡ c.args.places.entries = search rules in
    rw all (record {
      chain = some_chain c.args.pages.items c.args.places.entries c.requires.listed.chained;
      rows = refl;
      room = c.requires.room;
    })

pub push_all-requires : goal.push_all-requires
push_all-requires g c =
    let now = c.loop-number in
    let place : ℕ × ℕ = (c.in-Some.field-0-0.now, c.in-Some.number.now) in
    let e : now.number-iterator ≡ place ∷ c.next.new.self = search rules in
    let chain = subst (λ (l : List (ℕ × ℕ)). AreChained now.pages.items now.invariant.chain.0 l) e now.invariant.chain.1 in
    let page = c.in-Some-get_mut.page.now in
    let there : slice_get now.pages.items place.1 ≡ Some page =
    slice_get_read now.pages.items (length now.pages.items) place.1 page refl chain.1 (search rules) in
    let rows = rows_along now.pages.items (values_of c.next.new.self) in
    let all : rows_along now.pages.items (values_of now.number-iterator) ≡ page.rows.items ++ rows =
    ap (λ (l : List (ℕ × ℕ)). rows_along now.pages.items (values_of l)) e
    ∙ ap (λ (found : Option (Page g.row.V.Denot)). rows_in found ++ rows) there in
    let count = ap (λ (l : List (ℕ × g.row.V.Denot)). length l) all ∙ length-append page.rows.items rows in
    let taken = ap (λ (l : List (ℕ × g.row.V.Denot)). length l) c.take_rows.ensures.rows in
    let room = now.invariant.room in
    omega arith

pub loop-number-preserved-in-Some-get_mut : goal.loop-number-preserved-in-Some-get_mut
loop-number-preserved-in-Some-get_mut g c =
    let now = c.loop-number in
    let place : ℕ × ℕ = (c.in-Some.field-0-0.now, c.in-Some.number.now) in
    let e : now.number-iterator ≡ place ∷ c.next.new.self = search rules in
    let chain = subst (λ (l : List (ℕ × ℕ)). AreChained now.pages.items now.invariant.chain.0 l) e now.invariant.chain.1 in
    let page = c.in-Some-get_mut.page.now in
    let there : slice_get now.pages.items place.1 ≡ Some page =
    slice_get_read now.pages.items (length now.pages.items) place.1 page refl chain.1 (search rules) in
    let all = now.invariant.rows in
    let rows = rows_along now.pages.items (values_of c.next.new.self) in
    let whole : now.rows.items ++ (page.rows.items ++ rows)
    ≡ c.args.rows.now.items ++ rows_along c.args.pages.items (values_of c.args.places.entries) =
    ap (λ (found : Option (Page g.row.V.Denot)). now.rows.items ++ (rows_in found ++ rows)) (sym there)
    ∙ ap (λ (l : List (ℕ × ℕ)). now.rows.items ++ rows_along now.pages.items (values_of l)) (sym e) ∙ all in
    let long = ap (λ (l : List (ℕ × g.row.V.Denot)). length l) c.push_all.ensures.items
    ∙ length-append now.rows.items c.take_rows.result.items in
    let whole_count = ap (λ (l : List (ℕ × g.row.V.Denot)). length l) (ap (λ (l : List (ℕ × ℕ)). rows_along now.pages.items (values_of l)) e
    ∙ ap (λ (found : Option (Page g.row.V.Denot)). rows_in found ++ rows) there) ∙ length-append page.rows.items rows in
    let count = ap (λ (l : List (ℕ × g.row.V.Denot)). length l) c.take_rows.ensures.rows in
    let taken = taken_page now.pages.items now.invariant.chain.0 place c.next.new.self page c.take_rows.new.self chain there in
    let same = ap (λ (l : List (ℕ × g.row.V.Denot)). length l) taken.1 in
    let old_room = now.invariant.room in
    let capacity = c.push_all.ensures.room in
    let old_len = now.rows.ok.0 in
    let new_len = c.push_all.new.all.ok.0 in
    let room : vec_len c.push_all.new.all
    + length (rows_along (slice_set now.pages.items place.1 c.take_rows.new.self) (values_of c.next.new.self))
    ≤ vec_capacity c.push_all.new.all =
    omega arith in
    record {
      chain = (page.to + 1, taken.0);
      rows = moved_rows now.rows.items c.push_all.new.all.items c.take_rows.result.items page.rows.items rows
          (rows_along (slice_set now.pages.items place.1 c.take_rows.new.self) (values_of c.next.new.self)) _ whole c.push_all.ensures.items
          c.take_rows.ensures.rows taken.1;
      room = room;
    }

pub loop-number-preserved : goal.loop-number-preserved
loop-number-preserved g c =
    let now = c.loop-number in
    let place : ℕ × ℕ = (c.in-Some.field-0-0.now, c.in-Some.number.now) in
    let e : now.number-iterator ≡ place ∷ c.next.new.self = search rules in
    let chain = subst (λ (l : List (ℕ × ℕ)). AreChained now.pages.items now.invariant.chain.0 l) e now.invariant.chain.1 in
    let lt : place.1 < length now.pages.items = chain.1 in
    let no = c.in_default.ensures.variant.1 (search rules) in
    absurd cc

pub returns : goal.returns
returns g c =
    let none : c.loop-number.number-iterator ≡ [] = search rules in
    sym (append-nil c.loop-number.rows.items)
    ∙ ap (λ (l : List (ℕ × ℕ)). c.loop-number.rows.items ++ rows_along c.loop-number.pages.items (values_of l)) (sym none)
    ∙ c.loop-number.invariant.rows
