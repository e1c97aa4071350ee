use Rattle.std.proofs.Common.{◌≡◌, ◌<◌, List, get_or, length, refl, subst, sym, ap, ◌∙◌, arith}
use Rattle.std.proofs.lemmas.Bool.{ltb-false}
use Rattle.std.proofs.lemmas.Option.{slice_get_read}
use Rattle.hprof_runs.specs.declared.place.Place.{Place}
use Rattle.hprof_runs.specs.Places.{IsPointOf}
use Rattle.hprof_runs.proofs.Found.{first_found, none_found}
use Rattle.hprof_runs.proofs.sorted_rows.SortedRows.find.Goals as goal

pub returns-in_default : goal.returns-in_default
returns-in_default c =
    let rows = c.args.self.now in
    let index = c.first_from-index.result in
    let past = ltb-false index (length c.deref-2.result.now) (sym c.in_default.ensures.lookup.0) in
    none_found rows.bytes.items rows.places.items c.args.key index
    (subst (λ (l : List Place). IsPointOf c.args.key l index) c.deref.ensures.value c.first_from-index.ensures) rows.sorted
    (λ place here is alike. absurd (omega (arith, past, here, ap (λ (l : List Place). length l) c.deref-2.ensures.value)))

pub returns-then-place-key : goal.returns-then-place-key
returns-then-place-key c =
    let rows = c.args.self.now in
    let index = c.first_from-index.result in
    let there = c.in-Some.ensures.lookup.3 in
    let place = c.in-Some.place.now in
    let at = slice_get_read rows.places.items (length rows.places.items) index place refl
    (subst (λ (l : List Place). index < length l) c.deref-2.ensures.value there.0)
    (subst (λ (l : List Place). place ≡ get_or l index place) c.deref-2.ensures.value (there.1 place)) in
    none_found rows.bytes.items rows.places.items c.args.key index
    (subst (λ (l : List Place). IsPointOf c.args.key l index) c.deref.ensures.value c.first_from-index.ensures) rows.sorted
    (λ other here is alike. c.if-place-key.true (let same : other ≡ place = cc in ap (λ (p : Place). p.key) (sym same) ∙ alike))

pub returns : goal.returns
returns c =
    let rows = c.args.self.now in
    let index = c.first_from-index.result in
    let there = c.in-Some.ensures.lookup.3 in
    let place = c.in-Some.place.now in
    let at = slice_get_read rows.places.items (length rows.places.items) index place refl
    (subst (λ (l : List Place). index < length l) c.deref-2.ensures.value there.0)
    (subst (λ (l : List Place). place ≡ get_or l index place) c.deref-2.ensures.value (there.1 place)) in
    rw (c.bytes_at.ensures, c.deref-3.ensures.value)
    (first_found rows.bytes.items rows.places.items c.args.key index
    (subst (λ (l : List Place). IsPointOf c.args.key l index) c.deref.ensures.value c.first_from-index.ensures) place at
    c.if-place-key.false)
