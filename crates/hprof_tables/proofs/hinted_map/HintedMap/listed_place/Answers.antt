use Rattle.std.proofs.Common.{◌≡◌, ℕ, Some, None, true, sym, ap, ◌∙◌}
use Rattle.std.specs.Map.{keys_of}
use Rattle.std.specs.Option.{option_copied}
use Rattle.std.specs.Prelude.{slice_get}
use Rattle.hprof_tables.proofs.Places.{found_nowhere}
use Rattle.hprof_tables.proofs.hinted_map.HintedMap.listed_place.Goals as goal

pub returns-in_default-clause-none : goal.returns-in_default-clause-none
returns-in_default-clause-none g c =
    let map = c.args.self.now in
    found_nowhere map.rows.items map.places.entries map.sound c.args.key (λ place listed here.
    let found : Some c.in-Some.place.now ≡ Some place = c.in-Some.ensures.value ∙ listed in
    let same : c.in-Some.place.now ≡ place = cc in
    let there : c.is_at.result ≡ true = c.is_at.ensures.1 (ap (λ (p : ℕ). slice_get (keys_of map.rows.items) p) same ∙ here) in
    cc)

pub returns-in_default-2-clause-none : goal.returns-in_default-2-clause-none
returns-in_default-2-clause-none g c =
    let map = c.args.self.now in
    found_nowhere map.rows.items map.places.entries map.sound c.args.key (λ place listed here.
    let found : None ≡ Some place = sym (ap option_copied c.in_default.is) ∙ c.get.ensures.value ∙ listed in
    cc)
