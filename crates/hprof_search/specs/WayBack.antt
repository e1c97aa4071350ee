-- The way back from a node that was found, by numbers; no public contract speaks of it.
use Rattle.std.specs.Prelude.{◌==◌, ℕ, zero, suc, false, List, [], ◌∷◌, Option, if◌then◌else◌, get_or, option_and_then, slice_index}
use Rattle.std.specs.Bool.{then_some}
use Rattle.hprof_search.specs.declared.kept_search.Search.{Search}
use Rattle.hprof_numbers.specs.Places.{number_in}
use Rattle.hprof_numbers.specs.Numbers.{items_in}

-- the number of a node that was found
unfoldable pub found_in : Search → ℕ → Option ℕ
found_in search node =
    option_and_then (λ number. then_some (get_or search.found.items number false) number) (number_in search.nodes.items node)

-- from a number back to the one that it was found from, and so on to one that was found from none, so many times at most
unfoldable pub way_back : List ℕ → ℕ → ℕ → List ℕ
way_back before zero number = number ∷ []
way_back before (suc most) number =
    number ∷ (if slice_index before number == number then [] else way_back before most (slice_index before number))

-- from a number back to a start
abbrev pub way_in : Search → ℕ → List ℕ
way_in search number = way_back (items_in search.before) search.levels number
