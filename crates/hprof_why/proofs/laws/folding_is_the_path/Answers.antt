use Rattle.std.specs.List.{flat_map}
use Rattle.std.proofs.Common.{◌≡◌, ℕ, List, ◌++◌, refl, ap}
use Rattle.hprof_why.specs.Folding.{AreParts, Link, NoPart, OnePart, Part, links_of}
use Rattle.hprof_why.proofs.laws.folding_is_the_path.Goals as goal

all_links : (kind : List ℕ) (links : List Link) (parts : List Part) → AreParts kind links parts → flat_map links_of parts ≡ links
all_links _ _ _ (NoPart kind) = refl
all_links _ _ _ (OnePart kind part rest parts is more) =
    ap (λ (l : List Link). links_of part ++ l) (all_links _ rest parts more)

pub returns : goal.returns
returns c = all_links
