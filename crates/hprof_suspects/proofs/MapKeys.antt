-- Keys of maps that are a group and a label.
use Rattle.std.proofs.Common.{◌≡◌, ◌==◌, ◌∙◌, true, ap, subst}
use Rattle.std.specs.BTreeMap.{is_at}
use Rattle.std.specs.Ordering.{is_eq}
use Rattle.std.proofs.lemmas.Bool.{and_parts, eqb-true}
use Rattle.std.proofs.lemmas.Cmp.{tied_itself}
use Rattle.hprof_suspects.specs.PartPlaces.{key_cmp}
use Rattle.hprof_suspects.specs.declared.only.GroupLabel.{GroupLabel}
use Rattle.hprof_suspects.specs.contracts.only.GroupLabelOrd.TheImpl.Laws.{total-law, matches_eq-law}

-- only the key itself is at its place
pub at_is : (own key : GroupLabel) → is_at (key_cmp own) key ≡ true → own ≡ key
at_is own key e =
    let both = and_parts (own.group == key.group) (own.label == key.label) (matches_eq-law own key ∙ e) in
    let group : own.group ≡ key.group = eqb-true own.group key.group both.0 in
    let label : own.label ≡ key.label = eqb-true own.label key.label both.1 in
    λ i. record { group = group i; label = label i }

pub is_at_own : (own key : GroupLabel) → own ≡ key → is_at (key_cmp own) key ≡ true
is_at_own own key same = subst (λ (k : GroupLabel). is_at (key_cmp own) k ≡ true) same (ap is_eq (tied_itself total-law own))
