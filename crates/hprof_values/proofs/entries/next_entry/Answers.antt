use Rattle.std.proofs.Common.{◌≡◌, ◌-◌, ◌∷◌, List, ℕ, ap, sym, subst, ◌∙◌, arith}
use Rattle.hprof_values.specs.declared.entry.Entry.{Entry}
use Rattle.hprof_values.specs.Entries.{bits_width, entry_in, EntryFits, entries_bytes, entries_in}
use Rattle.hprof_values.proofs.EntryLists.{entry_fits}
use Rattle.hprof_values.proofs.Counting.{first_entries, first_split, rest_is}
use Rattle.hprof_values.proofs.entries.next_entry.Goals as goal

pub entry_at-entry-requires : goal.entry_at-entry-requires
entry_at-entry-requires c = (first_split _ _ c.args.left _ c.requires.some c.requires.spelled).0

pub split_at-requires : goal.split_at-requires
split_at-requires c =
    let width = c.bits_width.ensures ∙ ap (λ (e : Entry). bits_width c.args.ids c.args.kind e.basic) c.entry_at-entry.ensures.entry in
    let lies = (first_split _ _ c.args.left _ c.requires.some c.requires.spelled).0 in
    omega (arith, c.lead_width.ensures)

pub returns-clause-first : goal.returns-clause-first
returns-clause-first c =
    first_entries c.args.ids c.args.kind c.args.left c.args.bytes.now c.requires.some
    ∙ ap (λ (r : List ℕ). entry_in c.args.ids c.args.kind c.args.bytes.now ∷ entries_in c.args.ids c.args.kind (c.args.left - 1) r)
    (sym (rest_is _ _ _ _ _ _ _ c.lead_width.ensures c.bits_width.ensures c.entry_at-entry.ensures.entry c.split_at.ensures.back))
    ∙ ap (λ (e : Entry). e ∷ entries_in c.args.ids c.args.kind (c.args.left - 1) c.split_at.result.1.now)
    (sym c.entry_at-entry.ensures.entry)

pub returns-clause-fits : goal.returns-clause-fits
returns-clause-fits c = subst (EntryFits c.args.ids c.args.kind) (sym c.entry_at-entry.ensures.entry)
    (entry_fits c.args.ids c.args.kind c.args.bytes.now (λ i. omega (arith, c.type_inv.bytes i)))

pub returns-clause-spelled : goal.returns-clause-spelled
returns-clause-spelled c =
    subst (λ (r : List ℕ). r ≡ entries_bytes c.args.ids c.args.kind (entries_in c.args.ids c.args.kind (c.args.left - 1) r))
    (sym (rest_is _ _ _ _ _ _ _ c.lead_width.ensures c.bits_width.ensures c.entry_at-entry.ensures.entry c.split_at.ensures.back))
    (first_split _ _ c.args.left _ c.requires.some c.requires.spelled).1
