-- To which rows a cursor over a stretch comes.
use Rattle.std.specs.Prelude.{◌≡◌, ℕ, List, [], ◌++◌, Option, Some, None, refl}
use Rattle.std.proofs.Common.{sym, ap, ◌∙◌}
use Rattle.hprof_devices.specs.declared.health.Health.{Health}
use Rattle.hprof_merge.specs.Rows.{ByteRow}
use Rattle.hprof_merge.specs.Showing.{only}
use Rattle.hprof_runs.specs.Known.{IsKnown}
use Rattle.hprof_runs.specs.Picked.{first_of}
use Rattle.hprof_objects.specs.declared.stretch_cursor.StretchCursor.{StretchCursor}
use Rattle.hprof_objects.specs.StretchCursor.{ComesTo, GoesOn, stretch_shown}

-- what is shown is the first of the rows
first_shown : (shown : Option ByteRow) (rows behind : List ByteRow) → rows ≡ only shown ++ behind → (shown ≡ None → behind ≡ [])
    → shown ≡ first_of rows
first_shown None rows behind are none = sym (ap first_of (are ∙ none refl))
first_shown (Some row) rows behind are none = sym (ap first_of are)

module _ {R : Type 0} (left : R → Option (List ℕ)) (health : R → Health) (pulls : R → ℕ) where
  -- it comes to these rows, with some number of reads
  abbrev pub StretchComes : StretchCursor R → List ByteRow → Type 0
  StretchComes it rows = (reads : ℕ) × ComesTo left health pulls reads it rows

  -- their first is shown, going on passes it, and they ascend
  pub stretch_known : IsKnown stretch_shown (GoesOn left health pulls) StretchComes
  stretch_known = record {
    first = λ it rows come.
        let stands = come.1.stands in
        first_shown (stretch_shown it) rows stands.behind stands.are stands.none;
    passes = λ old new row rest went come. (come.0, went.behind come.0 row rest come.1);
    ascend = λ it rows come. come.1.ascends;
  }
