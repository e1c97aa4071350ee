-- A cursor over a run goes on.
use Rattle.std.proofs.Common.{◌≡◌, ◌++◌, ◌∷◌, [], ◌<◌, ℕ, List, Option, Some, None, inl, inr, refl, sym, ap, ◌∙◌, subst, arith}
use Rattle.std.specs.Option.{option_map}
use Rattle.std.proofs.lemmas.List.{drop_at}
use Rattle.hprof_merge.specs.Rows.{ByteRow, Has}
use Rattle.hprof_runs.specs.declared.header.Header.{Header}
use Rattle.hprof_runs.specs.declared.run_bytes.RunBytes.{RunBytes}
use Rattle.hprof_runs.specs.declared.run_cursor.RunCursor.{RunCursor}
use Rattle.hprof_runs.specs.declared.run_fault.RunFault.{RunFault}
use Rattle.hprof_runs.specs.Header.{HasNoRows, IsKeyAbove, IsRowRead, ReadsRows, RowsToCome, row_read}
use Rattle.hprof_runs.specs.RunBytes.{Brings, PassesBytes, scratch_under}
use Rattle.hprof_runs.specs.RunCursor.{ComesTo, GoesOn}
use Rattle.hprof_runs.specs.RunFault.{IfDamaged}
use Rattle.hprof_runs.specs.Spelling.{AllFit, run_bytes}
use Rattle.hprof_runs.proofs.Reading.{damaged_more}

module _ {S : Type 0} (written : S → Option (List ℕ)) where
  -- the row that comes next has the header that was read
  row_is_read : (shown : Option Header) (it : RunBytes S) (header : Header) (row : ByteRow) (rest : List ByteRow) → shown ≡ Some header
      → RowsToCome written shown it (row ∷ rest) → IsRowRead written header it row rest
  row_is_read None it header row rest is come = absurd come
  row_is_read (Some other) it header row rest is come =
      let same : other ≡ header = cc in subst (λ (one : Header). IsRowRead written one it row rest) same come

  no_end : (shown : Option Header) (it : RunBytes S) (header : Header) → shown ≡ Some header → RowsToCome written shown it [] → ⊥
  no_end None it header is come = absurd cc
  no_end (Some other) it header is come = come

  shown_key : (shown : Option Header) (it : RunBytes S) (row : ByteRow)
      → option_map (λ (header : Header). row_read header it) shown ≡ Some row
      → (header : Header) × (shown ≡ Some header) × (header.key ≡ row.0)
  shown_key None it row is = absurd cc
  shown_key (Some header) it row is =
      let same : row_read header it ≡ row = cc in (header, refl, ap (λ (one : ByteRow). one.0) same)

  module _ (old : RunCursor S) (header : Header) (shown : old.shown ≡ Some header) (mid : RunBytes S)
      (passes : PassesBytes written header.len old.bytes mid) where
    brings_rest : (row : ByteRow) (rest : List ByteRow) → ComesTo written old (row ∷ rest) → Brings written mid (run_bytes rest)
    brings_rest row rest comes =
        let one = row_is_read old.shown old.bytes header row rest shown comes.to_come in
        subst (Brings written mid) (drop_at row.1 (run_bytes rest) header.len (sym one.len))
        (passes (row.1 ++ run_bytes rest) one.brings)

    fit_rest : (row : ByteRow) (rest : List ByteRow) → ComesTo written old (row ∷ rest) → AllFit rest
    fit_rest row rest comes one has = comes.fit one (inr has)

    pub goes_no_further : (fault : RunFault) → IfDamaged fault (HasNoRows written mid)
        → IfDamaged fault ((rows : List ByteRow) → ComesTo written old rows → ⊥)
    goes_no_further fault is =
        damaged_more fault (HasNoRows written mid) ((rows : List ByteRow) → ComesTo written old rows → ⊥) is (λ none. no_rows none)
      where
        no_rows : HasNoRows written mid → (rows : List ByteRow) → ComesTo written old rows → ⊥
        no_rows none [] comes = no_end old.shown old.bytes header shown comes.to_come
        no_rows none (row ∷ rest) comes = none rest (fit_rest row rest comes) (brings_rest row rest comes)

    module _ (next : Option Header) (new : RunBytes S) (reads : ReadsRows written mid next new) where
      rest_come : (row : ByteRow) (rest : List ByteRow) → ComesTo written old (row ∷ rest) → RowsToCome written next new rest
      rest_come row rest comes = reads rest (fit_rest row rest comes) (brings_rest row rest comes)

      -- rows in order have keys that rise
      key_above : (one : Option Header) (key : ℕ) (rest : List ByteRow) → RowsToCome written one new rest
          → ((row : ByteRow) → Has rest row → key < row.0) → IsKeyAbove key one
      key_above None key rest come above = tt
      key_above (Some one) key [] come above = absurd come
      key_above (Some one) key (row ∷ rest) come above =
          let same : one.key ≡ row.0 = ap (λ (r : ByteRow). r.0) come.is in
          let lt = above row (inl refl) in
          omega arith

      pub in_order : (IsKeyAbove header.key next → ⊥) → (rows : List ByteRow) → ComesTo written old rows → ⊥
      in_order late [] comes = no_end old.shown old.bytes header shown comes.to_come
      in_order late (row ∷ rest) comes =
          let one = row_is_read old.shown old.bytes header row rest shown comes.to_come in
          let same : header.key ≡ row.0 = ap (λ (r : ByteRow). r.0) one.is in
          late (key_above next header.key rest (rest_come row rest comes)
          (λ other has. let lt = comes.ascends.0 other has in omega arith))

      pub goes_on : (cursor : RunCursor S) → cursor.shown ≡ next → cursor.bytes ≡ new → IsKeyAbove header.key next
          → scratch_under new ≡ scratch_under old.bytes → GoesOn written old cursor
      goes_on cursor same bytes up stays = record {
        above = λ row other is other_is.
            let first = shown_key old.shown old.bytes row is in
            let second = shown_key cursor.shown cursor.bytes other other_is in
            let one : first.0 ≡ header = let both : Some first.0 ≡ Some header = sym first.1 ∙ shown in cc in
            let lt : header.key < second.0.key = subst (λ (o : Option Header). IsKeyAbove header.key o) (sym same ∙ second.1) up in
            let key : first.0.key ≡ header.key = ap (λ (h : Header). h.key) one in
            omega (arith, lt, key, first.2, second.2);
        behind = λ row rest comes. record {
          to_come = subst (λ (it : RunBytes S). RowsToCome written cursor.shown it rest) (sym bytes)
              (subst (λ (o : Option Header). RowsToCome written o new rest) (sym same) (rest_come row rest comes));
          ascends = comes.ascends.1;
          fit = fit_rest row rest comes;
        };
        same_scratch = ap scratch_under bytes ∙ stays;
      }
