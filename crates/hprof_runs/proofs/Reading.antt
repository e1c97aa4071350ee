-- The rows that the bytes of a run spell, as they are read.
use Rattle.std.proofs.Common.{◌≡◌, ◌++◌, ◌∷◌, [], ◌≤◌, ◌+◌, ◌<◌, ℕ, List, length, take, drop, Option, Some, None, inl, refl, sym}
use Rattle.std.proofs.Common.{ap, ◌∙◌, subst}
use Rattle.std.proofs.Common.{append_assoc, arith}
use Rattle.std.proofs.lemmas.List.{drop_at, length-append, length-drop, length-take-le, nil_from_length, take-append-drop, take-append-le}
use Rattle.std.proofs.Math.Seq.{take-append_seam}
use Rattle.hprof_merge.specs.Rows.{ByteRow}
use Rattle.hprof_runs.specs.declared.header.Header.{Header}
use Rattle.hprof_runs.specs.declared.run_bytes.RunBytes.{RunBytes}
use Rattle.hprof_runs.specs.declared.run_fault.RunFault.{RunFault}
use Rattle.hprof_runs.specs.declared.run_fault.RunFault.TheVariants.{OutOfMemory, Read, Damaged}
use Rattle.hprof_runs.specs.Header.{HasNoRows, ReadsRows}
use Rattle.hprof_runs.specs.RunBytes.{Brings, KeepsBytes, LacksBytes, PassesBytes, held_bytes}
use Rattle.hprof_runs.specs.RunFault.{IfDamaged}
use Rattle.hprof_runs.specs.Spelling.{FitsHeader, header_bytes, run_bytes, spelled_key, spelled_len}
use Rattle.hprof_runs.proofs.Spelled.{header-length, key_read, len_read, run-length}

pub damaged_more : (fault : RunFault) (P Q : Type 0) → IfDamaged fault P → (P → Q) → IfDamaged fault Q
damaged_more OutOfMemory P Q is more = tt
damaged_more Read P Q is more = tt
damaged_more Damaged P Q is more = more is

-- two splits of a list
front_of : (held behind front more : List ℕ) → held ++ behind ≡ front ++ more → length front ≤ length held
    → take (length front) held ≡ front
front_of held behind front more same le =
    sym (take-append-le (length front) held behind le) ∙ ap (take (length front)) same ∙ take-append_seam front more

behind_header : (row : ByteRow) (rest : List ByteRow) → drop 12 (run_bytes (row ∷ rest)) ≡ row.1 ++ run_bytes rest
behind_header row rest =
    ap (drop 12) (append_assoc (header_bytes row) row.1 (run_bytes rest))
    ∙ drop_at (header_bytes row) (row.1 ++ run_bytes rest) 12 (header-length row)

module _ {S : Type 0} (written : S → Option (List ℕ)) where
  -- nothing is left
  nothing_left : (it : RunBytes S) → Brings written it [] → (held_bytes it ≡ []) × (it.left ≡ 0)
  nothing_left it brings =
      let unread = take it.left (drop it.at brings.all) in
      let size : length (held_bytes it) + length unread ≡ 0 = sym (length-append (held_bytes it) unread) ∙ ap length brings.same in
      let within = brings.within in
      let left : length unread ≡ it.left =
      length-take-le it.left (drop it.at brings.all) (omega (arith, length-drop it.at brings.all)) in
      (nil_from_length (held_bytes it) (omega (arith, size)), omega (arith, size, left))

  pub no_rows_left : (it : RunBytes S) → held_bytes it ≡ [] → it.left ≡ 0 → ReadsRows written it None it
  no_rows_left it held left [] fit brings = brings
  no_rows_left it held left (row ∷ rest) fit brings =
      let unread = take it.left (drop it.at brings.all) in
      let none : unread ≡ [] = ap (λ (n : ℕ). take n (drop it.at brings.all)) left in
      let all : [] ≡ run_bytes (row ∷ rest) = sym (ap (λ (l : List ℕ). l ++ unread) held ∙ none) ∙ brings.same in
      absurd (omega (arith, ap length all, run-length row rest))

  -- ---- a header

  module _ (old mid : RunBytes S) (some : (held_bytes old ≡ []) × (old.left ≡ 0) → ⊥) where
    pub no_header : (fault : RunFault) → LacksBytes written 12 old fault → IfDamaged fault (HasNoRows written old)
    no_header fault lacks = damaged_more fault _ (HasNoRows written old) lacks (λ less. no_rows less) where
      no_rows : ((bytes : List ℕ) → Brings written old bytes → length bytes < 12) → HasNoRows written old
      no_rows less [] fit brings = some (nothing_left old brings)
      no_rows less (row ∷ rest) fit brings =
          let short = less (run_bytes (row ∷ rest)) brings in omega (arith, run-length row rest)

    module _ (keeps : KeepsBytes written old mid) (whole : 12 ≤ length (held_bytes mid)) where
      header_held : (row : ByteRow) (rest : List ByteRow) → Brings written old (run_bytes (row ∷ rest))
          → held_bytes mid ≡ header_bytes row ++ drop 12 (held_bytes mid)
      header_held row rest brings =
          let now = keeps (run_bytes (row ∷ rest)) brings in
          let same = now.same ∙ append_assoc (header_bytes row) row.1 (run_bytes rest) in
          let front : take (length (header_bytes row)) (held_bytes mid) ≡ header_bytes row =
          front_of (held_bytes mid) _ (header_bytes row) (row.1 ++ run_bytes rest) same (omega (arith, header-length row)) in
          sym (take-append-drop 12 (held_bytes mid))
          ∙ ap (λ (l : List ℕ). l ++ drop 12 (held_bytes mid))
          (ap (λ (n : ℕ). take n (held_bytes mid)) (sym (header-length row)) ∙ front)

      module _ (header : Header) (key : header.key ≡ spelled_key (held_bytes mid)) (len : header.len ≡ spelled_len (held_bytes mid))
          (next : RunBytes S) (passes : PassesBytes written 12 mid next) where
        key_is : (row : ByteRow) (rest : List ByteRow) → FitsHeader row → Brings written old (run_bytes (row ∷ rest)) → header.key ≡ row.0
        key_is row rest fits brings =
            key ∙ ap spelled_key (header_held row rest brings) ∙ key_read row (drop 12 (held_bytes mid)) fits

        len_is : (row : ByteRow) (rest : List ByteRow) → FitsHeader row → Brings written old (run_bytes (row ∷ rest))
            → header.len ≡ length row.1
        len_is row rest fits brings =
            len ∙ ap spelled_len (header_held row rest brings) ∙ len_read row (drop 12 (held_bytes mid)) fits

        brings_row : (row : ByteRow) (rest : List ByteRow) → Brings written old (run_bytes (row ∷ rest))
            → Brings written next (row.1 ++ run_bytes rest)
        brings_row row rest brings =
            subst (Brings written next) (behind_header row rest) (passes (run_bytes (row ∷ rest)) (keeps (run_bytes (row ∷ rest)) brings))

        pub no_row : (fault : RunFault) → LacksBytes written header.len next fault → IfDamaged fault (HasNoRows written old)
        no_row fault lacks = damaged_more fault _ (HasNoRows written old) lacks (λ less. no_rows less) where
          no_rows : ((bytes : List ℕ) → Brings written next bytes → length bytes < header.len) → HasNoRows written old
          no_rows less [] fit brings = some (nothing_left old brings)
          no_rows less (row ∷ rest) fit brings =
              let short = less (row.1 ++ run_bytes rest) (brings_row row rest brings) in
              omega (arith, short, len_is row rest (fit row (inl refl)) brings, length-append row.1 (run_bytes rest))

        module _ (new : RunBytes S) (then : KeepsBytes written next new) (there : header.len ≤ length (held_bytes new)) where
          pub row_come : ReadsRows written old (Some header) new
          row_come [] fit brings = absurd (some (nothing_left old brings))
          row_come (row ∷ rest) fit brings =
              let fits = fit row (inl refl) in
              let size = len_is row rest fits brings in
              let now = then (row.1 ++ run_bytes rest) (brings_row row rest brings) in
              let own : take header.len (held_bytes new) ≡ row.1 =
              ap (λ (n : ℕ). take n (held_bytes new)) size
              ∙ front_of (held_bytes new) _ row.1 (run_bytes rest) now.same (omega (arith, size)) in
              record {
                is = ap (λ (k : ℕ). let one : ByteRow = (k, take header.len (held_bytes new)) in one) (key_is row rest fits brings)
                    ∙ ap (λ (l : List ℕ). let one : ByteRow = (row.0, l) in one) own;
                len = size;
                brings = now;
              }
