-- Counting a segment by a walk over sub-records.
use Rattle.std.proofs.Common.{◌≡◌, ℕ, ◌+◌, ◌<◌, ◌≤◌, Bool, cond, List, [], ◌∷◌, ◌++◌, length, take, drop, Option, Some, None, refl, sym, ap}
use Rattle.std.proofs.Common.{subst, ◌∙◌, append_assoc, arith}
use Rattle.std.specs.Prelude.{sum_by}
use Rattle.std.proofs.Math.Seq.{take-append_seam, drop-append_seam}
use Rattle.std.specs.List.{flat_map}
use Rattle.std.proofs.lemmas.Bool.{le-leb, lt-leb}
use Rattle.std.proofs.lemmas.List.{length-append}
use Rattle.std.proofs.lemmas.List.Concat.{length-flat_map}
use Rattle.std.proofs.lemmas.List.Sums.{sum_by-append}
use Rattle.hprof_values.specs.declared.ids.IdSize.{IdSize}
use Rattle.hprof_items.specs.FactValue.{FactValue}
use Rattle.hprof_items.specs.Spelling.{longest_body}
use Rattle.hprof_items.specs.SubRecord.{dump_bytes}
use Rattle.hprof_rows.specs.declared.sub_row.SubRow.{SubRow}
use Rattle.hprof_rows.specs.declared.sub_rows.SubRows.{SubRows}
use Rattle.hprof_dump.specs.Dump.{segments_of, most_in_segment}
use Rattle.hprof_dump.specs.Segments.{packed_behind}
use Rattle.hprof_rows.specs.SubRow.{sub_fact}
use Rattle.hprof_dump.specs.Counted.{IsFirstSegment, with_taken}
use Rattle.hprof_rows.specs.SubRows.{YieldsSub, subs_ids, subs_left}

abbrev size_of : IdSize → FactValue → ℕ
size_of ids fact = length (dump_bytes ids fact)

-- of the sub-records so many were counted, which are a segment or its beginning, and so many bytes of them
pub record Counts (ids : IdSize) (subs : List FactValue) (count len : ℕ) (left : List FactValue) : Type 0 where
  pub begun : List FactValue
  pub parts : subs ≡ begun ++ left
  pub behind : segments_of ids subs ≡ packed_behind (size_of ids) most_in_segment begun left
  pub has_count : count ≡ length begun
  pub some : 1 ≤ count
  pub up_to : count ≤ len
  pub has_len : len ≡ sum_by (size_of ids) begun
  pub short : len ≤ longest_body

-- the first is in the first segment
pub Counts-first : (ids : IdSize) (fact : FactValue) (left : List FactValue) (len : ℕ) → len ≡ length (dump_bytes ids fact) → 0 < len
    → len ≤ longest_body
    → Counts ids (fact ∷ left) 1 len left
Counts-first ids fact left len e some short = record {
  begun = fact ∷ [];
  parts = refl;
  behind = refl;
  has_count = refl;
  some = omega arith;
  up_to = omega arith;
  has_len = omega (arith, e);
  short = short;
}

-- the next goes into the segment, where it has room
pub Counts-more : (ids : IdSize) (subs : List FactValue) (count len size : ℕ) (next : FactValue) (left : List FactValue)
    → Counts ids subs count len (next ∷ left)
    → size ≡ length (dump_bytes ids next) → 0 < size → len + size ≤ most_in_segment → Counts ids subs (count + 1) (len + size) left
Counts-more ids subs count len size next left c e some room =
    let fits : sum_by (size_of ids) c.begun + size_of ids next ≤ most_in_segment = omega (arith, c.has_len, e) in
    record {
      begun = c.begun ++ next ∷ [];
      parts = c.parts ∙ sym (append_assoc c.begun (next ∷ []) left);
      behind =
          c.behind ∙ ap (λ (t : Bool). cond t (packed_behind (size_of ids) most_in_segment (c.begun ++ next ∷ []) left)
          (c.begun ∷ packed_behind (size_of ids) most_in_segment (next ∷ []) left))
          (le-leb (sum_by (size_of ids) c.begun + size_of ids next) most_in_segment fits);
      has_count = omega (arith, c.has_count, length-append c.begun (next ∷ []));
      some = omega arith;
      up_to = omega (arith, c.up_to);
      has_len = omega (arith, c.has_len, e, sum_by-append (size_of ids) c.begun (next ∷ []));
      short = omega arith;
    }

-- the segment was counted
counted : (ids : IdSize) (subs : List FactValue) (count len : ℕ) (left : List FactValue) → (c : Counts ids subs count len left)
    → segments_of ids subs ≡ c.begun ∷ segments_of ids left → IsFirstSegment ids subs count len left
counted ids subs count len left c first = record {
  segment = c.begun;
  parts = c.parts;
  first = first;
  has_count = c.has_count;
  some = c.some;
  has_len = c.has_len ∙ sym (length-flat_map (dump_bytes ids) c.begun);
  short = c.short;
}

-- the next has no room in it
pub Counts-full : (ids : IdSize) (subs : List FactValue) (count len size : ℕ) (next : FactValue) (left : List FactValue)
    → Counts ids subs count len (next ∷ left)
    → size ≡ length (dump_bytes ids next) → most_in_segment < len + size → IsFirstSegment ids subs count len (next ∷ left)
Counts-full ids subs count len size next left c e over =
    let full : most_in_segment < sum_by (size_of ids) c.begun + size_of ids next = omega (arith, c.has_len, e) in
    counted ids subs count len (next ∷ left) c
    (c.behind ∙ ap (λ (t : Bool). cond t (packed_behind (size_of ids) most_in_segment (c.begun ++ next ∷ []) left)
    (c.begun ∷ packed_behind (size_of ids) most_in_segment (next ∷ []) left))
    (lt-leb (sum_by (size_of ids) c.begun + size_of ids next) most_in_segment full))

-- nothing is left
pub Counts-all : (ids : IdSize) (subs : List FactValue) (count len : ℕ) → Counts ids subs count len []
    → IsFirstSegment ids subs count len []
Counts-all ids subs count len c = counted ids subs count len [] c c.behind

-- ---- a segment that was counted

-- it is what stands at the front
counted-take : (ids : IdSize) (subs rest : List FactValue) (count len : ℕ) → (c : IsFirstSegment ids subs count len rest)
    → take count subs ≡ c.segment
counted-take ids subs rest count len c = rw (c.has_count, c.parts) (take-append_seam c.segment rest)

pub counted-drop : (ids : IdSize) (subs rest : List FactValue) (count len : ℕ) → IsFirstSegment ids subs count len rest
    → drop count subs ≡ rest
counted-drop ids subs rest count len c = rw (c.has_count, c.parts) (drop-append_seam c.segment rest)

pub counted-first : (ids : IdSize) (subs rest : List FactValue) (count len : ℕ) → IsFirstSegment ids subs count len rest
    → segments_of ids subs ≡ take count subs ∷ segments_of ids rest
counted-first ids subs rest count len c =
    c.first ∙ ap (λ (segment : List FactValue). segment ∷ segments_of ids rest) (sym (counted-take ids subs rest count len c))

pub counted-len : (ids : IdSize) (subs rest : List FactValue) (count len : ℕ) → IsFirstSegment ids subs count len rest
    → len ≡ length (flat_map (dump_bytes ids) (take count subs))
counted-len ids subs rest count len c =
    c.has_len ∙ ap (λ (segment : List FactValue). length (flat_map (dump_bytes ids) segment)) (sym (counted-take ids subs rest count len c))

-- fewer are left behind it
pub counted-fewer : (ids : IdSize) (subs rest : List FactValue) (count len : ℕ) → IsFirstSegment ids subs count len rest
    → length rest < length subs
counted-fewer ids subs rest count len c = omega (arith, c.has_count, c.some, ap length c.parts, length-append c.segment rest)

-- ---- the walk ahead

-- the first that was taken, and those behind it, are all
pub taken_all : (old : SubRows) (taken : Option SubRow) (new : SubRows) → YieldsSub old taken new
    → with_taken (subs_ids old) taken (subs_left new) ≡ subs_left old
taken_all old None new yields = sym yields.first.0
taken_all old (Some row) new yields = sym yields.first

-- a segment was counted of what is left to write
pub counted_left : (walked ids : IdSize) (taken : Option SubRow) (first : SubRow) (next : Option SubRow) (ahead left after : List FactValue)
    (count len : ℕ) → taken ≡ Some first → walked ≡ ids → with_taken ids taken ahead ≡ left
    → IsFirstSegment walked (sub_fact walked first ∷ ahead) count len (with_taken walked next after)
    → IsFirstSegment ids left count len (with_taken ids next after)
counted_left walked ids taken first next ahead left after count len is same pending c =
    subst (λ (subs : List FactValue). IsFirstSegment ids subs count len (with_taken ids next after))
    (subst (λ (t : Option SubRow). with_taken ids t ahead ≡ left) is pending)
    (subst (λ (i : IdSize). IsFirstSegment i (sub_fact i first ∷ ahead) count len (with_taken i next after)) same c)
