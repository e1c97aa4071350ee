-- Packing does not depend on how a sub-record is given: its size decides.
use Rattle.std.proofs.Common.{◌≡◌, ℕ, ◌+◌, leb, Bool, true, false, cond, List, [], ◌∷◌, ◌++◌, length, map, refl, sym, ap, ◌∙◌}
use Rattle.std.specs.Prelude.{sum_by}
use Rattle.std.specs.List.{flat_map}
use Rattle.std.proofs.lemmas.List.{map-append}
use Rattle.std.proofs.lemmas.List.Sums.{sum_by-cons}
use Rattle.std.proofs.lemmas.List.Folds.{flat_map-map}
use Rattle.hprof_values.specs.declared.ids.IdSize.{IdSize}
use Rattle.hprof_items.specs.FactValue.{FactValue}
use Rattle.hprof_items.specs.Head.{record_bytes}
use Rattle.hprof_items.specs.SubRecord.{dump_bytes}
use Rattle.hprof_rows.specs.SubFacts.{sub_facts}
use Rattle.hprof_dump.specs.Dump.{most_in_segment, segments_of, segment_bytes, sub_facts_bytes}
use Rattle.hprof_dump.specs.Segments.{packed_behind, packed}
use Rattle.hprof_segments.specs.ByteSegments.{segment_record, segment_records}

module _ {A B : Type 0} (size : B → ℕ) (f : A → B) (most : ℕ) where
  sum_by-map : (xs : List A) → sum_by size (map f xs) ≡ sum_by (λ x. size (f x)) xs
  sum_by-map [] = refl
  sum_by-map (x ∷ xs) =
      sum_by-cons size (f x) (map f xs)
      ∙ ap (λ (n : ℕ). size (f x) + n) (sum_by-map xs)
      ∙ sym (sum_by-cons (λ y. size (f y)) x xs)

  -- of two choices by one test
  both : (test : Bool) (one other : List (List B)) (first second : List (List A)) → one ≡ map (map f) first → other ≡ map (map f) second
      → cond test one other ≡ map (map f) (cond test first second)
  both true one other first second is is_too = is
  both false one other first second is is_too = is_too

  packed_behind-map : (begun subs : List A)
      → packed_behind size most (map f begun) (map f subs) ≡ map (map f) (packed_behind (λ x. size (f x)) most begun subs)
  packed_behind-map begun [] = refl
  packed_behind-map begun (next ∷ subs) =
      let one : List (List B) = packed_behind size most (map f begun ++ f next ∷ []) (map f subs) in
      let other : List (List B) = map f begun ∷ packed_behind size most (f next ∷ []) (map f subs) in
      ap (λ (n : ℕ). cond (leb (n + size (f next)) most) one other) (sum_by-map begun)
      ∙ both (leb (sum_by (λ x. size (f x)) begun + size (f next)) most) one other
      (packed_behind (λ x. size (f x)) most (begun ++ next ∷ []) subs) (begun ∷ packed_behind (λ x. size (f x)) most (next ∷ []) subs)
      (ap (λ (l : List B). packed_behind size most l (map f subs)) (sym (map-append f begun (next ∷ [])))
      ∙ packed_behind-map (begun ++ next ∷ []) subs)
      (ap (λ (l : List (List B)). map f begun ∷ l) (packed_behind-map (next ∷ []) subs))

  pub packed-map : (subs : List A) → packed size most (map f subs) ≡ map (map f) (packed (λ x. size (f x)) most subs)
  packed-map [] = refl
  packed-map (first ∷ subs) = packed_behind-map (first ∷ []) subs

-- the records of segments
records-map : (ids : IdSize) (segments : List (List FactValue))
    → flat_map segment_record (map (map (dump_bytes ids)) segments) ≡ flat_map (segment_bytes ids) segments
records-map ids [] = refl
records-map ids (segment ∷ segments) =
    ap (λ (l : List ℕ). record_bytes 0x1c 0 l ++ flat_map segment_record (map (map (dump_bytes ids)) segments))
    (flat_map-map (λ sub. sub) (dump_bytes ids) segment)
    ∙ ap (λ (l : List ℕ). segment_bytes ids segment ++ l) (records-map ids segments)

pub facts_packed : (ids : IdSize) (rows : List FactValue)
    → segment_records (map (dump_bytes ids) (sub_facts rows)) ≡ sub_facts_bytes ids rows
facts_packed ids rows =
    ap (flat_map segment_record) (packed-map length (dump_bytes ids) most_in_segment (sub_facts rows))
    ∙ records-map ids (segments_of ids (sub_facts rows))
