-- What a reader that was fed all of a part knows: the part is a header and then records, or it is cut short.
use Rattle.std.proofs.Common.{◌≡◌, ◌==◌, ℕ, ◌≤◌, true, List, [], ◌++◌, length, Option, Some, Ok, refl, sym, ap, subst, ◌∙◌, append-nil}
use Rattle.std.proofs.Common.{arith}
use Rattle.std.proofs.lemmas.Bool.{eqb-true}
use Rattle.std.proofs.lemmas.List.{length-append, nil_from_length}
use Rattle.hprof_items.specs.declared.header.Header.{Header}
use Rattle.hprof_items.specs.FactValue.{FactValue}
use Rattle.hprof_stream.specs.declared.limits.Limits.{Limits}
use Rattle.hprof_stream.specs.declared.part_reader.PartReader.{PartReader}
use Rattle.hprof_stream.specs.Part.{all_bytes, IsWritten}
use Rattle.hprof_stream.specs.Item.{Place, Between, header_before, place_behind, may_end, held_of}
use Rattle.hprof_stream.specs.Fault.{Splits}
use Rattle.hprof_stream.specs.Progress.{place_of}
use Rattle.hprof_stream.specs.Rest.{rest_len}
use Rattle.hprof_stream.specs.Reader.{header_of, HasRead, IsUnfinished, longest_held, Finishes}
use Rattle.hprof_stream.proofs.Feeding.{rest_len_is}
use Rattle.hprof_stream.proofs.Grammar.{items_spelled}
use Rattle.hprof_stream.proofs.Refusals.{item_short}

module _ (limits : Limits) (bytes : List ℕ) (facts : List FactValue) (reader : PartReader) (read : HasRead limits bytes facts reader) where
  -- as many bytes are there of the item that is not whole as are kept
  kept_is : rest_len reader.rest ≡ length read.unfinished
  kept_is = rest_len_is limits.max_item (place_of reader.progress) read.unfinished reader.rest read.keeps

  -- ---- the end behind an item

  -- the end of a part of which all is read
  pub Finishes-read : (header : Header) → header_of reader ≡ Some header → (rest_len reader.rest == 0) ≡ true → reader.progress.room ≡ 0
      → Finishes limits bytes facts (header_of reader)
      (Ok (record { header = header; records = reader.progress.records; facts = reader.progress.facts; ended = reader.progress.ended }))
  Finishes-read header tells empty filled =
      let nothing : read.unfinished ≡ [] = nil_from_length read.unfinished (omega (arith, kept_is, eqb-true (rest_len reader.rest) 0 empty))
      in
      let at : place_of reader.progress ≡ Between header =
      ap (λ (h : Option Header). place_behind h reader.progress.room) tells ∙ ap (place_behind (Some header)) filled in
      let ends : may_end (place_of reader.progress) ≡ true = ap may_end at in
      let is = items_spelled limits.max_item (place_of reader.progress) read.items ends read.splits.each in
      let header_too : Some is.header ≡ Some header = sym is.kept ∙ ap header_before at in
      let same : is.header ≡ header = cc in
      let whole : all_bytes read.items ≡ bytes =
      sym (append-nil (all_bytes read.items)) ∙ ap (λ (r : List ℕ). all_bytes read.items ++ r) (sym nothing) ∙ sym read.splits.parts in
      let written : IsWritten bytes header is.records =
      subst (λ (h : Header). IsWritten bytes h is.records) same (subst (λ (b : List ℕ). IsWritten b is.header is.records) whole is.written)
      in (
        record {
          items = read.items;
          place = place_of reader.progress;
          splits = subst (λ (r : List ℕ). Splits limits.max_item bytes read.items (place_of reader.progress) r) nothing read.splits;
          at_end = ends;
        },
        record {
          records = is.records;
          written = written;
          record_count = read.record_count ∙ is.has_count;
          fact_count = read.fact_count ∙ ap length (sym read.has_facts ∙ is.has_facts);
          has_end = read.has_end ∙ is.has_end;
        },
        record {
          header = header;
          records = is.records;
          written = written;
          has_ids = refl;
          has_millis = refl;
          has_facts = sym is.has_facts ∙ read.has_facts;
        },
        tells,
      )

  -- ---- what is held

  pub IsUnfinished-read : (count : ℕ) → count ≡ length reader.rest.held.items
      → IsUnfinished limits.max_item bytes count × (count ≤ length bytes) × (count ≤ longest_held limits.max_item)
  IsUnfinished-read count is =
      let place : Place = place_of reader.progress in
      let held : length reader.rest.held.items ≡ length (held_of limits.max_item place read.unfinished) = ap length read.keeps.held in
      let below = item_short limits.max_item place read.unfinished read.keeps.short in (
        record {
          items = read.items;
          place = place;
          rest = read.unfinished;
          splits = read.splits;
          short = read.keeps.short;
          has_count = sym (is ∙ held);
        },
        omega (arith, is, kept_is, ap length read.splits.parts, length-append (all_bytes read.items) read.unfinished),
        omega (arith, is, held, below),
      )
