-- Reading that begins again at a place.
use Rattle.std.proofs.Common.{◌≡◌, ℕ, ◌≤◌, false, List, [], ◌++◌, length, None, refl, sym, ap, subst, ◌∙◌, append-nil, arith}
use Rattle.std.proofs.lemmas.List.{length-append}
use Rattle.hprof_items.specs.FactValue.{FactValue}
use Rattle.hprof_items.specs.declared.walk.Walk.{Walk}
use Rattle.hprof_items.specs.declared.walk.Walk.TheVariants.{Front}
use Rattle.hprof_stream.specs.declared.limits.Limits.{Limits}
use Rattle.hprof_stream.specs.declared.part_reader.PartReader.{PartReader}
use Rattle.hprof_stream.specs.Part.{all_bytes}
use Rattle.hprof_stream.specs.PartPlaces.{IsBehind}
use Rattle.hprof_stream.specs.Progress.{place_of}
use Rattle.hprof_stream.specs.Reader.{HasRead, has_failed}
use Rattle.hprof_stream.specs.Rest.{IsWalkOf}
use Rattle.hprof_stream.proofs.Holding.{IsWalkOf-front}
use Rattle.hprof_stream.proofs.Rests.{IsRest-none}

-- a reader that keeps nothing has read what stands before its place
pub resumed : (limits : Limits) (bytes : List ℕ) (facts : List FactValue) (reader : PartReader) → reader.rest.held.items ≡ []
    → reader.rest.passing ≡ None → reader.rest.walk ≡ Front → has_failed reader ≡ false → IsBehind limits bytes facts reader.progress
    → HasRead limits bytes facts reader
resumed limits bytes facts reader held passing walk sound is =
    let place = place_of reader.progress in
    record {
      has_limits = is.has_limits;
      sound = sound;
      within = is.within;
      items = is.items;
      unfinished = [];
      splits = record { each = is.each; parts = is.parts ∙ sym (append-nil (all_bytes is.items)) };
      keeps = IsRest-none limits.max_item place reader.rest held passing
          (subst (λ (w : Walk). IsWalkOf limits.max_item place [] w) (sym walk) (IsWalkOf-front limits.max_item place []));
      has_facts = is.has_facts;
      offset = is.offset ∙ ap (λ (l : List ℕ). length l) is.parts;
      record_count = is.record_count;
      fact_count = is.fact_count;
      has_end = is.has_end;
    }

-- what was read, up to the last whole item
pub behind_items : (limits : Limits) (bytes : List ℕ) (facts : List FactValue) (reader : PartReader) → HasRead limits bytes facts reader
    → (front rest : List ℕ) × (bytes ≡ front ++ rest) × IsBehind limits front facts reader.progress
behind_items limits bytes facts reader read =
    let front = all_bytes read.items in
    let within = read.within in
    let same = ap (λ (l : List ℕ). length l) read.splits.parts in
    let both = length-append front read.unfinished in (
      front,
      read.unfinished,
      read.splits.parts,
      record {
        has_limits = read.has_limits;
        within = omega (arith, within, same, both);
        items = read.items;
        each = read.splits.each;
        parts = refl;
        has_facts = read.has_facts;
        offset = read.offset;
        record_count = read.record_count;
        fact_count = read.fact_count;
        has_end = read.has_end;
      },
    )
