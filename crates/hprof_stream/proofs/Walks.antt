-- Walks over items, and one step of them.
use Rattle.std.proofs.Common.{◌≡◌, ℕ, zero, suc, ◌+◌, ◌-◌, ◌<◌, ◌≤◌, Bool, ◌||◌, List, [], ◌∷◌, ◌++◌, length, take, drop}
use Rattle.std.proofs.Common.{Option, Some, None, refl, sym, ap, subst, ◌∙◌, append_assoc, append-nil, take-append-drop, arith, Ok}
use Rattle.std.proofs.Math.Bool.{or_assoc, or-false}
use Rattle.std.proofs.lemmas.List.{length-append, length-take-le}
use Rattle.std.proofs.lemmas.List.Folds.{list_any-append}
use Rattle.std.specs.List.{list_any}
use Rattle.std.specs.Prelude.{◌==◌}
use Rattle.hprof_values.specs.Ids.{IsBytes}
use Rattle.hprof_values.specs.declared.ids.IdSize.{IdSize}
use Rattle.hprof_values.specs.declared.record_tag.RecordTag.{RecordTag}
use Rattle.hprof_items.specs.declared.header.Header.{Header}
use Rattle.hprof_items.specs.declared.fact.Fact.{Fact}
use Rattle.hprof_items.specs.FactValue.{FactValue, value_of, ListsHave, Name, Load, Unload, Frame, Trace, Start, End, Rooted, Class}
use Rattle.hprof_items.specs.FactValue.{Instance, ObjArray, PrimArray}
use Rattle.hprof_items.specs.RecordBody.{record_of}
use Rattle.hprof_items.specs.Spelling.{Fits, longest_body}
use Rattle.hprof_items.specs.SubRecord.{dump_bytes}
use Rattle.hprof_stream.specs.ItemValue.{ItemValue, bare}
use Rattle.hprof_stream.specs.ItemValue as items
use Rattle.hprof_stream.specs.declared.limits.Limits.{Limits}
use Rattle.hprof_stream.specs.declared.part_fault.PartFault.TheVariants as faults
use Rattle.hprof_stream.specs.declared.sink.SinkFault.{SinkFault}
use Rattle.hprof_stream.specs.declared.progress.Progress.{Progress}
use Rattle.hprof_stream.specs.Part.{Stated, all_bytes, all_facts, is_end}
use Rattle.hprof_stream.specs.Item.{Place, Between, Within, place_behind, header_before, IsItem, is_header, is_fact, is_dump_end}
use Rattle.hprof_stream.specs.Item.{is_dump, is_sub, is_skipped, none, more, item_at}
use Rattle.hprof_stream.specs.ItemStep.{facts_stated, place_after, Stands, is_end_item, IsOfPlace, ItemLists}
use Rattle.hprof_stream.specs.Progress.{place_of, advanced, IsCounted, IsNext}
use Rattle.hprof_stream.specs.Run.{Run, became, FitsBegun, ListsHaveBegun, SpellsBegun}
use Rattle.hprof_stream.specs.Walking.{Gives, GivesFit, GivesSome, IsBegun, told_by, Walks, Refuses, Stops}
use Rattle.hprof_stream.proofs.Items.{item_found}
use Rattle.hprof_stream.proofs.ItemLists.{AreItems-then, all_bytes-then, all_facts-then, records_begun-then, items_size, records_size}
use Rattle.hprof_stream.proofs.ItemLists.{items_headers, header_in, room_behind}
use Rattle.hprof_stream.proofs.Runs.{Run-none, Run-then}
use Rattle.hprof_stream.proofs.Behind.{next_place, count_next, facts_next, end_next, offset_next, limits_next, IsCounted-less}
use Rattle.hprof_stream.proofs.Behind.{first_taken}

module _ {S : Type 0} (begins : S → Header → S → Type 0) (steps : S → FactValue → S → Type 0) where
  -- what is handed on is a run
  run_next : (header : Option Header) (room : ℕ) (item : ItemValue) (n : ℕ) (progress : Progress) (old new : S)
      → progress.header ≡ header → Stands (place_behind header room) item → Gives begins steps old item new
      → Run begins steps old (became header (advanced progress item n).header) (facts_stated item) new
  run_next None room (items.Header h) n progress old new e stands gives = (new, gives, refl)
  run_next None room (items.Fact fact) n progress old new e stands gives = absurd stands
  run_next None room (items.Dump len) n progress old new e stands gives = absurd stands
  run_next None room items.End n progress old new e stands gives = absurd stands
  run_next None room items.Skipped n progress old new e stands gives = absurd stands
  run_next None room (items.Sub fact) n progress old new e stands gives = absurd stands
  run_next (Some h) zero (items.Header other) n progress old new e stands gives = absurd stands
  run_next (Some h) zero (items.Fact fact) n progress old new e stands gives = (new, gives, refl)
  run_next (Some h) zero (items.Dump len) n progress old new e stands gives = gives
  run_next (Some h) zero items.End n progress old new e stands gives = gives
  run_next (Some h) zero items.Skipped n progress old new e stands gives = gives
  run_next (Some h) zero (items.Sub fact) n progress old new e stands gives = absurd stands
  run_next (Some h) (suc room) (items.Header other) n progress old new e stands gives = absurd stands
  run_next (Some h) (suc room) (items.Fact fact) n progress old new e stands gives = absurd stands
  run_next (Some h) (suc room) (items.Dump len) n progress old new e stands gives = absurd stands
  run_next (Some h) (suc room) items.End n progress old new e stands gives = absurd stands
  run_next (Some h) (suc room) items.Skipped n progress old new e stands gives = absurd stands
  run_next (Some h) (suc room) (items.Sub fact) n progress old new e stands gives = (new, gives, refl)

  -- one item is walked over
  pub Walks-item : (longest : ℕ) (from : Progress) (bytes : List ℕ) (old new : S) (item : ItemValue) (n : ℕ) → IsBytes bytes
      → from.room ≤ longest_body
      → item_at longest (place_of from) bytes ≡ Ok (record { next = place_after (place_of from) item n; facts = facts_stated item }, n)
      → IsOfPlace (place_of from) bytes item → Gives begins steps old item new
      → Walks begins steps longest from bytes old (advanced from item n) (drop n bytes) new × (0 < n) × (n ≤ length bytes)
  Walks-item longest from bytes old new item n are small e of gives =
      let place = place_of from in
      let to : Progress = advanced from item n in
      let read = item_found longest place bytes (record { next = place_after place item n; facts = facts_stated item }) n
      (room_behind from.header from.room small) are e in
      let one : Stated = record { bytes = take n bytes; facts = facts_stated item } in
      let is : IsItem longest place one (place_of to) = subst (IsItem longest place one) (next_place from item n of.0) read.2 in
      let end : is_end one ≡ is_end_item item = ap (λ (b : ℕ). b == 0x2c) (first_taken n bytes read.1 read.0) ∙ sym of.1 in
      let ran : Run begins steps old (became from.header to.header) (facts_stated item) new =
      run_next from.header from.room item n from old new refl of.0 gives in (
        record {
          items = one ∷ [];
          each = more is none;
          parts = sym (take-append-drop n bytes) ∙ ap (λ (b : List ℕ). b ++ drop n bytes) (sym (append-nil (take n bytes)));
          same_limits = limits_next item n from;
          offset = omega (arith, offset_next item n from, length-take-le n bytes read.0, ap length (append-nil (take n bytes)));
          record_count = omega (arith, count_next from.header from.room item n from of.0);
          fact_count = omega (arith, facts_next item n from, ap length (append-nil (facts_stated item)));
          has_end = end_next item n from ∙ ap (λ (b : Bool). from.ended || b) (sym end ∙ sym (or-false (is_end one)));
          ran = subst (λ (f : List FactValue). Run begins steps old (became from.header to.header) f new)
              (sym (append-nil (facts_stated item))) ran;
        },
        read.1,
        read.0,
      )

  -- nothing is walked over
  pub Walks-none : (longest : ℕ) (progress : Progress) (bytes : List ℕ) (sink : S)
      → Walks begins steps longest progress bytes sink progress bytes sink
  Walks-none longest progress bytes sink = record {
    items = [];
    each = none;
    parts = refl;
    same_limits = refl;
    offset = omega arith;
    record_count = omega arith;
    fact_count = omega arith;
    has_end = sym (or-false progress.ended);
    ran = Run-none begins steps progress.header sink;
  }

  -- more bytes behind stay behind
  pub Walks-more : (longest : ℕ) (from to : Progress) (bytes rest extra : List ℕ) (old new : S)
      → Walks begins steps longest from bytes old to rest new
      → Walks begins steps longest from (bytes ++ extra) old to (rest ++ extra) new
  Walks-more longest from to bytes rest extra old new walk = record {
    items = walk.items;
    each = walk.each;
    parts = ap (λ (b : List ℕ). b ++ extra) walk.parts ∙ append_assoc (all_bytes walk.items) rest extra;
    same_limits = walk.same_limits;
    offset = walk.offset;
    record_count = walk.record_count;
    fact_count = walk.fact_count;
    has_end = walk.has_end;
    ran = walk.ran;
  }

  -- one walk, and then another
  pub Walks-then : (longest : ℕ) (from between to : Progress) (bytes left rest : List ℕ) (old mid new : S)
      → Walks begins steps longest from bytes old between left mid → Walks begins steps longest between left mid to rest new
      → Walks begins steps longest from bytes old to rest new
  Walks-then longest from between to bytes left rest old mid new first second =
      let heads = items_headers longest from.header between.header from.room between.room first.items first.each in
      let stays = items_headers longest between.header to.header between.room to.room second.items second.each in
      record {
        items = first.items ++ second.items;
        each = AreItems-then longest (place_of from) (place_of between) (place_of to) first.items second.items first.each second.each;
        parts = first.parts ∙ ap (λ (b : List ℕ). all_bytes first.items ++ b) second.parts
            ∙ sym (append_assoc (all_bytes first.items) (all_bytes second.items) rest)
            ∙ ap (λ (b : List ℕ). b ++ rest) (sym (all_bytes-then first.items second.items));
        same_limits = second.same_limits ∙ first.same_limits;
        offset = omega (
          arith,
          first.offset,
          second.offset,
          ap length (all_bytes-then first.items second.items),
          length-append (all_bytes first.items) (all_bytes second.items),
        );
        record_count = omega (
          arith,
          first.record_count,
          second.record_count,
          records_begun-then longest (place_of from)
              (place_of between) (place_of to) first.items second.items first.each second.each,
        );
        fact_count = omega (
          arith,
          first.fact_count,
          second.fact_count,
          ap length (all_facts-then first.items second.items),
          length-append (all_facts first.items) (all_facts second.items),
        );
        has_end = second.has_end ∙ ap (λ (b : Bool). b || list_any is_end second.items) first.has_end
            ∙ or_assoc from.ended (list_any is_end first.items) (list_any is_end second.items)
            ∙ ap (λ (b : Bool). from.ended || b) (sym (list_any-append is_end first.items second.items));
        ran = subst (λ (f : List FactValue). Run begins steps old (became from.header to.header) f new)
            (sym (all_facts-then first.items second.items))
            (Run-then begins steps old mid new from.header between.header to.header (all_facts first.items) (all_facts second.items)
            (λ e. let bare = heads.0 e in (bare.0, ap all_facts bare.1)) stays.1 first.ran second.ran);
      }

-- ---- what an item that was read needs

-- the fact of an item fits the size behind the header
fits_of : (longest : ℕ) (from : Place) (one : Stated) (to : Place) (fact : FactValue) (header : Header) → IsItem longest from one to
    → one.facts ≡ fact ∷ [] → header_before from ≡ Some header → Fits header.ids fact
fits_of longest from one to fact header (is_header fits spelled empty) facts before = absurd cc
fits_of longest from one to fact header (is_fact {header = h} {fact = f} states short stated) facts before =
    let same : h ≡ header = cc in
    let this : f ≡ fact = cc in
    subst (λ (x : Header). Fits x.ids fact) same (subst (λ (x : FactValue). Fits h.ids x) this states.fits)
fits_of longest from one to fact header (is_dump_end ends empty) facts before = absurd cc
fits_of longest from one to fact header (is_dump dump time len spelled empty) facts before = absurd cc
fits_of longest from one to fact header (is_sub {header = h} {fact = f} sub spelled in_room in_longest stated) facts before =
    let same : h ≡ header = cc in
    let this : f ≡ fact = cc in
    subst (λ (x : Header). Fits x.ids fact) same (subst (λ (x : FactValue). Fits h.ids x) this sub.fits)
fits_of longest from one to fact header (is_skipped skipped empty) facts before = absurd cc

-- a sub-record has no more bytes than its record has left
sub_room : (longest : ℕ) (from : Place) (one : Stated) (to : Place) (header : Header) (room : ℕ) → IsItem longest from one to
    → from ≡ Within header room → length one.bytes ≤ room
sub_room longest from one to header room (is_header fits spelled empty) e = absurd cc
sub_room longest from one to header room (is_fact states short stated) e = absurd cc
sub_room longest from one to header room (is_dump_end ends empty) e = absurd cc
sub_room longest from one to header room (is_dump dump time len spelled empty) e = absurd cc
sub_room longest from one to header room (is_sub {room = r} sub spelled in_room in_longest stated) e = let same : r ≡ room =
    cc in omega (arith, in_room, same)
sub_room longest from one to header room (is_skipped skipped empty) e = absurd cc

-- what was read at a place
abbrev pub IsReadAt : ℕ → Progress → List ℕ → ItemValue → ℕ → Type 0
IsReadAt longest from bytes item n = item_at longest (place_of from) bytes
    ≡ Ok (record { next = place_after (place_of from) item n; facts = facts_stated item }, n)

-- no sub-record states the fact of a record
not_dumped : (ids : IdSize) (fact : FactValue) (tag : RecordTag) → record_of fact ≡ Some tag → [] ≡ dump_bytes ids fact
not_dumped ids (Name id text) tag is = refl
not_dumped ids (Load serial class trace name) tag is = refl
not_dumped ids (Unload serial) tag is = refl
not_dumped ids (Frame id method signature source class_serial line) tag is = refl
not_dumped ids (Trace serial thread frames) tag is = refl
not_dumped ids (Start thread object trace name group parent_group) tag is = refl
not_dumped ids (End thread) tag is = refl
not_dumped ids (Rooted root) tag is = absurd cc
not_dumped ids (Class id trace parent loader signers domain reserved1 reserved2 size constants statics fields) tag is = absurd cc
not_dumped ids (Instance id trace class bytes) tag is = absurd cc
not_dumped ids (ObjArray id trace class elements) tag is = absurd cc
not_dumped ids (PrimArray id trace elem bytes) tag is = absurd cc

-- so a record comes without the bytes of one
record_spells : (longest : ℕ) (from : Place) (one : Stated) (to : Place) (fact : FactValue) (header : Header) → IsItem longest from one to
    → one.facts ≡ fact ∷ [] → from ≡ Between header → [] ≡ dump_bytes header.ids fact
record_spells longest from one to fact header (is_header fits spelled empty) facts e = absurd cc
record_spells longest from one to fact header (is_fact {header = h} {fact = f} states short stated) facts e =
    let this : f ≡ fact = cc in
    subst (λ (x : FactValue). [] ≡ dump_bytes header.ids x) this (not_dumped header.ids f states.tag states.is)
record_spells longest from one to fact header (is_dump_end ends empty) facts e = absurd cc
record_spells longest from one to fact header (is_dump dump time len spelled empty) facts e = absurd cc
record_spells longest from one to fact header (is_sub sub spelled in_room in_longest stated) facts e = absurd cc
record_spells longest from one to fact header (is_skipped skipped empty) facts e = absurd cc

-- it may be handed to the sink
fact_fits : (longest : ℕ) (next : Place) (header : Header) (bytes : List ℕ) (fact : Fact) (begun : Option IdSize)
    → IsItem longest (Between header) (record { bytes = bytes; facts = value_of fact ∷ [] }) next → ListsHave header.ids fact
    → begun ≡ Some header.ids → FitsBegun begun (value_of fact) × ListsHaveBegun begun fact × SpellsBegun begun (value_of fact) []
fact_fits longest next header bytes fact begun is lists with =
    let one : Stated = record { bytes = bytes; facts = value_of fact ∷ [] } in
    subst (λ (b : Option IdSize). FitsBegun b (value_of fact) × ListsHaveBegun b fact × SpellsBegun b (value_of fact) []) (sym with) (
      fits_of longest (Between header) one next (value_of fact) header is refl refl,
      lists,
      record_spells longest (Between header) one next (value_of fact) header is refl refl,
    )

fit_at : (longest : ℕ) (header : Option Header) (room : ℕ) (bytes : List ℕ) (next : Place) (item : ItemValue) (begun : Option IdSize)
    → IsItem longest (place_behind header room) (record { bytes = bytes; facts = facts_stated item }) next
    → Stands (place_behind header room) item → ItemLists header item
    → IsBegun header begun → GivesFit begun item
fit_at longest header room bytes next (items.Header h) begun is stands lists with = tt
fit_at longest None room bytes next (items.Fact fact) begun is stands lists with = absurd stands
fit_at longest (Some h) zero bytes next (items.Fact fact) begun is stands lists with = fact_fits longest next h bytes fact begun
    is lists with
fit_at longest (Some h) (suc room) bytes next (items.Fact fact) begun is stands lists with = absurd stands
fit_at longest header room bytes next (items.Dump len) begun is stands lists with = tt
fit_at longest header room bytes next items.End begun is stands lists with = tt
fit_at longest header room bytes next items.Skipped begun is stands lists with = tt
fit_at longest header room bytes next (items.Sub fact) begun is stands lists with = tt

-- it is there
pub read_within : (longest : ℕ) (from : Progress) (bytes : List ℕ) (item : ItemValue) (n : ℕ) → IsBytes bytes → from.room ≤ longest_body
    → IsReadAt longest from bytes item n → n ≤ length bytes
read_within longest from bytes item n are small e =
    (item_found longest (place_of from) bytes (record { next = place_after (place_of from) item n; facts = facts_stated item }) n
    (room_behind from.header from.room small) are e).0

pub given_fits : (longest : ℕ) (from : Progress) (bytes : List ℕ) (item : ItemValue) (n : ℕ) (begun : Option IdSize) → IsBytes bytes
    → from.room ≤ longest_body → IsReadAt longest from bytes item n
    → IsOfPlace (place_of from) bytes item → ItemLists from.header item → IsBegun from.header begun → GivesFit begun item
given_fits longest from bytes item n begun are small e of lists with =
    let read = item_found longest (place_of from) bytes (record { next = place_after (place_of from) item n; facts = facts_stated item }) n
    (room_behind from.header from.room small) are e in
    fit_at longest from.header from.room (take n bytes) (place_after (place_of from) item n) item begun read.2 of.0 lists with

-- the item that was read
told_next : (header : Option Header) (room : ℕ) (item : ItemValue) (n : ℕ) → Stands (place_behind header room) item
    → header_before (place_after (place_behind header room) item n) ≡ told_by header item
told_next None room (items.Header h) n stands = refl
told_next None room (items.Fact fact) n stands = absurd stands
told_next None room (items.Dump len) n stands = absurd stands
told_next None room items.End n stands = absurd stands
told_next None room items.Skipped n stands = absurd stands
told_next None room (items.Sub fact) n stands = absurd stands
told_next (Some h) zero (items.Header other) n stands = absurd stands
told_next (Some h) zero (items.Fact fact) n stands = refl
told_next (Some h) zero (items.Dump len) n stands = header_in h len
told_next (Some h) zero items.End n stands = refl
told_next (Some h) zero items.Skipped n stands = refl
told_next (Some h) zero (items.Sub fact) n stands = absurd stands
told_next (Some h) (suc room) (items.Header other) n stands = absurd stands
told_next (Some h) (suc room) (items.Fact fact) n stands = absurd stands
told_next (Some h) (suc room) (items.Dump len) n stands = absurd stands
told_next (Some h) (suc room) items.End n stands = absurd stands
told_next (Some h) (suc room) items.Skipped n stands = absurd stands
told_next (Some h) (suc room) (items.Sub fact) n stands = header_in h (suc room - n)

given_none : (header : Option Header) (room : ℕ) (item : ItemValue) → Stands (place_behind header room) item → GivesSome item
    → facts_stated item ≡ [] → header ≡ None
given_none None room item stands some nothing = refl
given_none (Some h) zero (items.Header other) stands some nothing = absurd stands
given_none (Some h) (suc room) (items.Header other) stands some nothing = absurd stands
given_none (Some h) room (items.Fact fact) stands some nothing = absurd cc
given_none (Some h) room (items.Dump len) stands some nothing = absurd some
given_none (Some h) room items.End stands some nothing = absurd some
given_none (Some h) room items.Skipped stands some nothing = absurd some
given_none (Some h) room (items.Sub fact) stands some nothing = absurd cc

-- a whole item that the sink refuses
pub Stops-refused : {S : Type 0} (refuses : S → List FactValue → SinkFault → S → Type 0) (failed : S → Bool) (from : Progress)
    (bytes : List ℕ) (item : ItemValue) (n : ℕ) (old new : S) (fault : SinkFault)
    → IsBytes bytes → from.room ≤ longest_body → IsReadAt from.limits.max_item from bytes item n → IsOfPlace (place_of from) bytes item
    → GivesSome item → Refuses refuses failed old (facts_stated item) fault new
    → Stops refuses failed from bytes old (faults.Sink fault) (told_by from.header item) new
Stops-refused refuses failed from bytes item n old new fault are small e of some refused =
    let place = place_of from in
    let next = place_after place item n in
    let read = item_found from.limits.max_item place bytes (record { next = next; facts = facts_stated item }) n
    (room_behind from.header from.room small) are e in (
      record { bytes = take n bytes; facts = facts_stated item },
      next,
      drop n bytes,
      read.2,
      told_next from.header from.room item n of.0,
      given_none from.header from.room item of.0 some,
      sym (take-append-drop n bytes),
      refused,
    )

-- and counted
next_at : (longest : ℕ) (header : Option Header) (room n : ℕ) (bytes : List ℕ) (next : Place) (item : ItemValue) (progress : Progress)
    → progress.room ≡ room → 0 < n → length bytes ≡ n
    → IsItem longest (place_behind header room) (record { bytes = bytes; facts = facts_stated item }) next
    → Stands (place_behind header room) item → IsNext progress item n
next_at longest header room n bytes next (items.Header h) progress e some len is stands = some
next_at longest header room n bytes next (items.Fact fact) progress e some len is stands = some
next_at longest header room n bytes next (items.Dump size) progress e some len is stands = some
next_at longest header room n bytes next items.End progress e some len is stands = some
next_at longest header room n bytes next items.Skipped progress e some len is stands = some
next_at longest None room n bytes next (items.Sub fact) progress e some len is stands = absurd stands
next_at longest (Some h) zero n bytes next (items.Sub fact) progress e some len is stands = absurd stands
next_at longest (Some h) (suc room) n bytes next (items.Sub fact) progress e some len is stands =
    let within = sub_room longest (Within h (suc room)) (record { bytes = bytes; facts = value_of fact ∷ [] }) next h (suc room) is refl in
    (some, omega (arith, within, len, e))

pub next_counted : (longest : ℕ) (from : Progress) (bytes : List ℕ) (item : ItemValue) (n : ℕ) → IsBytes bytes
    → from.room ≤ longest_body → IsReadAt longest from bytes item n
    → IsOfPlace (place_of from) bytes item → IsCounted from (length bytes) → IsCounted from n × IsNext from item n
next_counted longest from bytes item n are small e of counted =
    let read = item_found longest (place_of from) bytes (record { next = place_after (place_of from) item n; facts = facts_stated item }) n
    (room_behind from.header from.room small) are e in (
      IsCounted-less from (length bytes) n counted read.0,
      next_at longest from.header from.room n (take n bytes) (place_after (place_of from) item n) item from refl read.1
          (length-take-le n bytes read.0) read.2 of.0,
    )

-- ---- on from a walk

module _ {S : Type 0} (begins : S → Header → S → Type 0) (steps : S → FactValue → S → Type 0) where
  -- there is room for what is left
  pub Walks-counted : (longest : ℕ) (from to : Progress) (bytes rest : List ℕ) (old new : S)
      → Walks begins steps longest from bytes old to rest new → IsCounted from (length bytes) → IsCounted to (length rest)
  Walks-counted longest from to bytes rest old new walk counted =
      let size = items_size longest (place_of from) (place_of to) walk.items walk.each in
      let begun = records_size longest (place_of from) (place_of to) walk.items walk.each in
      let limit : to.limits.max_bytes ≡ from.limits.max_bytes = ap (λ (l : Limits). l.max_bytes) walk.same_limits in
      let len : length bytes ≡ length (all_bytes walk.items) + length rest = ap length walk.parts
      ∙ length-append (all_bytes walk.items) rest in
      record {
        limit = omega (arith, counted.limit, limit);
        room = omega (arith, counted.room, walk.offset, limit, len);
        records = omega (arith, size, begun, counted.records, walk.record_count, walk.offset);
        facts = omega (arith, size, counted.facts, walk.fact_count, walk.offset);
      }

  -- and for others, where they are no more than what was left of more
  pub Walks-counted-less : (longest : ℕ) (from to : Progress) (bytes rest : List ℕ) (old new : S) (extra left : ℕ)
      → Walks begins steps longest from bytes old to rest new → IsCounted from extra → length bytes + left ≤ extra + length rest
      → IsCounted to left
  Walks-counted-less longest from to bytes rest old new extra left walk counted few =
      let size = items_size longest (place_of from) (place_of to) walk.items walk.each in
      let begun = records_size longest (place_of from) (place_of to) walk.items walk.each in
      let limit : to.limits.max_bytes ≡ from.limits.max_bytes = ap (λ (l : Limits). l.max_bytes) walk.same_limits in
      let len : length bytes ≡ length (all_bytes walk.items) + length rest = ap length walk.parts
      ∙ length-append (all_bytes walk.items) rest in
      record {
        limit = omega (arith, counted.limit, limit);
        room = omega (arith, counted.room, walk.offset, limit, len, few);
        records = omega (arith, size, begun, counted.records, walk.record_count, walk.offset);
        facts = omega (arith, size, counted.facts, walk.fact_count, walk.offset);
      }

  -- a step from where a walk ended goes under the walk's limit
  pub Walks-at : (less longest : ℕ) (from to : Progress) (bytes rest : List ℕ) (old new : S) → less ≡ longest
      → Walks begins steps less from bytes old to rest new → Walks begins steps longest from bytes old to rest new
  Walks-at less longest from to bytes rest old new same walk = subst (λ (l : ℕ). Walks begins steps l from bytes old to rest new) same walk

-- the limit of items where a walk ended
pub same_item : {S : Type 0} (begins : S → Header → S → Type 0) (steps : S → FactValue → S → Type 0) (longest : ℕ) (from to : Progress)
    (bytes rest : List ℕ) (old new : S)
    → Walks begins steps longest from bytes old to rest new → to.limits.max_item ≡ from.limits.max_item
same_item begins steps longest from to bytes rest old new walk = ap (λ (l : Limits). l.max_item) walk.same_limits
