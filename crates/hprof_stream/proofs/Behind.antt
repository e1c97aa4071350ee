-- Where an item leads to.
use Rattle.std.proofs.Common.{◌≡◌, ℕ, zero, suc, ◌+◌, ◌<◌, ◌≤◌, Bool, true, false, ◌||◌, List, length, take}
use Rattle.std.proofs.Common.{Option, Some, None, refl, sym, arith}
use Rattle.std.proofs.Math.Bool.{or-false}
use Rattle.std.proofs.lemmas.List.{get_or-take}
use Rattle.std.specs.Prelude.{slice_index}
use Rattle.hprof_items.specs.declared.header.Header.{Header}
use Rattle.hprof_items.specs.declared.fact.Fact.{Fact}
use Rattle.hprof_stream.specs.declared.item.Item.{Item}
use Rattle.hprof_stream.specs.declared.item.Item.TheVariants as kinds
use Rattle.hprof_stream.specs.ItemValue.{ItemValue, with_fact, bare}
use Rattle.hprof_stream.specs.ItemValue as items
use Rattle.hprof_stream.specs.declared.progress.Progress.{Progress}
use Rattle.hprof_stream.specs.Item.{place_behind, begun_at}
use Rattle.hprof_stream.specs.ItemStep.{facts_stated, place_after, Stands, is_end_item}
use Rattle.hprof_stream.specs.Progress.{place_of, advanced, IsCounted, IsNext}
use Rattle.hprof_stream.specs.Walking.{told_by}

-- ---- the fact beside an item

-- where it leads to does not look at the fact
pub bare_after : (progress : Progress) (item : Item) (fact : Fact) (n : ℕ) → advanced progress (bare item) n
    ≡ advanced progress (with_fact item fact) n
bare_after progress (kinds.Header header) fact n = refl
bare_after progress kinds.Fact fact n = refl
bare_after progress (kinds.Dump len) fact n = refl
bare_after progress kinds.End fact n = refl
bare_after progress kinds.Skipped fact n = refl

pub bare_next : (progress : Progress) (item : Item) (fact : Fact) (n : ℕ) → IsNext progress (with_fact item fact) n
    → IsNext progress (bare item) n
bare_next progress (kinds.Header header) fact n is = is
bare_next progress kinds.Fact fact n is = is
bare_next progress (kinds.Dump len) fact n is = is
bare_next progress kinds.End fact n is = is
bare_next progress kinds.Skipped fact n is = is

pub bare_told : (header : Option Header) (item : Item) (fact : Fact) → told_by header (bare item) ≡ told_by header (with_fact item fact)
bare_told header (kinds.Header other) fact = refl
bare_told header kinds.Fact fact = refl
bare_told header (kinds.Dump len) fact = refl
bare_told header kinds.End fact = refl
bare_told header kinds.Skipped fact = refl

-- ---- behind an item

-- the place that it leads to is that of the progress behind it
place_next : (header : Option Header) (room : ℕ) (item : ItemValue) (n : ℕ) (progress : Progress) → progress.header ≡ header
    → progress.room ≡ room → Stands (place_behind header room) item
    → place_after (place_behind header room) item n ≡ place_of (advanced progress item n)
place_next None room (items.Header h) n progress e f stands = refl
place_next None room (items.Fact fact) n progress e f stands = absurd stands
place_next None room (items.Dump len) n progress e f stands = absurd stands
place_next None room items.End n progress e f stands = absurd stands
place_next None room items.Skipped n progress e f stands = absurd stands
place_next None room (items.Sub fact) n progress e f stands = absurd stands
place_next (Some h) zero (items.Header other) n progress e f stands = absurd stands
place_next (Some h) zero (items.Fact fact) n progress e f stands = rw (e, f) refl
place_next (Some h) zero (items.Dump len) n progress e f stands = rw e refl
place_next (Some h) zero items.End n progress e f stands = rw (e, f) refl
place_next (Some h) zero items.Skipped n progress e f stands = rw (e, f) refl
place_next (Some h) zero (items.Sub fact) n progress e f stands = absurd stands
place_next (Some h) (suc room) (items.Header other) n progress e f stands = absurd stands
place_next (Some h) (suc room) (items.Fact fact) n progress e f stands = absurd stands
place_next (Some h) (suc room) (items.Dump len) n progress e f stands = absurd stands
place_next (Some h) (suc room) items.End n progress e f stands = absurd stands
place_next (Some h) (suc room) items.Skipped n progress e f stands = absurd stands
place_next (Some h) (suc room) (items.Sub fact) n progress e f stands = rw (e, f) refl

pub next_place : (progress : Progress) (item : ItemValue) (n : ℕ) → Stands (place_of progress) item
    → place_after (place_of progress) item n ≡ place_of (advanced progress item n)
next_place progress item n stands = place_next progress.header progress.room item n progress refl refl stands

-- how many records it begins
pub count_next : (header : Option Header) (room : ℕ) (item : ItemValue) (n : ℕ) (progress : Progress)
    → Stands (place_behind header room) item
    → (advanced progress item n).records ≡ progress.records + begun_at (place_behind header room)
count_next None room (items.Header h) n progress stands = omega arith
count_next None room (items.Fact fact) n progress stands = absurd stands
count_next None room (items.Dump len) n progress stands = absurd stands
count_next None room items.End n progress stands = absurd stands
count_next None room items.Skipped n progress stands = absurd stands
count_next None room (items.Sub fact) n progress stands = absurd stands
count_next (Some h) zero (items.Header other) n progress stands = absurd stands
count_next (Some h) zero (items.Fact fact) n progress stands = omega arith
count_next (Some h) zero (items.Dump len) n progress stands = omega arith
count_next (Some h) zero items.End n progress stands = omega arith
count_next (Some h) zero items.Skipped n progress stands = omega arith
count_next (Some h) zero (items.Sub fact) n progress stands = absurd stands
count_next (Some h) (suc room) (items.Header other) n progress stands = absurd stands
count_next (Some h) (suc room) (items.Fact fact) n progress stands = absurd stands
count_next (Some h) (suc room) (items.Dump len) n progress stands = absurd stands
count_next (Some h) (suc room) items.End n progress stands = absurd stands
count_next (Some h) (suc room) items.Skipped n progress stands = absurd stands
count_next (Some h) (suc room) (items.Sub fact) n progress stands = omega arith

-- how many facts, and whether it ends a heap dump
pub facts_next : (item : ItemValue) (n : ℕ) (progress : Progress) → (advanced progress item n).facts ≡ progress.facts + length
    (facts_stated item)
facts_next (items.Header h) n progress = omega arith
facts_next (items.Fact fact) n progress = omega arith
facts_next (items.Dump len) n progress = omega arith
facts_next items.End n progress = omega arith
facts_next items.Skipped n progress = omega arith
facts_next (items.Sub fact) n progress = omega arith

or_true : (b : Bool) → true ≡ (b || true)
or_true true = refl
or_true false = refl

pub end_next : (item : ItemValue) (n : ℕ) (progress : Progress) → (advanced progress item n).ended ≡ (progress.ended || is_end_item item)
end_next (items.Header h) n progress = sym (or-false progress.ended)
end_next (items.Fact fact) n progress = sym (or-false progress.ended)
end_next (items.Dump len) n progress = sym (or-false progress.ended)
end_next items.End n progress = or_true progress.ended
end_next items.Skipped n progress = sym (or-false progress.ended)
end_next (items.Sub fact) n progress = sym (or-false progress.ended)

-- where it ends, and the limits
pub offset_next : (item : ItemValue) (n : ℕ) (progress : Progress) → (advanced progress item n).at ≡ progress.at + n
offset_next (items.Header h) n progress = refl
offset_next (items.Fact fact) n progress = refl
offset_next (items.Dump len) n progress = refl
offset_next items.End n progress = refl
offset_next items.Skipped n progress = refl
offset_next (items.Sub fact) n progress = refl

pub limits_next : (item : ItemValue) (n : ℕ) (progress : Progress) → (advanced progress item n).limits ≡ progress.limits
limits_next (items.Header h) n progress = refl
limits_next (items.Fact fact) n progress = refl
limits_next (items.Dump len) n progress = refl
limits_next items.End n progress = refl
limits_next items.Skipped n progress = refl
limits_next (items.Sub fact) n progress = refl

-- where there is room for more there is room for less
pub IsCounted-less : (progress : Progress) (room less : ℕ) → IsCounted progress room → less ≤ room → IsCounted progress less
IsCounted-less progress room less counted le = record {
  limit = counted.limit;
  room = omega (arith, counted.room);
  records =
      counted.records;
  facts = counted.facts;
}

-- a first byte stays first
pub first_taken : (n : ℕ) (bytes : List ℕ) → 0 < n → n ≤ length bytes → slice_index (take n bytes) 0 ≡ slice_index bytes 0
first_taken n bytes some there = get_or-take n bytes 0 0 some
