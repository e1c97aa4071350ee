-- Items that are read one after the other are counted.
use Rattle.std.proofs.Common.{ℕ, Bool, ◌||◌, List, ◌∷◌, length, refl, sym, ap, subst, ◌∙◌, arith}
use Rattle.std.proofs.Math.Bool.{or_assoc, or-false}
use Rattle.std.proofs.lemmas.List.{length-append}
use Rattle.std.specs.List.{list_any}
use Rattle.hprof_stream.specs.ItemValue.{ItemValue}
use Rattle.hprof_stream.specs.declared.progress.Progress.{Progress}
use Rattle.hprof_stream.specs.Part.{Stated, all_bytes, all_facts, is_end}
use Rattle.hprof_stream.specs.Item as places
use Rattle.hprof_stream.specs.Item.{Place, IsItem}
use Rattle.hprof_stream.specs.Progress.{place_of, advanced}
use Rattle.hprof_stream.specs.ReadItems.{IsReadAs, ReadsItems, none, more, CountsItems}
use Rattle.hprof_stream.proofs.Behind.{next_place, count_next, facts_next, end_next, offset_next, limits_next}

-- an item, and those behind it
behind_more : (longest : ℕ) (from to : Progress) (one : Stated) (items : List Stated) (item : ItemValue) → IsReadAs longest from one item
    → CountsItems longest (advanced from item (length one.bytes)) items to → CountsItems longest from (one ∷ items) to
behind_more longest from to one items item read behind =
    let n : ℕ = length one.bytes in
    let mid : Progress = advanced from item n in
    let is : IsItem longest (place_of from) one (place_of mid) =
    subst (IsItem longest (place_of from) one) (next_place from item n read.stands) read.is in
    record {
      each = places.more is behind.each;
      same_limits = behind.same_limits ∙ limits_next item n from;
      offset = omega (arith, behind.offset, offset_next item n from, length-append one.bytes (all_bytes items));
      record_count = omega (arith, behind.record_count, count_next from.header from.room item n from read.stands);
      fact_count = omega (
        arith,
        behind.fact_count,
        facts_next item n from,
        ap length read.has_facts,
        length-append one.facts (all_facts items),
      );
      has_end = behind.has_end ∙ ap (λ (b : Bool). b || list_any is_end items) (end_next item n from
          ∙ ap (λ (b : Bool). from.ended || b) read.ends)
          ∙ or_assoc from.ended (is_end one) (list_any is_end items);
    }

pub reads_behind : (longest : ℕ) (from : Progress) (items : List Stated) (to : Progress) → ReadsItems longest from items to
    → CountsItems longest from items to
reads_behind longest from items to none = record {
  each = places.none;
  same_limits = refl;
  offset = omega arith;
  record_count = omega arith;
  fact_count = omega arith;
  has_end = sym (or-false from.ended);
}
reads_behind longest from items to (more {one = one} {items = others} {item = item} read reads) =
    behind_more longest from to one others item read (reads_behind longest (advanced from item (length one.bytes)) others to reads)
