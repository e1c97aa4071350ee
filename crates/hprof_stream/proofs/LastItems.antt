-- Where items end that were read behind others.
use Rattle.std.proofs.Common.{◌≡◌, ◌⊎◌, ℕ, ◌-◌, ◌<◌, inl, inr, List, [], ◌∷◌, ◌++◌, length, take, drop, Option, Some, None, refl, sym, ap}
use Rattle.std.proofs.Common.{subst, ◌∙◌, append_assoc, append-nil, arith, Result, Ok, Err}
use Rattle.std.proofs.Math.Seq.{take-append_seam}
use Rattle.std.proofs.lemmas.Bool.{cases_lt}
use Rattle.std.proofs.lemmas.List.{length-append, take-append-drop, take-append-le, nil_from_length}
use Rattle.hprof_items.specs.declared.header.Header.{Header}
use Rattle.hprof_values.specs.declared.parse_stop.ParseStop.{ParseStop}
use Rattle.hprof_values.specs.declared.parse_stop.ParseStop.TheVariants.{Short}
use Rattle.hprof_items.specs.FactValue.{FactValue}
use Rattle.hprof_stream.specs.declared.limits.Limits.{Limits}
use Rattle.hprof_stream.specs.declared.part_reader.PartReader.{PartReader}
use Rattle.hprof_stream.specs.Part.{Stated, all_bytes, all_facts}
use Rattle.hprof_stream.specs.Item.{Place, Start, Found, header_before, IsItem, AreItems, none, more, item_at}
use Rattle.hprof_stream.specs.Progress.{place_of}
use Rattle.hprof_stream.specs.Reader.{header_of, HasRead, BeginsWhole, RanUpTo, whole_len}
use Rattle.hprof_stream.proofs.Items.{item_again}
use Rattle.hprof_stream.proofs.ItemLists.{AreItems-then, all_bytes-then, all_facts-then, items_headers}
use Rattle.hprof_stream.proofs.Faults.{item_once}
use Rattle.hprof_stream.proofs.PieceRoom.{taken_is}

-- what is short is not whole
never_whole : (step : Result (Found × ℕ) ParseStop) (found : Found) (n : ℕ) → step ≡ Ok (found, n) → step ≡ Err Short → ⊥
never_whole step found n whole short = cc

-- an item is longer than bytes at its front that are not whole yet
longer_than_short : (longest : ℕ) (from mid : Place) (one : Stated) (behind held piece : List ℕ) → IsItem longest from one mid
    → item_at longest from held ≡ Err Short → held ++ piece ≡ one.bytes ++ behind
    → length held < length one.bytes
longer_than_short longest from mid one behind held piece is short e =
    elim (cases_lt (length held) (length one.bytes)) [
      | inl longer ↦ longer
      | inr within ↦
          let n : ℕ = length one.bytes in
          let front : take n held ≡ one.bytes = sym (take-append-le n held piece within) ∙ ap (take n) e
          ∙ take-append_seam one.bytes behind in
          let all : one.bytes ++ drop n held ≡ held = ap (λ (b : List ℕ). b ++ drop n held) (sym front) ∙ take-append-drop n held in
          absurd (never_whole (item_at longest from held) _ n (ap (item_at longest from) (sym all)
          ∙ item_again longest from mid one (drop n held) is) short)
    ]

-- items over bytes of which a front was read, up to what is held: they end behind that, or are among those that were read
reach_or_among : (longest : ℕ) (from to end : Place) (items others : List Stated) (held piece left : List ℕ)
    → AreItems longest from items to → item_at longest to held ≡ Err Short → AreItems longest from others end
    → (all_bytes items ++ held) ++ piece ≡ all_bytes others ++ left
    → (length (all_bytes items ++ held) < length (all_bytes others)) ⊎ ((behind : List Stated) × (items ≡ others ++ behind))
reach_or_among longest from to end items others held piece left are short none e = inr (items, refl)
reach_or_among longest from to end items others held piece left none short (more {mid = mid} {one = one} {items = behind} first next) e =
    let longer = longer_than_short longest from mid one (all_bytes behind ++ left) held piece first short
    (e ∙ append_assoc one.bytes (all_bytes behind) left) in
    inl (omega (arith, longer, length-append one.bytes (all_bytes behind)))
reach_or_among longest from to end items others held piece left (more {mid = mid} {one = one} {items = behind} first next) short
    (more {mid = mid_too} {one = two} {items = behind_too} first_too next_too) e =
    let again : one.bytes ++ ((all_bytes behind ++ held) ++ piece) ≡ two.bytes ++ (all_bytes behind_too ++ left) =
    sym (append_assoc one.bytes (all_bytes behind ++ held) piece)
    ∙ ap (λ (b : List ℕ). b ++ piece) (sym (append_assoc one.bytes (all_bytes behind) held)) ∙ e
    ∙ append_assoc two.bytes (all_bytes behind_too) left in
    let same = item_once longest from mid mid_too one two ((all_bytes behind ++ held) ++ piece) (all_bytes behind_too ++ left) first
    first_too again in
    let bytes : length one.bytes ≡ length two.bytes = ap (λ (s : Stated). length s.bytes) same.1 in
    elim (reach_or_among longest mid to end behind behind_too held piece left next short
    (subst (λ (p : Place). AreItems longest p behind_too end) (sym same.0) next_too) same.2) [
      | inl beyond ↦ inl (omega (
        arith,
        beyond,
        bytes,
        length-append (one.bytes ++ all_bytes behind) held,
        length-append one.bytes
            (all_bytes behind),
        length-append (all_bytes behind) held,
        length-append two.bytes (all_bytes behind_too),
      ))
      | inr among ↦ inr (among.0, ap (λ (s : Stated). s ∷ behind) same.1 ∙ ap (λ (l : List Stated). two ∷ l) among.1)
    ]

-- the facts of items, one more and others are not those of fewer items
among_ends : (facts handed last others : List FactValue) → facts ≡ ((facts ++ handed) ++ last) ++ others → last ≡ []
among_ends facts handed last others e =
    nil_from_length last (omega (
      arith,
      ap length e,
      length-append ((facts ++ handed) ++ last) others,
      length-append (facts ++ handed) last,
      length-append facts handed,
    ))

module _ {S : Type 0} (begins : S → Header → S → Type 0) (steps : S → FactValue → S → Type 0) (limits : Limits) (bytes : List ℕ)
    (facts : List FactValue) (reader : PartReader) (piece : List ℕ) (told : Option Header) (old new : S)
    (read : HasRead limits bytes facts reader)
    (whole : BeginsWhole limits.max_item (take limits.max_bytes (bytes ++ piece)) told)
    (ran : RanUpTo begins steps whole facts (header_of reader) old new) where
  -- the item that the sink was given is not among those that were read before
  header_stays : (before : Option Header) → before ≡ header_of reader → header_before whole.before ≡ None → (read.items ≡ [] → ⊥) → ⊥
  header_stays None e bare some =
      some ((items_headers limits.max_item None (header_of reader) 0 reader.progress.room read.items read.splits.each).0 (sym e)).1
  header_stays (Some header) e bare some = let kept : header_before whole.before ≡ Some header = ran.stays header (sym e) in cc

  not_among : (behind : List Stated) → read.items ≡ (whole.items ++ whole.last ∷ []) ++ behind → ⊥
  not_among behind e =
      let one : all_facts (whole.last ∷ []) ≡ whole.last.facts = append-nil whole.last.facts in
      let stated : facts ≡ ((facts ++ ran.handed) ++ whole.last.facts) ++ all_facts behind =
      sym read.has_facts ∙ ap all_facts e ∙ all_facts-then (whole.items ++ whole.last ∷ []) behind
      ∙ ap (λ (f : List FactValue). f ++ all_facts behind)
      (all_facts-then whole.items (whole.last ∷ []) ∙ ap (λ (f : List FactValue). all_facts whole.items ++ f) one
      ∙ ap (λ (f : List FactValue). f ++ whole.last.facts) ran.has_facts) in
      let bare : header_before whole.before ≡ None = whole.given (among_ends facts ran.handed whole.last.facts (all_facts behind) stated) in
      let some : read.items ≡ [] → ⊥ = λ nothing.
      omega (
        arith,
        ap length (sym nothing ∙ e),
        length-append (whole.items ++ whole.last ∷ []) behind,
        length-append whole.items (whole.last ∷ []),
      ) in
      header_stays (header_of reader) refl bare some

  -- an item that the sink was given while a piece was fed ends behind what was fed before
  pub ends_behind : length bytes < whole_len whole
  ends_behind =
      let place : Place = place_of reader.progress in
      let others : List Stated = whole.items ++ whole.last ∷ [] in
      let are = AreItems-then limits.max_item Start whole.before whole.next whole.items (whole.last ∷ []) whole.each (more whole.item none)
      in
      let taken : List ℕ = take (limits.max_bytes - length bytes) piece in
      let one : all_bytes (whole.last ∷ []) ≡ whole.last.bytes = append-nil whole.last.bytes in
      let all : all_bytes others ≡ all_bytes whole.items ++ whole.last.bytes =
      all_bytes-then whole.items (whole.last ∷ []) ∙ ap (λ (b : List ℕ). all_bytes whole.items ++ b) one in
      let parts : (all_bytes read.items ++ read.unfinished) ++ taken ≡ all_bytes others ++ whole.back =
      ap (λ (b : List ℕ). b ++ taken) (sym read.splits.parts) ∙ sym (taken_is limits.max_bytes bytes piece read.within) ∙ whole.parts
      ∙ sym (append_assoc (all_bytes whole.items) whole.last.bytes whole.back) ∙ ap (λ (b : List ℕ). b ++ whole.back) (sym all) in
      elim (reach_or_among limits.max_item Start place whole.next read.items others read.unfinished taken whole.back read.splits.each
      read.keeps.short are parts) [
        | inl beyond ↦ omega (
          arith,
          beyond,
          ap length read.splits.parts,
          ap length all,
          length-append (all_bytes whole.items) whole.last.bytes,
        )
        | inr among ↦ absurd (not_among among.0 among.1)
      ]
