-- Taking sub-records, one after another.
use Rattle.std.proofs.Common.{◌≡◌, ℕ, zero, ◌+◌, ◌<◌, ◌≤◌, List, [], ◌∷◌, ◌++◌, length, Option, Result, Ok, Err, refl, sym, ap, subst, ◌∙◌}
use Rattle.std.proofs.Common.{append_assoc, append-nil, arith}
use Rattle.std.specs.List.{flat_map}
use Rattle.std.specs.Io.KnownBytes.{Appends}
use Rattle.std.proofs.KnownBytes.{Appends-nil, Appends-trans}
use Rattle.std.proofs.lemmas.Grind.{flat_map-append}
use Rattle.std.proofs.lemmas.List.{length-append}
use Rattle.hprof_devices.specs.declared.health.WriteFault.{WriteFault}
use Rattle.hprof_devices.specs.Device.{Writes}
use Rattle.hprof_devices.proofs.Writes.{WritesFront, WritesFront-more, WritesFront-then, Writes-then}
use Rattle.hprof_items.specs.Head.{record_bytes}
use Rattle.hprof_dump.specs.Dump.{most_in_segment}
use Rattle.hprof_segments.specs.ByteSegments.{byte_segments, segments_behind, segment_record, segment_records}
use Rattle.hprof_segments.specs.Taking.{HasTaken, EndsTaking, held_record}
use Rattle.hprof_segments.proofs.Behind.{segment_begun, behind_none, behind_fits, behind_full, alone}
use Rattle.hprof_segments.proofs.Held.{held_size, held_more, held_is_begun}

-- none was taken
pub taken_none : (start : Option (List ℕ)) → HasTaken start start [] []
taken_none start = record {
  sent = [];
  begun = [];
  segments = λ more. refl;
  appended = Appends-nil start;
  holds = refl;
  none = λ empty. refl;
}

-- one more is held
pub taken_more : (start now : Option (List ℕ)) (held : List ℕ) (subs : List (List ℕ)) (sub : List ℕ) → HasTaken start now held subs
    → 0 < length sub → length held + length sub ≤ most_in_segment → HasTaken start now (held ++ sub) (subs ++ sub ∷ [])
taken_more start now held subs sub h some fits =
    let size = held_size held h.begun h.holds in
    record {
      sent = h.sent;
      begun = h.begun ++ sub ∷ [];
      segments =
          λ more. ap byte_segments (append_assoc subs (sub ∷ []) more)
          ∙ h.segments (sub ∷ more)
          ∙ ap (λ (l : List (List (List ℕ))). h.sent ++ l) (behind_fits h.begun sub more (omega (arith, size)));
      appended = h.appended;
      holds = held_more held h.begun sub h.holds;
      none = λ empty. absurd (omega (arith, ap length empty, length-append held sub));
    }

-- ---- where the next has no room

-- all segments before the next sub-record were written
pub record IsNext (start now : Option (List ℕ)) (subs : List (List ℕ)) (sub : List ℕ) : Type 0 where
  pub sent : List (List (List ℕ))
  pub segments : (more : List (List ℕ)) → byte_segments (subs ++ sub ∷ more) ≡ sent ++ byte_segments (sub ∷ more)
  pub appended : Appends start now (flat_map segment_record sent)

-- the segments of all, where the next has no room in the one that is held
full_segments : (start now : Option (List ℕ)) (held : List ℕ) (subs : List (List ℕ)) (sub : List ℕ) (h : HasTaken start now held subs)
    → most_in_segment < length held + length sub → (more : List (List ℕ))
    → byte_segments (subs ++ sub ∷ more) ≡ (h.sent ++ segment_begun h.begun) ++ byte_segments (sub ∷ more)
full_segments start now held subs sub h full more =
    let size = held_size held h.begun h.holds in
    h.segments (sub ∷ more)
    ∙ ap (λ (l : List (List (List ℕ))). h.sent ++ l) (behind_full h.begun sub more (omega (arith, size)))
    ∙ sym (append_assoc h.sent (segment_begun h.begun) (byte_segments (sub ∷ more)))

-- the segment that is held was written
pub next_comes : (start mid now : Option (List ℕ)) (held : List ℕ) (subs : List (List ℕ)) (sub : List ℕ) → HasTaken start mid held subs
    → most_in_segment < length held + length sub → Appends mid now (held_record held) → IsNext start now subs sub
next_comes start mid now held subs sub h full appends =
    let record_is = held_is_begun held h.begun h.holds h.none in
    record {
      sent = h.sent ++ segment_begun h.begun;
      segments = full_segments start mid held subs sub h full;
      appended =
          subst (Appends start now) (sym (flat_map-append segment_record h.sent (segment_begun h.begun)
          ∙ ap (λ (l : List ℕ). flat_map segment_record h.sent ++ l) record_is))
          (Appends-trans start mid now (flat_map segment_record h.sent) (held_record held) h.appended appends);
    }

-- it was not
pub next_stops : (start mid now : Option (List ℕ)) (held new_held : List ℕ) (subs : List (List ℕ)) (sub : List ℕ)
    (r : Result (Unit {0}) WriteFault) (f : WriteFault) → r ≡ Err f → HasTaken start mid held subs
    → most_in_segment < length held + length sub → WritesFront mid now (held_record held) → EndsTaking start now new_held subs sub r
next_stops start mid now held new_held subs sub (Ok done) f stop h full writes = absurd cc
next_stops start mid now held new_held subs sub (Err fault) f stop h full writes = λ more.
    let behind : List ℕ = flat_map segment_record (byte_segments (sub ∷ more)) in
    let split : segment_records (subs ++ sub ∷ more) ≡ flat_map segment_record h.sent ++ (held_record held ++ behind) =
    ap (flat_map segment_record) (full_segments start mid held subs sub h full more)
    ∙ flat_map-append segment_record (h.sent ++ segment_begun h.begun) (byte_segments (sub ∷ more))
    ∙ ap (λ (l : List ℕ). l ++ behind) (flat_map-append segment_record h.sent (segment_begun h.begun)
    ∙ ap (λ (l : List ℕ). flat_map segment_record h.sent ++ l) (held_is_begun held h.begun h.holds h.none))
    ∙ append_assoc (flat_map segment_record h.sent) (held_record held) behind in
    subst (WritesFront start now) (sym split)
    (WritesFront-then start mid now (flat_map segment_record h.sent) (held_record held ++ behind) h.appended
    (WritesFront-more mid now (held_record held) behind writes))

-- it is held now
pub next_held : (start now : Option (List ℕ)) (held : List ℕ) (subs : List (List ℕ)) (sub : List ℕ) → IsNext start now subs sub
    → 0 < length sub → held ≡ sub → HasTaken start now held (subs ++ sub ∷ [])
next_held start now held subs sub n some is = record {
  sent = n.sent;
  begun = sub ∷ [];
  segments = λ more. ap byte_segments (append_assoc subs (sub ∷ []) more) ∙ n.segments more;
  appended = n.appended;
  holds = is ∙ sym (append-nil sub);
  none = λ empty. absurd (omega (arith, ap length empty, ap length is));
}

-- the record of one that stands alone
record_alone : (sub : List ℕ) → flat_map segment_record ((sub ∷ []) ∷ []) ≡ record_bytes 0x1c 0 sub
record_alone sub = append-nil (segment_record (sub ∷ [])) ∙ ap (record_bytes 0x1c 0) (append-nil sub)

-- it stands alone
pub next_alone : (start mid now : Option (List ℕ)) (held : List ℕ) (subs : List (List ℕ)) (sub : List ℕ)
    (r : Result (Unit {0}) WriteFault) → IsNext start mid subs sub
    → most_in_segment < length sub → held ≡ [] → Writes mid now r (record_bytes 0x1c 0 sub) → EndsTaking start now held subs sub r
next_alone start mid now held subs sub (Ok done) n long none writes = record {
  sent = n.sent ++ (sub ∷ []) ∷ [];
  begun = [];
  segments =
      λ more. ap byte_segments (append_assoc subs (sub ∷ []) more)
      ∙ n.segments more
      ∙ ap (λ (l : List (List (List ℕ))). n.sent ++ l) (alone sub more long)
      ∙ sym (append_assoc n.sent ((sub ∷ []) ∷ []) (byte_segments more));
  appended =
      subst (Appends start now) (sym (flat_map-append segment_record n.sent ((sub ∷ []) ∷ [])
      ∙ ap (λ (l : List ℕ). flat_map segment_record n.sent ++ l) (record_alone sub)))
      (Appends-trans start mid now (flat_map segment_record n.sent) (record_bytes 0x1c 0 sub) n.appended writes);
  holds = none;
  none = λ empty. refl;
}
next_alone start mid now held subs sub (Err fault) n long none writes = λ more.
    let behind : List ℕ = flat_map segment_record (byte_segments more) in
    let split : segment_records (subs ++ sub ∷ more) ≡ flat_map segment_record n.sent ++ (record_bytes 0x1c 0 sub ++ behind) =
    ap (flat_map segment_record) (n.segments more ∙ ap (λ (l : List (List (List ℕ))). n.sent ++ l) (alone sub more long))
    ∙ flat_map-append segment_record n.sent ((sub ∷ []) ∷ byte_segments more)
    ∙ ap (λ (l : List ℕ). flat_map segment_record n.sent ++ (record_bytes 0x1c 0 l ++ behind)) (append-nil sub) in
    subst (WritesFront start now) (sym split)
    (WritesFront-then start mid now (flat_map segment_record n.sent) (record_bytes 0x1c 0 sub ++ behind) n.appended
    (WritesFront-more mid now (record_bytes 0x1c 0 sub) behind writes))

-- ---- at the end

-- the segment that is held is the last
held_last : (start now : Option (List ℕ)) (held : List ℕ) (subs : List (List ℕ)) (h : HasTaken start now held subs)
    → segment_records subs ≡ flat_map segment_record h.sent ++ held_record held
held_last start now held subs h =
    ap (flat_map segment_record)
    (ap byte_segments (sym (append-nil subs)) ∙ h.segments [] ∙ ap (λ (l : List (List (List ℕ))). h.sent ++ l) (behind_none h.begun))
    ∙ flat_map-append segment_record h.sent (segment_begun h.begun)
    ∙ ap (λ (l : List ℕ). flat_map segment_record h.sent ++ l) (held_is_begun held h.begun h.holds h.none)

-- the others were written
pub taken_all : (start now : Option (List ℕ)) (held : List ℕ) (subs : List (List ℕ)) → HasTaken start now held subs
    → (sent : List ℕ) × Appends start now sent × (segment_records subs ≡ sent ++ held_record held)
taken_all start now held subs h = (flat_map segment_record h.sent, h.appended, held_last start now held subs h)

-- they are a front of those of all, whatever follows
pub taken_front : (start now : Option (List ℕ)) (held : List ℕ) (subs more : List (List ℕ)) → HasTaken start now held subs
    → (sent rest : List ℕ) × Appends start now sent × (segment_records (subs ++ more) ≡ sent ++ rest)
taken_front start now held subs more h = (
  flat_map segment_record h.sent,
  flat_map segment_record (segments_behind h.begun more),
  h.appended,
  ap (flat_map segment_record) (h.segments more) ∙ flat_map-append segment_record h.sent (segments_behind h.begun more),
)

-- and then it is written
pub all_written : (start mid now : Option (List ℕ)) (held : List ℕ) (subs : List (List ℕ)) (r : Result (Unit {0}) WriteFault)
    → HasTaken start mid held subs → Writes mid now r (held_record held) → Writes start now r (segment_records subs)
all_written start mid now held subs r h writes =
    subst (Writes start now r) (sym (held_last start mid held subs h))
    (Writes-then start mid now zero r (flat_map segment_record h.sent) (held_record held) h.appended writes)
