-- The tag and the identifier of an instance or an array, in front of what is kept of it.
use Rattle.std.proofs.Common.{◌≡◌, ◌<◌, ◌+◌, ◌++◌, ◌∷◌, [], ℕ, zero, suc, List, length, take, append-nil, sym, ap, ◌∙◌, Fits, w8, arith}
use Rattle.std.specs.Prelude.{slice_index}
use Rattle.std.proofs.Math.Seq.{take-append_seam}
use Rattle.byteorder.specs.Endian.{big_bytes, big_number}
use Rattle.byteorder.specs.Numbers.{length-bytes_high_first}
use Rattle.hprof_values.specs.declared.ids.IdSize.{IdSize}
use Rattle.hprof_values.specs.FieldGroups.{field_bytes}
use Rattle.hprof_values.specs.Ids.{width_of, IsBytes}
use Rattle.hprof_values.proofs.Numbers.{big_bytes-number}
use Rattle.hprof_items.specs.SubRecord.{dump_bytes}
use Rattle.hprof_rows.specs.Content.{object_fact}
use Rattle.hprof_rows.specs.Kept.{KeepsObject, with_id}
use Rattle.hprof_rows.proofs.KeptObjects.{kept_spelled}

one_byte : (byte : ℕ) → byte < 256 → IsBytes (byte ∷ [])
one_byte byte small zero = small
one_byte byte small (suc i) = omega arith

-- a byte is spelled as it is
byte_again : (byte : ℕ) → byte < 256 → big_bytes 1 byte ≡ byte ∷ []
byte_again byte small =
    let e : big_number 1 (byte ∷ []) ≡ byte = omega arith in
    ap (big_bytes 1) (sym e) ∙ big_bytes-number 1 (byte ∷ []) (one_byte byte small) (omega arith)

-- a byte in hand is below 256
pub byte_small : (kept rest : List ℕ) (tag : ℕ) → Fits w8 (slice_index kept 0) → kept ≡ tag ∷ rest → tag < 256
byte_small kept rest tag fits parts = omega (arith, fits, ap (λ (l : List ℕ). slice_index l 0) parts)

-- the piece that is pushed first
pub front_is : (ids : IdSize) (tag id count : ℕ) (back out : List ℕ) → tag < 256 → count ≡ 1 + width_of ids
    → out ≡ field_bytes (1 ∷ width_of ids ∷ []) (tag ∷ id ∷ []) ++ back → take count out ≡ tag ∷ big_bytes (width_of ids) id
front_is ids tag id count back out small is e =
    let spelled : List ℕ = tag ∷ big_bytes (width_of ids) id in
    let parts : out ≡ spelled ++ back =
    e ∙ ap (λ (l : List ℕ). (l ++ (big_bytes (width_of ids) id ++ [])) ++ back) (byte_again tag small)
    ∙ ap (λ (l : List ℕ). (tag ∷ l) ++ back) (append-nil (big_bytes (width_of ids) id)) in
    let long : count ≡ length spelled = omega (arith, is, length-bytes_high_first (width_of ids) id) in
    ap (take count) parts ∙ ap (λ (n : ℕ). take n (spelled ++ back)) long ∙ take-append_seam spelled back

-- with what stands behind it, it is the whole sub-record
pub whole : (ids : IdSize) (tag id : ℕ) (rest kept : List ℕ) → KeepsObject ids id (object_fact ids id kept) kept → kept ≡ tag ∷ rest
    → (tag ∷ big_bytes (width_of ids) id) ++ rest ≡ dump_bytes ids (object_fact ids id kept)
whole ids tag id rest kept keeps parts =
    ap (with_id ids id) (sym parts) ∙ sym (kept_spelled ids id (object_fact ids id kept) kept keeps)
