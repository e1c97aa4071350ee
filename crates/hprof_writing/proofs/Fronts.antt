-- Fields that are put behind those of a head, and the records that they begin.
use Rattle.std.proofs.Common.{◌≡◌, ℕ, ◌+◌, ◌%◌, ◌<◌, List, [], ◌∷◌, ◌++◌, length, take, sym, ap, ◌∙◌, append_assoc}
use Rattle.std.proofs.Common.{arith}
use Rattle.std.proofs.lemmas.List.{take_at, length-append}
use borrow.Rule.Slice.PartMut.{put_mid, post_of}
use Rattle.hprof_values.specs.FieldGroups.{field_bytes}
use Rattle.byteorder.specs.Endian.{big_bytes}
use Rattle.hprof_values.specs.declared.sub_tag.SubTag.{SubTag}
use Rattle.hprof_values.specs.SubTag.{code_of_tag}
use Rattle.hprof_items.specs.Head.{head_bytes, record_bytes}
use Rattle.hprof_items.specs.SubRecord.{tagged_bytes}

-- what was put at the front, and then behind that
pub front_parts : (a b back rest held part : List ℕ) (begin end k : ℕ) → held ≡ a ++ back → part ≡ b ++ rest → begin ≡ length a
    → end ≡ begin + length b
    → take end (put_mid begin k held part) ≡ a ++ b
front_parts a b back rest held part begin end k e f begins ends =
    let post : List ℕ = post_of begin k held in
    let front : take begin held ≡ a = ap (take begin) e ∙ take_at a back begin (sym begins) in
    let all : put_mid begin k held part ≡ (a ++ b) ++ (rest ++ post) =
    ap (λ (r : List ℕ). r ++ (part ++ post)) front ∙ ap (λ (r : List ℕ). a ++ (r ++ post)) f
    ∙ ap (λ (r : List ℕ). a ++ r) (append_assoc b rest post)
    ∙ sym (append_assoc a b (rest ++ post)) in
    ap (take end) all ∙ take_at (a ++ b) (rest ++ post) end (omega (arith, length-append a b))

-- a byte stands for itself
byte_same : (b : ℕ) → b < 256 → b % 256 ≡ b
byte_same b lt = omega arith

-- a tag, a time of 0 and the length of the body, and then the body
pub record_parts : (tag code len : ℕ) (widths numbers more : List ℕ) → tag ≡ code → tag < 256
    → len ≡ length (field_bytes widths numbers ++ more)
    → (field_bytes (1 ∷ 4 ∷ 4 ∷ []) (tag ∷ 0 ∷ len ∷ []) ++ field_bytes widths numbers) ++ more
    ≡ record_bytes code 0 (field_bytes widths numbers ++ more)
record_parts tag code len widths numbers more same lt is =
    let body : List ℕ = field_bytes widths numbers ++ more in
    ap (λ (t : ℕ). t ∷ ((big_bytes 4 0 ++ big_bytes 4 len) ++ body)) (byte_same tag lt ∙ same)
    ∙ ap (λ (n : ℕ). head_bytes code 0 n ++ body) is

-- a tag, and then the fields and what is behind them
pub tagged_parts : (tag : ℕ) (code : SubTag) (widths numbers more : List ℕ) → tag ≡ code_of_tag code → tag < 256
    → (field_bytes (1 ∷ []) (tag ∷ []) ++ field_bytes widths numbers) ++ more ≡ tagged_bytes code widths numbers more
tagged_parts tag code widths numbers more same lt = ap (λ (t : ℕ). t ∷ (field_bytes widths numbers ++ more)) (byte_same tag lt ∙ same)
