use Rattle.std.proofs.Common.{◌≡◌, ◌+◌, ◌++◌, ◌≤◌, ◌∷◌, ℕ, List, length, drop, append_assoc, sym, ap, ◌∙◌, arith}
use Rattle.std.proofs.lemmas.List.{drop-drop, take_all}
use Rattle.byteorder.specs.Endian.{big_bytes}
use Rattle.hprof_values.specs.Ids.{width_of}
use Rattle.hprof_items.specs.SubRecord.{dump_bytes}
use Rattle.hprof_rows.specs.Content.{object_fact}
use Rattle.hprof_rows.proofs.ObjectFront.{byte_small, front_is, whole}
use Rattle.hprof_rows.proofs.sub_row.put_object.Goals as goal

pub returns : goal.returns
returns c =
    let ids = c.args.ids in
    let tag = c.in-Some.tag.now in
    let rest = c.in-Some.rest.now in
    let kept = c.args.kept.now in
    let out = c.args.out.now in
    let new = c.put_numbers.new.out in
    let copied = c.copy_from_slice.new.self in
    let parts = c.in-Some.ensures.cases.0 in
    let count : ℕ = 1 + c.width.result in
    let is : count ≡ 1 + width_of ids = ap (λ (n : ℕ). 1 + n) c.width.ensures in
    let spelled : List ℕ = tag ∷ big_bytes (width_of ids) c.args.id in
    let long : length new ≤ count = omega (arith, c.split_at_mut-front.ensures.front_len, c.put_numbers.auto.out) in
    let put : new ≡ spelled =
    sym (take_all count new long)
    ∙ front_is ids tag c.args.id count _ new (byte_small kept rest tag (c.type_inv.kept 0) parts) is c.put_numbers.ensures in
    let behind : List ℕ = drop (length rest) c.split_at_mut-front.result.1.now in
    let left : behind ≡ drop (width_of ids + length kept) out =
    ap (drop (length rest)) c.split_at_mut-front.ensures.back ∙ drop-drop (length rest) count out
    ∙ ap (λ (n : ℕ). drop n out) (omega (arith, is, ap length parts)) in
    ap (λ (l : List ℕ). l ++ (copied ++ behind)) put
    ∙ ap (λ (l : List ℕ). spelled ++ (l ++ behind)) c.copy_from_slice.ensures.after
    ∙ sym (append_assoc spelled rest behind)
    ∙ ap (λ (l : List ℕ). l ++ behind) (whole ids tag c.args.id rest kept c.requires.kept parts)
    ∙ ap (λ (l : List ℕ). dump_bytes ids (object_fact ids c.args.id kept) ++ l) left
