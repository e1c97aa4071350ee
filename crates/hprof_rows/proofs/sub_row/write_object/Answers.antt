use Rattle.std.proofs.Common.{◌+◌, ℕ, ap, subst}
use Rattle.std.proofs.lemmas.Result.{err_from_is_err_and}
use Rattle.std.specs.Io.KnownBytes.{Appends}
use Rattle.hprof_devices.specs.Device.{Writes}
use Rattle.hprof_devices.proofs.Writes.{WritesFront, Writes-then, Writes-stops}
use Rattle.hprof_rows.proofs.ObjectFront.{byte_small, front_is, whole}
use Rattle.hprof_rows.proofs.sub_row.write_object.Goals as goal

pub returns-in_err-push_all-clause-bytes : goal.returns-in_err-push_all-clause-bytes
returns-in_err-push_all-clause-bytes g c =
    let ids = c.args.ids in
    let tag = c.in-Some.tag.now in
    let rest = c.in-Some.rest.now in
    let kept = c.args.kept.now in
    let parts = c.in-Some.ensures.cases.0 in
    let p = err_from_is_err_and c.from_residual.result c.from_residual.ensures.1 in
    let front = front_is ids tag c.args.id (1 + c.width.result) _ c.put_numbers.new.out
    (byte_small kept rest tag (c.type_inv.kept 0) parts) (ap (λ (n : ℕ). 1 + n) c.width.ensures) c.put_numbers.ensures in
    subst (Writes _ _ c.from_residual.result) (whole ids tag c.args.id rest kept c.requires.kept parts)
    (Writes-stops _ _ c.from_residual.result p.0 _ rest p.1 (subst (WritesFront _ _) front c.in_err-push_all.ensures.bytes))

pub returns-clause-bytes : goal.returns-clause-bytes
returns-clause-bytes g c =
    let ids = c.args.ids in
    let tag = c.in-Some.tag.now in
    let rest = c.in-Some.rest.now in
    let kept = c.args.kept.now in
    let parts = c.in-Some.ensures.cases.0 in
    let front = front_is ids tag c.args.id (1 + c.width.result) _ c.put_numbers.new.out
    (byte_small kept rest tag (c.type_inv.kept 0) parts) (ap (λ (n : ℕ). 1 + n) c.width.ensures) c.put_numbers.ensures in
    subst (Writes _ _ c.push_all-2.result) (whole ids tag c.args.id rest kept c.requires.kept parts)
    (Writes-then _ _ _ c.in_ok-push_all.field-0 c.push_all-2.result _ rest
    (subst (Appends _ _) front c.in_ok-push_all.ensures.bytes) c.push_all-2.ensures.bytes)
