use Rattle.std.proofs.Common.{◌≡◌, ◌-◌, ◌%◌, ◌<◌, ℕ, length, drop, ap, ◌∙◌, rules}
use Rattle.std.proofs.lemmas.List.{length-drop}
use Rattle.hprof_values.specs.Ids.{width_of}
use Rattle.hprof_values.proofs.Among.{first_compared}
use Rattle.hprof_values.proofs.IdLists.{one_less}
use Rattle.hprof_values.proofs.lists.among.is_among.Goals as goal

pub loop-rest-preserved : goal.loop-rest-preserved
loop-rest-preserved c =
    let was = c.loop-rest.invariant in
    let bytes = c.loop-rest.rest.now in
    let rest = c.split_at.result.1.now in
    let some : 0 < length bytes = search rules in
    let less = one_less c.args.ids (length bytes) some was.whole in
    let behind = ap (λ (w : ℕ). drop w bytes) c.width.ensures in
    let is_rest : rest ≡ drop (width_of c.args.ids) bytes = c.split_at.ensures.back ∙ behind in
    let len : length rest ≡ length bytes - width_of c.args.ids = ap length is_rest ∙ length-drop (width_of c.args.ids) bytes in
    let step = first_compared c.args.ids bytes rest c.id_at.result c.args.id c.loop-rest.found some was.whole c.id_at.ensures is_rest in
    record {
      whole = ap (λ (n : ℕ). n % width_of c.args.ids) len ∙ less.1;
      among = (λ it. was.among.0 (step.0 it), λ it. step.1 (was.among.1 it));
    }
