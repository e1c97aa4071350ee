use Rattle.std.proofs.Common.{◌++◌, ◌∷◌, [], ℕ, List, ap, map, sym, ◌∙◌}
use Rattle.std.proofs.lemmas.List.{map_push}
use Rattle.hprof_tables.proofs.relation.copies.Goals as goal

pub loop-key-preserved : goal.loop-key-preserved
loop-key-preserved g c =
    let content = g.V.Content.content in
    let copy = c.in_ok-copied.field-0 in
    ap (map content) c.in_ok-push.ensures.items ∙ map_push content c.loop-key.rows.items copy
    ∙ ap (λ (those : List (List ℕ)). those ++ content copy ∷ []) c.loop-key.invariant
    ∙ ap (λ (one : List ℕ). map (λ row. content row.1.now) c.loop-key.yielded ++ one ∷ []) c.in_ok-copied.ensures.row
    ∙ sym (map_push (λ row. content row.1.now) c.loop-key.yielded (c.in-Some._key, c.in-Some.row))
