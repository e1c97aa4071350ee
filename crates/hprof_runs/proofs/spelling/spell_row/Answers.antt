use Rattle.std.proofs.Common.{◌≡◌, ◌++◌, ℕ, List, ap, ◌∙◌, append_assoc}
use Rattle.hprof_runs.proofs.Spelled.{row_spelled}
use Rattle.hprof_runs.proofs.spelling.spell_row.Goals as goal

regroup : (old key len bytes : List ℕ) → ((old ++ key) ++ len) ++ bytes ≡ old ++ ((key ++ len) ++ bytes)
regroup old key len bytes = simp append_assoc

pub returns-clause-ok : goal.returns-clause-ok
returns-clause-ok c =
    let old = c.args.spelled.now.items in
    let bytes = c.args.bytes.now in
    let key = c.to_be_bytes-key_bytes.result in
    let len = c.to_be_bytes-len_bytes.result in
    c.extend_reserved-3.ensures.items
    ∙ ap (λ (l : List ℕ). l ++ bytes) (c.extend_reserved-2.ensures.items
    ∙ ap (λ (l : List ℕ). l ++ len) (c.extend_reserved.ensures.items ∙ ap (λ (l : List ℕ). l ++ key) c.reserve.ensures.items))
    ∙ regroup old key len bytes
    ∙ ap (λ (l : List ℕ). old ++ l) (row_spelled c.args.key bytes key len c.to_be_bytes-key_bytes.ensures c.to_be_bytes-len_bytes.ensures)
