use Rattle.std.proofs.Common.{◌≡◌, None, rules}
use Rattle.hprof_scratch.proofs.Sizes.{IsCut, no_size, one_size}
use Rattle.hprof_scratch.proofs.size.parse_size.Goals as goal
use Rattle.hprof_scratch.proofs.size.parse_size.Goals.{After-split_suffix-bytes}

cut_of : (c : After-split_suffix-bytes) → IsCut c.args.text.now c.split_suffix-bytes.result.0.now c.split_suffix-bytes.result.1
cut_of c = record { parts = c.split_suffix-bytes.ensures.parts; only = c.split_suffix-bytes.ensures.only }

pub returns-in_err-parse_decimal : goal.returns-in_err-parse_decimal
returns-in_err-parse_decimal c bytes small =
    let none : c.from_residual.result ≡ None = search rules in
    let cut = cut_of (goal.at.returns-in_err-parse_decimal c).After-split_suffix-bytes in
    (λ is. absurd (cc (none, is)), λ size. absurd (no_size _ _ _ bytes cut (search rules) small size))

pub returns : goal.returns
returns c bytes small =
    let cut = cut_of (goal.at.returns c).After-split_suffix-bytes in
    let read = c.in_ok-parse_decimal.ensures in
    one_size _ _ _ bytes c.checked_mul.result cut read.0.0 (rw read.1 at c.checked_mul.ensures) small
