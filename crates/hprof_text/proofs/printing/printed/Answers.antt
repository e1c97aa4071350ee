use Rattle.std.proofs.Common.{◌≡◌, rules}
use Rattle.std.specs.String.{string_bytes}
use Rattle.std.proofs.lemmas.Str.{IsUtf8-from_ascii}
use Rattle.hprof_text.proofs.Prints.{IsAscii-printed}
use Rattle.hprof_text.proofs.printing.printed.Goals as goal

pub unwrap-requires : goal.unwrap-requires
unwrap-requires c =
    c.from_utf8.ensures.succeeds
    (IsUtf8-from_ascii c.in_ok-text.text.items (IsAscii-printed c.args.bytes.now c.in_ok-text.text.items c.in_ok-text.ensures))

pub returns-clause-ascii : goal.returns-clause-ascii
returns-clause-ascii c =
    let same : string_bytes c.unwrap.result ≡ c.in_ok-text.text.items = search rules in
    rw same (IsAscii-printed c.args.bytes.now c.in_ok-text.text.items c.in_ok-text.ensures)

pub returns-clause-form : goal.returns-clause-form
returns-clause-form c = search rules

pub returns-in_err-text-clause-ascii : goal.returns-in_err-text-clause-ascii
returns-in_err-text-clause-ascii c = search rules

pub returns-in_err-text-clause-form : goal.returns-in_err-text-clause-form
returns-in_err-text-clause-form c = search rules
