use Rattle.std.proofs.Common.{length, ap, sym, ◌∙◌}
use Rattle.hprof_naming.specs.declared.text.Coding.{Coding}
use Rattle.hprof_naming.specs.Units.{units_of}
use Rattle.hprof_naming.proofs.UnitCounts.{high_first_count, low_first_count}
use Rattle.hprof_naming.proofs.text.Units.count.Goals as goal

pub returns-in-Chars : goal.returns-in-Chars
returns-in-Chars c =
    high_first_count c.args.self.bytes.now ∙ ap (λ (coding : Coding). length (units_of coding c.args.self.bytes.now)) (sym c.in-Chars.is)

pub returns-in-Utf16 : goal.returns-in-Utf16
returns-in-Utf16 c =
    low_first_count c.args.self.bytes.now ∙ ap (λ (coding : Coding). length (units_of coding c.args.self.bytes.now)) (sym c.in-Utf16.is)
