use Rattle.std.proofs.Common.{ℕ, zero, suc, List, [], ◌∷◌, ◌<◌, arith}
use Rattle.std.specs.Char.{digit_value}
use Rattle.std.proofs.lemmas.Bool.Decides.{nat_tests}
use Rattle.std.specs.Str.{IsAscii}
use Rattle.std.specs.Str.Parse.{AllDigits}
use Rattle.std.proofs.lemmas.Str.{IsUtf8-from_ascii}
use Rattle.hprof_questions.proofs.subject.parse_identifier.Goals as goal

digit_is_ascii : (c : ℕ) → digit_value c < 16 → c < 128
digit_is_ascii c low = grind (arith, nat_tests)

digits_are_ascii : (ds : List ℕ) → AllDigits 16 ds → IsAscii ds
digits_are_ascii [] all i = omega arith
digits_are_ascii (c ∷ cs) all zero = digit_is_ascii c all.0
digits_are_ascii (c ∷ cs) all (suc i) = digits_are_ascii cs all.1 i

pub returns-in-Err : goal.returns-in-Err
returns-in-Err c = λ is. c.in-Err.ensures.cases.0 (IsUtf8-from_ascii c.args.text.now (digits_are_ascii c.args.text.now is.digits.1))
