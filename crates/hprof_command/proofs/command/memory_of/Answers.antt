use Rattle.std.proofs.Common.{◌≡◌, ◌∙◌, ℕ, List, Option, Some, None, ap, refl, subst, sym}
use Rattle.std.specs.Borrow.{Bor}
use Rattle.std.specs.Prelude.{codes, option_map}
use Rattle.clap.specs.Words.{found_of, rows_of}
use Rattle.clap.proofs.WalkLemmas.{first_value-rows}
use Rattle.hprof_command.specs.Commands.{IsMemory, IsNoSize, memory_in}
use Rattle.hprof_command.proofs.command.memory_of.Goals as goal

abbrev text_of : Option (Bor (List ℕ)) → Option (List ℕ)
text_of = option_map (λ text. text.now)

pub returns-in-Ok : goal.returns-in-Ok
returns-in-Ok c =
    let found : Some c.in-Some.text.now ≡ memory_in (rows_of (found_of c.args.words.now)) =
    ap text_of (sym c.in-Some.is) ∙ c.get_str.ensures ∙ first_value-rows (found_of c.args.words.now) (codes "memory") in
    subst (λ (f : Option (List ℕ)). IsMemory f (Some c.in-Ok.bytes)) found (c.in-Ok.bytes, refl, c.in-Ok.ensures)

pub returns-in-Err : goal.returns-in-Err
returns-in-Err c =
    let found : Some c.in-Some.text.now ≡ memory_in (rows_of (found_of c.args.words.now)) =
    ap text_of (sym c.in-Some.is) ∙ c.get_str.ensures ∙ first_value-rows (found_of c.args.words.now) (codes "memory") in
    (c.in-Err.ensures.0, subst IsNoSize found c.in-Err.ensures.1)

pub returns-in-None : goal.returns-in-None
returns-in-None c =
    let found : None ≡ memory_in (rows_of (found_of c.args.words.now)) =
    ap text_of (sym c.in-None.is) ∙ c.get_str.ensures ∙ first_value-rows (found_of c.args.words.now) (codes "memory") in
    subst (λ (f : Option (List ℕ)). IsMemory f None) found refl
