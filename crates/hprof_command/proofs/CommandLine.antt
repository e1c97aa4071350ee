-- Arguments that are added to a command, and commands to the program.
use Rattle.std.proofs.Common.{Option, Some, None, Result, Ok, Err, inl, Bool, true, false, not, ◌&&◌, ◌≡◌, ◌∙◌}
use Rattle.std.proofs.Common.{ℕ, ◌+◌, ◌<◌, add-one, arith, List, [], ◌∷◌, ◌++◌, map, take, get_or, length, append_assoc}
use Rattle.std.proofs.Common.{refl, sym, ap, ap₂, subst}
use Rattle.std.proofs.lemmas.List.{map_more}
use Rattle.std.proofs.Math.Dec.{eqb-suc-zero}
use Rattle.std.proofs.lemmas.List.{append-nil}
use Rattle.clap.specs.Words.{App, Rule, Shape, new_app, with_rule, with_subcommand}
use Rattle.std.specs.Prelude.{IsErrAnd, MatchResult, option_map, unwrap_or}
use Rattle.std.specs.Borrow.{Bor}
use Rattle.clap.specs.Faults.{fault_of}
use Rattle.clap.specs.Simple.{subcommand_of, new_shape}
use Rattle.clap.specs.Walk.{Row, is_empty}
use Rattle.hprof_command.specs.declared.command.subcommands.Argument.{Argument}
use Rattle.hprof_command.specs.declared.command.subcommands.CommandRow.{CommandRow}
use Rattle.hprof_command.specs.declared.command.Misunderstood.{Misunderstood}
use Rattle.hprof_command.specs.declared.command.Misunderstood.TheVariants as misunderstood
use Rattle.hprof_command.specs.CommandLine.{IsMisunderstanding, command_line, with_rules, memory_rule, parts_rule, required_rule}
use Rattle.hprof_command.specs.CommandLine.{rules_if, shape_of_row}
use Rattle.hprof_command.specs.Commands.{IsNoCommand, IsNoSizeOf, IsUnmatched}

-- one rule more
pub rule_more : {X : Type 0} (app : App) (f : X → Rule) (xs : List X) (i : ℕ) (d : X) → i < length xs
    → with_rule (with_rules app (map f (take i xs))) (f (get_or xs i d)) ≡ with_rules app (map f (take (i + 1) xs))
rule_more app f xs i d within =
    ap (λ (rules : List Rule). record app { top = record app.top { rules = rules } })
    (append_assoc app.top.rules (map f (take i xs)) (f (get_or xs i d) ∷ []) ∙ ap (λ (rules : List Rule). app.top.rules ++ rules)
    (sym (map_more f xs i d within)))

-- the rules of the arguments that must be given
abbrev pub required_rules : List Argument → List Rule
required_rules = map (λ argument. required_rule argument.name.now)

by_name : (arguments : List Argument) → required_rules arguments ≡ map required_rule (map (λ argument. argument.name.now) arguments)
by_name [] = refl
by_name (argument ∷ arguments) = ap (λ (rules : List Rule). required_rule argument.name.now ∷ rules) (by_name arguments)

-- an argument that is taken, and one that is not
pub rule_taken : (app : App) (takes : Bool) (rule : Rule) → takes ≡ true → with_rule app rule ≡ with_rules app (rules_if takes rule)
rule_taken app takes rule is = rw is refl

pub rule_left : (app : App) (takes : Bool) (rule : Rule) → takes ≡ false → app ≡ with_rules app (rules_if takes rule)
rule_left app takes rule is = rw is
    (ap (λ (rules : List Rule). record app { top = record app.top { rules = rules } }) (sym (append-nil app.top.rules)))

-- a command with the arguments of its row is that of the row
pub shape_of_these : (row : CommandRow)
    → (with_rules (with_rules (with_rules (new_app row.word.now) (required_rules row.arguments.now)) (rules_if row.takes_parts parts_rule))
    (memory_rule ∷ [])).top
    ≡ shape_of_row row
shape_of_these row =
    let parts = rules_if row.takes_parts parts_rule in
    let memory = memory_rule ∷ [] in
    ap (λ (rules : List Rule). record (new_shape row.word.now) { rules = rules })
    (append_assoc (required_rules row.arguments.now) parts memory
    ∙ ap (λ (rules : List Rule). rules ++ (parts ++ memory)) (by_name row.arguments.now))

-- a plain command has no global argument
pub no_globals : (first second third rest : Bool) → (first && (not second && (not third && rest))) ≡ true → third ≡ false
no_globals first second false rest plain = refl
no_globals true true true rest plain = sym plain
no_globals true false true rest plain = sym plain
no_globals false second true rest plain = sym plain

not_empty : {X : Type 0} (some : List X) (i : ℕ) → i < length some → false ≡ is_empty (take (i + 1) some)
not_empty [] i within = absurd (omega arith)
not_empty (first ∷ some) i within = sym (ap (λ (n : ℕ). is_empty (take n (first ∷ some))) (add-one i) ∙ eqb-suc-zero (length (take i some)))

module _ {X : Type 0} (start : App) (shape : X → Shape) where
  -- the program with these commands
  abbrev program_of : List X → App
  program_of some = record { top = record start.top { is_leaf = is_empty some }; subs = map shape some }

  -- one command more
  pub command_more : (some : List X) (i : ℕ) (d : X) → i < length some
      → with_subcommand (program_of (take i some)) (shape (get_or some i d)) ≡ program_of (take (i + 1) some)
  command_more some i d within =
      ap₂ (λ (leaf : Bool) (subs : List Shape). record { top = record start.top { is_leaf = leaf }; subs = subs })
      (not_empty some i within) (sym (map_more shape some i d within))

-- ---- what clap found

-- the text that was found, or the empty one
pub text_or_none : (found : Option (Bor (List ℕ))) (text none : Bor (List ℕ)) → text ≡ unwrap_or found none → none.now ≡ []
    → text.now ≡ unwrap_or (option_map (λ (some : Bor (List ℕ)). some.now) found) []
text_or_none (Some some) text none is empty = ap (λ (t : Bor (List ℕ)). t.now) is
text_or_none None text none is empty = ap (λ (t : Bor (List ℕ)). t.now) is ∙ empty

abbrev pub texts_now : Bor (List (Bor (List ℕ))) → List (List ℕ)
texts_now texts = map (λ (text : Bor (List ℕ)). text.now) texts.now

-- the texts that were found, or none
pub texts_or_none : (found : Option (Bor (List (Bor (List ℕ))))) (texts none : Bor (List (Bor (List ℕ)))) → texts ≡ unwrap_or found none
    → none.now ≡ [] → texts_now texts ≡ unwrap_or (option_map texts_now found) []
texts_or_none (Some some) texts none is empty = ap texts_now is
texts_or_none None texts none is empty = ap texts_now is ∙ ap (map (λ (text : Bor (List ℕ)). text.now)) empty

-- ---- the task of words

-- what follows from either answer
pub match_more : {A E : Type 0} (P Q : A → Type 0) (R S : E → Type 0) (outcome : Result A E) → ((x : A) → P x → Q x)
    → ((e : E) → R e → S e) → MatchResult outcome P R → MatchResult outcome Q S
match_more P Q R S (Ok x) one other holds = one x holds
match_more P Q R S (Err e) one other holds = other e holds

-- and from the only error
pub match_error : {A E : Type 0} (P : A → Type 0) (Q : E → Type 0) (outcome : Result A E) (error : E)
    → IsErrAnd outcome (λ e. e ≡ error) → Q error → MatchResult outcome P Q
match_error P Q (Ok x) error is holds = absurd is
match_error P Q (Err e) error is holds = subst Q (sym is) holds

-- words that clap has understood, and that ask for nothing
pub unmatched : (words : List (List ℕ)) (found : Option (List ℕ × List Row)) → found ≡ subcommand_of command_line words
    → fault_of command_line words ≡ [] → (why : Misunderstood) → IsUnmatched found why → IsMisunderstanding words why
unmatched words found same taken (misunderstood.Words error) kind = inl kind
unmatched words found same taken misunderstood.NoCommand none = (taken, subst IsNoCommand same none)
unmatched words found same taken misunderstood.NoSize none = (taken, subst IsNoSizeOf same none)
