-- What is made of files.
use Rattle.std.proofs.Common.{◌≡◌, ℕ, zero, suc, List, [], ◌∷◌, ◌++◌, ◌+◌, ◌<◌, length, get_or, take, add-one, Option, Some, Result, Ok}
use Rattle.std.proofs.Common.{Err, sym, ap, subst}
use Rattle.std.specs.Prelude.{IfErr, IsErrAnd, slice_get}
use Rattle.std.specs.Borrow.{Bor}
use Rattle.std.proofs.lemmas.Option.{slice_get-get_or}
use Rattle.hprof_devices.specs.declared.health.Health.{Health}
use Rattle.hprof_tool.specs.declared.program.refused.Refused.{Refused}
use Rattle.hprof_tool.specs.declared.program.refused.Refused.TheVariants as refusals
use Rattle.hprof_engine.specs.declared.tool_fault.ToolFault.{ToolFault}
use Rattle.hprof_engine.specs.declared.tool_fault.ToolFault.TheVariants as tool
use Rattle.hprof_engine.specs.Joining.{Tell}
use Rattle.hprof_engine.specs.Makes.{Making}
use Rattle.hprof_tool.specs.Folder.{Answered, AreOpened, CannotOpenAt}
use Rattle.hprof_tool.specs.Program.{IsRefusal, IsFilesRefusal}
use Rattle.hprof_tool.specs.Program.{IsReportRefusal, IsOfOpening, IsOfCreating, IsOfMaking, IsOfStarting}

-- one more part is opened
pub opened_more : {P W : Type 0} (answered : Answered P W) (names : List (Bor (List ℕ))) (index : ℕ) (name : Bor (List ℕ))
    (parts : List P) (part : P) → slice_get names index ≡ Some name → AreOpened answered (take index names) parts
    → answered.IsOpened name.now part → AreOpened answered (take (suc index) names) (parts ++ part ∷ [])
opened_more answered [] index name parts part at opened is = absurd cc
opened_more answered (first ∷ names) zero name [] part at opened is =
    let same : first ≡ name = cc in (subst (λ (n : Bor (List ℕ)). answered.IsOpened n.now part) (sym same) is, tt)
opened_more answered (first ∷ names) zero name (other ∷ parts) part at opened is = absurd opened
opened_more answered (first ∷ names) (suc index) name [] part at opened is = absurd opened
opened_more answered (first ∷ names) (suc index) name (other ∷ parts) part at opened is =
    (opened.0, opened_more answered names index name parts part at opened.1 is)

-- the same, of the name that stands at that place
pub opened_at : {P W : Type 0} (answered : Answered P W) (names : List (Bor (List ℕ))) (index : ℕ) (default : Bor (List ℕ))
    (parts : List P) (part : P) → index < length names → answered.IsOpened (get_or names index default).now part
    → AreOpened answered (take index names) parts → AreOpened answered (take (index + 1) names) (parts ++ part ∷ [])
opened_at answered names index default parts part within is opened =
    subst (λ (n : ℕ). AreOpened answered (take n names) (parts ++ part ∷ [])) (sym (add-one index))
    (opened_more answered names index (get_or names index default) parts part (slice_get-get_or names index default within) opened is)

-- the part of the name that stands at that place could not be opened
pub cannot_open : {P W : Type 0} (answered : Answered P W) (names : List (Bor (List ℕ))) (index : ℕ) (default : Bor (List ℕ))
    (parts : List P) → index < length names → answered.CannotOpen (get_or names index default).now
    → AreOpened answered (take index names) parts → CannotOpenAt answered names index
cannot_open answered names index default parts within fails opened = record {
  name = get_or names index default;
  at = slice_get-get_or names index default within;
  fails = fails;
  before = parts;
  opened = opened;
}

-- starting a new file answers no refusal of the engine
pub starting_not_of_engine : {P W : Type 0} (answered : Answered P W) (names : List (Bor (List ℕ))) (out : List ℕ) (refused : Refused)
    (fault : ToolFault) → IsOfStarting answered names out refused → refused ≡ refusals.Engine fault → ⊥
starting_not_of_engine answered names out (refusals.Engine known) fault is same = is
starting_not_of_engine answered names out (refusals.Dump place why) fault is same = is
starting_not_of_engine answered names out (refusals.Open index) fault is same = cc
starting_not_of_engine answered names out refusals.Create fault is same = cc
starting_not_of_engine answered names out refusals.Questions fault is same = is
starting_not_of_engine answered names out refusals.OutOfMemory fault is same = cc

-- a refusal to open is one to start a new file, where none is left
pub opening_starts : {P W : Type 0} (answered : Answered P W) (names : List (Bor (List ℕ))) (out : List ℕ) (refused : Refused)
    → IsOfOpening answered names refused → answered.HasNone out → IsOfStarting answered names out refused
opening_starts answered names out (refusals.Engine fault) is none = absurd is
opening_starts answered names out (refusals.Dump place fault) is none = absurd is
opening_starts answered names out (refusals.Open index) is none = (is, none)
opening_starts answered names out refusals.Create is none = absurd is
opening_starts answered names out refusals.Questions is none = absurd is
opening_starts answered names out refusals.OutOfMemory is none = none

-- and so is one to create it
pub creating_starts : {P W : Type 0} (answered : Answered P W) (names : List (Bor (List ℕ))) (out : List ℕ) (refused : Refused)
    → IsOfCreating answered out refused → IsOfStarting answered names out refused
creating_starts answered names out (refusals.Engine fault) is = is
creating_starts answered names out (refusals.Dump place fault) is = is
creating_starts answered names out (refusals.Open index) is = absurd is
creating_starts answered names out refusals.Create is = is
creating_starts answered names out refusals.Questions is = is
creating_starts answered names out refusals.OutOfMemory is = is

module _ {P W : Type 0} (making : Making) (answered : Answered P W) (left : P → Option (List ℕ)) (health : P → Health)
    (pulls : P → ℕ) (names : List (Bor (List ℕ))) where
  -- a refusal to open is one to report
  pub opening_reports : (refused : Refused) → IsOfOpening answered names refused → IsReportRefusal making answered left health pulls names
      refused
  opening_reports (refusals.Engine fault) is = absurd is
  opening_reports (refusals.Dump place fault) is = absurd is
  opening_reports (refusals.Open index) is = is
  opening_reports refusals.Create is = absurd is
  opening_reports refusals.Questions is = absurd is
  opening_reports refusals.OutOfMemory is = tt

  -- a refusal to start a new file is one to make something in it
  pub of_starting : (out : List ℕ) (refused : Refused) → IsOfStarting answered names out refused
      → IsFilesRefusal making answered left health pulls names out refused
  of_starting out (refusals.Engine fault) is = absurd is
  of_starting out (refusals.Dump place fault) is = absurd is
  of_starting out (refusals.Open index) is = is
  of_starting out refusals.Create is = is
  of_starting out refusals.Questions is = absurd is
  of_starting out refusals.OutOfMemory is = (tt, is)

  -- a refusal to make something of the parts that were opened is one to report
  module _ (old new : List P) (opened : AreOpened answered names old) where
    abbrev Says : Refused → Type 0
    Says refused = (told : List (List ℕ)) → Tell left old told → IsRefusal left health pulls old new making refused told

    pub of_reporting : (refused : Refused) → IsOfMaking refused → Says refused → IsReportRefusal making answered left health pulls names
        refused
    of_reporting (refusals.Engine (tool.Part index fault)) kind says = record { old = old; new = new; opened = opened; holds = says }
    of_reporting (refusals.Engine tool.NoParts) kind says = record { old = old; new = new; opened = opened; holds = says }
    of_reporting (refusals.Engine tool.IdSizes) kind says = record { old = old; new = new; opened = opened; holds = says }
    of_reporting (refusals.Engine (tool.Conflict key)) kind says = record { old = old; new = new; opened = opened; holds = says }
    of_reporting (refusals.Engine (tool.Refused refusal)) kind says = record { old = old; new = new; opened = opened; holds = says }
    of_reporting (refusals.Engine (tool.Write fault)) kind says = record { old = old; new = new; opened = opened; holds = says }
    of_reporting (refusals.Engine (tool.Lost loss)) kind says = record { old = old; new = new; opened = opened; holds = says }
    of_reporting (refusals.Engine tool.OutOfMemory) kind says = absurd kind
    of_reporting (refusals.Dump place fault) kind says = absurd kind
    of_reporting (refusals.Open index) kind says = absurd kind
    of_reporting refusals.Create kind says = absurd kind
    of_reporting refusals.Questions kind says = absurd kind
    of_reporting refusals.OutOfMemory kind says = tt

    -- and where no new file is left, one to make something in it
    pub of_making : (out : List ℕ) (refused : Refused) → IsOfMaking refused → Says refused → answered.HasNone out
        → IsFilesRefusal making answered left health pulls names out refused
    of_making out (refusals.Engine fault) kind says none = (of_reporting (refusals.Engine fault) kind says, none)
    of_making out (refusals.Dump place fault) kind says none = absurd kind
    of_making out (refusals.Open index) kind says none = absurd kind
    of_making out refusals.Create kind says none = absurd kind
    of_making out refusals.Questions kind says none = absurd kind
    of_making out refusals.OutOfMemory kind says none = (tt, none)

-- a reader that is the only part tells it
pub one_told : {R : Type 0} (left : R → Option (List ℕ)) (readers : List R) (reader : R) (part : List ℕ) → readers ≡ reader ∷ []
    → left reader ≡ Some part → Tell left readers (part ∷ [])
one_told {R} left readers reader part one told =
    subst (λ (rs : List R). Tell left rs (part ∷ [])) (sym one) (ap (λ (l : Option (List ℕ)). l ∷ []) told)

-- what holds of the only error holds of each
pub if_the_error : {A : Type 0} (P : Refused → Type 0) (outcome : Result A Refused) (refused : Refused) → P refused
    → IsErrAnd outcome (λ e. e ≡ refused) → IfErr outcome P
if_the_error P (Ok x) refused holds is = tt
if_the_error P (Err e) refused holds is = subst P (sym is) holds

-- want of memory is not that there are no parts
pub no_memory_is_none : {A : Type 0} (why : Refused) → why ≡ refusals.OutOfMemory → ◌≡◌ {A = Result A Refused} (Err why)
    (Err (refusals.Engine tool.NoParts)) → ⊥
no_memory_is_none why is same = cc
