-- What comparing the parts of two heaps tells.
use Rattle.std.proofs.Common.{inl, inr, ℕ, List, [], Option, Some, None, refl}
use Rattle.std.specs.Prelude.{⊤}
use Rattle.hprof_devices.specs.declared.health.Health.{Health}
use Rattle.hprof_engine.specs.declared.tool_fault.ToolFault.{ToolFault}
use Rattle.hprof_engine.specs.declared.tool_fault.ToolFault.TheVariants as tool
use Rattle.hprof_engine.specs.Joining.{Tell, none_known}
use Rattle.hprof_engine.specs.Makes.{IsMadeOf, WritesFront}
use Rattle.hprof_stored.specs.Storing.{HaveObject}
use Rattle.hprof_diff.specs.Counts.{Totals}
use Rattle.hprof_diff.specs.Comparing.{Counts}
use Rattle.hprof_diff.specs.DifferenceText.{AreTotalsOf, IsDifferenceOf, IsGrowthReport}
use Rattle.hprof_tool.specs.declared.program.refused.Refused.{Refused}
use Rattle.hprof_tool.specs.declared.program.refused.Refused.TheVariants as refusals
use Rattle.hprof_tool.specs.Comparing.{IsFrontOfBoth, IsOfComparing, IsOfOpeningOne, IsOneOpened, OfDumps, OverBoth, RefusesDiff}
use Rattle.hprof_tool.specs.Comparing.{SaysOfTwo, StopsComparing, growth_of_parts}
use Rattle.hprof_tool.specs.Folder.{Answered}
use Rattle.hprof_tool.specs.Program.{IsOfMaking, IsRefusal, of_dump, refused_of, usual_limits}
use Rattle.hprof_tool.specs.Streams.{Leaves, LeavesFront}
use Rattle.hprof_tool.proofs.Files.{one_told}
use Rattle.hprof_tool.proofs.Making.{no_parts_told, none_added}
use Rattle.hprof_tool.proofs.Weaker.{other_reads}

-- ---- what kind of refusal it is

pub old_kind : (fault : ToolFault) → IsOfComparing (of_dump 0 (refused_of fault))
old_kind (tool.Part index fault) = tt
old_kind tool.NoParts = tt
old_kind tool.IdSizes = tt
old_kind (tool.Conflict key) = tt
old_kind (tool.Write fault) = tt
old_kind (tool.Refused refusal) = tt
old_kind (tool.Lost loss) = tt
old_kind tool.OutOfMemory = tt

pub new_kind : (why : Refused) → IsOfMaking why → IsOfComparing (of_dump 1 why)
new_kind (refusals.Engine (tool.Part index fault)) kind = tt
new_kind (refusals.Engine tool.NoParts) kind = tt
new_kind (refusals.Engine tool.IdSizes) kind = tt
new_kind (refusals.Engine (tool.Conflict key)) kind = tt
new_kind (refusals.Engine (tool.Write fault)) kind = tt
new_kind (refusals.Engine (tool.Refused refusal)) kind = tt
new_kind (refusals.Engine (tool.Lost loss)) kind = tt
new_kind (refusals.Engine tool.OutOfMemory) kind = absurd kind
new_kind (refusals.Dump place fault) kind = absurd kind
new_kind (refusals.Open index) kind = absurd kind
new_kind refusals.Create kind = absurd kind
new_kind refusals.Questions kind = absurd kind
new_kind refusals.OutOfMemory kind = tt

-- ---- the older parts were refused

module _ {R : Type 0} (left : R → Option (List ℕ)) (health : R → Health) (pulls : R → ℕ) (old new : List R) where
  -- what counting objects in memory answers, where they may be read again
  pub counts_too : (ended : Option ToolFault) → Counts left health pulls none_known ⊥ usual_limits old new ended
      → Counts left health pulls HaveObject ⊤ usual_limits old new ended
  counts_too ended counts = record {
    reads = other_reads left health pulls none_known HaveObject (λ facts none. absurd none) usual_limits old new ended counts.reads;
    kind = counts.kind;
    lost = λ loss e. absurd (counts.lost loss e).0;
    memory = λ e. elim (counts.memory e) [
      | inl out ↦ inl out
      | inr again ↦ absurd again.0
    ];
    no_other = counts.no_other;
  }

  abbrev Counted : ToolFault → Type 0
  Counted fault = Counts left health pulls HaveObject ⊤ usual_limits old new (Some fault)

  pub old_says : (others : List R) (fault : ToolFault) → Counted fault → (olds news : List (List ℕ)) → Tell left old olds
      → SaysOfTwo left health pulls old new others others (of_dump 0 (refused_of fault)) olds news
  old_says others (tool.Part index fault) counts olds news told = inl (refl, refl, counts.reads.part index fault refl olds told)
  old_says others tool.NoParts counts olds news told = inl (
    refl,
    refl,
    no_parts_told left old olds
        (counts.reads.no_parts.0 refl) told,
  )
  old_says others tool.IdSizes counts olds news told = inl (refl, refl, counts.reads.id_sizes refl olds told)
  old_says others (tool.Conflict key) counts olds news told = inl (refl, refl, counts.reads.conflict key refl olds told)
  old_says others (tool.Write fault) counts olds news told = absurd counts.kind
  old_says others (tool.Refused refusal) counts olds news told = absurd counts.kind
  old_says others (tool.Lost loss) counts olds news told =
      let is = counts.lost loss refl in inl (refl, refl, (is.0, is.1 olds told))
  old_says others tool.OutOfMemory counts olds news told = tt

  -- the stream is as it was
  pub old_leaves : {O : Type 0} (contents : O → Option (List ℕ)) (IsFront : Option (List ℕ) → Option (List ℕ) → Type 0) (before : O)
      (fault : ToolFault) → Counted fault → Leaves contents IsFront (of_dump 0 (refused_of fault)) before (Some before)
  old_leaves contents IsFront before (tool.Part index fault) counts = refl
  old_leaves contents IsFront before tool.NoParts counts = refl
  old_leaves contents IsFront before tool.IdSizes counts = refl
  old_leaves contents IsFront before (tool.Conflict key) counts = refl
  old_leaves contents IsFront before (tool.Write fault) counts = absurd counts.kind
  old_leaves contents IsFront before (tool.Refused refusal) counts = refl
  old_leaves contents IsFront before (tool.Lost loss) counts = ([], inl (none_added (contents before)))
  old_leaves contents IsFront before tool.OutOfMemory counts = ([], inl (none_added (contents before)))

-- ---- the newer parts were

module _ (totals : Totals) (olds : List (List ℕ)) (are : AreTotalsOf olds totals) where
  -- what is made of them beside the older totals is the difference
  pub difference_made : (news : List (List ℕ)) (text : List ℕ) → IsMadeOf (IsGrowthReport totals) news text → IsDifferenceOf olds news text
  difference_made news text made = record {
    old = totals;
    are_old = are;
    new = made.is.new;
    are_new = record { heap = made.heap; agree = made.agree; are_totals = made.is.are_totals };
    is = made.is.is;
  }

  pub new_says : {R : Type 0} (left : R → Option (List ℕ)) (health : R → Health) (pulls : R → ℕ) (others others_then old new : List R)
      (why : Refused) → IsOfMaking why → (news : List (List ℕ)) → IsRefusal left health pulls old new (growth_of_parts totals) why news
      → SaysOfTwo left health pulls others others_then old new (of_dump 1 why) olds news
  new_says left health pulls others others_then old new (refusals.Engine (tool.Part index fault)) kind news says = inr (
    refl,
    (are.heap, are.agree),
    says,
  )
  new_says left health pulls others others_then old new (refusals.Engine tool.NoParts) kind news says = inr (
    refl,
    (are.heap, are.agree),
    says,
  )
  new_says left health pulls others others_then old new (refusals.Engine tool.IdSizes) kind news says = inr (
    refl,
    (are.heap, are.agree),
    says,
  )
  new_says left health pulls others others_then old new (refusals.Engine (tool.Conflict key)) kind news says = inr (
    refl,
    (are.heap, are.agree),
    says,
  )
  new_says left health pulls others others_then old new (refusals.Engine (tool.Write fault)) kind news says =
      (says.0, difference_made news says.0 says.1)
  new_says left health pulls others others_then old new (refusals.Engine (tool.Refused refusal)) kind news says = absurd says.1
  new_says left health pulls others others_then old new (refusals.Engine (tool.Lost loss)) kind news says = inr (
    refl,
    (are.heap, are.agree),
    says,
  )
  new_says left health pulls others others_then old new (refusals.Engine tool.OutOfMemory) kind news says = absurd kind
  new_says left health pulls others others_then old new (refusals.Dump place fault) kind news says = absurd kind
  new_says left health pulls others others_then old new (refusals.Open index) kind news says = absurd kind
  new_says left health pulls others others_then old new refusals.Create kind news says = absurd kind
  new_says left health pulls others others_then old new refusals.Questions kind news says = absurd kind
  new_says left health pulls others others_then old new refusals.OutOfMemory kind news says = tt

-- the stream is left as it is where the dump is not told
pub dump_leaves : {O : Type 0} (contents : O → Option (List ℕ)) (IsFront : Option (List ℕ) → Option (List ℕ) → Type 0) (before : O)
    (why : Refused) (after : Option O) → Leaves contents IsFront why before after → Leaves contents IsFront (of_dump 1 why) before after
dump_leaves contents IsFront before (refusals.Engine (tool.Part index fault)) after leaves = leaves
dump_leaves contents IsFront before (refusals.Engine tool.NoParts) after leaves = leaves
dump_leaves contents IsFront before (refusals.Engine tool.IdSizes) after leaves = leaves
dump_leaves contents IsFront before (refusals.Engine (tool.Conflict key)) after leaves = leaves
dump_leaves contents IsFront before (refusals.Engine (tool.Write fault)) (Some after) leaves = leaves
dump_leaves contents IsFront before (refusals.Engine (tool.Write fault)) None leaves = leaves
dump_leaves contents IsFront before (refusals.Engine (tool.Refused refusal)) after leaves = leaves
dump_leaves contents IsFront before (refusals.Engine (tool.Lost loss)) (Some after) leaves = leaves
dump_leaves contents IsFront before (refusals.Engine (tool.Lost loss)) None leaves = leaves
dump_leaves contents IsFront before (refusals.Engine tool.OutOfMemory) after leaves = leaves
dump_leaves contents IsFront before (refusals.Dump place fault) after leaves = leaves
dump_leaves contents IsFront before (refusals.Open index) after leaves = leaves
dump_leaves contents IsFront before refusals.Create after leaves = leaves
dump_leaves contents IsFront before refusals.Questions after leaves = leaves
dump_leaves contents IsFront before refusals.OutOfMemory after leaves = leaves

-- ---- files

module _ {P W O : Type 0} (answered : Answered P W) (tells : P → Option (List ℕ)) (health : P → Health) (pulls : P → ℕ)
    (older newer : List ℕ) (contents : O → Option (List ℕ))
    (before : O) where
  abbrev Refuses : Refused → Option O → Type 0
  Refuses why after = RefusesDiff answered tells older newer contents before health pulls why after

  -- a dump could not be opened
  pub older_unopened : (why : Refused) → IsOfOpeningOne answered older 0 why → Refuses why (Some before)
  older_unopened (refusals.Engine fault) is = absurd is
  older_unopened (refusals.Dump place fault) is = absurd is
  older_unopened (refusals.Open place) is = (inl is, refl)
  older_unopened refusals.Create is = absurd is
  older_unopened refusals.Questions is = absurd is
  older_unopened refusals.OutOfMemory is = (tt, ([], inl (none_added (contents before))))

  pub newer_unopened : (olds : List P) → IsOneOpened answered older olds → (why : Refused) → IsOfOpeningOne answered newer 1 why
      → Refuses why (Some before)
  newer_unopened olds opened (refusals.Engine fault) is = absurd is
  newer_unopened olds opened (refusals.Dump place fault) is = absurd is
  newer_unopened olds opened (refusals.Open place) is = (inr (is.0, (opened.0, opened.2), is.1), refl)
  newer_unopened olds opened refusals.Create is = absurd is
  newer_unopened olds opened refusals.Questions is = absurd is
  newer_unopened olds opened refusals.OutOfMemory is = (tt, ([], inl (none_added (contents before))))

  module _ (olds news : List P) (opened : IsOneOpened answered older olds) (opened_too : IsOneOpened answered newer news) where
    -- what holds of what the readers tell holds of the files
    pub over_dumps : (Holds : List (List ℕ) → List (List ℕ) → Type 0) → OverBoth tells olds news Holds
        → OfDumps answered tells older newer Holds
    over_dumps Holds over = record {
      old = opened.0;
      new = opened_too.0;
      old_opened = opened.2;
      new_opened = opened_too.2;
      holds = λ one other told told_too. over _ _ (one_told tells olds opened.0 one opened.1 told)
          (one_told tells news opened_too.0 other opened_too.1 told_too);
    }

    abbrev FrontOfDumps : (held holds : Option (List ℕ)) → Type 0
    FrontOfDumps held holds = OfDumps answered tells older newer (λ one other. WritesFront (IsDifferenceOf one) other held holds)

    front_of_dumps : (held holds : Option (List ℕ)) → IsFrontOfBoth tells olds news held holds → FrontOfDumps held holds
    front_of_dumps held holds front = over_dumps (λ one other. WritesFront (IsDifferenceOf one) other held holds) front

    some_left : (after : O) → LeavesFront contents (IsFrontOfBoth tells olds news) before after
        → LeavesFront contents FrontOfDumps before after
    some_left after leaves = (
      leaves.0,
      elim leaves.1 [
        | inl none ↦ inl none
        | inr front ↦ inr (front_of_dumps _ _ front)
      ],
    )

    dumps_left : (why : Refused) (after : Option O) → IsOfComparing why → Leaves contents (IsFrontOfBoth tells olds news) why before after
        → Leaves contents FrontOfDumps why before after
    dumps_left (refusals.Engine (tool.Write fault)) (Some after) kind leaves = (leaves.0, front_of_dumps _ _ leaves.1)
    dumps_left (refusals.Engine (tool.Write fault)) None kind leaves = leaves
    dumps_left (refusals.Engine (tool.Part index fault)) after kind leaves = absurd kind
    dumps_left (refusals.Engine tool.NoParts) after kind leaves = absurd kind
    dumps_left (refusals.Engine tool.IdSizes) after kind leaves = absurd kind
    dumps_left (refusals.Engine (tool.Conflict key)) after kind leaves = absurd kind
    dumps_left (refusals.Engine (tool.Refused refusal)) after kind leaves = absurd kind
    dumps_left (refusals.Engine (tool.Lost loss)) after kind leaves = absurd kind
    dumps_left (refusals.Engine tool.OutOfMemory) after kind leaves = absurd kind
    dumps_left (refusals.Dump place (tool.Lost loss)) (Some after) kind leaves = some_left after leaves
    dumps_left (refusals.Dump place fault) after kind leaves = leaves
    dumps_left (refusals.Open index) after kind leaves = absurd kind
    dumps_left refusals.Create after kind leaves = absurd kind
    dumps_left refusals.Questions after kind leaves = absurd kind
    dumps_left refusals.OutOfMemory (Some after) kind leaves = some_left after leaves
    dumps_left refusals.OutOfMemory None kind leaves = leaves

    pub dumps_refused : (olds_then news_then : List P) (why : Refused) (after : Option O)
        → StopsComparing tells health pulls olds olds_then news news_then contents before why after → Refuses why after
    dumps_refused olds_then news_then (refusals.Engine (tool.Write fault)) after stops =
        (over_dumps _ stops.1, dumps_left (refusals.Engine (tool.Write fault)) after stops.0 stops.2)
    dumps_refused olds_then news_then (refusals.Engine (tool.Part index fault)) after stops = absurd stops.0
    dumps_refused olds_then news_then (refusals.Engine tool.NoParts) after stops = absurd stops.0
    dumps_refused olds_then news_then (refusals.Engine tool.IdSizes) after stops = absurd stops.0
    dumps_refused olds_then news_then (refusals.Engine (tool.Conflict key)) after stops = absurd stops.0
    dumps_refused olds_then news_then (refusals.Engine (tool.Refused refusal)) after stops = absurd stops.0
    dumps_refused olds_then news_then (refusals.Engine (tool.Lost loss)) after stops = absurd stops.0
    dumps_refused olds_then news_then (refusals.Engine tool.OutOfMemory) after stops = absurd stops.0
    dumps_refused olds_then news_then (refusals.Dump place fault) after stops = (
      record {
        olds = olds;
        olds_then = olds_then;
        news = news;
        news_then = news_then;
        old_opened = opened;
        new_opened = opened_too;
        holds = stops.1;
      },
      dumps_left (refusals.Dump place fault) after stops.0 stops.2,
    )
    dumps_refused olds_then news_then (refusals.Open index) after stops = absurd stops.0
    dumps_refused olds_then news_then refusals.Create after stops = absurd stops.0
    dumps_refused olds_then news_then refusals.Questions after stops = absurd stops.0
    dumps_refused olds_then news_then refusals.OutOfMemory after stops = (tt, dumps_left refusals.OutOfMemory after stops.0 stops.2)
