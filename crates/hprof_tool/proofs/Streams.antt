-- What is left of a stream to which something was to be written.
use Rattle.std.proofs.Common.{◌≡◌, inl, inr, ℕ, List, [], length, Option, Some, None, refl, sym, ap, subst, ◌∙◌}
use Rattle.std.specs.Borrow.{Bor}
use Rattle.std.specs.Io.KnownBytes.{append_known}
use Rattle.hprof_devices.specs.declared.health.Health.{Health}
use Rattle.hprof_engine.specs.declared.tool_fault.ToolFault.{ToolFault}
use Rattle.hprof_engine.specs.declared.tool_fault.ToolFault.TheVariants as tool
use Rattle.hprof_engine.specs.Joining.{Tell, IsBeforeWriting}
use Rattle.hprof_engine.specs.Makes.{Making, WritesFront}
use Rattle.hprof_tool.specs.declared.program.refused.Refused.{Refused}
use Rattle.hprof_tool.specs.declared.program.refused.Refused.TheVariants as refusals
use Rattle.hprof_tool.specs.Folder.{Answered}
use Rattle.hprof_tool.specs.Program.{IsRefusal, IsOfMaking, IsOfOpening, MakesStream, refused_of}
use Rattle.hprof_tool.specs.Streams.{StopsStream, Leaves}
use Rattle.hprof_tool.proofs.Making.{none_added, refused_by}

-- a refusal of the engine is one of making
kind_of : (fault : ToolFault) → IsOfMaking (refused_of fault)
kind_of (tool.Part index fault) = tt
kind_of tool.NoParts = tt
kind_of tool.IdSizes = tt
kind_of (tool.Conflict key) = tt
kind_of (tool.Refused refusal) = tt
kind_of (tool.Write fault) = tt
kind_of (tool.Lost loss) = tt
kind_of tool.OutOfMemory = tt

-- no other refusal is that there are no parts
no_parts_of : (fault : ToolFault) → refused_of fault ≡ refusals.Engine tool.NoParts → fault ≡ tool.NoParts
no_parts_of (tool.Part index fault) same = absurd cc
no_parts_of tool.NoParts same = cc
no_parts_of tool.IdSizes same = absurd cc
no_parts_of (tool.Conflict key) same = absurd cc
no_parts_of (tool.Refused refusal) same = absurd cc
no_parts_of (tool.Write fault) same = absurd cc
no_parts_of (tool.Lost loss) same = absurd cc
no_parts_of tool.OutOfMemory same = absurd cc

-- where a part cannot be opened, the stream is as it was
pub kept_at_opening : {P W O : Type 0} (contents : O → Option (List ℕ)) (IsFront : Option (List ℕ) → Option (List ℕ) → Type 0)
    (answered : Answered P W) (names : List (Bor (List ℕ))) (refused : Refused) (old : O) → IsOfOpening answered names refused
    → Leaves contents IsFront refused old (Some old)
kept_at_opening contents IsFront answered names (refusals.Engine fault) old is = absurd is
kept_at_opening contents IsFront answered names (refusals.Dump place fault) old is = absurd is
kept_at_opening contents IsFront answered names (refusals.Open index) old is = refl
kept_at_opening contents IsFront answered names refusals.Create old is = absurd is
kept_at_opening contents IsFront answered names refusals.Questions old is = absurd is
kept_at_opening contents IsFront answered names refusals.OutOfMemory old is = ([], inl (none_added (contents old)))

module _ {R W : Type 0} (left : R → Option (List ℕ)) (health : R → Health) (pulls : R → ℕ) (old new : List R) (making : Making)
    (contents : W → Option (List ℕ)) (before : W) where
  -- how it stopped
  abbrev pub Stops : Refused → Option W → Type 0
  Stops refused after = StopsStream left health pulls making old new contents before refused after

  -- what that says of the parts
  pub stream_refusal : (refused : Refused) (after : Option W) → Stops refused after → (parts : List (List ℕ)) → Tell left old parts
      → IsRefusal left health pulls old new making refused parts
  stream_refusal refused (Some after) stops parts told =
      subst (λ (r : Refused). IsRefusal left health pulls old new making r parts) (sym stops.is)
      (refused_by left health pulls old new making (contents before) (append_known (contents after) stops.unwritten) stops.makes.0
      stops.fault stops.makes.1 parts told)
  stream_refusal refused None stops parts told =
      subst (λ (r : Refused). IsRefusal left health pulls old new making r parts) (sym stops.0) tt

  pub stream_kind : (refused : Refused) (after : Option W) → Stops refused after → IsOfMaking refused
  stream_kind refused (Some after) stops = subst IsOfMaking (sym stops.is) (kind_of stops.fault)
  stream_kind refused None stops = subst IsOfMaking (sym stops.0) tt

  pub stream_no_parts : (refused : Refused) (after : Option W) → Stops refused after → refused ≡ refusals.Engine tool.NoParts
      → length old ≡ 0
  stream_no_parts refused (Some after) stops same =
      let none = no_parts_of stops.fault (sym stops.is ∙ same) in
      ap length (stops.makes.1.reads.no_parts.0 (ap Some none))
  stream_no_parts refused None stops same = let no : ⊥ = cc in absurd no

  -- what it leaves
  --   front: how a front of what is made of the parts is told
  module _ (IsFront : Option (List ℕ) → Option (List ℕ) → Type 0)
      (front : (held holds : Option (List ℕ)) → ((parts : List (List ℕ)) → Tell left old parts
      → WritesFront making.IsMade parts held holds) → IsFront held holds) where
    left_by : (fault : ToolFault) (after : W) (unwritten : List ℕ)
        → MakesStream left health pulls making old new (contents before) (append_known (contents after) unwritten) (Some fault)
        → (IsBeforeWriting (Some fault) → after ≡ before)
        → Leaves contents IsFront (refused_of fault) before (Some after)
    left_by (tool.Part index fault) after unwritten makes untouched = ap Some (untouched tt)
    left_by tool.NoParts after unwritten makes untouched = ap Some (untouched tt)
    left_by tool.IdSizes after unwritten makes untouched = ap Some (untouched tt)
    left_by (tool.Conflict key) after unwritten makes untouched = ap Some (untouched tt)
    left_by (tool.Refused refusal) after unwritten makes untouched = ap Some (untouched tt)
    left_by (tool.Write fault) after unwritten makes untouched =
        (unwritten, front (contents before) (append_known (contents after) unwritten) (makes.1.write fault refl).1)
    left_by (tool.Lost loss) after unwritten makes untouched = (
      unwritten,
      elim (makes.1.lost loss refl).1 [
        | inl same ↦ inl (ap (λ (s : Option (List ℕ) × Health). s.0) same)
        | inr written ↦ inr (front (contents before) (append_known (contents after) unwritten) written)
      ],
    )
    left_by tool.OutOfMemory after unwritten makes untouched = (
      unwritten,
      elim (makes.1.memory refl) [
        | inl none ↦ inl (ap (λ (s : Option (List ℕ) × Health). s.0) none.2)
        | inr all ↦ elim all.3 [
          | inl written ↦ inr (front (contents before) (append_known (contents after) unwritten) written)
          | inr refused ↦ inl (ap (λ (s : Option (List ℕ) × Health). s.0) refused.1)
        ]
      ],
    )

    pub stream_left : (refused : Refused) (after : Option W) → Stops refused after → Leaves contents IsFront refused before after
    stream_left refused (Some after) stops = subst (λ (r : Refused). Leaves contents IsFront r before (Some after)) (sym stops.is)
        (left_by stops.fault after stops.unwritten stops.makes stops.untouched)
    stream_left refused None stops = subst (λ (r : Refused). Leaves contents IsFront r before None) (sym stops.0) tt
