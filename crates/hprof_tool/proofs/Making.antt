-- What making something of parts tells.
use Rattle.std.proofs.Common.{◌≡◌, inl, inr, ℕ, List, [], ◌∷◌, length, Option, Some, None, append-nil, Result, Ok, Err, refl, sym, ap}
use Rattle.std.proofs.Common.{subst, ◌∙◌}
use Rattle.std.specs.Prelude.{IfErr, OnOk, OnErr}
use Rattle.std.specs.Io.KnownBytes.{Appends, Keeps, append_known}
use Rattle.std.proofs.KnownBytes.{Appends-kept}
use Rattle.std.proofs.Math.Seq.{take-length}
use Rattle.hprof_devices.specs.declared.health.Health.{Health}
use Rattle.hprof_devices.specs.declared.health.Health.TheVariants as healths
use Rattle.hprof_devices.specs.declared.health.WriteFault.{WriteFault}
use Rattle.hprof_devices.specs.declared.health.WriteFault.TheVariants as write_faults
use Rattle.hprof_devices.specs.Device.{health_after}
use Rattle.hprof_stream.specs.declared.limits.Limits.{Limits}
use Rattle.hprof_engine.specs.declared.tool_fault.ToolFault.{ToolFault}
use Rattle.hprof_engine.specs.declared.tool_fault.ToolFault.TheVariants as tool
use Rattle.hprof_engine.specs.Joining.{Tell, IsBeforeWriting, fault_of}
use Rattle.hprof_engine.specs.Makes.{Making, Makes}
use Rattle.hprof_tool.specs.Program.{IsRefusal, MakesStream, usual_limits, refused_of}

-- no reader tells no part
pub no_parts_told : {R : Type 0} (left : R → Option (List ℕ)) (readers : List R) (parts : List (List ℕ)) → readers ≡ []
    → Tell left readers parts → parts ≡ []
no_parts_told left [] [] none told = refl
no_parts_told left [] (part ∷ parts) none told = absurd cc
no_parts_told left (reader ∷ readers) parts none told = absurd cc

-- limits with these numbers are the usual ones
pub are_usual : (limits : Limits) → limits.max_item ≡ 4294967295 → limits.max_reads ≡ 1099511627776
    → limits.max_bytes ≡ 18446744073709551615 → limits ≡ usual_limits
are_usual limits item reads bytes =
    ap (λ (n : ℕ). record limits { max_item = n }) item ∙ ap (λ (n : ℕ). record {
      max_item = 4294967295;
      max_reads = n;
      max_bytes =
          limits.max_bytes;
    }) reads
    ∙ ap (λ (n : ℕ). record { max_item = 4294967295; max_reads = 1099511627776; max_bytes = n }) bytes

-- a buffer that is empty adds nothing
pub none_added : (known : Option (List ℕ)) → append_known known [] ≡ known
none_added None = refl
none_added (Some bytes) = ap Some (append-nil bytes)

module _ {R : Type 0} (left : R → Option (List ℕ)) (health : R → Health) (pulls : R → ℕ) (old new : List R) where
  -- ---- what a refusal says

  module _ {W : Type 0} (written : W → Option (List ℕ)) (well : W → Health) (making : Making) (before after : W) where
    pub refusal : (fault : ToolFault) → Makes left health pulls written well usual_limits making old new before after (Some fault)
        → (parts : List (List ℕ)) → Tell left old parts → IsRefusal left health pulls old new making (refused_of fault) parts
    refusal (tool.Part index fault) m parts told = m.reads.part index fault refl parts told
    refusal tool.NoParts m parts told = no_parts_told left old parts (m.reads.no_parts.0 refl) told
    refusal tool.IdSizes m parts told = m.reads.id_sizes refl parts told
    refusal (tool.Conflict key) m parts told = m.reads.conflict key refl parts told
    refusal (tool.Write fault) m parts told =
        let is = (m.write fault refl).1 parts told in (is.0, is.2)
    refusal (tool.Refused why) m parts told = (m.refused why refl).1 parts told
    refusal (tool.Lost loss) m parts told = let is = m.lost loss refl in (is.0, is.2 parts told)
    refusal tool.OutOfMemory m parts told = tt

  -- the same of what a stream tells
  pub refused_by : (making : Making) (held holds : Option (List ℕ)) (end : Health) (fault : ToolFault)
      → Makes {W = Option (List ℕ) × Health} left health pulls (λ s. s.0) (λ s. s.1) usual_limits making old new (held, healths.Well)
      (holds, end) (Some fault)
      → (parts : List (List ℕ)) → Tell left old parts → IsRefusal left health pulls old new making (refused_of fault) parts
  refused_by making held holds end fault m parts told =
      refusal {W = Option (List ℕ) × Health} (λ s. s.0) (λ s. s.1) making (held, healths.Well) (holds, end) fault m parts told

  -- ---- a device that is taken apart

  module _ {W : Type 0} (written : W → Option (List ℕ)) (well : W → Health) (making : Making) (before after : W) where
    -- what it holds, and its health
    pub shown : (ended : Option ToolFault) → Makes left health pulls written well usual_limits making old new before after ended
        → Makes {W = Option (List ℕ) × Health} left health pulls (λ stream. stream.0) (λ stream. stream.1) usual_limits making old new
        (written before, well before) (written after, well after) ended
    shown ended m = record {
      reads = m.reads;
      ok = m.ok;
      unwritten = λ none. let same = m.unwritten none in ap (λ (w : W). (written w, well w)) same;
      refused = m.refused;
      write = m.write;
      lost = λ loss e.
          let is = m.lost loss e in (
            is.0,
            elim is.1 [
              | inl same ↦ inl (ap (λ (w : W). (written w, well w)) same)
              | inr front ↦ inr front
            ],
            is.2,
          );
      memory = λ e. elim (m.memory e) [
        | inl none ↦ inl (none.0, none.1, ap (λ (w : W). (written w, well w)) none.2)
        | inr all ↦ inr (
          all.0,
          all.1,
          all.2,
          elim all.3 [
            | inl front ↦ inl front
            | inr refused ↦ inr (refused.0, ap (λ (w : W). (written w, well w)) refused.1)
          ],
        )
      ];
      no_other = m.no_other;
    }

  module _ (making : Making) (held holds end : Option (List ℕ)) (was is : Health) where
    -- all was written, and what is held stays
    kept : Keeps holds end → Makes {W = Option (List ℕ) × Health} left health pulls (λ s. s.0) (λ s. s.1) usual_limits making old new
        (held, was) (holds, is) None
        → Makes {W = Option (List ℕ) × Health} left health pulls (λ s. s.0) (λ s. s.1) usual_limits making old new (held, was)
        (end, healths.Well) None
    kept keeps m = record {
      reads = m.reads;
      ok = λ e. (refl, λ parts told. let all = (m.ok e).1 parts told in (all.0, all.1, Appends-kept held holds end all.0 all.2 keeps));
      unwritten = λ none. absurd none;
      refused = λ why e. absurd cc;
      write = λ fault e. absurd cc;
      lost = λ loss e. absurd cc;
      memory = λ e. absurd cc;
      no_other = λ parts ids millis facts told state are_well is_well unhindered. tt;
    }

    -- all was written, and then the writer failed
    failed_after : Keeps holds end → Makes {W = Option (List ℕ) × Health} left health pulls (λ s. s.0) (λ s. s.1) usual_limits making
        old new (held, was) (holds, is) None
        → Makes {W = Option (List ℕ) × Health} left health pulls (λ s. s.0) (λ s. s.1) usual_limits making old new (held, was)
        (end, healths.Failed) (Some (tool.Write write_faults.Failed))
    failed_after keeps m = record {
      reads = record {
        no_parts = (λ e. absurd cc, λ none. let no = m.reads.no_parts.1 none in absurd cc);
        id_sizes = λ e. absurd cc;
        conflict = λ key e. absurd cc;
        part = λ index why e. absurd cc;
        accepted = m.reads.accepted;
        read_out = m.reads.read_out;
      };
      ok = λ e. absurd cc;
      unwritten = λ none. absurd none;
      refused = λ why e. absurd cc;
      write = λ fault e.
          let one : write_faults.Failed ≡ fault = cc in (
            subst (λ (f : WriteFault). healths.Failed ≡ health_after f) one refl,
            λ parts told.
                let all = (m.ok refl).1 parts told in (
                  all.0,
                  length all.0,
                  all.1,
                  subst (Appends held end) (sym (take-length all.0)) (Appends-kept held holds end all.0 all.2 keeps),
                ),
          );
      lost = λ loss e. absurd cc;
      memory = λ e. absurd cc;
      no_other = λ parts ids millis facts told state are_well is_well unhindered. absurd cc;
    }

    -- what was made, and then flushed
    pub flushed : (made outcome : Result (Unit {0}) ToolFault)
        → Makes {W = Option (List ℕ) × Health} left health pulls (λ s. s.0) (λ s. s.1) usual_limits making old new (held, was)
        (holds, is) (fault_of made)
        → OnOk made (OnErr outcome (outcome ≡ Err (tool.Write write_faults.Failed))) → IfErr made (λ fault. outcome ≡ Err fault)
        → Keeps holds end → OnErr made (end ≡ holds)
        → (last : Health) × Makes {W = Option (List ℕ) × Health} left health pulls (λ s. s.0) (λ s. s.1) usual_limits making old new
        (held, was) (end, last) (fault_of outcome)
    flushed (Ok u) (Ok done) m failed refused keeps same = (healths.Well, kept keeps m)
    flushed (Ok u) (Err fault) m failed refused keeps same =
        let one : tool.Write write_faults.Failed ≡ fault = cc in (
          healths.Failed,
          subst (λ (f : ToolFault). Makes {W = Option (List ℕ) × Health} left health pulls (λ s. s.0) (λ s. s.1) usual_limits making old new
              (held, was) (end, healths.Failed) (Some f)) one (failed_after keeps m),
        )
    flushed (Err fault) outcome m failed refused keeps same = (
      is,
      subst (λ (o : Result (Unit {0}) ToolFault). Makes {W = Option (List ℕ) × Health} left health pulls (λ s. s.0) (λ s. s.1)
          usual_limits making old new (held, was) (end, is) (fault_of o)) (sym refused)
          (subst (λ (h : Option (List ℕ)). Makes {W = Option (List ℕ) × Health} left health pulls (λ s. s.0) (λ s. s.1) usual_limits making
          old new (held, was) (h, is) (Some fault)) (sym same) m),
    )

    -- the same of the stream that was there at first, and is at last
    pub streamed : (first last : Option (List ℕ)) (made outcome : Result (Unit {0}) ToolFault) → held ≡ first → was ≡ healths.Well
        → end ≡ last
        → Makes {W = Option (List ℕ) × Health} left health pulls (λ s. s.0) (λ s. s.1) usual_limits making old new (held, was)
        (holds, is) (fault_of made)
        → OnOk made (OnErr outcome (outcome ≡ Err (tool.Write write_faults.Failed))) → IfErr made (λ fault. outcome ≡ Err fault)
        → Keeps holds end → OnErr made (end ≡ holds) → MakesStream left health pulls making old new first last (fault_of outcome)
    streamed first last made outcome at_first well at_last m failed refused keeps same =
        let it = flushed made outcome m failed refused keeps same in (
          it.0,
          subst (λ (h : Option (List ℕ)). Makes {W = Option (List ℕ) × Health} left health pulls (λ s. s.0) (λ s. s.1) usual_limits making
              old new (h, healths.Well) (last, it.0) (fault_of outcome)) at_first
              (subst (λ (w : Health). Makes {W = Option (List ℕ) × Health} left health pulls (λ s. s.0) (λ s. s.1) usual_limits making
              old new (held, w) (last, it.0) (fault_of outcome)) well
              (subst (λ (h : Option (List ℕ)). Makes {W = Option (List ℕ) × Health} left health pulls (λ s. s.0) (λ s. s.1) usual_limits
              making old new (held, was) (h, it.0) (fault_of outcome)) at_last it.1)),
        )

  -- the same stream, told by what is equal
  pub same_stream : (making : Making) (held held' holds holds' : Option (List ℕ)) (ended ended' : Option ToolFault) → held ≡ held'
      → holds ≡ holds' → ended ≡ ended' → MakesStream left health pulls making old new held holds ended
      → MakesStream left health pulls making old new held' holds' ended'
  same_stream making held held' holds holds' ended ended' first last end m =
      subst (λ (h : Option (List ℕ)). MakesStream left health pulls making old new h holds' ended') first
      (subst (λ (h : Option (List ℕ)). MakesStream left health pulls making old new held h ended') last
      (subst (λ (e : Option ToolFault). MakesStream left health pulls making old new held holds e) end m))

-- after a refusal before writing it is the very writer that it was
pub untouched : {A : Type 0} (first was now : A) (made outcome : Result (Unit {0}) ToolFault)
    → OnOk made (OnErr outcome (outcome ≡ Err (tool.Write write_faults.Failed))) → IfErr made (λ fault. outcome ≡ Err fault)
    → OnErr made (now ≡ was) → (IsBeforeWriting (fault_of made) → was ≡ first) → IsBeforeWriting (fault_of outcome) → now ≡ first
untouched first was now (Ok u) (Ok done) failed refused same before none = absurd none
untouched first was now (Ok u) (Err fault) failed refused same before none =
    let one : fault ≡ tool.Write write_faults.Failed = cc in absurd (subst (λ (f : ToolFault). IsBeforeWriting (Some f)) one none)
untouched first was now (Err fault) outcome failed refused same before none =
    same ∙ before (subst (λ (o : Result (Unit {0}) ToolFault). IsBeforeWriting (fault_of o)) refused none)
