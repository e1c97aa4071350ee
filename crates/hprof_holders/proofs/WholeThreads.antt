-- The threads of a whole, and what they hold, are those of the facts without objects.
use Rattle.std.specs.Prelude.{◌↔◌}
use Rattle.std.proofs.Common.{ℕ, List, Option, Some, None, inl, inr, refl}
use Rattle.hprof_values.specs.declared.ids.IdSize.{IdSize}
use Rattle.hprof_values.specs.declared.root.Root.{Root}
use Rattle.hprof_items.specs.FactValue.{End, FactValue, Frame, Load, Rooted, Start, Trace}
use Rattle.hprof_rows.specs.declared.table.Table.TheVariants as tables
use Rattle.hprof_rows.specs.Facts.{Has}
use Rattle.hprof_naming.specs.Naming.{Naming}
use Rattle.hprof_passes.specs.Passing.{IsWhole}
use Rattle.hprof_passes.proofs.Tables.{has_same}
use Rattle.hprof_threads.specs.declared.held.Held.{Held}
use Rattle.hprof_threads.specs.declared.stack_frame.StackFrame.{StackFrame}
use Rattle.hprof_threads.specs.declared.thread_root.ThreadRoot.{ThreadRoot}
use Rattle.hprof_threads.specs.Frames.{HasFrame, IsClassOfFrame, IsFrameFound, IsFrameLine, IsLoadFound}
use Rattle.hprof_threads.specs.Held.{AreHeldBy, IsHeld}
use Rattle.hprof_threads.specs.Serials.{AreSerials, IsThread}
use Rattle.hprof_threads.specs.Threads.{HasThreadRoot, IsRootOfThread, IsStartFound, IsStarted, IsThreadObject, IsThreadStack}
use Rattle.hprof_threads.specs.Threads.{IsTraceFound, IsTraceOfRoot, fact_of_root}
use Rattle.hprof_holders.specs.ThreadFindings.{AreThreadFindings, ThreadFindings}

module _ (ids : IdSize) (facts all : List FactValue) (whole : IsWhole ids facts all) where
  -- ---- one by one

  pub root_there : (root : Root) → Has all (Rooted root) ↔ Has facts (Rooted root)
  root_there root = has_same ids facts all whole tables.Roots (λ e. cc) (Rooted root) refl

  started_there : (serial object : ℕ) → IsStarted all serial object → IsStarted facts serial object
  started_there serial object is = record {
    trace = is.trace;
    name = is.name;
    group = is.group;
    parent_group = is.parent_group;
    has = (has_same ids facts all whole tables.Starts (λ e. cc)
        (Start serial object is.trace is.name is.group is.parent_group) refl).0 is.has;
  }

  started_here : (serial object : ℕ) → IsStarted facts serial object → IsStarted all serial object
  started_here serial object is = record {
    trace = is.trace;
    name = is.name;
    group = is.group;
    parent_group = is.parent_group;
    has = (has_same ids facts all whole tables.Starts (λ e. cc)
        (Start serial object is.trace is.name is.group is.parent_group) refl).1 is.has;
  }

  end_there : (serial : ℕ) → Has all (End serial) ↔ Has facts (End serial)
  end_there serial = has_same ids facts all whole tables.Ends (λ e. cc) (End serial) refl

  trace_there : (trace thread : ℕ) (frames : List ℕ) → Has all (Trace trace thread frames) ↔ Has facts (Trace trace thread frames)
  trace_there trace thread frames = has_same ids facts all whole tables.Traces (λ e. cc) (Trace trace thread frames) refl

  -- ---- the object and the stack of a thread

  thread_root_there : (serial : ℕ) (root : ThreadRoot) → HasThreadRoot all serial root ↔ HasThreadRoot facts serial root
  thread_root_there serial root = has_same ids facts all whole tables.Roots (λ e. cc) (fact_of_root serial root) refl

  root_of_same : (serial : ℕ) (root : Option ThreadRoot) → IsRootOfThread all serial root → IsRootOfThread facts serial root
  root_of_same serial (Some root) is = record {
    has = (thread_root_there serial root).0 is.has;
    with_object = λ other has. is.with_object other ((thread_root_there serial other).1 has);
    first = λ other has. is.first other ((thread_root_there serial other).1 has);
  }
  root_of_same serial None none = λ root has. none root ((thread_root_there serial root).1 has)

  start_same : (serial : ℕ) (start : Option ℕ) → IsStartFound all serial start → IsStartFound facts serial start
  start_same serial (Some object) is = started_there serial object is
  start_same serial None none = λ object is. none object (started_here serial object is)

  pub object_same : (serial object : ℕ) → IsThreadObject all serial object → IsThreadObject facts serial object
  object_same serial object is = record {
    root = is.root;
    is_root = root_of_same serial is.root is.is_root;
    start = is.start;
    is_start = start_same serial is.start is.is_start;
    is = is.is;
  }

  trace_same : (trace : ℕ) (frames : Option (List ℕ)) → IsTraceFound all trace frames → IsTraceFound facts trace frames
  trace_same trace (Some frames) is = record { thread = is.thread; has = (trace_there trace is.thread frames).0 is.has }
  trace_same trace None none = λ frames is.
      none frames (record { thread = is.thread; has = (trace_there trace is.thread frames).1 is.has })

  trace_of_root_same : (root : Option ThreadRoot) (frames : Option (List ℕ)) → IsTraceOfRoot all root frames
      → IsTraceOfRoot facts root frames
  trace_of_root_same (Some root) frames is = trace_same root.trace frames is
  trace_of_root_same None frames is = is

  pub stack_same : (serial : ℕ) (frames : Option (List ℕ)) → IsThreadStack all serial frames → IsThreadStack facts serial frames
  stack_same serial frames is = record {
    root = is.root;
    is_root = root_of_same serial is.root is.is_root;
    is = trace_of_root_same is.root frames is.is;
  }

  -- ---- frames

  frame_there : (id : ℕ) (frame : StackFrame) → HasFrame all id frame → HasFrame facts id frame
  frame_there id frame has = record {
    signature = has.signature;
    has = (has_same ids facts all whole tables.Frames (λ e. cc)
        (Frame id frame.method has.signature frame.source frame.class_serial frame.line) refl).0 has.has;
  }

  frame_here : (id : ℕ) (frame : StackFrame) → HasFrame facts id frame → HasFrame all id frame
  frame_here id frame has = record {
    signature = has.signature;
    has = (has_same ids facts all whole tables.Frames (λ e. cc)
        (Frame id frame.method has.signature frame.source frame.class_serial frame.line) refl).1 has.has;
  }

  frame_same : (id : ℕ) (frame : Option StackFrame) → IsFrameFound all id frame → IsFrameFound facts id frame
  frame_same id (Some frame) has = frame_there id frame has
  frame_same id None none = λ frame has. none frame (frame_here id frame has)

  load_same : (serial : ℕ) (name : Option ℕ) → IsLoadFound all serial name → IsLoadFound facts serial name
  load_same serial (Some name) is = record {
    class = is.class;
    trace = is.trace;
    has = (has_same ids facts all whole tables.Loads (λ e. cc) (Load serial is.class is.trace name) refl).0 is.has;
  }
  load_same serial None none = λ name is. none name (record {
    class = is.class;
    trace = is.trace;
    has = (has_same ids facts all whole tables.Loads (λ e. cc) (Load serial is.class is.trace name) refl).1 is.has;
  })

  class_of_frame_same : (frame : Option StackFrame) (class : Option ℕ) → IsClassOfFrame all frame class
      → IsClassOfFrame facts frame class
  class_of_frame_same (Some frame) class is = load_same frame.class_serial class is
  class_of_frame_same None class is = is

  line_same : (naming : Naming) (id : ℕ) (line : List ℕ) → IsFrameLine all naming id line → IsFrameLine facts naming id line
  line_same naming id line is = record {
    frame = is.frame;
    frame_found = frame_same id is.frame is.frame_found;
    class = is.class;
    class_found = class_of_frame_same is.frame is.class is.class_found;
    is = is.is;
  }

  pub threads_same : (naming : Naming) (threads : ThreadFindings) → AreThreadFindings all naming threads
      → AreThreadFindings facts naming threads
  threads_same naming threads are = record {
    objects = λ serial. object_same serial (threads.object serial) (are.objects serial);
    stacks = λ serial. stack_same serial (threads.stack serial) (are.stacks serial);
    frame_lines = λ frame. line_same naming frame (threads.frame_line frame) (are.frame_lines frame);
  }

  -- ---- what threads hold

  pub held_there : (held : Held) → IsHeld all held → IsHeld facts held
  held_there held is = record { root = is.root; has = (root_there is.root).0 is.has; is = is.is; some = is.some }

  held_here : (held : Held) → IsHeld facts held → IsHeld all held
  held_here held is = record { root = is.root; has = (root_there is.root).1 is.has; is = is.is; some = is.some }

  pub held_by_same : (serial : ℕ) (rows : List Held) → AreHeldBy all serial rows → AreHeldBy facts serial rows
  held_by_same serial rows are = record {
    ascend = are.ascend;
    exact = λ held. (
      λ has. let it = (are.exact held).0 has in (held_there held it.0, it.1),
      λ it. (are.exact held).1 (held_here held it.0, it.1),
    );
  }

  -- ---- which threads there are

  pub thread_there : (serial : ℕ) → IsThread all serial → IsThread facts serial
  thread_there serial is = elim is [
    | inl named ↦ inl (record { root = named.root; has = (root_there named.root).0 named.has; is = named.is })
    | inr runs ↦ inr (record {
      object = runs.object;
      started = started_there serial runs.object runs.started;
      not_ended = λ ended. runs.not_ended ((end_there serial).1 ended);
    })
  ]

  thread_here : (serial : ℕ) → IsThread facts serial → IsThread all serial
  thread_here serial is = elim is [
    | inl named ↦ inl (record { root = named.root; has = (root_there named.root).1 named.has; is = named.is })
    | inr runs ↦ inr (record {
      object = runs.object;
      started = started_here serial runs.object runs.started;
      not_ended = λ ended. runs.not_ended ((end_there serial).0 ended);
    })
  ]

  pub serials_same : (serials : List ℕ) → AreSerials all serials → AreSerials facts serials
  serials_same serials are = record {
    ascend = are.ascend;
    exact = λ serial. (
      λ has. thread_there serial ((are.exact serial).0 has),
      λ is. (are.exact serial).1 (thread_here serial is),
    );
  }
