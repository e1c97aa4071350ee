-- The lines of GC roots: heapDumper.cpp, "HPROF binary format", HPROF_GC_ROOT_UNKNOWN and those behind it. Their words are this project's.
use Rattle.std.specs.Prelude.{◌==◌, ℕ, List, [], ◌∷◌, ◌++◌, codes, if◌then◌else◌}
use Rattle.std.specs.Fmt.{decimal}
use Rattle.hprof_text.specs.Identifier.{id_digits}
use Rattle.hprof_values.specs.declared.root.Root.{Root}
use Rattle.hprof_values.specs.declared.root.Root.TheVariants as roots
use Rattle.hprof_lines.specs.Line.{line_of}

-- the frame of a root; heapDumper.cpp, HPROF_GC_ROOT_JAVA_FRAME: -1 for empty
abbrev pub frame_words : ℕ → List ℕ
frame_words frame = if frame == 4294967295 then codes "no frame" else codes "frame " ++ decimal frame

abbrev pub root_line : Root → List ℕ
root_line (roots.JniGlobal id reference) = line_of (codes "root JNI global" ∷ id_digits reference ∷ [])
root_line (roots.JniLocal id thread frame) = line_of (codes "root JNI local thread" ∷ decimal thread ∷ frame_words frame ∷ [])
root_line (roots.JavaFrame id thread frame) = line_of (codes "root Java frame thread" ∷ decimal thread ∷ frame_words frame ∷ [])
root_line (roots.NativeStack id thread) = line_of (codes "root native stack thread" ∷ decimal thread ∷ [])
root_line (roots.Sticky id) = codes "root sticky class\n"
root_line (roots.Block id thread) = line_of (codes "root thread block thread" ∷ decimal thread ∷ [])
root_line (roots.Monitor id) = codes "root monitor used\n"
root_line (roots.ThreadObject id thread trace) =
    line_of (codes "root thread object thread" ∷ decimal thread ∷ codes "trace" ∷ decimal trace ∷ [])
root_line (roots.Unknown id) = codes "root unknown\n"
