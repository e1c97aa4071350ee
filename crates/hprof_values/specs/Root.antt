-- Roots: heapDumper.cpp, "HPROF binary format", the roots of HEAP_DUMP.
use Rattle.std.specs.Prelude.{ℕ, List, [], ◌∷◌}
use Rattle.hprof_values.specs.declared.ids.IdSize.{IdSize}
use Rattle.hprof_values.specs.declared.root.Root.{Root}
use Rattle.hprof_values.specs.declared.root.Root.TheVariants as roots
use Rattle.hprof_values.specs.declared.sub_tag.SubTag.{SubTag}
use Rattle.hprof_values.specs.declared.sub_tag.SubTag.TheVariants as tags
use Rattle.hprof_values.specs.Ids.{width_of}
use Rattle.hprof_values.specs.FieldGroups.{field_bytes, FitFields}
use Rattle.hprof_values.specs.SubTag.{code_of_tag}

-- the tag of its sub-record
abbrev pub tag_of_root : Root → SubTag
tag_of_root (roots.JniGlobal id reference) = tags.RootJniGlobal
tag_of_root (roots.JniLocal id thread frame) = tags.RootJniLocal
tag_of_root (roots.JavaFrame id thread frame) = tags.RootJavaFrame
tag_of_root (roots.NativeStack id thread) = tags.RootNativeStack
tag_of_root (roots.Sticky id) = tags.RootSticky
tag_of_root (roots.Block id thread) = tags.RootBlock
tag_of_root (roots.Monitor id) = tags.RootMonitor
tag_of_root (roots.ThreadObject id thread trace) = tags.RootThreadObject
tag_of_root (roots.Unknown id) = tags.RootUnknown

-- the widths of the fields behind the tag of a root: identifiers, and numbers of four bytes
abbrev pub root_fields : IdSize → SubTag → List ℕ
root_fields ids tags.RootJniGlobal = width_of ids ∷ width_of ids ∷ []
root_fields ids tags.RootJniLocal = width_of ids ∷ 4 ∷ 4 ∷ []
root_fields ids tags.RootJavaFrame = width_of ids ∷ 4 ∷ 4 ∷ []
root_fields ids tags.RootNativeStack = width_of ids ∷ 4 ∷ []
root_fields ids tags.RootSticky = width_of ids ∷ []
root_fields ids tags.RootBlock = width_of ids ∷ 4 ∷ []
root_fields ids tags.RootMonitor = width_of ids ∷ []
root_fields ids tags.RootThreadObject = width_of ids ∷ 4 ∷ 4 ∷ []
root_fields ids _ = width_of ids ∷ []

abbrev pub root_widths : IdSize → Root → List ℕ
root_widths ids root = root_fields ids (tag_of_root root)

-- the numbers in these fields
abbrev pub root_numbers : Root → List ℕ
root_numbers (roots.JniGlobal id reference) = id ∷ reference ∷ []
root_numbers (roots.JniLocal id thread frame) = id ∷ thread ∷ frame ∷ []
root_numbers (roots.JavaFrame id thread frame) = id ∷ thread ∷ frame ∷ []
root_numbers (roots.NativeStack id thread) = id ∷ thread ∷ []
root_numbers (roots.Sticky id) = id ∷ []
root_numbers (roots.Block id thread) = id ∷ thread ∷ []
root_numbers (roots.Monitor id) = id ∷ []
root_numbers (roots.ThreadObject id thread trace) = id ∷ thread ∷ trace ∷ []
root_numbers (roots.Unknown id) = id ∷ []

-- the bytes that spell it, with the tag
abbrev pub root_bytes : IdSize → Root → List ℕ
root_bytes ids root = code_of_tag (tag_of_root root) ∷ field_bytes (root_widths ids root) (root_numbers root)

-- a root that has a spelling under that size of identifiers
abbrev pub RootFits : IdSize → Root → Type 0
RootFits ids root = FitFields (root_widths ids root) (root_numbers root)
