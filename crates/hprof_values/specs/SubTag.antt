-- The tags of sub-records: heapDumper.cpp, "HPROF binary format", HEAP_DUMP.
use Rattle.std.specs.Prelude.{◌==◌, ℕ, List, [], ◌∷◌, Option, find}
use Rattle.hprof_values.specs.declared.sub_tag.SubTag.{SubTag}
use Rattle.hprof_values.specs.declared.sub_tag.SubTag.TheVariants as tags

-- the byte that stands for it
abbrev pub code_of_tag : SubTag → ℕ
code_of_tag tags.RootJniGlobal = 0x01
code_of_tag tags.RootJniLocal = 0x02
code_of_tag tags.RootJavaFrame = 0x03
code_of_tag tags.RootNativeStack = 0x04
code_of_tag tags.RootSticky = 0x05
code_of_tag tags.RootBlock = 0x06
code_of_tag tags.RootMonitor = 0x07
code_of_tag tags.RootThreadObject = 0x08
code_of_tag tags.ClassDump = 0x20
code_of_tag tags.InstanceDump = 0x21
code_of_tag tags.ObjArrayDump = 0x22
code_of_tag tags.PrimArrayDump = 0x23
code_of_tag tags.RootUnknown = 0xff

abbrev pub all_tags : List SubTag
all_tags = tags.RootJniGlobal ∷ tags.RootJniLocal ∷ tags.RootJavaFrame ∷ tags.RootNativeStack ∷ tags.RootSticky ∷ tags.RootBlock
    ∷ tags.RootMonitor ∷ tags.RootThreadObject
    ∷ tags.ClassDump ∷ tags.InstanceDump ∷ tags.ObjArrayDump ∷ tags.PrimArrayDump ∷ tags.RootUnknown ∷ []

-- the tag that a byte stands for
abbrev pub tag_of_code : ℕ → Option SubTag
tag_of_code code = find (λ tag. code_of_tag tag == code) all_tags
