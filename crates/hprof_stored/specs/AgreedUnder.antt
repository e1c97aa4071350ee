-- The objects under those that agree.
use Rattle.hprof_devices.specs.declared.source.Source as source
use Rattle.hprof_devices.specs.declared.target.Target as target
use Rattle.hprof_parts.specs.declared.parts.Parts as parts
use Rattle.hprof_stored.specs.declared.agreed.Agreed.{Agreed}
use Rattle.hprof_stored.specs.declared.in_parts.InParts.{InParts}

abbrev pub agreed_under : {S P R : Type 0} {s : target.Ghosts S} {p : parts.Ghosts P R} {r : source.Ghosts R} → Agreed S P R s p r
    → InParts S P
agreed_under it = it.objects
