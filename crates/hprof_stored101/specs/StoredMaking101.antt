-- What is made of parts, whose objects are read again, where it is a 1.0.1 dump.
use Rattle.hprof_engine.specs.Joining101.{IsDump101Text, Refuses101}
use Rattle.hprof_engine.specs.Makes.{Making}
use Rattle.hprof_stored.specs.StoredMaking.{stored_making}

-- the 1.0.1 dump, which is refused where it is too long
abbrev pub stored_dump101_making : Making
stored_dump101_making = stored_making IsDump101Text Refuses101
