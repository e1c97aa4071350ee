use Rattle.std.proofs.Common.{◌≡◌, length, arith, rules}
use Rattle.hprof_stream.proofs.Finishing.{IsUnfinished-read}
use Rattle.hprof_stream.proofs.part_reader.PartReader.buffered.Goals as goal

pub returns-clause-held : goal.returns-clause-held
returns-clause-held c =
    let count : c.len.result ≡ length c.args.self.now.rest.held.items = omega (arith, c.len.ensures, c.args.self.now.rest.held.ok.0) in
    λ limits bytes facts read. IsUnfinished-read limits bytes facts c.args.self.now read c.len.result count

pub returns-clause-failed : goal.returns-clause-failed
returns-clause-failed c = search rules
