use Rattle.std.proofs.Common.{◌≡◌, ◌++◌, append_assoc, codes, rules}
use Rattle.std.specs.Fmt.{signed_decimal}
use Rattle.hprof_text.specs.JavaFloats.{lead_text, fraction_text, power_of, finite_text}
use Rattle.hprof_text.proofs.java_floats.push_finite.Goals as goal

pub returns : goal.returns
unfolding finite_text
returns c =
    let before = c.args.text.now.bytes in
    let fields = c.args.fields in
    let power = signed_decimal (power_of c.args.format fields) in
    let number : c.format.result.now ≡ power = search rules in
    let text : c.push_str-3.new.self.bytes
    ≡ before ++ lead_text fields ++ fraction_text fields.fraction ++ codes "p" ++ power = search rules in
    rw text (simp append_assoc)
