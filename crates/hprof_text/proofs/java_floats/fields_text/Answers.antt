use Rattle.std.proofs.Common.{◌≡◌, ◌++◌, codes, rules, sym, ◌∙◌}
use Rattle.std.specs.Fmt.{sign_text}
use Rattle.hprof_text.specs.JavaFloats.{finite_text}
use Rattle.hprof_text.proofs.FloatTexts.{fields_text-nan, fields_text-infinite, fields_text-finite}
use Rattle.hprof_text.proofs.java_floats.fields_text.Goals as goal

pub returns-then-is_nan : goal.returns-then-is_nan
returns-then-is_nan c =
    let text : c.push_str.new.self.bytes ≡ codes "NaN" = search rules in
    text ∙ sym (fields_text-nan c.args.format c.args.fields (sym c.is_nan.ensures ∙ c.if-is_nan.true))

pub returns-then-fields-greatest_exponent : goal.returns-then-fields-greatest_exponent
returns-then-fields-greatest_exponent c =
    let sign = sign_text c.args.fields.is_negative in
    let text : c.push_str-then-fields-greatest_exponent.new.self.bytes ≡ sign ++ codes "Infinity" = search rules in
    text
    ∙ sym (fields_text-infinite c.args.format c.args.fields (sym c.is_nan.ensures ∙ c.if-is_nan.false)
    (c.if-fields-greatest_exponent.true ∙ c.greatest_exponent.ensures))

pub returns-else-fields-greatest_exponent : goal.returns-else-fields-greatest_exponent
returns-else-fields-greatest_exponent c =
    let sign = sign_text c.args.fields.is_negative in
    let text : c.push_finite.new.text.bytes ≡ sign ++ finite_text c.args.format c.args.fields = search rules in
    text
    ∙ sym (fields_text-finite c.args.format c.args.fields (sym c.is_nan.ensures ∙ c.if-is_nan.false)
    (λ e. c.if-fields-greatest_exponent.false (e ∙ sym c.greatest_exponent.ensures)))
