-- The text of a number, by what kind of number it is.
use Rattle.std.proofs.Common.{◌≡◌, ◌≢◌, ◌==◌, true, false, ◌++◌, codes, eq-eqb, refl}
use Rattle.std.specs.Fmt.{sign_text}
use borrow.Author.Tests.{ne_eqb}
use Rattle.hprof_text.specs.JavaFloats.{greatest_exponent, is_nan, finite_text, fields_text}
use Rattle.hprof_text.specs.declared.java_floats.FloatFormat.{FloatFormat}
use Rattle.hprof_text.specs.declared.java_floats.FloatFields.{FloatFields}

pub fields_text-nan : (format : FloatFormat) (fields : FloatFields) → is_nan format fields ≡ true → fields_text format fields ≡ codes "NaN"
unfolding fields_text
fields_text-nan format fields nan = rw nan refl

pub fields_text-infinite : (format : FloatFormat) (fields : FloatFields) → is_nan format fields ≡ false
    → fields.exponent ≡ greatest_exponent format → fields_text format fields ≡ sign_text fields.is_negative ++ codes "Infinity"
unfolding fields_text
fields_text-infinite format fields number greatest =
    let test : (fields.exponent == greatest_exponent format) ≡ true = eq-eqb fields.exponent (greatest_exponent format) greatest in
    rw (number, test) refl

pub fields_text-finite : (format : FloatFormat) (fields : FloatFields) → is_nan format fields ≡ false
    → fields.exponent ≢ greatest_exponent format → fields_text format fields ≡ sign_text fields.is_negative ++ finite_text format fields
unfolding fields_text
fields_text-finite format fields number less =
    let test : (fields.exponent == greatest_exponent format) ≡ false = ne_eqb fields.exponent (greatest_exponent format) less in
    rw (number, test) refl
