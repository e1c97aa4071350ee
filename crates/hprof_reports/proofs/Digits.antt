-- Digits of the contents of an array, which are written piece by piece.
use Rattle.std.proofs.Common.{◌≡◌, ℕ, List, [], ◌∷◌, ◌++◌, length, refl, ap, ◌∙◌, ◌==◌, false, codes}
use Rattle.hex.specs.Hex.{encode_lower, encode_with, lower_digits}
use Rattle.hprof_text.proofs.Prints.{encode_with-append}
use Rattle.hprof_reports.specs.ObjectText.{contents_text}

-- the digits of a front, and then those of the rest
pub digits_split : (bytes front rest : List ℕ) → bytes ≡ front ++ rest → encode_lower bytes ≡ encode_lower front ++ encode_lower rest
digits_split bytes front rest e = ap encode_lower e ∙ encode_with-append lower_digits front rest

-- the line of contents that are there
pub contents_are : (bytes : List ℕ) → (length bytes == 0) ≡ false → contents_text bytes
    ≡ codes "bytes " ++ (encode_lower bytes ++ codes "\n")
contents_are [] some = absurd cc
contents_are (byte ∷ bytes) some = refl

-- no bytes have no digits
pub no_digits : (bytes : List ℕ) → bytes ≡ [] → length (encode_lower bytes) ≡ 0
unfolding encode_with
no_digits bytes e = rw e refl
