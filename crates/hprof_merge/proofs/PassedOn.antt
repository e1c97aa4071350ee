-- What `?` passes on unchanged.
use Rattle.std.proofs.Common.{◌≡◌, Result, subst, sym}
use Rattle.std.specs.Prelude.{IfErr, IsErrAnd}
use Rattle.std.proofs.lemmas.Result.{err_from_is_err_and}

-- what holds of the error that came holds of the one that is passed on
pub if_error : {A E : Type 0} (P : E → Type 0) (r : Result A E) (e : E) → P e → IsErrAnd r (λ x. x ≡ e) → IfErr r P
if_error P r e holds is =
    let p = err_from_is_err_and r is in
    subst (λ s. IfErr s P) (sym p.1) (subst P (sym p.2) holds)
