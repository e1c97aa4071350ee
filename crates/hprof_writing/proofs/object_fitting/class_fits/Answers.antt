use Rattle.hprof_writing.proofs.object_fitting.class_fits.Goals as goal

pub returns : goal.returns
returns c =
    let front = c.in-Some.ensures.some in (
      λ whole. (front.fits.0 (c.numbers_fit.ensures.0 whole), front.lists),
      λ fits. c.numbers_fit.ensures.1 (front.fits.1 fits.0),
    )
