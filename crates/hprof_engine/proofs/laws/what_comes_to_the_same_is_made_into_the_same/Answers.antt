use Rattle.hprof_engine.proofs.MadeOnce.{made_again}
use Rattle.hprof_engine.proofs.laws.what_comes_to_the_same_is_made_into_the_same.Goals as goal

pub returns : goal.returns
returns g c = made_again (g.P.Product.is_text c.args.product.now) c.requires
