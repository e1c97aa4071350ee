use Rattle.hprof_engine.proofs.MadeOnce.{made_once}
use Rattle.hprof_engine.proofs.laws.one_text_is_made_of_parts.Goals as goal

pub returns : goal.returns
returns g c = made_once (g.P.Product.is_text c.args.product.now) (g.met.P.Product.one_text c.args.product.now)
