use Rattle.make_text.specs.MakeText.{product_text}
use Rattle.make_text.proofs.Joined.{one_more}
use Rattle.make_text.proofs.text.put_products.Goals as goal

pub loop-k-preserved : goal.loop-k-preserved
loop-k-preserved c = one_more _ _ _ product_text c.loop-k.k c.loop-k.invariant c.in_ok-put_product.ensures
