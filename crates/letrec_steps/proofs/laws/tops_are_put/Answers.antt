use Rattle.letrec_steps.proofs.Tops.{top_is_put, below_top_is_put, side_in_top_is_put}
use Rattle.letrec_steps.proofs.laws.tops_are_put.Goals as goal

pub returns : goal.returns
returns c = record { top = top_is_put; below = below_top_is_put; side = side_in_top_is_put }
