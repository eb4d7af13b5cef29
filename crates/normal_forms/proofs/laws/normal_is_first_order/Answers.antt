use Rattle.rewriting.specs.Origins.{made_of}
use Rattle.rewriting.specs.Steps.{origins_in}
use Rattle.normal_forms.proofs.FirstOrder.{body_first_order}
use Rattle.normal_forms.proofs.laws.normal_is_first_order.Goals as goal

pub returns : goal.returns
returns c p state m it h is = body_first_order (origins_in p state) (made_of it) it.body (h.bodies m it is)
