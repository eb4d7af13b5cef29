use Rattle.rewriting.specs.Origins.{made_of}
use Rattle.rewriting.specs.Steps.{origins_in}
use Rattle.normal_forms.proofs.Calls.{body_calls}
use Rattle.normal_forms.proofs.laws.normal_holds_only_calls.Goals as goal

pub returns : goal.returns
returns c p state m it h is = body_calls (origins_in p state) (made_of it) it.body (h.bodies m it is)
