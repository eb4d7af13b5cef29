use Rattle.rewriting.specs.Origins.{made_of}
use Rattle.rewriting.specs.Steps.{origins_in}
use Rattle.normal_forms.proofs.Names.{body_names}
use Rattle.normal_forms.proofs.laws.names_are_wires.Goals as goal

pub returns : goal.returns
returns c p state m it kinds vars x path sound h is around = body_names c.names_of_modes.ensures.kept (origins_in p state) (made_of it) it.body sound (h.bodies m it is) around
