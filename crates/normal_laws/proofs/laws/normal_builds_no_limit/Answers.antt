use Rattle.rewriting.specs.Origins.{made_of}
use Rattle.rewriting.specs.Steps.{origins_in}
use Rattle.normal_laws.proofs.Built.{built_within}
use Rattle.normal_laws.proofs.laws.normal_builds_no_limit.Goals as goal

pub returns : goal.returns
returns c p state m it path at e t l typed is h place lets finds passes =
    built_within (origins_in p state) (c.steps_keep.ensures.origins p state typed).sound
    (record { one = c.one_measure.ensures; kept = c.same_types_keep_layout.ensures.measure; keep = c.fields_keep_same.ensures })
    (made_of it) it.body e path at t l h place lets finds passes
