use Rattle.std.proofs.Common.{refl}
use Rattle.rewriting.specs.Origins.{made_of}
use Rattle.rewriting.specs.Steps.{origins_in}
use Rattle.normal_laws.proofs.Payloads.{no_payload}
use Rattle.normal_laws.proofs.laws.normal_has_no_payload.Goals as goal

pub returns : goal.returns
returns c p state m it path t typed is h blocked =
    no_payload (origins_in p state)
    (record {
      sound = (c.steps_keep.ensures.origins p state typed).sound;
      named = c.names_of_modes.ensures.kept;
      prims = c.saturated_spines.ensures.prim;
      keep = c.fields_keep_same.ensures;
    }) (made_of it) it.body path t (typed.each m it is).closed h blocked refl
