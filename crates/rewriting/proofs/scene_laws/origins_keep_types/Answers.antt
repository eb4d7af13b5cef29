use Rattle.rewriting.proofs.Settings.{origin_alone, origin_typed}
use Rattle.rewriting.proofs.scene_laws.origins_keep_types.Goals as goal

pub returns : goal.returns
returns c = record { alone = origin_alone c.typed_is_sound.ensures; scene = origin_typed c.typed_is_sound.ensures }
