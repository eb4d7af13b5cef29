use Rattle.std.proofs.Common.{refl}
use Rattle.term_frames.proofs.FieldsPut.{each_put_none}
use Rattle.term_frames.proofs.fields.outside.Goals as goal

pub returns-clause-types : goal.returns-clause-types
returns-clause-types c = each_put_none c.args.types.now _ refl
