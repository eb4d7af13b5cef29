use Rattle.chw_typing.proofs.Renamed.{declared_length, declared_renamed}
use Rattle.chw_typing.proofs.TermsPut.{declared_put}
use Rattle.chw_typing.proofs.group_laws.declared_types.Goals as goal

pub returns : goal.returns
returns c = record { length = declared_length; renamed = declared_renamed; put = declared_put }
