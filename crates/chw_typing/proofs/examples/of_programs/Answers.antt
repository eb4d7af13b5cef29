use Rattle.chw_typing.proofs.ProgramsShown.{no_port, name_missing, other_type, incomplete, no_default}
use Rattle.chw_typing.proofs.examples.of_programs.Goals as goal

pub returns : goal.returns
returns c = record {
  port = no_port;
  name = name_missing;
  other = other_type;
  constructor = incomplete;
  literal = no_default;
}
