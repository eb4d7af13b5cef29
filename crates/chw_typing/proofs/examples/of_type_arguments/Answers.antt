use Rattle.chw_typing.proofs.Shown.{argument_of_the_kind, degree_too_great}
use Rattle.chw_typing.proofs.examples.of_type_arguments.Goals as goal

pub returns : goal.returns
returns c = record {
  kind = argument_of_the_kind;
  degree = degree_too_great;
}
