use Rattle.chw_typing.proofs.PathParts.{part_of_with_part, with_same_part, with_part_twice}
use Rattle.chw_typing.proofs.path_laws.parts.Goals as goal

pub returns : goal.returns
returns c =
    record {
      found = λ e x y path. part_of_with_part path e x y;
      same = λ e x path. with_same_part path e x;
      twice = λ e x y path. with_part_twice path e x y;
    }
