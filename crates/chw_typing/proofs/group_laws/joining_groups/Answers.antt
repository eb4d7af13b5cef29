use Rattle.chw_typing.proofs.GroupParts.{declared_joined, size_joined, with_more_twice, first_of_joined, second_of_joined, joined_renamed, joined_put}
use Rattle.chw_typing.proofs.group_laws.joining_groups.Goals as goal

pub returns : goal.returns
returns c =
    record {
      declared = declared_joined;
      size = size_joined;
      scope = with_more_twice;
      first = first_of_joined;
      second = second_of_joined;
      renamed = joined_renamed;
      put = joined_put;
    }
