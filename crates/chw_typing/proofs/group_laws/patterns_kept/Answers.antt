use Rattle.chw_typing.proofs.GroupParts.{patterns_of_each, patterns_renamed, patterns_put}
use Rattle.chw_typing.proofs.group_laws.patterns_kept.Goals as goal

pub returns : goal.returns
returns c = record { each = patterns_of_each; renamed = patterns_renamed; put = patterns_put }
