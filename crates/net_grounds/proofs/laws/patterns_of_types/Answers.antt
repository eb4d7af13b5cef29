use Rattle.chw_typing.proofs.Patterns.{binds, one_pattern, pattern_same}
use Rattle.net_built.proofs.Parts.{pattern_once}
use Rattle.net_grounds.proofs.laws.patterns_of_types.Goals as goal

pub returns : goal.returns
returns c = record {
  binds = binds;
  one_pattern = one_pattern;
  pattern_once = pattern_once;
  pattern_same = λ of sound kinds j v has same. let x = pattern_same of sound kinds j v has same in record { types = x.types; of = x.of; same = x.same };
}
