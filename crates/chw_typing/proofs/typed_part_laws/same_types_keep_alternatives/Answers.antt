use Rattle.chw_typing.proofs.Given.{all_give_same}
use Rattle.chw_typing.proofs.typed_part_laws.same_types_keep_alternatives.Goals as goal

pub returns : goal.returns
returns c s kinds vars u v t w j alts h k x y a = all_give_same a h j k x y
