-- The type that is seen.
use Rattle.chw_types.specs.TypeTree.{TypeTree}
use Rattle.seen_types.specs.declared.seen.Form.{Form}
use Rattle.seen_types.specs.declared.seen.Form.TheVariants.{Written, Made}

abbrev pub type_seen : Form → TypeTree
type_seen (Written t) = t.now
type_seen (Made t) = t
