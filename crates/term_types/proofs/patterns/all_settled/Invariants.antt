use Rattle.std.proofs.Common.{take}
use Rattle.std.specs.Prelude.{reverse}
use Rattle.term_types.specs.Binding.{AreSettled}
use Rattle.chw_typing.specs.Scopes.{setting_in}
use Rattle.term_types.proofs.patterns.all_settled.Given as goal

abbrev pub invariant-loop-field : goal.invariant-loop-field
invariant-loop-field l = AreSettled (setting_in l.scene) (reverse l.kinds) (take l.field-index l.fields) l.args l.bound.items
