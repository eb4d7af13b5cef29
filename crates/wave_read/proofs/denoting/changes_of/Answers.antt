use Rattle.std.proofs.Common.{refl}
use Rattle.wave_read.specs.Rules.{Keeps}
use Rattle.wave_read.specs.declared.rules.Rule.TheVariants.{Width}
use Rattle.wave_read.proofs.Searching.{change_at}
use Rattle.wave_read.proofs.denoting.changes_of.Goals as goal

pub change_made-requires : goal.change_made-requires
change_made-requires c =
    change_at (Keeps Width c.args.table.now) c.args.changes.now c.loop-change.change-index _ _ c.loop-change-test.true refl c.requires
