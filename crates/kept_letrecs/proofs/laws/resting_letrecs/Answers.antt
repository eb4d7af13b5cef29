use Rattle.kept_letrecs.proofs.Resting.{no_flat, no_dead, no_inline, resting}
use Rattle.kept_letrecs.proofs.laws.resting_letrecs.Goals as goal

pub returns : goal.returns
returns c = record { flat = no_flat; dead = no_dead; inline = no_inline; rest = resting }
