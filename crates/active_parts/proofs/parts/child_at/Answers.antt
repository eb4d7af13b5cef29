use Rattle.std.proofs.Common.{[], ◌∷◌}
use Rattle.chw_terms.specs.TermView.{tree_of}
use Rattle.rewriting.specs.Origins.{origins_of}
use Rattle.active_parts.specs.Parts.{around}
use Rattle.active_parts.proofs.Spines.{no_children}
use Rattle.active_parts.proofs.parts.child_at.Goals as goal

pub returns-in_default : goal.returns-in_default
returns-in_default c =
    no_children c.args.head.now c.in_default.not-LetRec c.in_default.not-Case c.in_default.not-VecLit
    (origins_of c.args.ground.now.scene.now) (around c.args.place.now (tree_of c.args.head.now)) (c.args.number ∷ [])
