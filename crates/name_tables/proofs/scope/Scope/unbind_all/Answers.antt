use Rattle.std.proofs.Common.{drop, ap, ◌∙◌}
use Rattle.std.proofs.lemmas.List.{drop-drop}
use Rattle.name_tables.proofs.scope.Scope.unbind_all.Goals as goal

pub loop-closed-preserved : goal.loop-closed-preserved
loop-closed-preserved c = c.unbind.ensures ∙ ap (drop 1) c.loop-closed.invariant ∙ drop-drop 1 c.loop-closed._closed c.args.self.now
