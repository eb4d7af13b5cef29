use Rattle.std.proofs.Common.{refl}
use Rattle.chw_norm.proofs.Grown.{one_added}
use Rattle.chw_norm.proofs.progress.Progress.grow.Goals as goal

pub returns-in-Ok : goal.returns-in-Ok
returns-in-Ok c =
    one_added c.args.definition c.in-Some.it c.args.self.now
    (record c.args.self.now { made = c.add.new.self; bounds = c.push.new.self }) c.depth-deep.result
    c.in-Some.is c.in-Ok.ensures.added c.in_ok-push.ensures.items c.in-Ok.ensures.room refl refl
    c.depth-deep.ensures
