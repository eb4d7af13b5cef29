use Rattle.std.proofs.Common.{◌≡◌, OnOk, subst}
use Rattle.free_variables.specs.Gathered.{numbers_of}
use Rattle.free_variables.proofs.FreeParts.{gathered_all}
use Rattle.free_variables.proofs.free.occurring_in.Goals as goal

pub returns : goal.returns
returns c =
    subst (λ xs. OnOk c.gather.result (numbers_of c.gather.new.seen.items ≡ xs))
    (gathered_all c.args.t.now (numbers_of c.args.found.now.items))
    c.gather.ensures
