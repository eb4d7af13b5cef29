use Rattle.std.specs.Prelude.{[]}
use Rattle.chw_typing.specs.Programs.{setting_of}
use Rattle.chw_check.proofs.TypesTold.{compared}
use Rattle.chw_check.proofs.bodies.has_its_type.Goals as goal

pub returns-in-Some : goal.returns-in-Some
returns-in-Some c =
    let has = rw c.in-Some.is at c.in_ok-ty.ensures.some in
    let typed = c.found_is_type.ensures (setting_of c.args.program.now) [] [] c.args.it.now.body c.in-Some.ty has in
    compared c.args.program.now c.args.it.now c.in-Some.ty c.one_type.ensures c.requires.sound typed c.same.result c.same.ensures
