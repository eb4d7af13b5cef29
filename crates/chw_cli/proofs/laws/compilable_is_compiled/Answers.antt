use Rattle.chw_cli.proofs.Compiling.{compilable_is_compiled}
use Rattle.chw_cli.proofs.laws.compilable_is_compiled.Goals as goal

pub returns : goal.returns
returns c =
    compilable_is_compiled c.one_program.ensures c.nothing_refuses_a_compile.ensures.compiled
    c.small_ends_compile.ensures
