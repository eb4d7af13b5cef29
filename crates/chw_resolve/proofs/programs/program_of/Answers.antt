use Rattle.std.proofs.Common.{◌∙◌}
use Rattle.chw_resolve.proofs.ProgramMade.{program_made}
use Rattle.chw_resolve.proofs.programs.program_of.Goals as goal

pub returns : goal.returns
returns c =
    let all = c.in_ok-declared.ensures in
    program_made c.args.tree.now _ c.args.globals.now c.as_slice-declarations.result.now c.as_slice-declarations.ensures c.requires
    (c.from.ensures ∙ all.domains) (c.from-2.ensures ∙ c.in_ok-resets.ensures) (c.from-3.ensures ∙ all.datas) (c.from-4.ensures ∙ all.defs) c.in_ok-top.ensures
