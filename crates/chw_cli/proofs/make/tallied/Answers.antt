use Rattle.std.proofs.Common.{Ok, inl, refl, sym, subst}
use Rattle.std.proofs.lemmas.Result.{err_from_is_err_and}
use Rattle.chw_cli.specs.Making.{TallyAnswer}
use Rattle.chw_cli.specs.Making.TallyAnswer.{tallied}
use Rattle.chw_cli.proofs.Making.{compile_refuses_tally, sim_refuses_tally}
use Rattle.chw_words.specs.declared.budget.TheConstants.{MOST_BUDGET}
use Rattle.chw_cli.proofs.make.tallied.Goals as goal

pub returns-in_err-made-clause-refused : goal.returns-in_err-made-clause-refused
returns-in_err-made-clause-refused c =
    let p = err_from_is_err_and c.from_residual.result c.from_residual.ensures.1 in
    rw (p.1, p.2) (compile_refuses_tally c.args.program.now c.args.stimulus.now c.in_err-made.field-0.0 c.in_err-made.ensures.refused)

pub tally_of-requires : goal.tally_of-requires
tally_of-requires c = record { tidy = c.requires.tidy; compiled = (MOST_BUDGET, c.in_ok-made.ensures.compiled) }

pub returns-in_err-tally-clause-refused : goal.returns-in_err-tally-clause-refused
returns-in_err-tally-clause-refused c =
    let p = err_from_is_err_and c.from_residual-in_err-tally.result c.from_residual-in_err-tally.ensures.1 in
    rw (p.1, p.2)
    (sim_refuses_tally c.args.program.now c.args.stimulus.now c.in_ok-made.made.net c.in_ok-made.made.flat c.in_err-tally.field-0.0
    c.in_ok-made.ensures.compiled.compiles c.in_err-tally.ensures.fault)

pub returns-in_err-lines-clause-refused : goal.returns-in_err-lines-clause-refused
returns-in_err-lines-clause-refused c =
    let p = err_from_is_err_and c.from_residual-in_err-lines.result c.from_residual-in_err-lines.ensures.1 in
    rw (p.1, p.2) (inl refl)

pub returns-clause-tallied : goal.returns-clause-tallied
returns-clause-tallied c =
    subst (λ bytes. TallyAnswer c.args.program.now c.args.stimulus.now (Ok bytes)) (sym c.in_ok-lines.ensures)
    (tallied c.in_ok-tally.tally (c.in_ok-tally.ensures.tally MOST_BUDGET c.in_ok-made.ensures.compiled))
