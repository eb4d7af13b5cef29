use Rattle.specialise.proofs.trial.lifted_with.Goals as goal

pub returns : goal.returns
returns c = (c.in_ok-made.made.number.number, c.in_ok-made.ensures, c.in_ok-new.ensures)
