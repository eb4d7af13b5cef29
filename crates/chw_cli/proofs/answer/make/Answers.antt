use Rattle.std.proofs.lemmas.Result.{IfErr-weaker, IfOk-weaker}
use Rattle.chw_cli.proofs.Reasons.{make_answers, make_is_short, make_refuses}
use Rattle.chw_cli.proofs.answer.make.Goals as goal

pub made-requires : goal.made-requires
made-requires g c = make_is_short c.args.words.now c.args.taps c.requires

pub returns-clause-answers : goal.returns-clause-answers
returns-clause-answers g c =
    IfOk-weaker c.made.result _ _
    (λ bytes a. make_answers g.F.Shelf.fetch_gives g.F.Shelf.told g.F.Shelf.faults c.args.words.now c.args.shelf.now c.args.taps c.requires bytes.items a)
    c.made.ensures.made

pub returns-clause-refuses : goal.returns-clause-refuses
returns-clause-refuses g c =
    IfErr-weaker c.made.result _ _
    (λ r w. make_refuses g.F.Shelf.fetch_gives g.F.Shelf.told g.F.Shelf.faults c.args.words.now c.args.shelf.now c.args.taps c.requires r w)
    c.made.ensures.refused
