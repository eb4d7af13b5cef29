use Rattle.std.proofs.lemmas.Result.{IfOk-weaker}
use Rattle.rewriting.specs.Spots.{spot_of}
use Rattle.work_prims.proofs.Elems.{number_answer, word_answer, other_answer}
use Rattle.work_prims.proofs.elements.element.Goals as goal

pub returns-in-VGet : goal.returns-in-VGet
returns-in-VGet c =
    IfOk-weaker c.by_number.result _ _ (λ r h o. number_answer o (spot_of c.args.place.now) c.args.p c.args.args.now r c.in-VGet.is h) c.by_number.ensures

pub returns-in-VAt : goal.returns-in-VAt
returns-in-VAt c =
    IfOk-weaker c.by_word.result _ _ (λ r h o. word_answer o (spot_of c.args.place.now) c.args.p c.args.args.now r c.in-VAt.is h) c.by_word.ensures

pub returns-in_default : goal.returns-in_default
returns-in_default c o =
    other_answer o (spot_of c.args.place.now) c.args.p c.args.args.now c.in_default.not-VGet c.in_default.not-VGetC c.in_default.not-VAt
