use Rattle.std.proofs.Common.{ℕ, List, ◌∷◌, ◌∙◌, ap, arith}
use Rattle.chw_names.proofs.Walking.{word_bound, words_bound}
use Rattle.chw_resolve.proofs.binders.bind_words.Goals as goal

pub loop-word-preserved : goal.loop-word-preserved
loop-word-preserved c =
    word_bound c.args.words.now c.loop-word.word-index c.word-item.result c.args.scope.now c.loop-word-test.true c.word-item.is c.loop-word.invariant
    (c.in_ok-bind.ensures.bound ∙ ap (λ (n : List ℕ). n ∷ c.loop-word.scope) c.as_slice.ensures)

pub returns : goal.returns
returns c = words_bound c.args.words.now c.loop-word.word-index c.args.scope.now (omega (arith, c.loop-word-test.false)) c.loop-word.invariant
