use Rattle.std.proofs.Common.{sym, ◌∙◌, arith}
use Rattle.std.proofs.lemmas.Bool.{false≢true}
use Rattle.wave_read.specs.Reading.{end_of, words_in}
use Rattle.wave_read.specs.Shown.{shown}
use Rattle.wave_read.proofs.Defining.{no_definition, other_word}
use Rattle.wave_read.proofs.definitions.next_definition.Goals as goal

pub returns-in_default-clause-fault : goal.returns-in_default-clause-fault
returns-in_default-clause-fault c = no_definition (end_of c.args.left) _ (words_in c.args.left) c.in_default.ensures.none (omega arith)

pub returns-clause-fault : goal.returns-clause-fault
returns-clause-fault c =
    let behind = c.in-Some.behind in
    other_word (shown c.in-Some.word) (end_of c.args.left) (words_in c.args.left) (words_in behind) c.in-Some.ensures.some
    (λ is. false≢true (sym c.if-is_word.false ∙ c.is_word.ensures.1 is)) (λ is. false≢true (sym c.if-is_word-2.false ∙ c.is_word-2.ensures.1 is))
