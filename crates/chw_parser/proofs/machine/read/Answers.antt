use Rattle.std.proofs.Common.{ap, ◌∙◌, List, ℕ}
use Rattle.chw_grammar.specs.Lexemes.{lexeme_of, terminal_of}
use Rattle.chw_grammar.specs.declared.word.Word.{Word}
use Rattle.chw_parser.proofs.Reading.{wanted_take, read_take, read_nothing, read_refused}
use Rattle.chw_parser.proofs.machine.read.Goals as goal

pub take-requires : goal.take-requires
take-requires c = (wanted_take c.in_ok-symbol.ensures c.in-Take.is).0

pub returns-in_ok-word-in-Take : goal.returns-in_ok-word-in-Take
returns-in_ok-word-in-Take c =
    let l = lexeme_of c.args.text.now c.args.token in
    let f : List ℕ → Word = λ bs. record { at = c.args.token.span.from; bytes = bs } in
    read_take l c.of-next.result c.args.stack.now c.advance.new.stack c.args.parts.now c.advance.new.parts c.take.new.parts _ c.in-Take.symbol _ c.take.result
    (c.of-next.ensures ∙ ap (terminal_of c.args.token.sort) c.word-bytes.ensures)
    (c.in_ok-word-in-Take.ensures ∙ ap f c.word-bytes.ensures) c.in_ok-symbol.ensures c.in-Take.is c.take.ensures

pub returns-in-Nothing : goal.returns-in-Nothing
returns-in-Nothing c =
    read_nothing (lexeme_of c.args.text.now c.args.token) c.of-next.result c.args.stack.now c.advance.new.stack c.args.parts.now c.advance.new.parts _
    (c.of-next.ensures ∙ ap (terminal_of c.args.token.sort) c.word-bytes.ensures) c.in_ok-symbol.ensures c.in-Nothing.is

pub returns-in-Refused : goal.returns-in-Refused
returns-in-Refused c =
    read_refused (lexeme_of c.args.text.now c.args.token) c.of-next.result c.args.stack.now c.advance.new.stack c.args.parts.now c.advance.new.parts _
    (c.of-next.ensures ∙ ap (terminal_of c.args.token.sort) c.word-bytes.ensures) c.in_ok-symbol.ensures c.in-Refused.is
