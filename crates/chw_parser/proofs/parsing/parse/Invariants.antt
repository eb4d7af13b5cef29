use Rattle.std.proofs.Common.{take}
use Rattle.chw_grammar.specs.Lexemes.{lexemes_of}
use Rattle.chw_parser.specs.State.{Progress}
use Rattle.chw_parser.proofs.parsing.parse.Given as goal

abbrev pub invariant-loop-token : goal.invariant-loop-token
invariant-loop-token l = Progress (lexemes_of l.text (take l.token-index l.tokens)) l.stack l.parts l.opened
