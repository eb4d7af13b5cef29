-- each so far is a name
use Rattle.std.proofs.Common.{take}
use Rattle.std.specs.List.{AllByRecursion}
use Rattle.blif_text.specs.Statements.{IsName}
use Rattle.stimulus.specs.Texts.{texts}
use Rattle.blif_read.proofs.saying.are_names.Given as goal

abbrev pub invariant-loop-word : goal.invariant-loop-word
invariant-loop-word l = AllByRecursion IsName (texts (take l.word-index l.words))
