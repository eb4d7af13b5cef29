use Rattle.std.proofs.Common.{◌≡◌, take}
use Rattle.chw_names.specs.Words.{names_of}
use Rattle.chw_resolve.proofs.names.names_of.Given as goal

abbrev pub invariant-loop-word : goal.invariant-loop-word
invariant-loop-word l = l.names.items ≡ names_of (take l.word-index l.words)
