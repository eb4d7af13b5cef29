use Rattle.std.proofs.Common.{◌≡◌, take}
use Rattle.chw_names.specs.Unknowns.{within}
use Rattle.chw_resolve.proofs.binders.bind_words.Given as goal

abbrev pub invariant-loop-word : goal.invariant-loop-word
invariant-loop-word l = l.scope ≡ within (take l.word-index l.words) l.initial.scope
