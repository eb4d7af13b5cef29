-- the words so far
use Rattle.std.proofs.Common.{◌≡◌, ◌++◌, take}
use Rattle.std.specs.List.{flat_map}
use Rattle.wire_classes.specs.Keys.{word_key}
use Rattle.wire_classes.proofs.keys.put_words.Given as goal

abbrev pub invariant-loop-word : goal.invariant-loop-word
invariant-loop-word l = l.key.items ≡ l.fn.key.items ++ flat_map word_key (take l.word-index l.words)
