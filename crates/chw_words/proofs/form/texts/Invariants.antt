-- the words so far are the texts
use Rattle.std.proofs.Common.{◌≡◌, map, take}
use Rattle.std.specs.List.{All}
use Rattle.std.specs.Str.{IsUtf8}
use Rattle.chw_words.proofs.form.texts.Given as goal

abbrev pub invariant-loop-word : goal.invariant-loop-word
invariant-loop-word l = All IsUtf8 (take l.word-index l.words) × (map (λ s. s.now) l.texts.items ≡ take l.word-index l.words)
