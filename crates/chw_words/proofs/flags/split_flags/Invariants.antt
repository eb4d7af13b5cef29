-- what was put, with what is left, is as all words are
use Rattle.std.proofs.Common.{◌≡◌, ◌++◌, ◌∷◌, false, drop, map}
use Rattle.chw_words.specs.Splitting.{flags_of, found_from, rest_from}
use Rattle.chw_words.proofs.flags.split_flags.Given as goal

abbrev pub invariant-loop-word : goal.invariant-loop-word
invariant-loop-word l = record {
  rest : map (λ s. s.now) l.split.rest.items ++ rest_from (flags_of l.command) l.split.behind (map (λ s. s.now) (drop l.word-index l.words))
      ≡ l.command ∷ rest_from (flags_of l.command) false (map (λ s. s.now) l.words);
  found : map (λ s. s.now) l.split.found.items ++ found_from (flags_of l.command) l.split.behind (map (λ s. s.now) (drop l.word-index l.words))
      ≡ found_from (flags_of l.command) false (map (λ s. s.now) l.words);
}
