-- Names declared one after the other.
use Rattle.std.specs.Prelude.{◌≡◌, ℕ, List, [], ◌∷◌, ◌++◌, Option, Some, None}
use Rattle.verilog_checks.specs.Least.{least_after}
use Rattle.verilog_rules.specs.NameRules.{once_checks, texts}
use Rattle.verilog_tree.specs.declared.item.Memory.{Memory}
use Rattle.verilog_tree.specs.declared.word.Word.{Word}

-- the name of a memory
abbrev pub memory_words : Option Memory → List Word
memory_words None = []
memory_words (Some memory) = memory.name ∷ []

-- these words are declared behind the known names, and each is looked for among those before it
pub record Declares (before after : List (List ℕ)) (least next : Option ℕ) (words : List Word)
    : Type 0 where
  pub names : after ≡ before ++ texts words
  pub checks : next ≡ least_after least (once_checks before words)
