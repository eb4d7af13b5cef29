-- The flags of commands: words that may stand anywhere behind the command's.
use Rattle.std.specs.Prelude.{◌≡◌, ◌≢◌, ℕ, Bool, true, false, ◌||◌, List, [], ◌∷◌, codes}
use Rattle.std.specs.Str.{bytes_eq}
use Rattle.chw_words.specs.declared.command.EmitForm.{EmitForm}
use Rattle.chw_words.specs.declared.command.EmitForm.TheVariants.{Verilog, Shared, Blif}
use Rattle.chw_words.specs.declared.command.SimForm.{SimForm}
use Rattle.chw_words.specs.declared.command.SimForm.TheVariants.{Lines, Waves}

-- the word is one of these flags
abbrev pub is_flag : List (List ℕ) → List ℕ → Bool
is_flag [] word = false
is_flag (it ∷ flags) word = bytes_eq word it || is_flag flags word

-- the words without these flags are the rest, and these flags are found among them, in order. The
-- word behind `--budget` is its value, whatever it is.
pub data HasFlags (flags : List (List ℕ)) : (words rest found : List (List ℕ)) → Type 0 where
  none : HasFlags flags [] [] []
  last : HasFlags flags (codes "--budget" ∷ []) (codes "--budget" ∷ []) []
  value : (word : List ℕ) (words rest found : List (List ℕ)) → HasFlags flags words rest found
      → HasFlags flags (codes "--budget" ∷ word ∷ words) (codes "--budget" ∷ word ∷ rest) found
  flag : (word : List ℕ) (words rest found : List (List ℕ)) → is_flag flags word ≡ true
      → HasFlags flags words rest found → HasFlags flags (word ∷ words) rest (word ∷ found)
  other : (word : List ℕ) (words rest found : List (List ℕ)) → is_flag flags word ≡ false
      → word ≢ codes "--budget" → HasFlags flags words rest found
      → HasFlags flags (word ∷ words) (word ∷ rest) found

-- the flags of `simulate`
abbrev pub simulate_flags : List (List ℕ)
simulate_flags = codes "--vcd" ∷ []

-- the flags ask for this form of a simulation
pub data IsSimForm : (found : List (List ℕ)) → SimForm → Type 0 where
  lines : IsSimForm [] Lines
  waves : IsSimForm (codes "--vcd" ∷ []) Waves

-- the flags of `emit`
abbrev pub emit_flags : List (List ℕ)
emit_flags = codes "--share" ∷ codes "--blif" ∷ []

-- the flags ask for this form of a net
pub data IsEmitForm : (found : List (List ℕ)) → EmitForm → Type 0 where
  verilog : IsEmitForm [] Verilog
  shared : IsEmitForm (codes "--share" ∷ []) Shared
  blif : IsEmitForm (codes "--blif" ∷ []) Blif
