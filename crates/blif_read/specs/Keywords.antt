-- The words with which lines begin.
use Rattle.std.specs.Prelude.{ℕ, Bool, List, [], ◌∷◌, codes}
use Rattle.std.specs.List.{list_any}
use Rattle.std.specs.Str.{bytes_eq}
use Rattle.blif_read.specs.declared.saying.Keyword.{Keyword}
use Rattle.blif_read.specs.declared.saying.Keyword.TheVariants.{EndWord, InputsWord, LatchWord}
use Rattle.blif_read.specs.declared.saying.Keyword.TheVariants.{ModelWord, NamesWord, OutputsWord}

abbrev pub keyword_text : Keyword → List ℕ
keyword_text ModelWord = codes ".model"
keyword_text InputsWord = codes ".inputs"
keyword_text OutputsWord = codes ".outputs"
keyword_text NamesWord = codes ".names"
keyword_text LatchWord = codes ".latch"
keyword_text EndWord = codes ".end"

abbrev pub keywords : List (List ℕ)
keywords =
    codes ".model" ∷ codes ".inputs" ∷ codes ".outputs" ∷ codes ".names" ∷ codes ".latch"
    ∷ codes ".end" ∷ []

abbrev pub is_keyword : List ℕ → Bool
is_keyword word = list_any (bytes_eq word) keywords
