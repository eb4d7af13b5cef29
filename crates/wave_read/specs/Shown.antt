-- What the reader's data say.
use Rattle.std.specs.Prelude.{ℕ, Bool, ◌+◌, ◌||◌, ◌==◌, List, [], ◌∷◌, drop, map, take}
use Rattle.wave_text.specs.VcdText.{Changed as Change, Declared as Variable, Moment as Time}
use Rattle.wave_text.specs.Words.{Word as TextWord}
use Rattle.wave_read.specs.declared.source.Changed.{Changed}
use Rattle.wave_read.specs.declared.source.Declared.{Declared}
use Rattle.wave_read.specs.declared.source.Moment.{Moment}
use Rattle.wave_read.specs.declared.words.Word.{Word}

-- a word
abbrev pub shown : Word → TextWord
shown w = record { at = w.at; bytes = w.bytes.now }

-- the bits of digits
abbrev pub bits_of : List ℕ → List Bool
bits_of digits = map (λ digit. digit == 49) digits

-- the digit of a bit
abbrev pub is_bit : ℕ → Bool
is_bit b = (b == 48) || (b == 49)

-- a declared variable
abbrev pub variable_of : Declared → Variable
variable_of it = record { at = it.at; width = it.width; code = it.code.now; name = it.name.now }

-- a change
abbrev pub change_of : Changed → Change
change_of it =
    record { at = it.at; code_at = it.code_at; code = it.code.now; bits = bits_of it.digits.now }

-- a time with these changes
abbrev pub time_with : Moment → List Changed → Time
time_with it changes = record { at = it.at; time = it.time; changes = map change_of changes }

-- times with their changes, which stand one behind the other
abbrev pub times_of : List Moment → List Changed → List Time
times_of [] changes = []
times_of (it ∷ moments) changes =
    time_with it (take it.count changes) ∷ times_of moments (drop it.count changes)

-- how many changes times have
abbrev pub count_of : List Moment → ℕ
count_of [] = 0
count_of (it ∷ moments) = it.count + count_of moments
