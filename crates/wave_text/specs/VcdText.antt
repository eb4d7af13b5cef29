-- Which texts are waves: the part of the value change dumps of IEEE 1364-2005, clause 18, that has
-- one scope `chw_top`, wires, a time unit of 1 ns, and values of zeros and ones. Any white space
-- stands between words.
use Rattle.std.specs.Prelude.{◌≡◌, ℕ, ◌<◌, ◌≤◌, ◌^◌, Bool, ◌&&◌, nat_le, IsTrue}
use Rattle.std.specs.Prelude.{List, [], ◌∷◌, length, map, codes, slice_index_or, flat_map}
use Rattle.std.specs.Prelude.{Option, Some, None}
use Rattle.std.specs.List.{AllByRecursion}
use Rattle.std.specs.Str.Parse.{digits_value, IsNumeral}
use Rattle.chw_base.specs.Names.{BeginsThen, is_name_byte}
use Rattle.name_tables.specs.Names.{AreDistinct, is_among, place_of}
use Rattle.verilog_text.specs.VForms.{begins_word}
use Rattle.waves.specs.Vcd.{digit_of, variable}
use Rattle.wave_text.specs.Words.{Word, words_of}
use Rattle.wave_text.specs.declared.wave.Change.{Change}
use Rattle.wave_text.specs.declared.wave.Wave.{Wave}
use Rattle.wave_text.specs.declared.wave.WaveStep.{WaveStep}

-- a width: decimal digits of a number from 1 below 2 to the 32
pub record IsWidth (bytes : List ℕ) (width : ℕ) : Type 0 where
  pub digits : IsNumeral 10 bytes
  pub value : digits_value 10 bytes ≡ width
  pub some : 1 ≤ width
  pub fits : width < 2 ^ 32

-- a visible character
abbrev pub is_visible : ℕ → Bool
is_visible b = nat_le 33 b && nat_le b 126

-- a code: visible characters, one at least
abbrev pub IsCode : List ℕ → Type 0
IsCode = BeginsThen is_visible is_visible

-- a name: a letter or `_`, and then letters, digits and `_`
abbrev pub IsName : List ℕ → Type 0
IsName = BeginsThen begins_word is_name_byte

-- a time: `#` and decimal digits of a number below 2 to the 64
pub record IsTime (bytes : List ℕ) (time : ℕ) : Type 0 where
  pub digits : List ℕ
  pub bytes_are : bytes ≡ 35 ∷ digits
  pub numeral : IsNumeral 10 digits
  pub value : digits_value 10 digits ≡ time
  pub fits : time < 2 ^ 64

-- a value of one bit with its code
pub record IsDigit (bytes : List ℕ) (bit : Bool) (code : List ℕ) : Type 0 where
  pub bytes_are : bytes ≡ digit_of bit ∷ code
  pub form : IsCode code

-- a value before its code: `b` and one bit at least
pub record AreBits (bytes : List ℕ) (bits : List Bool) : Type 0 where
  pub bytes_are : bytes ≡ 98 ∷ map digit_of bits
  pub some : 0 < length bits

-- a declared variable, and the place of its code
pub record Declared : Type 0 where
  pub at : ℕ
  pub width : ℕ
  pub code : List ℕ
  pub name : List ℕ

-- a change, with the places of its value and of its code, which is that of its value where they
-- stand in one word
pub record Changed : Type 0 where
  pub at : ℕ
  pub code_at : ℕ
  pub code : List ℕ
  pub bits : List Bool

-- a time with its changes, and the place of its `#`
pub record Moment : Type 0 where
  pub at : ℕ
  pub time : ℕ
  pub changes : List Changed

-- the words are first changes, and then times with theirs
pub data AreChanges : List Word → List Changed → List Moment → Type 0 where
  none : AreChanges [] [] []
  at_time : (w : Word) (words : List Word) (time : ℕ) (changes : List Changed)
      (moments : List Moment)
      → IsTime w.bytes time → AreChanges words changes moments
      → AreChanges (w ∷ words) []
      ((record { at = w.at; time = time; changes = changes }) ∷ moments)
  by_digit : (w : Word) (words : List Word) (bit : Bool) (code : List ℕ) (changes : List Changed)
      (moments : List Moment)
      → IsDigit w.bytes bit code → AreChanges words changes moments
      → AreChanges (w ∷ words)
      ((record { at = w.at; code_at = w.at; code = code; bits = bit ∷ [] }) ∷ changes) moments
  by_bits : (w c : Word) (words : List Word) (bits : List Bool) (changes : List Changed)
      (moments : List Moment)
      → AreBits w.bytes bits → IsCode c.bytes → AreChanges words changes moments
      → AreChanges (w ∷ c ∷ words)
      ((record { at = w.at; code_at = c.at; code = c.bytes; bits = bits }) ∷ changes) moments

-- the words begin with these, and what stands behind them is so
abbrev pub Behind : List (List ℕ) → (List Word → Type 0) → List Word → Type 0
Behind [] Rest words = Rest words
Behind (bytes ∷ others) Rest [] = ⊥
Behind (bytes ∷ others) Rest (w ∷ words) = (w.bytes ≡ bytes) × Behind others Rest words

-- the words are declarations of variables, and then times
pub data AreDeclarations : List Word → List Declared → List Moment → Type 0 where
  last : (w : Word) (words : List Word) (moments : List Moment) → w.bytes ≡ codes "$upscope"
      → Behind (codes "$end" ∷ codes "$enddefinitions" ∷ codes "$end" ∷ [])
      (λ rest. AreChanges rest [] moments) words
      → AreDeclarations (w ∷ words) [] moments
  next : (w v n c it e : Word) (words : List Word) (width : ℕ) (others : List Declared)
      (moments : List Moment)
      → w.bytes ≡ codes "$var" → v.bytes ≡ codes "wire" → IsWidth n.bytes width → IsCode c.bytes
      → IsName it.bytes → e.bytes ≡ codes "$end" → AreDeclarations words others moments
      → AreDeclarations (w ∷ v ∷ n ∷ c ∷ it ∷ e ∷ words)
      ((record { at = c.at; width = width; code = c.bytes; name = it.bytes }) ∷ others) moments

-- the words with which a text begins
abbrev pub first_words : List (List ℕ)
first_words =
    codes "$timescale" ∷ codes "1" ∷ codes "ns" ∷ codes "$end" ∷ codes "$scope" ∷ codes "module"
    ∷ codes "chw_top" ∷ codes "$end" ∷ []

-- a text's declarations and times
pub record Source : Type 0 where
  pub declared : List Declared
  pub moments : List Moment

-- the words are those of a source
abbrev pub IsSource : List Word → Source → Type 0
IsSource words source =
    Behind first_words (λ rest. AreDeclarations rest source.declared source.moments) words

-- the codes of the variables
abbrev pub codes_of : List Declared → List (List ℕ)
codes_of = map (λ it. it.code)

-- all changes, in order
abbrev pub all_changes : List Moment → List Changed
all_changes = flat_map (λ moment. moment.changes)

abbrev pub number_of_place : Option ℕ → ℕ
number_of_place None = 0
number_of_place (Some place) = place

-- the number of the variable of a code
abbrev pub var_of : List Declared → List ℕ → ℕ
var_of declared code = number_of_place (place_of (codes_of declared) code)

-- its code is that of a variable
abbrev pub IsKnown : List Declared → Changed → Type 0
IsKnown declared change = IsTrue (is_among (codes_of declared) change.code)

-- the width of the variable of a code
abbrev pub width_of : List Declared → List ℕ → ℕ
width_of declared code = slice_index_or (map (λ it. it.width) declared) (var_of declared code) 0

-- it has as many bits as its variable
abbrev pub HasWidth : List Declared → Changed → Type 0
HasWidth declared change = length change.bits ≡ width_of declared change.code

-- each time is greater than the one before
abbrev pub Rise : List Moment → Type 0
Rise [] = Unit {0}
Rise (moment ∷ []) = Unit {0}
Rise (moment ∷ later ∷ moments) = (moment.time < later.time) × Rise (later ∷ moments)

abbrev pub change_of : List Declared → Changed → Change
change_of declared change =
    record { var = var_of declared change.code; value = change.bits }

abbrev pub step_of : List Declared → Moment → WaveStep
step_of declared moment =
    record { time = moment.time; changes = map (change_of declared) moment.changes }

-- the wave of a source
abbrev pub wave_of : Source → Wave
wave_of source = record {
  vars = map (λ it. variable it.name it.width) source.declared;
  steps = map (step_of source.declared) source.moments;
}

-- no code is declared twice, each change is of a variable and has its width, and the times rise
pub record IsRight (source : Source) : Type 0 where
  pub distinct : AreDistinct (codes_of source.declared)
  pub known : AllByRecursion (IsKnown source.declared) (all_changes source.moments)
  pub widths : AllByRecursion (HasWidth source.declared) (all_changes source.moments)
  pub rise : Rise source.moments

-- the text is that of a wave
pub record VcdText (text : List ℕ) (wave : Wave) : Type 0 where
  pub source : Source
  pub words : IsSource (words_of text) source
  pub right : IsRight source
  pub wave_is : wave ≡ wave_of source
