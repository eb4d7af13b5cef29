-- What the reader knows of the words that it has read.
use Rattle.std.specs.Prelude.{◌≡◌, ◌≢◌, ℕ, ◌+◌, ◌<◌, ◌≤◌, List, [], ◌∷◌, ◌++◌, length, map, codes}
use Rattle.std.specs.Prelude.{Option, None, Some}
use Rattle.wave_text.specs.Faults.{FailsAt}
use Rattle.wave_read.specs.Shown.{change_of, variable_of}
use Rattle.wave_text.specs.VcdText.{AreChanges, AreDeclarations, Changed, Declared, IsCode}
use Rattle.wave_text.specs.VcdText.{IsName, IsWidth, Moment}
use Rattle.wave_text.specs.Words.{Word, words_from}
use Rattle.wave_read.specs.declared.slots.Slot.{Slot}
use Rattle.wave_read.specs.declared.slots.Slot.TheVariants.{Code, End, EndDefinitions, Module, Name}
use Rattle.wave_read.specs.declared.slots.Slot.TheVariants.{Ns, One, Scope, Timescale, Top, Width}
use Rattle.wave_read.specs.declared.slots.Slot.TheVariants.{Wire}
use Rattle.wave_read.specs.declared.items.Item.{Item}
use Rattle.wave_read.specs.declared.items.Item.TheVariants.{Change, Nothing, Time}
use Rattle.wave_read.specs.declared.items.Stamp.{Stamp}
use Rattle.wave_read.specs.declared.definitions.Definition.{Definition}
use Rattle.wave_read.specs.declared.definitions.Definition.TheVariants.{Last, Variable}
use Rattle.wave_read.specs.declared.source.Changed.{Changed as ReadChange}
use Rattle.wave_read.specs.declared.words.Left.{Left}

-- the words that are left
abbrev pub words_in : Left → List Word
words_in left = words_from left.at left.text.now

-- the place behind all that is left
abbrev pub end_of : Left → ℕ
end_of left = left.at + length left.text.now

-- the places of the words with which a text begins
abbrev pub first_slots : List Slot
first_slots = Timescale ∷ One ∷ Ns ∷ End ∷ Scope ∷ Module ∷ Top ∷ End ∷ []

-- the places behind `$var`
abbrev pub variable_slots : List Slot
variable_slots = Wire ∷ Width ∷ Code ∷ Name ∷ End ∷ []

-- the places behind `$upscope`
abbrev pub last_slots : List Slot
last_slots = End ∷ EndDefinitions ∷ End ∷ []

-- the words behind `$var` declare this variable
abbrev pub Declares : List Word → Declared → Type 0
Declares (v ∷ n ∷ c ∷ it ∷ e ∷ []) variable =
    (v.bytes ≡ codes "wire") × IsWidth n.bytes variable.width × IsCode c.bytes × IsName it.bytes
    × (e.bytes ≡ codes "$end")
    × (variable ≡ record { at = c.at; width = variable.width; code = c.bytes; name = it.bytes })
Declares _ variable = ⊥

-- the words are changes, and then times
abbrev pub HasChanges : List Word → Type 0
HasChanges words =
    (changes : List Changed) × (moments : List Moment) × AreChanges words changes moments

-- the words are times
abbrev pub HasTimes : List Word → Type 0
HasTimes words = (moments : List Moment) × AreChanges words [] moments

-- the words are declarations, and then times
abbrev pub HasDeclarations : List Word → Type 0
HasDeclarations words =
    (declared : List Declared) × (moments : List Moment) × AreDeclarations words declared moments

-- where what is left behind fails as the one language, all fails as the other
abbrev pub FailsBehind : (Inner Outer : List Word → Type 0) → ℕ → (inner outer : List Word) → Type 0
FailsBehind Inner Outer end inner outer =
    (at : ℕ) → FailsAt Inner end inner at → FailsAt Outer end outer at

-- what is left behind a definition
abbrev pub behind_of : Definition → Left
behind_of (Variable it behind) = behind
behind_of (Last behind) = behind

-- the words, which end at a place, begin with this definition
abbrev pub IsDefinition : ℕ → List Word → Definition → Type 0
IsDefinition end words (Variable it behind) =
    ((declared : List Declared) (moments : List Moment)
    → AreDeclarations (words_in behind) declared moments
    → AreDeclarations words (variable_of it ∷ declared) moments)
    × FailsBehind HasDeclarations HasDeclarations end (words_in behind) words
IsDefinition end words (Last behind) =
    ((moments : List Moment) → AreChanges (words_in behind) [] moments
    → AreDeclarations words [] moments)
    × FailsBehind HasTimes HasDeclarations end (words_in behind) words

-- what stands next among the changes and times
abbrev pub IsItem : ℕ → List Word → Item → Type 0
IsItem end words Nothing = words ≡ []
IsItem end words (Time stamp behind) =
    ((changes : List Changed) (moments : List Moment) → AreChanges (words_in behind) changes moments
    → AreChanges words []
    (record { at = stamp.at; time = stamp.time; changes = changes } ∷ moments))
    × FailsBehind HasChanges HasChanges end (words_in behind) words
IsItem end words (Change it behind) =
    ((changes : List Changed) (moments : List Moment) → AreChanges (words_in behind) changes moments
    → AreChanges words (change_of it ∷ changes) moments)
    × FailsBehind HasChanges HasChanges end (words_in behind) words

-- what is known of the words once some changes were read: they end, or a time stands next, of which
-- the changes and what is behind them are left
abbrev pub GoesOn : ℕ → List Word → List Changed → Option Stamp → List Word → Type 0
GoesOn end words changes None rest = AreChanges words changes []
GoesOn end words changes (Some stamp) rest =
    ((others : List Changed) (moments : List Moment) → AreChanges rest others moments
    → AreChanges words changes
    (record { at = stamp.at; time = stamp.time; changes = others } ∷ moments))
    × FailsBehind HasChanges HasChanges end rest words

-- the same of the changes that were put behind others
abbrev pub PutsChanges : ℕ → List Word → (old new : List ReadChange) → Option Stamp → List Word
    → Type 0
PutsChanges end words old new next rest =
    (read : List ReadChange) × (new ≡ old ++ read)
    × GoesOn end words (map change_of read) next rest

-- what is left behind what stands next; this is left where nothing does
abbrev pub left_of : Left → Item → Left
left_of left Nothing = left
left_of left (Time stamp behind) = behind
left_of left (Change it behind) = behind

-- it begins with neither the digit of a bit nor `b`
abbrev pub IsOther : List ℕ → Type 0
IsOther [] = Unit {0}
IsOther (b ∷ bytes) = (b ≢ 48) × (b ≢ 49) × (b ≢ 98)

-- less is left behind what stands next
abbrev pub IsShorter : Item → List ℕ → Type 0
IsShorter Nothing text = Unit {0}
IsShorter (Time stamp behind) text = length behind.text.now < length text
IsShorter (Change it behind) text = length behind.text.now < length text

-- less is left behind a time than before, and no more where none stands there
abbrev pub IsLess : Option Stamp → (behind text : List ℕ) → Type 0
IsLess None behind text = length behind ≤ length text
IsLess (Some stamp) behind text = length behind < length text

-- how many times are waiting
abbrev pub waiting : Option Stamp → ℕ
waiting None = 0
waiting (Some stamp) = 1
