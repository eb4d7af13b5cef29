-- Why a text is no wave.
use Rattle.std.specs.Prelude.{◌≡◌, ℕ, ◌⊎◌, true, List, [], ◌∷◌, ◌++◌, length}
use Rattle.std.specs.List.{AllByRecursion}
use Rattle.name_tables.specs.Names.{AreDistinct, is_among}
use Rattle.wave_text.specs.VcdText.{Changed, Declared, HasWidth, IsKnown, IsSource, Moment, Rise}
use Rattle.wave_text.specs.VcdText.{Source, all_changes, codes_of}
use Rattle.wave_text.specs.Words.{Word, words_of}
use Rattle.wave_text.specs.declared.fault.VcdCode.{VcdCode}
use Rattle.wave_text.specs.declared.fault.VcdCode.TheVariants.{X01, X02, X03, X04}
use Rattle.wave_text.specs.declared.fault.VcdFault.{VcdFault}

-- a text of the language goes on so
abbrev pub Begins : (List Word → Type 0) → List Word → Type 0
Begins Language front = (more : List Word) × Language (front ++ more)

-- the words begin no text of the language any more with the word at this place
pub record LeavesAt (Language : List Word → Type 0) (words : List Word) (at : ℕ) : Type 0 where
  pub front : List Word
  pub w : Word
  pub rest : List Word
  pub words_are : words ≡ front ++ w ∷ rest
  pub here : at ≡ w.at
  pub before : Begins Language front
  pub none : Begins Language (front ++ w ∷ []) → ⊥

-- the words begin a text of the language, but are none: it ends too early, at the end
pub record EndsEarly (Language : List Word → Type 0) (end : ℕ) (words : List Word) (at : ℕ) : Type 0
  where
    pub before : Begins Language words
    pub none : Language words → ⊥
    pub here : at ≡ end

-- at which place words that end at a place are no text of the language
abbrev pub FailsAt : (List Word → Type 0) → (end : ℕ) → List Word → ℕ → Type 0
FailsAt Language end words at = LeavesAt Language words at ⊎ EndsEarly Language end words at

-- the words are those of some source
abbrev pub HasSource : List Word → Type 0
HasSource words = (source : Source) × IsSource words source

-- the first code that is declared twice stands here again
pub record IsTwiceAt (declared : List Declared) (at : ℕ) : Type 0 where
  pub earlier : List Declared
  pub again : Declared
  pub others : List Declared
  pub declared_are : declared ≡ earlier ++ again ∷ others
  pub distinct : AreDistinct (codes_of earlier)
  pub there : is_among (codes_of earlier) again.code ≡ true
  pub here : at ≡ again.at

-- the first of the changes of which this doesn't hold
pub record IsFirstWithout (Holds : Changed → Type 0) (changes : List Changed) (change : Changed)
    : Type 0 where
  pub earlier : List Changed
  pub others : List Changed
  pub changes_are : changes ≡ earlier ++ change ∷ others
  pub before : AllByRecursion Holds earlier
  pub broken : Holds change → ⊥

-- the first code of a change that is none of the variables' stands here
abbrev pub IsUnknownAt : List Declared → List Changed → ℕ → Type 0
IsUnknownAt declared changes at =
    (change : Changed) × IsFirstWithout (IsKnown declared) changes change × (at ≡ change.code_at)

-- the first change that hasn't its variable's width stands here
abbrev pub IsWrongAt : List Declared → List Changed → ℕ → Type 0
IsWrongAt declared changes at =
    (change : Changed) × IsFirstWithout (HasWidth declared) changes change × (at ≡ change.at)

-- the first time that isn't greater than the one before stands here
pub record IsBackAt (moments : List Moment) (at : ℕ) : Type 0 where
  pub earlier : List Moment
  pub moment : Moment
  pub others : List Moment
  pub moments_are : moments ≡ earlier ++ moment ∷ others
  pub rise : Rise earlier
  pub back : Rise (earlier ++ moment ∷ []) → ⊥
  pub here : at ≡ moment.at

-- a code is declared twice or unknown
abbrev pub IsCodeFault : Source → ℕ → Type 0
IsCodeFault source at =
    IsTwiceAt source.declared at
    ⊎ (AreDistinct (codes_of source.declared)
    × IsUnknownAt source.declared (all_changes source.moments) at)

-- no code is declared twice or unknown
abbrev pub HaveCodes : Source → Type 0
HaveCodes source =
    AreDistinct (codes_of source.declared)
    × AllByRecursion (IsKnown source.declared) (all_changes source.moments)

-- what a source breaks first, and where
abbrev pub IsSourceFault : Source → VcdCode → ℕ → Type 0
IsSourceFault source X01 at = ⊥
IsSourceFault source X02 at = IsCodeFault source at
IsSourceFault source X03 at =
    HaveCodes source × IsWrongAt source.declared (all_changes source.moments) at
IsSourceFault source X04 at =
    HaveCodes source
    × AllByRecursion (HasWidth source.declared) (all_changes source.moments)
    × IsBackAt source.moments at

-- the words are none of a source, or break a rule on sources
abbrev pub IsVcdFault : List ℕ → VcdFault → Type 0
IsVcdFault text fault =
    ((fault.code ≡ X01) × FailsAt HasSource (length text) (words_of text) fault.at)
    ⊎ ((source : Source) × IsSource (words_of text) source
    × IsSourceFault source fault.code fault.at)
