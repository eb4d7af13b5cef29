-- Rows of words, each of which may stand in its place.
use Rattle.std.specs.Prelude.{◌≡◌, ℕ, ◌⊎◌, List, [], ◌∷◌, codes}
use Rattle.wave_text.specs.VcdText.{IsCode, IsName, IsWidth}
use Rattle.wave_text.specs.Words.{Word}
use Rattle.wave_read.specs.declared.slots.Slot.{Slot}
use Rattle.wave_read.specs.declared.slots.Slot.TheVariants.{Code, End, EndDefinitions, Module, Name}
use Rattle.wave_read.specs.declared.slots.Slot.TheVariants.{Ns, One, Scope, Timescale, Top, Width}
use Rattle.wave_read.specs.declared.slots.Slot.TheVariants.{Wire}

-- the bytes may stand in the place
abbrev pub Fits : Slot → List ℕ → Type 0
Fits Timescale bytes = bytes ≡ codes "$timescale"
Fits One bytes = bytes ≡ codes "1"
Fits Ns bytes = bytes ≡ codes "ns"
Fits End bytes = bytes ≡ codes "$end"
Fits Scope bytes = bytes ≡ codes "$scope"
Fits Module bytes = bytes ≡ codes "module"
Fits Top bytes = bytes ≡ codes "chw_top"
Fits Wire bytes = bytes ≡ codes "wire"
Fits EndDefinitions bytes = bytes ≡ codes "$enddefinitions"
Fits Width bytes = (width : ℕ) × IsWidth bytes width
Fits Code bytes = IsCode bytes
Fits Name bytes = IsName bytes

-- the words fit the places one by one
abbrev pub FitsRow : List Slot → List Word → Type 0
FitsRow [] [] = Unit {0}
FitsRow (slot ∷ slots) (w ∷ words) = Fits slot w.bytes × FitsRow slots words
FitsRow _ _ = ⊥

-- at this place stands the first word that doesn't fit, or the words end there before the places do
abbrev pub FailsRow : List Slot → (end : ℕ) → List Word → ℕ → Type 0
FailsRow [] end words at = ⊥
FailsRow (slot ∷ slots) end [] at = at ≡ end
FailsRow (slot ∷ slots) end (w ∷ words) at =
    ((Fits slot w.bytes → ⊥) × (at ≡ w.at))
    ⊎ (Fits slot w.bytes × FailsRow slots end words at)
