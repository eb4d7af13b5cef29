-- Worked examples of what bits are held, shown and carried.
use Rattle.std.specs.Prelude.{ℕ, Bool, true, List, [], ◌∷◌}
use Rattle.chw_bits.specs.Bits.{bits_of}
use Rattle.chw_types.specs.declared.kind.Scalar.TheVariants.{U}
use Rattle.chw_prims.specs.Schemas.{maybe}
use Rattle.chw_terms.specs.declared.term.Pattern.TheVariants.{OfLit, Default}
use Rattle.chw_terms.specs.TermTree.{TermTree, case_of, no_alts, alt}
use Rattle.chw_layout.specs.Datum.{Datum, word, built, no_data, datum_and}
use Rattle.chw_meaning.specs.Gives.{Yields}
use Rattle.chw_meaning.specs.Values.{con_of, sample, none, thunk_and}
use Rattle.chw_meaning.specs.Writing.{bare, here, ticks, con_on, number}
use Rattle.chw_meaning.specs.Designs.{byte, a_clock, counter}
use Rattle.carrying.specs.Carrying.{Holds, Shows, Carries}

-- a counter shows 1 at the second event, and carries no bits; its sample there carries those of 1
pub record CounterShows : Type 0 where
  pub shows : Shows bare byte (here (counter a_clock)) (ticks 2) (bits_of 8 1)
  pub moves : (b : List Bool) → Carries bare byte (here (counter a_clock)) b → ⊥
  pub stays : Carries bare byte (sample (here (counter a_clock)) (ticks 2)) (bits_of 8 1)

-- `Just @(Unsigned 8) 1u8` carries a tag of one bit before those of 1
abbrev pub JustCarries : Type 0
JustCarries =
    Carries bare (maybe byte) (here (con_on 3 (byte ∷ []) (number 8 1 ∷ []))) (true ∷ bits_of 8 1)

-- `Just` on the counter is one value at every history, and holds no bits
abbrev pub JustOfCounter : Type 0
JustOfCounter =
    (b : List Bool)
    → Holds bare (maybe byte) (con_of 3 (thunk_and (here (counter a_clock)) none)) b → ⊥

-- `case counter of { 0u8 -> Just counter; _ -> Just 0u8; }`, where the counter is a signal
abbrev pub just_zero : TermTree
just_zero =
    case_of (counter a_clock)
    (alt (OfLit U (bits_of 8 0)) (con_on 3 (byte ∷ []) (counter a_clock ∷ []))
    (alt Default (con_on 3 (byte ∷ []) (number 8 0 ∷ [])) no_alts))

-- it makes `Just 0u8` at the first event and at the second, and yet carries no bits: what its value
-- at the first event has as a field moves
abbrev pub zero_in_just : Datum
zero_in_just = built 3 (datum_and (word (bits_of 8 0)) no_data)

pub record SameDataMove : Type 0 where
  pub first : (n : ℕ) × Yields bare n (maybe byte) (here just_zero) (ticks 1) zero_in_just
  pub second : (n : ℕ) × Yields bare n (maybe byte) (here just_zero) (ticks 2) zero_in_just
  pub moves : (b : List Bool) → Carries bare (maybe byte) (here just_zero) b → ⊥
