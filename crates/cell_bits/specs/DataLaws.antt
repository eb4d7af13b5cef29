-- What is promised of the cells of constructors and of fields.
use Rattle.std.specs.Prelude.{◌≡◌, ℕ, ◌+◌, ◌≤◌, Bool, List, [], ◌∷◌, ◌++◌, flat_map, length, map}
use Rattle.chw_base.specs.declared.index.WireId.{WireId}
use Rattle.chw_bits.specs.Bits.{bits_of}
use Rattle.chw_clock.specs.declared.event.Event.{Event}
use Rattle.chw_layout.specs.Encodes.{filled}
use Rattle.chw_types.specs.TypeTree.{TypeTree}
use Rattle.netlist.specs.declared.net.Net.{Net}
use Rattle.net_built.specs.Data.{constructed, field_cuts, variables_from}
use Rattle.net_built.specs.Terms.{Variable}
use Rattle.net_built.specs.Wires.{last_wires}
use Rattle.cell_bits.specs.Bearing.{HasCells, BearEach, Bears}

-- bits one after the other
abbrev pub joined : List (List Bool) → List Bool
joined values = flat_map (λ bits. bits) values

-- the cells of a constructor give the tag, the fields' bits, and zeros up to the width
abbrev pub ConstructorsBear : Type 0
ConstructorsBear =
    (net : Net) (path : List ℕ) (h : List Event) (tag number width n : ℕ) (wires : List WireId)
    (values : List (List Bool))
    → BearEach net path h wires values → tag + length (joined values) ≤ width
    → HasCells net path (constructed tag number (length (joined values)) width n wires).cells
    → Bears net path h
    (last_wires n (constructed tag number (length (joined values)) width n wires) (width ∷ []))
    (filled width (bits_of tag number ++ joined values))

-- parts, each with its own wires, have these bits, each its own
pub data BearAll (net : Net) (path : List ℕ) (h : List Event)
    : List (List WireId) → List (List Bool) → Type 0 where
  all_none : BearAll net path h [] []
  all_and : {wires : List WireId} {parts : List (List WireId)} {bits : List Bool}
      {values : List (List Bool)}
      → Bears net path h wires bits → BearAll net path h parts values
      → BearAll net path h (wires ∷ parts) (bits ∷ values)

-- how many bits each value has
abbrev pub lengths : List (List Bool) → List ℕ
lengths values = map (λ (bits : List Bool). length bits) values

-- the wires of each variable
abbrev pub wires_of_each : List Variable → List (List WireId)
wires_of_each variables = map (λ (v : Variable). v.wires) variables

-- and of all, one after the other
abbrev pub wires_in : List Variable → List WireId
wires_in variables = flat_map (λ (v : Variable). v.wires) variables

-- a wire has the bits of these fields one after the other, with these bits before and behind them,
-- and the instance has the cells that cut the fields out, from wire n on
pub record AreCut (net : Net) (path : List ℕ) (h : List Event) (n : ℕ) (fields : List TypeTree)
    (widths : List ℕ) (values : List (List Bool)) : Type 0 where
  pub a : List WireId
  pub front : List Bool
  pub behind : List Bool
  pub below : ℕ
  pub bears : Bears net path h a (front ++ (joined values ++ behind))
  pub reach : below ≡ length (joined values ++ behind)
  pub wide : widths ≡ lengths values
  pub typed : length fields ≡ length values
  pub cells : HasCells net path (field_cuts below a widths n).cells

-- then the variables of the fields have these bits, each its own
abbrev pub FieldsBear : Type 0
FieldsBear =
    (net : Net) (path : List ℕ) (h : List Event) (n : ℕ) (fields : List TypeTree)
    (widths : List ℕ) (values : List (List Bool))
    → AreCut net path h n fields widths values
    → BearAll net path h (wires_of_each (variables_from n fields widths)) values

-- and their wires, one after the other, have them one after the other
abbrev pub FieldsBearEach : Type 0
FieldsBearEach =
    (net : Net) (path : List ℕ) (h : List Event) (n : ℕ) (fields : List TypeTree)
    (widths : List ℕ) (values : List (List Bool))
    → AreCut net path h n fields widths values
    → BearEach net path h (wires_in (variables_from n fields widths)) values
