-- A case in an instance: which alternative is taken, and what the case then has.
use Rattle.std.specs.Prelude.{◌≡◌, ℕ, zero, suc, ◌+◌, ◌-◌, true, false, Bool, List, ◌++◌}
use Rattle.std.specs.Prelude.{length, Some, take, reverse, slice_get}
use Rattle.chw_base.specs.declared.index.WireId.{WireId}
use Rattle.chw_clock.specs.declared.event.Event.{Event}
use Rattle.chw_types.specs.declared.declarations.Data.{Data}
use Rattle.chw_types.specs.TypeTree.{TypeTree, TypeTrees}
use Rattle.chw_terms.specs.declared.program.Program.{Program}
use Rattle.chw_terms.specs.declared.term.Pattern.{Pattern}
use Rattle.chw_terms.specs.TermTree.{TermTree, var, case_of, Alts, no_alts, alt}
use Rattle.chw_typing.specs.Alternatives.{NoneHidden}
use Rattle.chw_typing.specs.HeadTypes.{PatternOf}
use Rattle.chw_layout.specs.Measured.{HasWidth}
use Rattle.chw_meaning.specs.Values.{closed, Thunks, count_of, joined}
use Rattle.carrying.specs.Carrying.{Carries}
use Rattle.carrying.specs.DataLaws.{Parts, CarryParts, is_for, behind, Taken, AreFor, taken}
use Rattle.netlist.specs.declared.net.Net.{Net}
use Rattle.net_built.specs.Data.{HaveWidths, Tested, tested_of, words_of, case_cells}
use Rattle.net_built.specs.Data.{case_wires, field_cuts, variables_from}
use Rattle.net_built.specs.Terms.{Variable}
use Rattle.net_built.specs.Wires.{Piece}
use Rattle.cell_bits.specs.Bearing.{HasCells}
use Rattle.cell_bits.specs.ChoiceLaws.{AreWide, IsTaken}
use Rattle.cell_bits.specs.DataLaws.{BearAll}
use Rattle.net_means.specs.SideBits.Sides.{VariableHas, HasBits, SideHas}

-- how many alternatives there are
abbrev pub alts_count : Alts → ℕ
alts_count no_alts = zero
alts_count (alt q e more) = suc (alts_count more)

-- of the alternatives the one of this number is the first that is for the bits
pub data IsFirst (datas : List Data) (x : List Bool) : Alts → ℕ → Taken → Type 0 where
  first_here : {q : Pattern} {e : TermTree} {more : Alts}
      → is_for datas x q ≡ true
      → IsFirst datas x (alt q e more) zero (record { pattern = q; body = e })
  first_later : {q : Pattern} {e : TermTree} {more : Alts} {k : ℕ} {a : Taken}
      → is_for datas x q ≡ false → IsFirst datas x more k a
      → IsFirst datas x (alt q e more) (suc k) a

-- it is the alternative that the meaning takes
abbrev pub FirstIsTaken : Type 0
FirstIsTaken =
    (datas : List Data) (x : List Bool) (alts : Alts) (k : ℕ) (a : Taken)
    → IsFirst datas x alts k a → taken datas x alts ≡ Some a

-- and the meaning takes none but the first
abbrev pub TakenIsFirst : Type 0
TakenIsFirst =
    (datas : List Data) (x : List Bool) (alts : Alts) (a : Taken)
    → taken datas x alts ≡ Some a → (k : ℕ) × IsFirst datas x alts k a

-- of a variable of this type and width: patterns for the type, of which none is hidden
pub record AreTested (datas : List Data) (u : TypeTree) (whole : ℕ) (alts : Alts) : Type 0 where
  pub wide : HasWidth datas u whole
  pub for_type : AreFor datas u alts
  pub shown : NoneHidden alts

-- then the cells take it too: of the words that are tested, which have the width of the tested bits
abbrev pub FirstIsChosen : Type 0
FirstIsChosen =
    (datas : List Data) (u : TypeTree) (whole n : ℕ) (wires : List WireId) (on : Tested)
    (alts : Alts) (x : List Bool) (k : ℕ) (a : Taken)
    → AreTested datas u whole alts → length x ≡ whole → on ≡ tested_of datas u whole n wires
    → IsFirst datas x alts k a
    → AreWide on.bits (words_of on.bits on.first alts)
    × IsTaken (take on.bits x) (words_of on.bits on.first alts) (alts_count alts) k

-- a case on a variable with these bits, for which the alternative of this number is the first:
-- where the result wires of each alternative have bits of the case's width, and the body of this
-- one carries those that its own have, on thunks that carry the bits of its fields
pub record CaseGiven (p : Program) (scope : List Variable) (γ : Thunks) (δ : TypeTrees)
    (net : Net) (path : List ℕ) (h : List Event) (n w : ℕ) (t : TypeTree) (x : ℕ) (alts : Alts)
    (on : Tested) (piece : Piece) (results : List (List WireId)) : Type 0 where
  pub it : Variable
  pub bits : List Bool
  pub has : VariableHas p net path h γ x it bits
  pub whole : ℕ
  pub tested : AreTested p.datas it.ty whole alts
  pub is : on ≡ tested_of p.datas it.ty whole n it.wires
  pub wide : HasWidth p.datas t w
  pub values : List (List Bool)
  pub bear : BearAll net path h results values
  pub sizes : AreWide w values
  pub as_many : length values ≡ alts_count alts
  pub place : ℕ
  pub first : Taken
  pub is_first : IsFirst p.datas bits alts place first
  pub given : List Bool
  pub at : slice_get values place ≡ Some given
  pub fields : List TypeTree
  pub pattern : PatternOf p.datas it.ty first.pattern fields
  pub parts : List (List Bool)
  pub cut : Parts p.datas fields (behind p.datas first.pattern bits) parts
  pub body :
      (ths : Thunks) → count_of ths ≡ length fields → CarryParts p fields ths parts
      → Carries p t (closed first.body (joined ths γ) δ) given
  pub cells : HasCells net path (case_cells on alts w n piece results).cells

-- then the case carries those, and its wires have them
abbrev pub CasesBear : Type 0
CasesBear =
    (p : Program) (scope : List Variable) (γ : Thunks) (δ : TypeTrees) (net : Net)
    (path : List ℕ) (h : List Event) (n w : ℕ) (t : TypeTree) (x : ℕ) (alts : Alts)
    (on : Tested) (piece : Piece) (results : List (List WireId))
    → CaseGiven p scope γ δ net path h n w t x alts on piece results
    → SideHas p γ δ net path h t (case_of (var x) alts) (case_wires on alts w n piece results)

-- an alternative on a variable with these bits, on thunks that carry the bits of its fields: the
-- instance has the cells that cut these out, from wire m on
pub record FieldsGiven (p : Program) (γ : Thunks) (net : Net) (path : List ℕ) (h : List Event)
    (x n m : ℕ) (q : Pattern) (fields : List TypeTree) (widths : List ℕ) (ths : Thunks)
    : Type 0 where
  pub it : Variable
  pub bits : List Bool
  pub has : VariableHas p net path h γ x it bits
  pub whole : ℕ
  pub wide : HasWidth p.datas it.ty whole
  pub pattern : PatternOf p.datas it.ty q fields
  pub sizes : HaveWidths p.datas fields widths
  pub cells :
      HasCells net path
      (field_cuts (whole - (tested_of p.datas it.ty whole n it.wires).bits) it.wires widths m).cells
  pub parts : List (List Bool)
  pub cut : Parts p.datas fields (behind p.datas q bits) parts
  pub many : count_of ths ≡ length fields
  pub carry : CarryParts p fields ths parts

-- then the variables of its fields have bits, and each one from outside that has bits outside
abbrev pub FieldsHaveBits : Type 0
FieldsHaveBits =
    (p : Program) (γ : Thunks) (net : Net) (path : List ℕ) (h : List Event) (x n m : ℕ)
    (q : Pattern) (fields : List TypeTree) (widths : List ℕ) (ths : Thunks)
    (scope : List Variable) (y : ℕ) (v : Variable)
    → FieldsGiven p γ net path h x n m q fields widths ths
    → slice_get (reverse (variables_from m fields widths) ++ scope) y ≡ Some v
    → ((z : ℕ) → y ≡ length fields + z → slice_get scope z ≡ Some v
    → HasBits p net path h γ z v)
    → HasBits p net path h (joined ths γ) y v
