-- The laws on which the induction stands, and where it is.
use Rattle.std.proofs.Common.{List, Some, [], ap, arith, length, refl, suc, zero, ℕ, ◌<◌, ◌∙◌, ◌∷◌, ◌≡◌}
use Rattle.std.specs.Prelude.{slice_get}
use Rattle.net_grounds.specs.Facts.{Facts}
use Rattle.net_means.proofs.Lists.{found_in_map}
use Rattle.net_means.specs.SideBits.Cases.{CasesBear, FieldsHaveBits, TakenIsFirst}
use Rattle.net_means.specs.SideBits.Laws.{SidesBear}
use Rattle.cell_bits.specs.ChoiceLaws.{CasesBear as CellCasesBear}
use Rattle.net_means.specs.SideBits.Cases.{CasesBear, FieldsHaveBits, TakenIsFirst}
use Rattle.net_means.specs.SideBits.Laws.{SidesBear}
use Rattle.net_means.proofs.NetBits.Below.{Below}
use Rattle.net_means.specs.CircuitBits.Instances.{Block, BlockAt, Design}
use Rattle.net_means.specs.CircuitBits.Uses.{CallsHave, FollowersHave, LiftsHave, SamplesHave}
use Rattle.net_means.specs.CircuitBits.Laws.{ConstantsHave, CrossingsHave, EmptyLeavesHave, LeavesHaveFields, NamesHave, ProductsHave, ProjectionsHave, RegistersHave}
use Rattle.layout_laws.specs.Numbering.{ConstructorsByPlace}
use Rattle.net_means.specs.WireOrder.Laws.{CopiesSettle, CrossingsSettle, FieldsSettle, InputsSettle, LooksSettle, ProductsSettle, ProjectionsSettle, ResultsSettle, SidesSettle, UsesSettle}
use Rattle.carrying.specs.DataLaws.{FieldsCarry, ShownHasTag}
use Rattle.type_laws.specs.SameKept.{FieldsKeepSame}
use Rattle.chw_clock.specs.Histories.{FitsPorts}
use Rattle.chw_terms.specs.TermTree.{Group}
use Rattle.net_means.proofs.NetBits.Forms.{GroupFormed, origins, setting, value_parts}
use Rattle.chw_layout.specs.Measured.{HasWidth}
use Rattle.chw_meaning.specs.Values.{History, Thunk}
use Rattle.net_means.specs.NetBits.Whole.{InputsHaveBits, IsPast}
use Rattle.chw_typing.specs.Programs.{IsSound, setting_of}
use Rattle.chw_typing.specs.Scopes.{IsTermType}
use Rattle.net_means.specs.CircuitBits.Memories.{MemoriesHave}
use Rattle.chw_typing.specs.SpineLaws.{PrimAtArguments}
use Rattle.net_means.specs.WireOrder.Awaits.{Ranked}
use Rattle.layout_laws.specs.SameLayout.{SameKeepsMeasure}
use Rattle.chw_types.specs.SamePromises.{SameValues}
use Rattle.chw_terms.specs.declared.scene.Sort.{Sort}
use Rattle.net_means.proofs.NetBits.There.{TopThere}
use Rattle.chw_terms.specs.declared.scene.Sort.TheVariants.{Value}
use Rattle.net_built.specs.Terms.{Variable}
use Rattle.net_rules.specs.WellFormed.{WellFormed}
use Rattle.net_means.proofs.NetBits.SomeBits.{WiresHave, WiresOnce}
use Rattle.net_means.proofs.NetBits.Standing.{formed}
use Rattle.net_built.specs.Wires.{new_wires, wire, wire_count, wires_from}
use Rattle.net_means.proofs.SideBits.Operands.{sound_alone}
use Rattle.net_means.specs.SideBits.Sides.{types_in}

pub record Laws : Type 0 where
  pub keep : FieldsKeepSame
  pub values : SameValues
  pub measure : SameKeepsMeasure
  pub prims : PrimAtArguments
  -- of right sides of values
  pub sides : SidesBear
  pub cases : CasesBear
  pub fields : FieldsHaveBits
  pub back : TakenIsFirst
  pub cell_cases : CellCasesBear
  pub tags : ShownHasTag
  pub fields_carry : FieldsCarry
  pub places : ConstructorsByPlace
  -- of circuits
  pub names : NamesHave
  pub crossings : CrossingsHave
  pub constants : ConstantsHave
  pub registers : RegistersHave
  pub products : ProductsHave
  pub projections : ProjectionsHave
  pub parts : LeavesHaveFields
  pub empty : EmptyLeavesHave
  pub followers : FollowersHave
  pub calls : CallsHave
  pub lifts : LiftsHave
  pub samples : SamplesHave
  pub memories : MemoriesHave
  -- of the order of wires
  pub side_order : SidesSettle
  pub looks_order : LooksSettle
  pub results_order : ResultsSettle
  pub fields_order : FieldsSettle
  pub copies_order : CopiesSettle
  pub crossings_order : CrossingsSettle
  pub products_order : ProductsSettle
  pub projections_order : ProjectionsSettle
  pub uses_order : UsesSettle
  pub inputs_order : InputsSettle

-- a built net that is well formed, with the ranks of its wires, and a history
pub record Situation : Type 0 where
  pub laws : Laws
  pub d : Design
  pub inputs : List Thunk
  pub order : Ranked d.net
  pub good : WellFormed d.net
  pub last : History
  pub h : History
  pub past : IsPast last h
  pub fits : FitsPorts d.net.ports h
  pub given : InputsHaveBits d inputs last
  pub top : TopThere d inputs
  pub have : WiresHave d.net h
  pub once : WiresOnce d.net h

-- the program without made definitions is sound
pub alone : (d : Design) → IsSound (setting_of d.program)
alone d = sound_alone (origins d) d.sound

-- what is known below a rank there
abbrev pub Known : Situation → ℕ → Type 0
Known s r = Below s.d s.inputs s.order s.last s.h r

-- what stands there
abbrev pub Stands : Situation → List ℕ → Block → Type 0
Stands s path b = BlockAt s.d s.inputs path s.h b

-- a variable inside a block has a type that has a kind
pub variable_typed : Facts → (d : Design) {sort : Sort} {g : Group} {scope : List Variable} → GroupFormed d sort g scope → (x : ℕ) (it : Variable) → slice_get scope x ≡ Some it → IsTermType (setting d) [] it.ty
variable_typed facts d {scope = scope} formed x it known = facts.scopes.typed_at (setting d) [] (types_in scope) x it.ty formed.scoped (found_in_map (λ (v : Variable). v.ty) scope x it known)

-- and a value has as many wires as its width asks for
pub value_wires : Facts → (d : Design) {g : Group} {scope : List Variable} → GroupFormed d Value g scope → (x : ℕ) (it : Variable) (w : ℕ) → slice_get scope x ≡ Some it → HasWidth d.program.datas it.ty w → length it.wires ≡ wire_count (w ∷ [])
value_wires facts d formed x it w known wide =
    let held = formed.held x it known in
    let part = value_parts held.1 in
    held.2 ∙ ap (λ ws. wire_count ws) part.2 ∙ ap (λ w. wire_count (w ∷ [])) (facts.widths.width_once part.1 wide)

-- of some wires for parts there is a first
pub first_wire : (n : ℕ) (widths : List ℕ) → 0 < wire_count widths → slice_get (new_wires n widths) 0 ≡ Some (wire n)
first_wire n widths some = by (wire_count widths) some
  where
    by : (c : ℕ) → 0 < c → slice_get (wires_from n c) 0 ≡ Some (wire n)
    by zero l = absurd (omega (arith, l))
    by (suc c) l = refl
