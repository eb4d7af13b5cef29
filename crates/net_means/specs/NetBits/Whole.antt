-- What holds of all variables of a built net.
use Rattle.std.specs.Prelude.{List, Some, [], slice_get, zero, ℕ, ◌++◌, ◌≡◌}
use Rattle.net_means.specs.CircuitBits.Instances.{Block, BlockAt, Design}
use Rattle.net_means.specs.CircuitBits.Instances.{HaveBits, Inside, NoLambda}
use Rattle.net_means.specs.CircuitBits.Instances.{Parameters}
use Rattle.chw_terms.specs.declared.scene.Sort.TheVariants.{Circuit}
use Rattle.chw_clock.specs.Histories.{FitsPorts}
use Rattle.netlist.specs.declared.net.Flat.{Flat}
use Rattle.chw_terms.specs.TermTree.{Group, TermTree}
use Rattle.chw_meaning.specs.Values.{History, Thunk, Thunks, none}
use Rattle.net_flat.specs.Flattened.{IsFlatOf}
use Rattle.netlist.specs.Orders.{IsOrder}
use Rattle.chw_terms.specs.declared.scene.Made.{Made}
use Rattle.netlist.specs.Sound.{Sound}
use Rattle.chw_types.specs.TypeTree.{TypeTree}
use Rattle.net_built.specs.Terms.{Variable}
use Rattle.net_rules.specs.WellFormed.{WellFormed}
use Rattle.carrying.specs.TermLaws.{onto, under_lambdas}

-- the second history is the first one, or ended earlier
abbrev pub IsPast : History → History → Type 0
IsPast last h = (later : History) × (last ≡ later ++ h)

-- the inputs of the top, which are all its parameters, have bits at this history of the net's ports
-- and at each earlier one
abbrev pub InputsHaveBits : Design → List Thunk → History → Type 0
InputsHaveBits d inputs last =
    (h : History) (it : Made) (params : List TypeTree) (e : TermTree) (scope : List Variable)
    → IsPast last h → FitsPorts d.net.ports h → slice_get d.state zero ≡ Some it
    → it.body ≡ under_lambdas params e → NoLambda e
    → Parameters d.program.datas it.sort zero params [] scope
    → HaveBits d it.sort [] h scope (onto inputs none)

-- then, where the net is well formed and its flat net is sound and has an order, all variables of
-- all blocks have them, at this history and at each earlier one
abbrev pub AllHaveBits : Type 0
AllHaveBits =
    (d : Design) (flat : Flat) (places : List ℕ) (inputs : List Thunk) (path : List ℕ)
    (last h : History) (b : Block) (g : Group) (scope : List Variable) (γ : Thunks)
    → WellFormed d.net → IsFlatOf d.net flat → Sound flat → IsOrder flat places
    → InputsHaveBits d inputs last → IsPast last h → FitsPorts d.net.ports h
    → BlockAt d inputs path h b → Inside d path b g scope γ
    → HaveBits d b.sort path h scope γ

-- a circuit's block that stands at a history stands at each
abbrev pub CircuitsStay : Type 0
CircuitsStay =
    (d : Design) (inputs : List Thunk) (path : List ℕ) (h other : History) (b : Block)
    → BlockAt d inputs path h b → b.sort ≡ Circuit → BlockAt d inputs path other b
