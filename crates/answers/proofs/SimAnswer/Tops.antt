-- A program has one top, which has one list of leaves on each side, and its inputs have one list of types.
use Rattle.std.proofs.Common.{◌≡◌, ℕ, suc, List, ◌∷◌, refl, ap, subst}
use Rattle.chw_clock.specs.declared.event.Ports.{Ports}
use Rattle.chw_types.specs.TypeTree.{TypeTree}
use Rattle.chw_types.specs.declared.declarations.Data.{Data}
use Rattle.type_ports.specs.declared.ports.Leaf.{Leaf}
use Rattle.chw_terms.specs.declared.program.Def.{Def}
use Rattle.chw_terms.specs.declared.program.Program.{Program}
use Rattle.chw_meaning.specs.Means.{LeadsFrom, IsPortAt, port_here, port_later, port_past, IsTop}
use Rattle.chw_meaning.proofs.Once.{same_some}
use Rattle.chw_meaning.proofs.GivenOnce.{wide_and_empty}
use Rattle.net_build.proofs.LeavesOnce.{leads_once}
use Rattle.answers.specs.SimAnswer.Simulation.{HasInputs, TypesOf, no_type, type_of, no_type_of}

pub top_once : {p : Program} {it it' : Def} {ins outs ins' outs' : List Leaf} → IsTop p it ins outs → IsTop p it' ins' outs' → (ins ≡ ins') × (outs ≡ outs')
top_once {p} {ins' = ins'} {outs' = outs'} a b = leads_once a.leads (subst (λ (d : Def). LeadsFrom p.datas d.ty ins' outs') (same_some b.held a.held) b.leads)

-- a port is that of one leaf
pub port_at_once : {datas : List Data} {leaves : List Leaf} {i j k : ℕ} → IsPortAt datas leaves i k → IsPortAt datas leaves j k → i ≡ j
port_at_once (port_here w) (port_here v) = refl
port_at_once (port_here w) (port_past v b) = wide_and_empty v (_, w)
port_at_once (port_later w a) (port_later v b) = ap suc (port_at_once a b)
port_at_once (port_later w a) (port_past v b) = wide_and_empty v (_, w)
port_at_once (port_past w a) (port_here v) = wide_and_empty w (_, v)
port_at_once (port_past w a) (port_later v b) = wide_and_empty w (_, v)
port_at_once (port_past w a) (port_past v b) = ap suc (port_at_once a b)

types_once : {datas : List Data} {leaves : List Leaf} {a b : List TypeTree} → TypesOf datas leaves a → TypesOf datas leaves b → a ≡ b
types_once no_type no_type = refl
types_once (type_of {leaf = leaf} w as') (type_of v bs) = ap (λ ts. leaf.payload ∷ ts) (types_once as' bs)
types_once (type_of w as') (no_type_of v bs) = wide_and_empty v (_, w)
types_once (no_type_of w as') (type_of v bs) = wide_and_empty w (_, v)
types_once (no_type_of w as') (no_type_of v bs) = types_once as' bs

-- the values at the inputs of a program have one list of types
pub inputs_once : {p : Program} {ports others : Ports} {a b : List TypeTree} → HasInputs p ports a → HasInputs p others b → a ≡ b
inputs_once {p} {b = b} x y =
    types_once x.are_types (subst (λ ls. TypesOf p.datas ls b) ((top_once y.are_ports.top x.are_ports.top).0) y.are_types)
