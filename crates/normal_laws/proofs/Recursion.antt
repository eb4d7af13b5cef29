-- No cycle of bindings blocks a body in normal form.
use Rattle.std.proofs.Common.{◌≡◌, ◌⊎◌, inl, inr, ℕ, zero, suc, List, [], ◌∷◌, Some, refl, sym, subst}
use Rattle.std.specs.List.{AllByRecursion}
use Rattle.chw_types.specs.declared.declarations.Data.{Data}
use Rattle.type_ports.specs.Ports.{IsPort}
use Rattle.chw_types.specs.TypeTree.{TypeTree}
use Rattle.chw_terms.specs.declared.scene.Mode.{Mode}
use Rattle.chw_terms.specs.declared.scene.Mode.TheVariants.{V, C, K}
use Rattle.chw_terms.specs.TermTree.{TermTree, Group, no_bindings, bind}
use Rattle.graph_order.specs.References.{Leads, step, step_and}
use Rattle.chw_typing.specs.Groups.{binding_at}
use Rattle.rewriting.specs.Named.{IsNamed}
use Rattle.rewriting.specs.Origins.{MadeOf, Origins}
use Rattle.rewriting.specs.Spots.{Spot}
use Rattle.normal_forms.specs.Blocked.{Block, recursion, LeadsThrough, IsUnnamedBinding, BlocksAt, by_recursion, by_payload, by_limit, IsBlocked, at_place, at_lambda}
use Rattle.normal_forms.specs.Circuits.{AreCircuitSides, circuit_side_and}
use Rattle.normal_forms.specs.Normal.{IsNormalBody}
use Rattle.normal_forms.specs.Values.{BindingRefers}
use Rattle.normal_laws.proofs.Places.{Stands, LetStands, of_values, of_circuits, let_stands, place_stands}

leads : (Step : ℕ → ℕ → Type 0) (a c : ℕ) (more : List ℕ) → LeadsThrough Step a more c → Leads Step a c
leads Step a c [] h = step h
leads Step a c (b ∷ more) h = step_and h.0 (leads Step b c more h.1)

-- each binding of a circuit is a port
pub port_of : {o : Origins} (g : Group) (i : ℕ) (b : TypeTree × TermTree) → AreCircuitSides o g → binding_at g i ≡ Some b → IsPort o.program.datas b.0
port_of no_bindings i b sides h = absurd cc
port_of {o} (bind t e g) zero b (circuit_side_and p s more) h = let is : (t, e) ≡ b = cc in subst (λ (c : TypeTree × TermTree). IsPort o.program.datas c.0) is p
port_of (bind t e g) (suc i) b (circuit_side_and p s more) h = port_of g i b more h

named_port : (datas : List Data) (m : Mode) (t : TypeTree) → m ≡ C → IsPort datas t → IsNamed datas m t
named_port datas m t q p = subst (λ n. IsNamed datas n t) (sym q) p

let_free : {o : Origins} {at : Spot} (g : Group) (e : TermTree) (i : ℕ) (more : List ℕ) → LetStands o at g e → LeadsThrough (BindingRefers g) i more i
    → ((at.mode ≡ V) ⊎ (at.mode ≡ K)) ⊎ AllByRecursion (IsUnnamedBinding o at g) (i ∷ more) → ⊥
let_free g e i more (of_values v sides none is) cycle w = none i (leads (BindingRefers g) i i more cycle)
let_free g e i more (of_circuits c sides is) cycle (inl (inl v)) = cc
let_free g e i more (of_circuits c sides is) cycle (inl (inr k)) = cc
let_free {o} {at} g e i more (of_circuits c sides is) cycle (inr unnamed) =
    let b = unnamed.0.0 in unnamed.0.2 (named_port o.program.datas at.mode b.0 c (port_of g i b sides unnamed.0.1))

free_at : {o : Origins} {at : Spot} {e : TermTree} {b : Block} (cycle : List ℕ) → BlocksAt o at e b → b ≡ recursion cycle → Stands o at e → ⊥
free_at cycle (by_recursion {g = g} {e = e} i more through w) q s = let_free g e i more (let_stands g e s refl) through w
free_at cycle (by_payload p args j h t n) q s = cc
free_at cycle (by_limit h first) q s = cc

pub no_recursion : (o : Origins) (it : MadeOf) (body : TermTree) (path cycle : List ℕ) {b : Block} → IsNormalBody o it body → IsBlocked o it body path b → b ≡ recursion cycle → ⊥
no_recursion o it body path cycle h (at_place {at = at} {e = e} place blocks) q = free_at cycle blocks q (place_stands o it body e path at h place)
no_recursion o it body path cycle h (at_lambda under less part passes) q = cc
