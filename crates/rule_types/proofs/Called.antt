-- A lifted function, and a call, become typed made definitions.
use Rattle.std.proofs.Common.{◌∷◌, ◌≡◌, ◌≤◌, List, Some, [], arith, length, refl, subst, sym, ℕ}
use Rattle.std.specs.List.{AllByRecursion, slice_get}
use Rattle.chw_types.proofs.SameLaws.{same_self}
use Rattle.type_ports.specs.Ports.{Leaves, leaves_of_fields, one_leaf}
use Rattle.type_ports.specs.declared.ports.Leaf.{Leaf}
use Rattle.type_ports.specs.Representable.{Representable, representable_data, representable_scalar, representable_vector}
use Rattle.chw_types.specs.TypeTree.{TypeTree}
use Rattle.chw_types.specs.declared.declarations.Data.{Data}
use Rattle.chw_terms.specs.TermTree.{TermTree, lam}
use Rattle.chw_terms.specs.FreeVariables.{free_in}
use Rattle.chw_terms.specs.TermMoves.{rename}
use Rattle.chw_terms.specs.declared.scene.Mode.{Mode}
use Rattle.chw_terms.specs.declared.scene.Mode.TheVariants.{C, HC, HV, K, V}
use Rattle.chw_terms.specs.declared.scene.Sort.TheVariants.{Value}
use Rattle.chw_typing.specs.HeadTypes.{from_each}
use Rattle.chw_typing.specs.Programs.{IsComplete}
use Rattle.chw_typing.specs.Scopes.{Setting}
use Rattle.chw_typing.proofs.Lowered.{moved_typed}
use Rattle.chw_typing.specs.Given.{AsksForNone}
use Rattle.chw_typing.proofs.FoundTyped.{found_is_type}
use Rattle.chw_typing.specs.Finding.{Finds, f_lam}
use Rattle.rewriting.specs.SceneLaws.{NamedIsTermKind}
use Rattle.rewriting.specs.Named.{IsNamed, LeadsToNamed, UnderLambdas, from_named, mode_of, to_named, under_none, under_one}
use Rattle.rewriting.specs.Origins.{HoldsNoMade, MadeOf, Origins, origin_at, origin_of, setting_at, under_each, with_origins}
use Rattle.rewriting.specs.Typed.{IsTypedMade}
use Rattle.rewriting.specs.Spots.{HasLets, Spot}
use Rattle.rewriting.specs.Calls.{IsCall, call_origin, to_lambdas}
use Rattle.rewriting.specs.Runs.{first_body, sort_at}
use Rattle.rewriting.specs.Shapes.{leading_lambdas}
use Rattle.rewriting.specs.Signals.{IsLifted}
use Rattle.rule_types.proofs.Calls.{call_closed}
use Rattle.rule_types.proofs.Complete.{renamed_complete}
use Rattle.rule_types.proofs.Made.{made_typed}
use Rattle.rule_types.proofs.SignalsComplete.{under_each_complete}
use Rattle.rule_types.specs.Laws.{AreTypedOrigins, IsTypedPlace}

-- the place below the leading lambdas, in a scope
record LeadsIn (vars : List TypeTree) (e : TermTree) (t : TypeTree) : Type 0 where
  path : List ℕ
  vars_there : List TypeTree
  body : TermTree
  under : UnderLambdas vars e t path vars_there body

value_asks_none : {datas : List Data} {t : TypeTree} → Representable datas t → AsksForNone t
value_asks_none representable_scalar = tt
value_asks_none (representable_vector r) = tt
value_asks_none (representable_data e l all) = tt

-- a found function that has a lambda for each parameter
lifted_leads : {s : Setting} (o : ℕ → TermTree) (args : List TypeTree) (r : TypeTree) (g : TermTree) (vars scope : List TypeTree) → AsksForNone r → Finds s [] vars g (from_each args r) → length args ≤ leading_lambdas g → LeadsIn scope (with_origins o g) (from_each args r)
unfolding with_origins
lifted_leads o [] r g vars scope none f l = record { path = []; vars_there = scope; body = with_origins o g; under = under_none none }
lifted_leads o (a ∷ args) r (lam _ e) vars scope none (f_lam f k) l =
    let rest = lifted_leads o args r e (a ∷ vars) (a ∷ scope) none f (omega (arith, l)) in
    record { path = 0 ∷ rest.path; vars_there = rest.vars_there; body = rest.body; under = under_one (same_self a) rest.under }
lifted_leads o (a ∷ args) r _ vars scope none f l = absurd (omega (arith, l))

leaves_ask_none : {datas : List Data} {t : TypeTree} {ls : List Leaf} → Leaves datas t ls → AsksForNone t
leaves_ask_none (one_leaf r) = tt
leaves_ask_none (leaves_of_fields e l one f all) = tt

named_asks_none : (datas : List Data) (mode : Mode) (t : TypeTree) → IsNamed datas mode t → AsksForNone t
named_asks_none datas V t n = value_asks_none n
named_asks_none datas HV t n = value_asks_none n
named_asks_none datas C t n = leaves_ask_none n.1
named_asks_none datas HC t n = leaves_ask_none n.1
named_asks_none datas K t n = absurd n

named_lead : (datas : List Data) (mode : Mode) (args : List TypeTree) (r : TypeTree) → AllByRecursion (IsNamed datas mode) args → IsNamed datas mode r → LeadsToNamed datas mode (from_each args r)
named_lead datas mode [] r h n = to_named n
named_lead datas mode (a ∷ args) r h n = from_named h.0 (named_lead datas mode args r h.1 n)

-- what stands under a lambda for each parameter
under_each_leads : (o : ℕ → TermTree) (args : List TypeTree) (r : TypeTree) (e : TermTree) (scope : List TypeTree) → AsksForNone r → LeadsIn scope (with_origins o (under_each args e)) (from_each args r)
unfolding with_origins
under_each_leads o [] r e scope none = record { path = []; vars_there = scope; body = with_origins o e; under = under_none none }
under_each_leads o (a ∷ args) r e scope none =
    let rest = under_each_leads o args r e (a ∷ scope) none in
    record { path = 0 ∷ rest.path; vars_there = rest.vars_there; body = rest.body; under = under_one (same_self a) rest.under }

-- a made definition gives what its place asks for
mode_there : (mode : Mode) → HasLets mode → mode_of (sort_at mode) ≡ mode
mode_there V l = refl
mode_there C l = refl
mode_there _ l = absurd l

pub call_made_typed : NamedIsTermKind → (o : Origins) (at : Spot) (e : TermTree) (ts : List TypeTree) (t : TypeTree) → AreTypedOrigins o → ((m : ℕ) (it : MadeOf) → slice_get o.made m ≡ Some it → HoldsNoMade it.origin) → IsTypedPlace o at → HasLets at.mode → IsCall o at e ts t → IsComplete o.program.datas e → IsTypedMade o (record { origin = call_origin o ts e; ty = from_each ts t; sort = sort_at at.mode }) (first_body o.program (call_origin o ts e))
call_made_typed law o at e ts t w none place lets call complete =
    let inner = rename e (to_lambdas (free_in e)) in
    let leads = under_each_leads (origin_at o) ts t inner [] (named_asks_none o.program.datas at.mode t call.named) in
    made_typed o w none (under_each ts inner) (from_each ts t) (sort_at at.mode) (call_closed law o at e ts t place call)
    (under_each_complete o.program.datas ts inner (renamed_complete o.program.datas e (to_lambdas (free_in e)) complete))
    (record { path = leads.path; vars = leads.vars_there; body = leads.body; under = leads.under })
    (subst (λ mode. LeadsToNamed o.program.datas mode (from_each ts t)) (sym (mode_there at.mode lets)) (named_lead o.program.datas at.mode ts t call.free_named call.named))

pub lifted_typed : (o : Origins) (at : Spot) → AreTypedOrigins o → ((m : ℕ) (it : MadeOf) → slice_get o.made m ≡ Some it → HoldsNoMade it.origin) → (g : TermTree) (t : TypeTree) (ts : List TypeTree) (r : TypeTree) → IsLifted o at g t ts r → length (t ∷ ts) ≤ leading_lambdas g → IsComplete o.program.datas g → IsTypedMade o (record { origin = origin_of o g; ty = from_each (t ∷ ts) r; sort = Value }) (first_body o.program (origin_of o g))
lifted_typed o at w none g t ts r lifted many complete =
    let whole = from_each (t ∷ ts) r in
    let leads = lifted_leads {s = setting_at o} (origin_at o) (t ∷ ts) r g at.vars [] (value_asks_none lifted.gives) lifted.has many in
    made_typed o w none g whole Value (moved_typed (setting_at o) [] at.vars [] g whole lifted.closed (found_is_type lifted.has)) complete
    (record { path = leads.path; vars = leads.vars_there; body = leads.body; under = leads.under })
    (named_lead o.program.datas V (t ∷ ts) r lifted.takes lifted.gives)
