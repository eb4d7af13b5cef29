-- The state with which a program opens is typed.
use Rattle.std.proofs.Common.{◌≡◌, ◌∙◌, ap, sym, subst}
use Rattle.std.proofs.Common.{ℕ, zero, suc, List, [], ◌∷◌, length, map, Some}
use Rattle.std.specs.List.{slice_get}
use Rattle.chw_types.specs.TypeTree.{TypeTree}
use Rattle.chw_terms.specs.TermTree.{TermTree, global}
use Rattle.chw_terms.specs.Tidy.{IsTidy}
use Rattle.chw_terms.specs.Unrolled.{parameters}
use Rattle.chw_terms.specs.declared.program.Def.{Def}
use Rattle.chw_terms.specs.declared.program.Program.{Program}
use Rattle.chw_terms.specs.declared.scene.Made.{Made}
use Rattle.chw_terms.specs.declared.scene.Scene.{Scene}
use Rattle.chw_terms.specs.declared.scene.Sort.TheVariants.{Circuit}
use Rattle.chw_typing.proofs.Lists.{found_in_map}
use Rattle.chw_typing.specs.HeadTypes.{from_each}
use Rattle.chw_typing.specs.Programs.{IsTyped, LeadsToPort}
use Rattle.chw_typing.specs.Scopes.{HasKind, Setting}
use Rattle.chw_typing.specs.Typing.{HasType, HasTypeUpTo, h_global}
use Rattle.chw_typing.proofs.MoreMade.{typed_with_made}
use Rattle.rewriting.specs.Named.{HasLeadingLambdas}
use Rattle.rewriting.specs.Origins.{HoldsNoMade, MadeOf, Origins, eta_expanded, made_of, on_variables}
use Rattle.rewriting.specs.Origins.{origin_at, origin_of, setting_at, under_each}
use Rattle.rewriting.specs.Typed.{IsTypedMade, IsTypedScene}
use Rattle.rewriting.specs.Runs.{IsOpening, first_body, opened, top_of}
use Rattle.rewriting.specs.Steps.{origins_in}
use Rattle.rule_types.proofs.Made.{made_typed}
use Rattle.rule_types.proofs.Signals.{eta_typed}
use Rattle.rule_types.proofs.SignalsComplete.{eta_complete}
use Rattle.rule_types.specs.States.{IsTypedState, StatesHaveTypedOrigins}
use Rattle.opening.proofs.Expanded.{lambdas_lead, name_expanded, name_holds_none}
use Rattle.opening.proofs.Ports.{IsOfFunctions, ports_are_named, ports_are_of_functions}

-- the program alone, and what its terms are typed over
abbrev alone : Program → Origins
alone p = origins_in p []

abbrev setting : Program → Setting
setting p = setting_at (alone p)

-- a program is a typed state with no made definitions
nothing_made : (p : Program) → IsTidy p → IsTyped p → IsTypedState p []
nothing_made p tidy typed = record { tidy = tidy; typed = typed; each = λ m it e. absurd cc }

-- the number of the top's definition, and its name on its parameters
abbrev top : Program → ℕ
top p = p.top.«def».number

abbrev expanded : ℕ → TypeTree → TermTree
expanded d t = eta_expanded (parameters t) (global d)

expanded_typed : (p : Program) (d : ℕ) (it : Def)
    → IsTyped p → slice_get p.defs d ≡ Some it → IsOfFunctions it.ty
    → HasType (setting p) [] [] (expanded d it.ty) it.ty
expanded_typed p d it typed at of =
    let whole = from_each (parameters it.ty) of.result in
    let found = found_in_map (λ (d : Def). d.ty) p.defs d it at in
    let closed = typed.types d it.ty found in
    let kind : HasKind (setting p) [] whole closed.kind =
    subst (λ t. HasKind (setting p) [] t closed.kind) of.is closed.has in
    let name : HasType (setting p) [] [] (global d) whole = h_global (found ∙ ap Some of.is) in
    subst (HasType (setting p) [] [] (expanded d it.ty)) (sym of.is)
    (eta_typed (parameters it.ty) of.result (global d) closed.kind kind name)

expanded_leads : (d : ℕ) (t : TypeTree) → IsOfFunctions t → HasLeadingLambdas (expanded d t) t
expanded_leads d t of =
    let params = parameters t in
    let inner = on_variables (global d) 0 (length params) in
    let under = lambdas_lead params of.result inner [] of.asks_none in
    subst (λ e. HasLeadingLambdas e t) (name_expanded t d)
    (subst (HasLeadingLambdas (under_each params inner)) (sym of.is)
    (record { path = _; vars = _; body = _; under = under }))

abbrev of_origin : Def → TermTree → MadeOf
of_origin it e = record { origin = e; ty = it.ty; sort = Circuit }

-- the call of the top is typed over the program alone
top_typed : StatesHaveTypedOrigins → (p : Program) (it : Def)
    → IsTidy p → IsTyped p → slice_get p.defs (top p) ≡ Some it
    → IsTypedMade (alone p) (top_of (top p) it) (opened p (top_of (top p) it)).body
top_typed law p it tidy typed at =
    let o = alone p in
    let name = expanded (top p) it.ty in
    let first : slice_get p.defs (top p) ≡ Some typed.top.0 = typed.top.1 in
    let same : typed.top.0 ≡ it = cc in
    let inputs = length p.top.inputs in
    let outputs = length p.top.outputs in
    let leads =
    subst (λ (it : Def). LeadsToPort p.datas it.ty inputs outputs) same typed.top.2 in
    let of = ports_are_of_functions leads in
    let none = subst HoldsNoMade (name_expanded it.ty (top p)) (name_holds_none it.ty (top p)) in
    let put : origin_of o name ≡ name = none (origin_at o) in
    let leading = expanded_leads (top p) it.ty of in
    subst (λ e. IsTypedMade o (of_origin it e) (first_body p e)) put
    (made_typed o (law p [] (nothing_made p tidy typed)) (λ m x e. absurd cc) name it.ty Circuit
    (expanded_typed p (top p) it typed at of)
    (eta_complete p.datas (parameters it.ty) (global (top p)) tt)
    (subst (λ e. HasLeadingLambdas e it.ty) (sym put) leading) (ports_are_named leads))

-- and with made definitions too
type_beside : (p : Program) (made : List Made) (e : TermTree) (t : TypeTree)
    → HasTypeUpTo (setting p) [] [] e t
    → HasTypeUpTo (setting_at (origins_in p made)) [] [] e t
type_beside p made e t d =
    let types = map (λ (m : MadeOf). m.ty) (map made_of made) in
    record { type = d.type; has = typed_with_made d.has types; same = d.same }

made_beside : (p : Program) (made : List Made) (it : MadeOf) (body : TermTree)
    → IsTypedMade (alone p) it body → IsTypedMade (origins_in p made) it body
made_beside p made it body h =
    let closed = h.closed in
    record {
      closed = record { kind = closed.kind; has = closed.has; of_terms = closed.of_terms };
      named = h.named;
      origin_typed = type_beside p made it.origin it.ty h.origin_typed;
      body_typed = type_beside p made body it.ty h.body_typed;
      origin_complete = h.origin_complete;
      body_complete = h.body_complete;
      no_made = h.no_made;
      origin_leads = h.origin_leads;
      body_leads = h.body_leads;
    }

one_made : (p : Program) (only : Made) → IsTypedMade (alone p) (made_of only) only.body
    → (m : ℕ) (it : Made) → slice_get (only ∷ []) m ≡ Some it
    → IsTypedMade (origins_in p (only ∷ [])) (made_of it) it.body
one_made p only h zero it e =
    let same : only ≡ it = cc in
    let made = only ∷ [] in
    subst (λ (it : Made). IsTypedMade (origins_in p made) (made_of it) it.body) same
    (made_beside p made (made_of only) only.body h)
one_made p only h (suc m) it e = absurd cc

pub opening_typed : StatesHaveTypedOrigins → (p : Program) (made : List Made)
    → IsTidy p → IsTyped p → IsOpening p made → IsTypedState p made
opening_typed law p made tidy typed opens =
    let it = opens.0 in
    let each =
    one_made p (opened p (top_of (top p) it)) (top_typed law p it tidy typed opens.1) in
    subst (IsTypedState p) (sym opens.2) (record { tidy = tidy; typed = typed; each = each })

pub scene_typed : StatesHaveTypedOrigins → (scene : Scene)
    → IsTidy scene.program.now → IsTyped scene.program.now
    → IsOpening scene.program.now scene.made.now → IsTypedScene scene
scene_typed law scene tidy typed opens =
    let state = opening_typed law scene.program.now scene.made.now tidy typed opens in
    record { tidy = state.tidy; typed = state.typed; made = state.each }
