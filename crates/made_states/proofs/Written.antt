-- What the rule that makes definitions writes keeps types.
use Rattle.std.proofs.Common.{◌≡◌, ℕ}
use Rattle.std.proofs.Common.{List, [], ◌∷◌, ◌++◌, map, Some}
use Rattle.std.specs.List.{slice_get}
use Rattle.chw_types.proofs.SameLaws.{same_through, same_turned}
use Rattle.chw_types.specs.SameTypes.{SameTypes}
use Rattle.chw_types.specs.TypeTree.{TypeTree}
use Rattle.chw_terms.specs.FreeVariables.{free_in}
use Rattle.chw_terms.specs.TermTree.{TermTree, app, made, var}
use Rattle.chw_terms.specs.TermView.{applied}
use Rattle.chw_terms.specs.declared.program.Program.{Program}
use Rattle.chw_terms.specs.declared.rule.Rule.TheVariants.{Spec}
use Rattle.chw_terms.specs.declared.scene.Made.{Made}
use Rattle.chw_terms.specs.declared.term.Arg.{Arg}
use Rattle.chw_terms.specs.declared.term.Arg.TheVariants.{OfTerm}
use Rattle.chw_typing.proofs.Lists.{found_in_map}
use Rattle.chw_typing.proofs.OneType.{one_type}
use Rattle.chw_typing.proofs.SameScopes.{are_same_self}
use Rattle.chw_typing.specs.HeadTypes.{from_each}
use Rattle.chw_typing.specs.Laws.{TypedIsSound}
use Rattle.chw_typing.specs.Programs.{IsComplete, IsSound}
use Rattle.chw_typing.specs.Scopes.{AreTermTypes, Setting}
use Rattle.chw_typing.specs.Typing.{HasType, HasTypeUpTo, h_made}
use Rattle.chw_typing.proofs.FoundTyped.{found_is_type}
use Rattle.chw_typing.proofs.TypedSpines.{head_changed}
use Rattle.rewriting.specs.SceneLaws.{NamedIsTermKind}
use Rattle.rewriting.specs.Origins.{MadeOf, made_of, origin_of, setting_at}
use Rattle.rewriting.specs.Spots.{Spot}
use Rattle.rewriting.proofs.Runs.{number_is_there}
use Rattle.rewriting.specs.Calls.{OfWhole, call_origin, spec_call}
use Rattle.rewriting.specs.Instances.{HasInstance, on_core, on_whole}
use Rattle.rewriting.specs.Numbers.{HasOrigin}
use Rattle.rewriting.specs.Runs.{After, of_call, of_lifted}
use Rattle.rewriting.specs.Shapes.{fmap_of}
use Rattle.rewriting.specs.Signals.{OfSignals, spec_function}
use Rattle.rewriting.specs.Steps.{origins_in}
use Rattle.rule_types.proofs.Applied.{applied_up_to, fmap_parts, fmap_up_to, name_up_to, up_to_as}
use Rattle.rule_types.proofs.Called.{lifted_typed}
use Rattle.rule_types.proofs.Calls.{call_typed}
use Rattle.rule_types.proofs.Complete.{spine_complete}
use Rattle.rule_types.proofs.NewState.{origins_hold_no_made}
use Rattle.rule_types.proofs.Numbers.{origin_same_type}
use Rattle.rule_types.proofs.States.{state_origins}
use Rattle.rule_types.specs.Laws.{AreTypedOrigins, IsTypedPlace, KeepsType}
use Rattle.rule_types.specs.States.{IsTypedState}
use Rattle.made_states.proofs.Made.{IsThere, origins_alike, there_named}
use Rattle.made_states.proofs.Names.{term_types_there}
use Rattle.made_states.proofs.Places.{typed_seen}

-- a function of these types, on variables of them
variables_given : {s : Setting} (vars : List TypeTree) (f : TermTree) (xs : List ℕ) (ts : List TypeTree) (t : TypeTree) → map (slice_get vars) xs ≡ map (λ u. Some u) ts → HasTypeUpTo s [] vars f (from_each ts t) → HasTypeUpTo s [] vars (applied f (map (λ x. OfTerm (var x)) xs)) t
variables_given vars f [] [] t e d = d
variables_given vars f [] (u ∷ ts) t e d = absurd cc
variables_given vars f (x ∷ xs) [] t e d = absurd cc
variables_given vars f (x ∷ xs) (u ∷ ts) t e d =
    let first : slice_get vars x ≡ Some u = cc in
    let rest : map (slice_get vars) xs ≡ map (λ u. Some u) ts = cc in
    variables_given vars (app f (var x)) xs ts t rest (applied_up_to d (name_up_to x first))

-- two types of one term
same_type : {s : Setting} {vars : List TypeTree} {e : TermTree} {t u : TypeTree} → IsSound s → AreTermTypes s [] vars → HasType s [] vars e t → HasType s [] vars e u → SameTypes t u
same_type {vars = vars} h g d c = one_type d c h g g (are_same_self vars)

-- the state in which a step is made, and the one with the made definitions that it adds
module _ (sound : TypedIsSound) (law : NamedIsTermKind) (p : Program) (xs more : List Made) (at : Spot) (typed : IsTypedState p xs) (later : IsTypedState p (xs ++ more)) (place : IsTypedPlace (origins_in p xs) at) where
  -- what terms are typed over before, and then
  abbrev setting_now : Setting
  setting_now = setting_at (origins_in p xs)

  abbrev setting_then : Setting
  setting_then = setting_at (origins_in p (xs ++ more))

  origins_now : AreTypedOrigins (origins_in p xs)
  origins_now = state_origins sound p xs typed

  origins_then : AreTypedOrigins (origins_in p (xs ++ more))
  origins_then = state_origins sound p (xs ++ more) later

  scope_then : AreTermTypes setting_then [] at.vars
  scope_then = term_types_there setting_now (map (λ (m : MadeOf). m.ty) (map made_of (xs ++ more))) [] at.vars place.vars

  type_then : {vars : List TypeTree} {e : TermTree} {t : TypeTree} → HasType setting_now [] vars e t → HasType setting_then [] vars e t
  type_then d = typed_seen p (map made_of xs) (map made_of (xs ++ more)) (IsThere xs) (origins_alike xs more) (there_named p xs d) d

  -- the name of the made definition with an origin of this type
  name_typed : (e : TermTree) (t : TypeTree) (m : ℕ) → HasTypeUpTo setting_now [] [] e t → HasOrigin (origins_in p (xs ++ more)) e m → HasTypeUpTo setting_then [] at.vars (made m) t
  name_typed e t m d h =
      record {
        type = h.0.ty;
        has = h_made (found_in_map (λ (m : MadeOf). m.ty) (map made_of (xs ++ more)) m h.0 h.1);
        same = origin_same_type (origins_in p (xs ++ more)) e t m origins_then (record { type = d.type; has = type_then d.has; same = d.same }) h;
      }

  -- a call
  call_keeps : {e new : TermTree} → OfWhole (origins_in p xs) at Spec e new → After p xs at e Spec (xs ++ more) → KeepsType (origins_in p (xs ++ more)) at e new
  call_keeps (spec_call {e = e} {ts = ts} {t = t} {m = m} lets call number) after u d =
      let there = number_is_there (of_call call) number after in
      let origin = call_typed law (origins_in p xs) at e ts t origins_now place call in
      let name = name_typed (call_origin (origins_in p xs) ts e) (from_each ts t) m origin there in
      let same = same_type origins_then.sound scope_then (type_then (found_is_type call.has)) d in
      up_to_as (variables_given at.vars (made m) (free_in e) ts t call.free name) same

  -- a lifted function
  lifted_keeps : {core core' : TermTree} (rest : List Arg) → IsComplete p.datas (applied core rest) → OfSignals (origins_in p xs) at Spec core core' → After p xs at (applied core rest) Spec (xs ++ more) → KeepsType (origins_in p (xs ++ more)) at core core'
  lifted_keeps rest complete (spec_function {d = d} {a = a} {b = b} {t = t} {r = r} {ts = ts} {g = g} {s = s} {m = m} circuit lifted many number) after u f =
      let o = origins_in p xs in
      let whole = from_each (t ∷ ts) r in
      let there = number_is_there (of_lifted d a b g s rest lifted many) number after in
      let parts = spine_complete p.datas (fmap_of d a b g s) rest complete in
      let becomes = lifted_typed o at origins_now (origins_hold_no_made p xs typed) g t ts r lifted many parts.0.0.1 in
      let name = name_typed (origin_of o g) whole m becomes.origin_typed there in
      let outer = fmap_parts origins_then.sound scope_then f in
      let same = same_type origins_then.sound scope_then (type_then (found_is_type lifted.has)) outer.function.has in
      let function = up_to_as name (same_through same (same_turned outer.function.same)) in
      up_to_as (fmap_up_to outer.in_domain outer.taken outer.given function outer.on) outer.gives

  pub instance_keeps : {e new : TermTree} → IsComplete p.datas e → HasInstance (origins_in p xs) at Spec e new → After p xs at e Spec (xs ++ more) → KeepsType (origins_in p (xs ++ more)) at e new
  instance_keeps complete (on_core core core' rest makes d) after t f =
      head_changed setting_then [] at.vars core core' rest t origins_then.sound scope_then (lifted_keeps rest complete makes after) f
  instance_keeps complete (on_whole whole d) after t f = call_keeps whole after t f
