-- The first body of a made definition acts as its origin.
use Rattle.std.specs.Prelude.{slice_get, option_map, unwrap_or}
use Rattle.std.proofs.Common.{◌≡◌, ℕ, List, [], ◌∷◌, Option, Some, None, refl, sym, subst}
use Rattle.chw_types.proofs.SameLaws.{same_through, same_turned}
use Rattle.chw_types.specs.TypeTree.{TypeTree}
use Rattle.chw_terms.specs.declared.program.Def.{Def}
use Rattle.chw_terms.specs.declared.program.Program.{Program}
use Rattle.chw_terms.specs.declared.scene.Made.{Made}
use Rattle.chw_terms.specs.TermTree.{TermTree, global, lam, app, ty_app}
use Rattle.chw_typing.specs.Laws.{TypedIsSound}
use Rattle.chw_typing.specs.Programs.{setting_of}
use Rattle.chw_typing.specs.Scopes.{Setting, AreTermTypes, IsTermType}
use Rattle.chw_typing.specs.Typing.{HasType, HasTypeUpTo, h_lam}
use Rattle.chw_typing.proofs.Kinded.{function_takes, type_kinded}
use Rattle.chw_typing.specs.Around.{here, in_lam, in_function, in_ty_app}
use Rattle.rewriting.specs.SceneLaws.{NoMadeKeepsType}
use Rattle.rewriting.specs.Origins.{origin_at, origin_of, setting_at, with_origins}
use Rattle.rewriting.proofs.PutMade.{made_put}
use Rattle.rewriting.specs.Runs.{first_body, with_definition}
use Rattle.rewriting.specs.Steps.{origins_in}
use Rattle.rule_types.specs.States.{IsTypedState}
use Rattle.rule_types.proofs.States.{state_origins}
use Rattle.acts.specs.Acts.{acts_from}
use Rattle.acts.specs.Terms.{ActsAs, ActsUnder, setting_with}
use Rattle.acts.proofs.Levels.{from_turns}
use Rattle.act_rules.specs.RuleLaws.{HasOrigins}
use Rattle.act_rules.proofs.RuleMoves.{same_term_acts}
use Rattle.act_rules.specs.ContextLaws.{ActsAtTypes, PlugActs}
use Rattle.act_rules.specs.NameLaws.{UnfoldGlobalActs}
use Rattle.act_runs.specs.States.{TypedChain, typed_end, typed_and}
use Rattle.act_runs.proofs.States.{over_program, state_has_origins, declared_type, acts_at}

lambda_scope : {s : Setting} {vars : List TypeTree} {a t : TypeTree} {e : TermTree} → HasType s [] vars (lam a e) t → IsTermType s [] a
lambda_scope {s} {a = a} (h_lam {b = b} {k = k} d l) = function_takes s [] a b k l

module _ (law : TypedIsSound) (plug : PlugActs) (unfolds : UnfoldGlobalActs) (p : Program) (types : List TypeTree) (o : ℕ → TermTree) (h : HasOrigins p types o) where
  itself_acts : (e : TermTree) (vars : List TypeTree) → AreTermTypes (setting_with p types) [] vars → ActsAtTypes p types o [] vars e e
  itself_acts e vars g t d n δ γ' γ known names = same_term_acts p (law p h.tidy h.typed) h.typed types o h.closed h.have_types g d (acts_from p n) (from_turns p n) δ γ' γ known names

  definition_acts : (e : TermTree) (vars : List TypeTree) → AreTermTypes (setting_with p types) [] vars → ActsAtTypes p types o [] vars (with_definition p e) e
  definition_acts (app f a) vars g t d = plug p types o [] [] vars vars (app f a) (with_definition p f) f t (0 ∷ []) h.tidy h.typed h.closed h.have_types g d (in_function here) (definition_acts f vars g)
  definition_acts (ty_app f a) vars g t d = plug p types o [] [] vars vars (ty_app f a) (with_definition p f) f t (0 ∷ []) h.tidy h.typed h.closed h.have_types g d (in_ty_app here) (definition_acts f vars g)
  definition_acts (global n) vars g t d = by (slice_get p.defs n) refl
    where
      by : (it : Option Def) → slice_get p.defs n ≡ it → ActsUnder p [] vars (with_origins o (unwrap_or (option_map (λ (it : Def). it.body) it) (global n))) (with_origins o (global n)) t
      by None is = itself_acts (global n) vars g t d
      by (Some it) is = unfolds p n it is types o [] vars t h g d
  definition_acts e vars g t d = itself_acts e vars g t d

  first_acts : (e : TermTree) (vars : List TypeTree) → AreTermTypes (setting_with p types) [] vars → ActsAtTypes p types o [] vars (first_body p e) e
  first_acts (lam a e) vars g t d = plug p types o [] [] vars (a ∷ vars) (lam a e) (first_body p e) e t (0 ∷ []) h.tidy h.typed h.closed h.have_types g d (in_lam here) (first_acts e (a ∷ vars) (lambda_scope d, g))
  first_acts e vars g t d = definition_acts e vars g t d

-- a closed term of the state, with the origins of made definitions, is typed over the program alone
pub origins_typed : TypedIsSound → NoMadeKeepsType → (p : Program) (state : List Made) → IsTypedState p state → (e : TermTree) (t : TypeTree) → HasTypeUpTo (setting_at (origins_in p state)) [] [] e t → HasTypeUpTo (setting_of p) [] [] (origin_of (origins_in p state) e) t
origins_typed law alone p state h e t d =
    let origins = state_has_origins law alone p state h in
    let put = made_put d.has (state_origins law p state h).sound [] (law p h.tidy h.typed) (origin_at (origins_in p state)) origins.have_types tt in
    record { type = put.type; has = put.has; same = same_through d.same put.same }

pub first_chain : TypedIsSound → NoMadeKeepsType → PlugActs → UnfoldGlobalActs → (p : Program) (state : List Made) → IsTypedState p state → (m : ℕ) (it : Made) → slice_get state m ≡ Some it → it.body ≡ first_body p it.origin → TypedChain p it.ty (origin_of (origins_in p state) it.body) it.origin
first_chain law alone plug unfolds p state h m it is body =
    let o = origins_in p state in
    let origins = state_has_origins law alone p state h in
    let of = h.each m it is in
    let d = of.origin_typed in
    let bare : origin_of o it.origin ≡ it.origin = of.no_made (origin_at o) in
    let own = over_program o (type_kinded d.has (state_origins law p state h).sound tt) in
    let acts = acts_at p (law p h.tidy h.typed) own (declared_type law alone p state h m it is) (same_turned d.same) (origin_of o (first_body p it.origin)) (origin_of o it.origin)
    (first_acts law plug unfolds p (setting_at o).made (origin_at o) origins it.origin [] tt d.type d.has) in
    typed_and (origins_typed law alone p state h it.body it.ty of.body_typed)
    (subst (λ e. ActsAs p it.ty (origin_of o e) it.origin) (sym body) (subst (ActsAs p it.ty (origin_of o (first_body p it.origin))) bare acts))
    (typed_end (subst (λ e. HasTypeUpTo (setting_of p) [] [] e it.ty) bare (origins_typed law alone p state h it.origin it.ty d)))
