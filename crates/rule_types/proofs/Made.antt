-- What a call, or a lifted function, becomes a made definition of.
use Rattle.std.proofs.Common.{◌∷◌, ◌≡◌, List, None, Option, Some, [], ap, map, refl, subst, sym, ℕ}
use Rattle.std.specs.List.{slice_get}
use Rattle.std.specs.Prelude.{option_map, unwrap_or}
use Rattle.chw_types.proofs.SameLaws.{same_through}
use Rattle.chw_types.specs.SameTypes.{SameTypes}
use Rattle.chw_types.specs.TypeTree.{TypeTree}
use Rattle.chw_types.specs.declared.declarations.Data.{Data}
use Rattle.chw_types.specs.declared.kind.Kind.{Kind}
use Rattle.chw_terms.specs.TermTree.{Alts, Group, TermTree, Terms, alt, app, bind, case_of, con, global, lam, letrec, lit, made, no_alts, no_bindings, no_terms, prim, term_and, ty_app, ty_lam, var, vec_lit}
use Rattle.chw_terms.specs.declared.program.Def.{Def}
use Rattle.chw_terms.specs.declared.program.Program.{Program}
use Rattle.chw_terms.specs.declared.scene.Sort.{Sort}
use Rattle.chw_typing.proofs.Kinded.{function_takes, type_kinded}
use Rattle.chw_typing.proofs.Lists.{found_before_map}
use Rattle.chw_typing.specs.Programs.{AllAreComplete, AltsAreComplete, GroupIsComplete, IsComplete}
use Rattle.chw_typing.specs.Scopes.{AreTermTypes, IsTermType, Setting}
use Rattle.chw_typing.specs.Typing.{AllGive, AllHave, AreBound, HasType, HasTypeUpTo, bound_and, give_and, h_app, h_case, h_con, h_global, h_lam, h_letrec, h_lit, h_made, h_prim, h_ty_app, h_ty_lam, h_var, h_vec, have_and, none_bound, none_give, none_have}
use Rattle.chw_typing.proofs.GroupParts.{covered_by}
use Rattle.chw_typing.specs.Groups.{patterns}
use Rattle.chw_typing.proofs.Plugged.{plugged}
use Rattle.chw_typing.specs.Around.{here, in_function, in_lam, in_ty_app}
use Rattle.chw_typing.proofs.Lowered.{closed_typed}
use Rattle.rewriting.proofs.PutMade.{made_put}
use Rattle.rewriting.specs.SceneLaws.{AreOfMade}
use Rattle.rewriting.specs.Named.{HasLeadingLambdas, LeadsToNamed, UnderLambdas, mode_of, under_none, under_one}
use Rattle.rewriting.specs.Origins.{HoldsNoMade, MadeOf, Origins, origin_at, origin_of, setting_at, with_origins, with_origins_all, with_origins_alts, with_origins_group}
use Rattle.rewriting.specs.Typed.{IsTypedMade}
use Rattle.rewriting.specs.Runs.{first_body, with_definition}
use Rattle.rule_types.proofs.Bodies.{up_to}
use Rattle.rule_types.specs.Laws.{AreTypedOrigins}

patterns_kept : (o : ℕ → TermTree) (alts : Alts) → patterns (with_origins_alts o alts) ≡ patterns alts
unfolding with_origins
patterns_kept o no_alts = refl
patterns_kept o (alt q e more) = ap (λ qs. q ∷ qs) (patterns_kept o more)

-- complete terms for made definitions keep a term complete
mutual
  unfolding with_origins

  pub put_complete : (datas : List Data) (o : ℕ → TermTree) → ((m : ℕ) → IsComplete datas (o m)) → (e : TermTree) → IsComplete datas e → IsComplete datas (with_origins o e)
  put_complete datas o k (var x) h = tt
  put_complete datas o k (global d) h = tt
  put_complete datas o k (made m) h = k m
  put_complete datas o k (lam t e) h = put_complete datas o k e h
  put_complete datas o k (app f a) h = (put_complete datas o k f h.0, put_complete datas o k a h.1)
  put_complete datas o k (ty_lam j e) h = put_complete datas o k e h
  put_complete datas o k (ty_app f t) h = put_complete datas o k f h
  put_complete datas o k (letrec g e) h = (put_group_complete datas o k g h.0, put_complete datas o k e h.1)
  put_complete datas o k (con c) h = tt
  put_complete datas o k (prim p) h = tt
  put_complete datas o k (lit s b) h = tt
  put_complete datas o k (vec_lit t es) h = put_all_complete datas o k es h
  put_complete datas o k (case_of e alts) h =
      (covered_by datas alts (with_origins_alts o alts) (sym (patterns_kept o alts)) h.0, put_complete datas o k e h.1, put_alts_complete datas o k alts h.2)

  put_all_complete : (datas : List Data) (o : ℕ → TermTree) → ((m : ℕ) → IsComplete datas (o m)) → (es : Terms) → AllAreComplete datas es → AllAreComplete datas (with_origins_all o es)
  put_all_complete datas o k no_terms h = tt
  put_all_complete datas o k (term_and e es) h = (put_complete datas o k e h.0, put_all_complete datas o k es h.1)

  put_group_complete : (datas : List Data) (o : ℕ → TermTree) → ((m : ℕ) → IsComplete datas (o m)) → (g : Group) → GroupIsComplete datas g → GroupIsComplete datas (with_origins_group o g)
  put_group_complete datas o k no_bindings h = tt
  put_group_complete datas o k (bind t e g) h = (put_complete datas o k e h.0, put_group_complete datas o k g h.1)

  put_alts_complete : (datas : List Data) (o : ℕ → TermTree) → ((m : ℕ) → IsComplete datas (o m)) → (alts : Alts) → AltsAreComplete datas alts → AltsAreComplete datas (with_origins_alts o alts)
  put_alts_complete datas o k no_alts h = tt
  put_alts_complete datas o k (alt q e more) h = (put_complete datas o k e h.0, put_alts_complete datas o k more h.1)

-- for each made definition of the setting the term holds none
abbrev HoldNone : Setting → (ℕ → TermTree) → Type 0
HoldNone s o = (m : ℕ) (u : TypeTree) → slice_get s.made m ≡ Some u → HoldsNoMade (o m)

mutual
  unfolding with_origins

  made_gone : {s : Setting} {kinds : List Kind} {vars : List TypeTree} {e : TermTree} {t : TypeTree} → HasType s kinds vars e t → (o : ℕ → TermTree) → HoldNone s o → HoldsNoMade (with_origins o e)
  made_gone (h_var e) o h r = refl
  made_gone (h_global e) o h r = refl
  made_gone (h_made {m = m} {t = t} e) o h r = h m t e r
  made_gone (h_lam {a = a} d l) o h r = ap (lam a) (made_gone d o h r)
  made_gone (h_app d e x) o h r = λ i. app (made_gone d o h r i) (made_gone e o h r i)
  made_gone (h_ty_lam {j = j} d) o h r = ap (ty_lam j) (made_gone d o h r)
  made_gone (h_ty_app {a = a} d l x m) o h r = ap (λ f. ty_app f a) (made_gone d o h r)
  made_gone (h_letrec d l bs) o h r = λ i. letrec (made_gone_group bs o h r i) (made_gone d o h r i)
  made_gone (h_con e) o h r = refl
  made_gone h_prim o h r = refl
  made_gone (h_lit l) o h r = refl
  made_gone (h_vec {t = t} k d) o h r = ap (vec_lit t) (made_gone_all d o h r)
  made_gone (h_case {q = q} d look l b e m a rest n) o h r = λ i. case_of (made_gone d o h r i) (alt q (made_gone e o h r i) (made_gone_alts rest o h r i))

  made_gone_group : {s : Setting} {kinds : List Kind} {vars : List TypeTree} {k : Kind} {g : Group} → AreBound s kinds vars k g → (o : ℕ → TermTree) → HoldNone s o → (r : ℕ → TermTree) → with_origins_group r (with_origins_group o g) ≡ with_origins_group o g
  made_gone_group none_bound o h r = refl
  made_gone_group (bound_and {t = t} l f d x b) o h r = λ i. bind t (made_gone d o h r i) (made_gone_group b o h r i)

  made_gone_all : {s : Setting} {kinds : List Kind} {vars : List TypeTree} {t : TypeTree} {es : Terms} → AllHave s kinds vars t es → (o : ℕ → TermTree) → HoldNone s o → (r : ℕ → TermTree) → with_origins_all r (with_origins_all o es) ≡ with_origins_all o es
  made_gone_all none_have o h r = refl
  made_gone_all (have_and d x ds) o h r = λ i. term_and (made_gone d o h r i) (made_gone_all ds o h r i)

  made_gone_alts : {s : Setting} {kinds : List Kind} {vars : List TypeTree} {u t : TypeTree} {alts : Alts} → AllGive s kinds vars u t alts → (o : ℕ → TermTree) → HoldNone s o → (r : ℕ → TermTree) → with_origins_alts r (with_origins_alts o alts) ≡ with_origins_alts o alts
  made_gone_alts none_give o h r = refl
  made_gone_alts (give_and {q = q} b d z ds) o h r = λ i. alt q (made_gone d o h r i) (made_gone_alts ds o h r i)

-- a spine with its head's definition, and what stands below lambdas
definition_typed : (o : Origins) → AreTypedOrigins o → (e : TermTree) (vars : List TypeTree) → AreTermTypes (setting_at o) [] vars → (t : TypeTree) → HasType (setting_at o) [] vars e t → HasTypeUpTo (setting_at o) [] vars (with_definition o.program e) t
definition_typed o w (app f a) vars g t d = plugged (in_function here) w.sound (with_definition o.program f) (λ u c. definition_typed o w f vars g u c) g t d
definition_typed o w (ty_app f a) vars g t d = plugged (in_ty_app here) w.sound (with_definition o.program f) (λ u c. definition_typed o w f vars g u c) g t d
definition_typed o w (global n) vars g t (h_global e) =
    let at = found_before_map (λ (d : Def). d.ty) o.program.defs n t e in
    let body = (w.bodies n at.0 at.1).0 in
    let is : with_definition o.program (global n) ≡ at.0.body = ap (λ x. unwrap_or (option_map (λ (it : Def). it.body) x) (global n)) at.1 in
    subst (λ f. HasTypeUpTo (setting_at o) [] vars f t) (sym is)
    (record { type = body.type; has = closed_typed (setting_at o) [] vars at.0.body body.type w.sound body.has; same = subst (λ u. SameTypes u body.type) at.2 body.same })
definition_typed o w _ vars g t d = up_to d

lambda_scope : {s : Setting} {vars : List TypeTree} {a t : TypeTree} {e : TermTree} → HasType s [] vars (lam a e) t → IsTermType s [] a
lambda_scope {s} {a = a} (h_lam {b = b} {k = k} d l) = function_takes s [] a b k l

first_typed : (o : Origins) → AreTypedOrigins o → (e : TermTree) (vars : List TypeTree) → AreTermTypes (setting_at o) [] vars → (t : TypeTree) → HasType (setting_at o) [] vars e t → HasTypeUpTo (setting_at o) [] vars (first_body o.program e) t
first_typed o w (lam a e) vars g t d = plugged (in_lam here) w.sound (first_body o.program e) (λ u c. first_typed o w e (a ∷ vars) (lambda_scope d, g) u c) g t d
first_typed o w e vars g t d = definition_typed o w e vars g t d

definition_complete : (o : Origins) → AreTypedOrigins o → (e : TermTree) → IsComplete o.program.datas e → IsComplete o.program.datas (with_definition o.program e)
definition_complete o w (app f a) h = (definition_complete o w f h.0, h.1)
definition_complete o w (ty_app f t) h = definition_complete o w f h
definition_complete o w (global n) h = by (slice_get o.program.defs n) refl
  where
    by : (it : Option Def) → slice_get o.program.defs n ≡ it → IsComplete o.program.datas (unwrap_or (option_map (λ (it : Def). it.body) it) (global n))
    by None is = tt
    by (Some it) is = (w.bodies n it is).1
definition_complete o w _ h = h

first_complete : (o : Origins) → AreTypedOrigins o → (e : TermTree) → IsComplete o.program.datas e → IsComplete o.program.datas (first_body o.program e)
first_complete o w (lam t e) h = first_complete o w e h
first_complete o w e h = definition_complete o w e h

first_leads : (p : Program) {vars vs : List TypeTree} {e x : TermTree} {t : TypeTree} {path : List ℕ} → UnderLambdas vars e t path vs x → UnderLambdas vars (first_body p e) t path vs (first_body p x)
first_leads p (under_none a) = under_none a
first_leads p (under_one s r) = under_one s (first_leads p r)

-- the origins of made definitions as terms for these
pub origins_put : (o : Origins) → AreTypedOrigins o → AreOfMade (setting_at o) (setting_at o) (origin_at o)
origins_put o w m u e =
    let at = found_before_map (λ (m : MadeOf). m.ty) o.made m u e in
    let is : origin_at o m ≡ at.0.origin = ap (λ x. unwrap_or (option_map (λ (it : MadeOf). it.origin) x) (made m)) at.1 in
    subst (λ f. HasTypeUpTo (setting_at o) [] [] f u) (sym is) (subst (HasTypeUpTo (setting_at o) [] [] at.0.origin) at.2 (w.origins m at.0 at.1).0)

pub origins_put_complete : (o : Origins) → AreTypedOrigins o → (m : ℕ) → IsComplete o.program.datas (origin_at o m)
origins_put_complete o w m = by (slice_get o.made m) refl
  where
    by : (it : Option MadeOf) → slice_get o.made m ≡ it → IsComplete o.program.datas (unwrap_or (option_map (λ (it : MadeOf). it.origin) it) (made m))
    by None is = tt
    by (Some it) is = (w.origins m it is).1

origins_hold_none : (o : Origins) → ((m : ℕ) (it : MadeOf) → slice_get o.made m ≡ Some it → HoldsNoMade it.origin) → HoldNone (setting_at o) (origin_at o)
origins_hold_none o h m u e =
    let at = found_before_map (λ (m : MadeOf). m.ty) o.made m u e in
    let is : origin_at o m ≡ at.0.origin = ap (λ x. unwrap_or (option_map (λ (it : MadeOf). it.origin) x) (made m)) at.1 in
    subst HoldsNoMade (sym is) (h m at.0 at.1)

-- a made definition of a closed term of named types, with a lambda for each parameter
pub made_typed : (o : Origins) → AreTypedOrigins o → ((m : ℕ) (it : MadeOf) → slice_get o.made m ≡ Some it → HoldsNoMade it.origin) → (e : TermTree) (t : TypeTree) (sort : Sort) → HasType (setting_at o) [] [] e t → IsComplete o.program.datas e → HasLeadingLambdas (origin_of o e) t → LeadsToNamed o.program.datas (mode_of sort) t → IsTypedMade o (record { origin = origin_of o e; ty = t; sort = sort }) (first_body o.program (origin_of o e))
made_typed o w none e t sort d complete leads named =
    let put = made_put d w.sound (map (λ (m : MadeOf). m.ty) o.made) w.sound (origin_at o) (origins_put o w) tt in
    let first = first_typed o w (origin_of o e) [] tt put.type put.has in
    let whole = put_complete o.program.datas (origin_at o) (origins_put_complete o w) e complete in
    record {
      closed = type_kinded d w.sound tt;
      named = named;
      origin_typed = put;
      body_typed = record { type = first.type; has = first.has; same = same_through put.same first.same };
      origin_complete = whole;
      body_complete = first_complete o w (origin_of o e) whole;
      no_made = made_gone d (origin_at o) (origins_hold_none o none);
      origin_leads = leads;
      body_leads = record { path = leads.path; vars = leads.vars; body = first_body o.program leads.body; under = first_leads o.program leads.under };
    }
