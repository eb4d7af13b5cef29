-- In a normal state each made definition that is used is there, since bodies are typed.
use Rattle.std.proofs.Common.{◌≡◌, ℕ, ◌<◌, Bool, true, false, ◌||◌, List, length, map, refl, ◌∙◌, subst, eqb-true}
use Rattle.std.proofs.lemmas.List.{length-map}
use Rattle.std.proofs.lemmas.Option.{slice_get_within}
use Rattle.chw_types.specs.declared.kind.Kind.{Kind}
use Rattle.chw_types.specs.TypeTree.{TypeTree}
use Rattle.chw_terms.specs.declared.program.Program.{Program}
use Rattle.chw_terms.specs.declared.scene.Made.{Made}
use Rattle.chw_terms.specs.TermTree.{TermTree, Terms, Group, Alts}
use Rattle.chw_typing.specs.Scopes.{Setting}
use Rattle.chw_typing.specs.Typing.{HasType, h_var, h_global, h_made, h_lam, h_app, h_ty_lam, h_ty_app, h_letrec, h_con, h_prim, h_lit, h_vec, h_case, AreBound, none_bound, bound_and, AllHave, none_have, have_and, AllGive, none_give, give_and}
use Rattle.rewriting.specs.Origins.{MadeOf, made_of}
use Rattle.normal_forms.specs.Normal.{IsNormal}
use Rattle.normal_forms.specs.Uses.{names_made, any_names_made, group_names_made, alts_name_made, IsAcyclic}
use Rattle.normal_forms.proofs.Wholes.{whole_is_there}
use Rattle.normal_form.specs.UseOrders.{UsesAreThere, EachIsWhole}

-- what follows from either follows where one of the two holds
by_either : {X : Type 0} (a b : Bool) → (a ≡ true → X) → (b ≡ true → X) → (a || b) ≡ true → X
by_either true b f g h = f refl
by_either false b f g h = g h

mutual
  in_setting : {s : Setting} {kinds : List Kind} {vars : List TypeTree} {e : TermTree} {t : TypeTree} → HasType s kinds vars e t → (n : ℕ) → names_made e n ≡ true → n < length s.made
  in_setting (h_var is) n h = absurd cc
  in_setting (h_global is) n h = absurd cc
  in_setting {s} (h_made {m = m} {t = t} is) n h =
      let same : m ≡ n = eqb-true m n h in
      subst (λ k. k < length s.made) same (slice_get_within s.made m t is)
  in_setting (h_lam d k) n h = in_setting d n h
  in_setting (h_app {f = f} {e = e} d b same) n h = by_either (names_made f n) (names_made e n) (in_setting d n) (in_setting b n) h
  in_setting (h_ty_lam d) n h = in_setting d n h
  in_setting (h_ty_app d a same k) n h = in_setting d n h
  in_setting (h_letrec {g = g} {e = e} d k b) n h = by_either (group_names_made g n) (names_made e n) (in_setting_bound b n) (in_setting d n) h
  in_setting (h_con is) n h = absurd cc
  in_setting h_prim n h = absurd cc
  in_setting (h_lit l) n h = absurd cc
  in_setting (h_vec k d) n h = in_setting_all d n h
  in_setting (h_case {more = more} {e = e} {f = f} d l j p b k a o none) n h =
      by_either (names_made e n) (names_made f n || alts_name_made more n) (in_setting d n) (by_either (names_made f n) (alts_name_made more n) (in_setting b n) (in_setting_alts o n)) h

  in_setting_bound : {s : Setting} {kinds : List Kind} {vars : List TypeTree} {k : Kind} {g : Group} → AreBound s kinds vars k g → (n : ℕ) → group_names_made g n ≡ true → n < length s.made
  in_setting_bound none_bound n h = absurd cc
  in_setting_bound (bound_and {e = e} {g = g} j a d same more) n h = by_either (names_made e n) (group_names_made g n) (in_setting d n) (in_setting_bound more n) h

  in_setting_all : {s : Setting} {kinds : List Kind} {vars : List TypeTree} {t : TypeTree} {es : Terms} → AllHave s kinds vars t es → (n : ℕ) → any_names_made es n ≡ true → n < length s.made
  in_setting_all none_have n h = absurd cc
  in_setting_all (have_and {e = e} {es = es} d same more) n h = by_either (names_made e n) (any_names_made es n) (in_setting d n) (in_setting_all more n) h

  in_setting_alts : {s : Setting} {kinds : List Kind} {vars : List TypeTree} {u t : TypeTree} {alts : Alts} → AllGive s kinds vars u t alts → (n : ℕ) → alts_name_made alts n ≡ true → n < length s.made
  in_setting_alts none_give n h = absurd cc
  in_setting_alts (give_and {e = e} {more = more} p d same rest) n h = by_either (names_made e n) (alts_name_made more n) (in_setting d n) (in_setting_alts rest n) h

pub uses_are_there : (p : Program) (state : List Made) → IsNormal p state → UsesAreThere state
uses_are_there p state normal m n u =
    let body = normal.bodies m u.0 u.1 in
    let types : List TypeTree = map (λ (it : MadeOf). it.ty) (map made_of state) in
    let within : n < length types = in_setting body.typed.has n u.2 in
    let size : length types ≡ length state = length-map (map made_of state) (λ (it : MadeOf). it.ty) ∙ length-map state made_of in
    subst (λ k. n < k) size within

-- so each is a whole where none uses itself
pub each_is_whole : (p : Program) (state : List Made) → IsNormal p state → IsAcyclic state → EachIsWhole state
each_is_whole p state normal none m l = whole_is_there state m none (uses_are_there p state normal) l
