-- Definitions act as themselves, and so does every typed term.
use Rattle.std.specs.Prelude.{slice_get}
use Rattle.std.proofs.Common.{◌≡◌, ◌⊎◌, inl, inr, ℕ, suc, zero, List, [], ◌∷◌, reverse, Some, refl, sym, ap, ◌∙◌, subst}
use Rattle.chw_types.specs.declared.kind.Kind.{Kind}
use Rattle.chw_types.specs.TypeTree.{TypeTree, ty_var, TypeTrees, no_types, type_and}
use Rattle.chw_types.specs.TypeMoves.{Renaming, Substitution, sub, up_by, put_at}
use Rattle.chw_types.proofs.SameLaws.{same_turned}
use Rattle.chw_terms.specs.declared.program.Def.{Def}
use Rattle.chw_terms.specs.declared.program.Program.{Program}
use Rattle.chw_terms.specs.Evaluated.{evaluated, put_type_in}
use Rattle.chw_terms.specs.TermMoves.{rename, rename_group, up_by as up_terms_by}
use Rattle.chw_terms.specs.TermTree.{TermTree, var, global, made, lam, app, ty_lam, ty_app, letrec, con, prim, lit, vec_lit, case_of, Terms, no_terms, term_and, Group, no_bindings, bind, Alts, no_alts, alt, size_of}
use Rattle.chw_terms.proofs.Renamed.{rename_ids, rename_ids_group, types_ids_group, lift_by_none}
use Rattle.chw_typing.specs.Scopes.{HasKind, IsTermType, AreTermTypes, with_more, declared}
use Rattle.chw_typing.specs.Programs.{AreClosed, IsSound, IsTyped, setting_of}
use Rattle.chw_typing.specs.Typing.{HasType, HasTypeUpTo, AreBound}
use Rattle.chw_typing.proofs.EvaluatedTypes.{kind_evaluated}
use Rattle.chw_typing.proofs.Kinded.{term_type, type_kinded}
use Rattle.chw_typing.proofs.Lists.{found_in_map}
use Rattle.chw_terms.proofs.TypesEvaluated.{evaluated_twice}
use Rattle.chw_meaning.specs.Values.{Thunks, none, closed_type, in_group}
use Rattle.chw_meaning.specs.Eval.{Evals, e_global}
use Rattle.chw_meaning.proofs.Once.{same_some}
use Rattle.acts.specs.Levels.{Levels, term_runs, term_has}
use Rattle.acts.specs.Acts.{acts_from}
use Rattle.rewriting.specs.Origins.{with_origins, with_origins_all, with_origins_group, with_origins_alts}
use Rattle.acts.specs.Terms.{TiedBy, Kinded, ActsAs, setting_with, LooksAlike}
use Rattle.acts.proofs.Filled.{filled, filled_renamed, filled_evaluated, variables_by, KeepsValues, Carries, itself_keeps, evaluated_keeps, filled_group, filled_retyped_group, up_by_variables}
use Rattle.acts.proofs.Closing.{closed_kind, closed_stays}
use Rattle.acts.proofs.Forms.{TermsAct}
use Rattle.acts.proofs.HeadsAct.{heads_act}
use Rattle.acts.proofs.Levels.{at_end, IsLevels, from_turns, more}
use Rattle.acts.proofs.Names.{Relation, Lasts, named_by, Named, Variables}
use Rattle.acts.proofs.SameActs.{as_same, same_acts}
use Rattle.acts.proofs.Typed.{GlobalsAct, MadeAct, sound_without, typed_acts, group_ties}

mutual
  unfolding with_origins

  -- made definitions for themselves
  pub origins_itself : (e : TermTree) → with_origins made e ≡ e
  origins_itself (var x) = refl
  origins_itself (global d) = refl
  origins_itself (made m) = refl
  origins_itself (lam t e) = ap (lam t) (origins_itself e)
  origins_itself (app f a) = λ i. app (origins_itself f i) (origins_itself a i)
  origins_itself (ty_lam k e) = ap (ty_lam k) (origins_itself e)
  origins_itself (ty_app f t) = ap (λ f. ty_app f t) (origins_itself f)
  origins_itself (letrec g e) = λ i. letrec (origins_itself_group g i) (origins_itself e i)
  origins_itself (con c) = refl
  origins_itself (prim q) = refl
  origins_itself (lit s b) = refl
  origins_itself (vec_lit t es) = ap (vec_lit t) (origins_itself_all es)
  origins_itself (case_of e alts) = λ i. case_of (origins_itself e i) (origins_itself_alts alts i)

  origins_itself_all : (es : Terms) → with_origins_all made es ≡ es
  origins_itself_all no_terms = refl
  origins_itself_all (term_and e es) = λ i. term_and (origins_itself e i) (origins_itself_all es i)

  origins_itself_group : (g : Group) → with_origins_group made g ≡ g
  origins_itself_group no_bindings = refl
  origins_itself_group (bind t e g) = λ i. bind t (origins_itself e i) (origins_itself_group g i)

  origins_itself_alts : (alts : Alts) → with_origins_alts made alts ≡ alts
  origins_itself_alts no_alts = refl
  origins_itself_alts (alt q e more) = λ i. alt q (origins_itself e i) (origins_itself_alts more i)

-- a term as it is
filled_itself : (e : TermTree) → filled made (λ t. t) e (variables_by (λ x. x)) ty_var ≡ e
filled_itself e = filled_renamed made e (λ x. x) ∙ origins_itself (rename e (λ x. x)) ∙ rename_ids e

-- any two environments of types
abbrev pub Any : TypeTrees → TypeTrees → Type 0
Any δ' δ = Unit {0}

pub none_made : (p : Program) (o' o : ℕ → TermTree) → MadeAct p [] o' o Any
none_made p o' o n m u γ' γ δ' δ e = cc

none_carries : (τ : Substitution) (δ δ0 : TypeTrees) → Carries [] τ δ δ0
none_carries τ δ δ0 x k e = cc

pub no_names : (p : Program) (r : Levels) (ρ' ρ : Renaming) (δ : TypeTrees) (γ' γ : Thunks) → TiedBy p r [] ρ' ρ δ γ' γ
no_names p r ρ' ρ δ γ' γ x t e = cc

-- no terms but variables
abbrev pub Unrelated : Relation
Unrelated r t e' e δ' δ γ' γ = ⊥

pub unrelated_lasts : (p : Program) → Lasts p Unrelated
unrelated_lasts p =
    record {
      later_too = λ r l i t e' e δ' δ γ' γ h. absurd h;
      under_variable = λ r t e' e δ' δ γ' γ x' x h. absurd h;
      under_type_variable = λ r t e' e δ' δ γ' γ c h. absurd h;
    }

-- a typed term of which the variables are renamed on both sides
pub variables_act : (p : Program) (types : List TypeTree) → IsSound (setting_with p types) → (o' o : ℕ → TermTree) (f' f : TypeTree → TypeTree) → KeepsValues f' → KeepsValues f → (R : TypeTrees → TypeTrees → Type 0) → ((c : TypeTree) (δ' δ : TypeTrees) → R δ' δ → R (type_and c δ') (type_and c δ)) → MadeAct p types o' o R → {kinds : List Kind} {vars : List TypeTree} {e : TermTree} {t : TypeTree} → HasType (setting_with p types) kinds vars e t → AreTermTypes (setting_with p types) kinds vars → (r : Levels) → IsLevels p r → (ρ' ρ : Renaming) (τ' τ : Substitution) (δ0 δ' δ : TypeTrees) (γ' γ : Thunks) → Kinded p kinds δ0 → Carries kinds τ' δ' δ0 → Carries kinds τ δ δ0 → R δ' δ → TiedBy p r vars ρ' ρ δ0 γ' γ → GlobalsAct p r → TermsAct p r (closed_type t δ0) (filled o' f' e (variables_by ρ') τ') γ' δ' (filled o f e (variables_by ρ) τ) γ δ
variables_act p types sound o' o f' f keeps' keeps R grows mades {vars = vars} d g r l ρ' ρ τ' τ δ0 δ' δ γ' γ known first second same names globals =
    typed_acts p types sound o' o f' f keeps' keeps R grows mades (heads_act p (sound_without p types sound)) Unrelated (unrelated_lasts p) (λ r l t e' e δ' δ γ' γ h. absurd h) d g r l (variables_by ρ') (variables_by ρ) τ' τ δ0 δ' δ γ' γ
    (record { known = known; first = first; second = second; types = same; names = named_by p Unrelated r vars ρ' ρ δ0 δ' δ γ' γ names; globals = globals })

-- a closed term, in any two environments
pub closed_acts : (p : Program) → IsSound (setting_of p) → {e : TermTree} {t : TypeTree} → HasType (setting_of p) [] [] e t → (r : Levels) → IsLevels p r → GlobalsAct p r → (γ' γ : Thunks) (δ' δ : TypeTrees) → TermsAct p r t e γ' δ' e γ δ
closed_acts p sound {e} {t} d r l globals γ' γ δ' δ =
    let acts = variables_act p [] sound made made (λ t. t) (λ t. t) itself_keeps itself_keeps Any (λ c δ' δ h. tt) (none_made p made made) d tt r l (λ x. x) (λ x. x) ty_var ty_var no_types δ' δ γ' γ tt (none_carries ty_var δ' no_types) (none_carries ty_var δ no_types) tt (no_names p r (λ x. x) (λ x. x) no_types γ' γ) globals in
    subst (λ t. TermsAct p r t e γ' δ' e γ δ) (closed_stays p no_types (type_kinded d sound tt).has)
    (subst (λ b. TermsAct p r (closed_type t no_types) b γ' δ' b γ δ) (filled_itself e) acts)

-- of a type up to naturals
pub up_to_acts : (p : Program) → IsSound (setting_of p) → {e : TermTree} {t : TypeTree} → HasTypeUpTo (setting_of p) [] [] e t → IsTermType (setting_of p) [] t → (r : Levels) → IsLevels p r → GlobalsAct p r → (γ' γ : Thunks) (δ' δ : TypeTrees) → TermsAct p r t e γ' δ' e γ δ
up_to_acts p sound {e} d k r l globals γ' γ δ' δ =
    same_acts sound l (as_same (type_kinded d.has sound tt).has k.has (same_turned d.same)) (term_runs p e γ' δ') (term_has p e γ δ) (closed_acts p sound d.has r l globals γ' γ δ' δ)

pub globals_from : (p : Program) → IsSound (setting_of p) → IsTyped p → (n : ℕ) → GlobalsAct p (acts_from p n)
unfolding acts_from
globals_from p sound typed zero d it γ' γ δ' δ i h' h m v al e = at_end p m it.ty v _
globals_from p sound typed (suc n) d it γ' γ δ' δ i h' h m v al (e_global {n = j} {it = other} found e) =
    let same : other ≡ it = same_some found i in
    let kind = typed.types d it.ty (found_in_map (λ (d : Def). d.ty) p.defs d it i) in
    let acts = up_to_acts p sound (typed.bodies d it i) kind (acts_from p n) (from_turns p n) (globals_from p sound typed n) none none no_types no_types in
    more (from_turns p n) j it.ty v (term_has p it.body none no_types h) (term_has p (global d) γ δ h) (λ w q. (suc q.0, e_global i q.1)) (acts h' h j v al (subst (λ (it : Def). Evals p j it.body none no_types h' v) same e))

pub sound_with : (p : Program) (types : List TypeTree) → IsSound (setting_of p) → AreClosed (setting_of p) types → IsSound (setting_with p types)
sound_with p types h closed =
    record {
      begins = h.begins;
      kinds = h.kinds;
      fields = λ d it t e f. let k = h.fields d it t e f in term_type (setting_with p types) (reverse it.params) t k.kind k.has k.of_terms;
      defs = λ x t e. let k = h.defs x t e in term_type (setting_with p types) [] t k.kind k.has k.of_terms;
      made = λ x t e. let k = closed x t e in term_type (setting_with p types) [] t k.kind k.has k.of_terms;
    }

pub evaluated_at : (p : Program) (kinds : List Kind) (δ : TypeTrees) → Kinded p kinds δ → Carries kinds ty_var δ δ
unfolding sub
evaluated_at p [] δ h x k e = cc
evaluated_at p (j ∷ kinds) no_types h x k e = absurd h
evaluated_at p (j ∷ kinds) (type_and c δ) h zero k e = h.1
evaluated_at p (j ∷ kinds) (type_and c δ) h (suc x) k e = evaluated_at p kinds δ h.2 x k e

put_carries : (p : Program) (kinds : List Kind) (δ : TypeTrees) (a : TypeTree) (j : Kind) → Kinded p kinds δ → Carries (j ∷ kinds) (put_at 0 a) δ (type_and (evaluated (closed_type a δ)) δ)
unfolding sub put_at up_by
put_carries p kinds δ a j h zero k e = refl
put_carries p kinds δ a j h (suc x) k e = evaluated_at p kinds δ h x k e

-- a typed term, renamed on both sides, with terms for the made definitions that act so
pub renamed_acts : (p : Program) → IsSound (setting_of p) → IsTyped p → (types : List TypeTree) (o' o : ℕ → TermTree) {kinds : List Kind} {vars : List TypeTree} {e : TermTree} {t : TypeTree} (ρ' ρ : Renaming) → AreClosed (setting_of p) types → AreTermTypes (setting_with p types) kinds vars → HasType (setting_with p types) kinds vars e t → ((m : ℕ) (u : TypeTree) → slice_get types m ≡ Some u → ActsAs p u (o' m) (o m)) → (n : ℕ) (δ : TypeTrees) (γ' γ : Thunks) → Kinded p kinds δ → TiedBy p (acts_from p n) vars ρ' ρ δ γ' γ → TermsAct p (acts_from p n) (closed_type t δ) (with_origins o' (rename e ρ')) γ' δ (with_origins o (rename e ρ)) γ δ
renamed_acts p sound typed types o' o {kinds} {vars} {e} {t} ρ' ρ closed g d acts n δ γ' γ known names =
    subst (λ a. TermsAct p (acts_from p n) (closed_type t δ) a γ' δ (with_origins o (rename e ρ)) γ δ) (filled_renamed o' e ρ')
    (subst (λ a. TermsAct p (acts_from p n) (closed_type t δ) (filled o' (λ t. t) e (variables_by ρ') ty_var) γ' δ a γ δ) (filled_renamed o e ρ)
    (variables_act p types (sound_with p types sound closed) o' o (λ t. t) (λ t. t) itself_keeps itself_keeps (λ δ' δ. δ' ≡ δ) (λ c δ' δ same. ap (type_and c) same) mades d g (acts_from p n) (from_turns p n) ρ' ρ ty_var ty_var δ δ δ γ' γ known (evaluated_at p kinds δ known) (evaluated_at p kinds δ known) refl names (globals_from p sound typed n)))
  where
    mades : MadeAct p types o' o (λ δ' δ. δ' ≡ δ)
    mades n m u γ' γ δ' δ i same =
        subst (λ ε. TermsAct p (acts_from p n) u (o' m) γ' ε (o m) γ δ) (sym same)
        (subst (λ t. TermsAct p (acts_from p n) t (o' m) γ' δ (o m) γ δ) (closed_stays p δ (closed m u i).has) (acts m u i n δ γ' γ tt (no_names p (acts_from p n) (λ x. x) (λ x. x) δ γ' γ)))

-- terms of these types for the made definitions, in any two environments
pub made_typed : (p : Program) → IsSound (setting_of p) → IsTyped p → (types : List TypeTree) (o : ℕ → TermTree) → AreClosed (setting_of p) types → ((m : ℕ) (u : TypeTree) → slice_get types m ≡ Some u → HasTypeUpTo (setting_of p) [] [] (o m) u) → MadeAct p types o o Any
made_typed p sound typed types o closed has n m u γ' γ δ' δ i any = up_to_acts p sound (has m u i) (closed m u i) (acts_from p n) (from_turns p n) (globals_from p sound typed n) γ' γ δ' δ

-- a type put into a typed term, and the type in the environment of the term
pub put_type_acts : (p : Program) → IsSound (setting_of p) → IsTyped p → (types : List TypeTree) (o : ℕ → TermTree) {kinds : List Kind} {vars : List TypeTree} {e : TermTree} {t a : TypeTree} {j : Kind} (ρ' ρ : Renaming) → AreClosed (setting_of p) types → AreTermTypes (setting_with p types) (j ∷ kinds) vars → HasType (setting_with p types) (j ∷ kinds) vars e t → HasKind (setting_of p) kinds a j → ((m : ℕ) (u : TypeTree) → slice_get types m ≡ Some u → HasTypeUpTo (setting_of p) [] [] (o m) u) → (n : ℕ) (δ : TypeTrees) (γ' γ : Thunks) → Kinded p kinds δ → TiedBy p (acts_from p n) vars ρ' ρ (type_and (evaluated (closed_type a δ)) δ) γ' γ → TermsAct p (acts_from p n) (closed_type t (type_and (evaluated (closed_type a δ)) δ)) (with_origins o (put_type_in (rename e ρ') a)) γ' δ (with_origins o (rename e ρ)) γ (type_and (evaluated (closed_type a δ)) δ)
put_type_acts p sound typed types o {kinds} {vars} {e} {t} {a} {j} ρ' ρ closed g d ka has n δ γ' γ known names =
    subst (λ x. TermsAct p (acts_from p n) (closed_type t (type_and c δ)) x γ' δ (with_origins o (rename e ρ)) γ (type_and c δ)) (filled_evaluated o e ρ' (put_at 0 a))
    (subst (λ x. TermsAct p (acts_from p n) (closed_type t (type_and c δ)) (filled o evaluated e (variables_by ρ') (put_at 0 a)) γ' δ x γ (type_and c δ)) (filled_renamed o e ρ)
    (variables_act p types (sound_with p types sound closed) o o evaluated (λ t. t) evaluated_keeps itself_keeps Any (λ c δ' δ h. tt) (made_typed p sound typed types o closed has) d g (acts_from p n) (from_turns p n) ρ' ρ (put_at 0 a) ty_var (type_and c δ) δ (type_and c δ) γ' γ inner put_filled (evaluated_at p (j ∷ kinds) (type_and c δ) inner) tt names (globals_from p sound typed n)))
  where
    c : TypeTree
    c = evaluated (closed_type a δ)

    inner : Kinded p (j ∷ kinds) (type_and c δ)
    inner = (kind_evaluated (closed_kind p δ known ka), evaluated_twice (closed_type a δ), known)

    put_filled : Carries (j ∷ kinds) (put_at 0 a) δ (type_and c δ)
    put_filled = put_carries p kinds δ a j known

-- variables that both sides keep
pub unnamed : (p : Program) (r : Levels) (vars : List TypeTree) (δ : TypeTrees) (γ' γ : Thunks) → Named p Unrelated r vars (variables_by (λ x. x)) (variables_by (λ x. x)) δ δ δ γ' γ → TiedBy p r vars (λ x. x) (λ x. x) δ γ' γ
unnamed p r vars δ γ' γ h x t e = look (h x t e)
  where
    look : Variables p r (closed_type t δ) (var x) (var x) γ' γ ⊎ ⊥ → LooksAlike p r (closed_type t δ) x x γ' γ
    look (inl v) =
        let first : v.first ≡ x = let i = v.is_first in cc in
        let second : v.second ≡ x = let i = v.is_second in cc in
        subst (λ y. LooksAlike p r (closed_type t δ) y x γ' γ) first (subst (λ y. LooksAlike p r (closed_type t δ) v.first y γ' γ) second v.look)
    look (inr bad) = absurd bad

-- two environments of the same variables stay so in a typed group
pub group_tied : (p : Program) → IsSound (setting_of p) → IsTyped p → (types : List TypeTree) (o : ℕ → TermTree) → AreClosed (setting_of p) types → ((m : ℕ) (u : TypeTree) → slice_get types m ≡ Some u → HasTypeUpTo (setting_of p) [] [] (o m) u) → {kinds : List Kind} (vars : List TypeTree) {k : Kind} {b : Group} → AreTermTypes (setting_with p types) kinds vars → AreBound (setting_with p types) kinds (with_more (declared b) vars) k b → (n : ℕ) (δ : TypeTrees) (γ' γ : Thunks) → Kinded p kinds δ → TiedBy p (acts_from p n) vars (λ x. x) (λ x. x) δ γ' γ → TiedBy p (acts_from p n) (with_more (declared b) vars) (λ x. x) (λ x. x) δ (in_group (with_origins_group o b) γ' δ) (in_group (with_origins_group o b) γ δ)
group_tied p sound typed types o closed has {kinds} vars {b = b} g bs n δ γ' γ known names =
    let r = acts_from p n in
    let σ = variables_by (λ x. x) in
    let h = group_ties p types (sound_with p types sound closed) o o (λ t. t) (λ t. t) itself_keeps itself_keeps Any (λ c δ' δ h. tt) (made_typed p sound typed types o closed has) (heads_act p sound) Unrelated (unrelated_lasts p) (λ r l t e' e δ' δ γ' γ h. absurd h) bs g r (from_turns p n) σ σ ty_var ty_var δ δ δ γ' γ
    (record { known = known; first = evaluated_at p kinds δ known; second = evaluated_at p kinds δ known; types = tt; names = named_by p Unrelated r vars (λ x. x) (λ x. x) δ δ δ γ' γ names; globals = globals_from p sound typed n }) in
    unnamed p r (with_more (declared b) vars) δ (in_group (with_origins_group o b) γ' δ) (in_group (with_origins_group o b) γ δ)
    (subst (λ c. Named p Unrelated r (with_more (declared b) vars) σ σ δ δ δ (in_group c γ' δ) (in_group c γ δ)) group
    (subst (λ υ. Named p Unrelated r (with_more (declared b) vars) υ υ δ δ δ (in_group (filled_group o (λ t. t) b υ ty_var) γ' δ) (in_group (filled_group o (λ t. t) b υ ty_var) γ δ)) stays h.names))
  where
    stays : up_terms_by (size_of b) (variables_by (λ x. x)) ≡ variables_by (λ x. x)
    stays = up_by_variables (size_of b) (λ x. x) ∙ ap variables_by (lift_by_none (size_of b))

    group : filled_group o (λ t. t) b (variables_by (λ x. x)) ty_var ≡ with_origins_group o b
    group = filled_retyped_group o b (λ x. x) (λ x. x) ∙ ap (with_origins_group o) (types_ids_group (rename_group b (λ x. x)) ∙ rename_ids_group b)
