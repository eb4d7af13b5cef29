-- Typed terms act as themselves, as two sides carry them.
use Rattle.std.specs.Prelude.{slice_get}
use Rattle.std.proofs.Common.{◌≡◌, ◌⊎◌, inl, inr, ℕ, suc, zero, Bool, true, false, List, [], ◌∷◌, length, map, reverse, Some, refl, sym, ap, ◌∙◌, subst}
use Rattle.std.proofs.lemmas.Bool.{eqb-true}
use Rattle.std.proofs.lemmas.List.{length-reverse}
use Rattle.chw_types.specs.declared.kind.Kind.{Kind}
use Rattle.chw_types.specs.TypeTree.{TypeTree, nat_lit, scalar, data_of, TypeTrees, type_and}
use Rattle.chw_types.specs.TypeMoves.{Substitution as TypeSubstitution, up as up_type, sub}
use Rattle.chw_types.proofs.SameLaws.{same_turned}
use Rattle.chw_prims.specs.declared.prim.Primitive.{Primitive as Prim}
use Rattle.chw_prims.specs.Schemas.{schema_type}
use Rattle.chw_terms.specs.declared.program.Def.{Def}
use Rattle.chw_terms.specs.declared.program.Program.{Program}
use Rattle.chw_terms.specs.declared.term.Pattern.{Pattern}
use Rattle.chw_terms.specs.declared.term.Pattern.TheVariants.{OfCon, OfLit, Default}
use Rattle.chw_terms.specs.Constructors.{Constructor, con_at}
use Rattle.chw_terms.specs.Evaluated.{evaluated}
use Rattle.chw_terms.specs.TermMoves.{Substitution, up, up_by, under_type}
use Rattle.chw_terms.specs.TermTree.{TermTree, var, global, ty_app, con, prim, case_of, Terms, Group, Alts, no_alts, alt, binders, size_of}
use Rattle.chw_terms.proofs.TypesEvaluated.{evaluated_twice}
use Rattle.chw_typing.specs.Scopes.{HasKind, AreTermTypes, AreSame, under_binder, with_more, declared}
use Rattle.chw_typing.specs.HeadTypes.{con_type, IsLookedAt, PatternOf, of_con, of_lit, of_any}
use Rattle.chw_typing.specs.Programs.{IsSound, setting_of}
use Rattle.chw_typing.specs.Typing.{count, Binds, HasType, h_var, h_global, h_made, h_lam, h_app, h_ty_lam, h_ty_app, h_letrec, h_con, h_prim, h_lit, h_vec, h_case, AreBound, none_bound, bound_and, AllHave, none_have, have_and, AllGive, none_give, give_and}
use Rattle.chw_typing.proofs.EvaluatedTypes.{kind_evaluated}
use Rattle.chw_typing.proofs.Heads.{con_kind}
use Rattle.chw_typing.proofs.Kinded.{term_type, function_parts, function_takes, typed_under, typed_more, bound_typed, schema_kind, type_kinded}
use Rattle.chw_typing.proofs.Lists.{found_in_map, found_before_map}
use Rattle.chw_typing.proofs.Patterns.{binds, pattern_sums}
use Rattle.chw_meaning.specs.Values.{Value, Thunk, closed, Thunks, none, thunk_and, type_at, closed_type, joined, in_group, body_at, fields_from}
use Rattle.chw_meaning.specs.Eval.{is_only, by_fields, Arm, bound, arm_of}
use Rattle.acts.specs.Levels.{Levels, later, term_runs, term_has, ThunksAct}
use Rattle.acts.specs.Acts.{AllAct, act_step, acts_from}
use Rattle.rewriting.specs.Origins.{with_origins}
use Rattle.acts.specs.Terms.{Kinded, setting_with}
use Rattle.acts.proofs.Arms.{Seen, seen, matches_same, pattern_acts, only_acts}
use Rattle.acts.proofs.Filled.{filled, filled_all, filled_group, filled_alts, size_filled, size_declared, KeepsValues, Carries, carries_type, type_filled}
use Rattle.acts.proofs.Cases.{goes_on_acts, takes_acts, looks_acts, ArmActs, ArmOf, alt_acts}
use Rattle.acts.proofs.Closing.{closed_kind, closed_same, closed_stays, opens_as, put_closes}
use Rattle.acts.proofs.Widths.{width_itself}
use Rattle.acts.proofs.Forms.{TermsAct, var_acts, lit_acts, thunk_acts, app_acts, lam_acts, ty_lam_acts, ty_app_acts, MembersAct, SidesAct, members_act, letrec_acts, EachTermActs, vec_acts}
use Rattle.acts.proofs.Levels.{IsLevels, at_levels, at_later, runs_later}
use Rattle.acts.proofs.SameActs.{same_acts}
use Rattle.acts.proofs.Names.{Variables, Relation, Lasts, Named, named_later, named_and, named_type, named_joined, named_group}
use Rattle.acts.proofs.Tied.{fields_joined}

-- what is typed beside made definitions has the same kinds without them
pub sound_without : (p : Program) (types : List TypeTree) → IsSound (setting_with p types) → IsSound (setting_of p)
sound_without p types h =
    record {
      begins = h.begins;
      kinds = h.kinds;
      fields = λ d it t e f. let k = h.fields d it t e f in term_type (setting_of p) (reverse it.params) t k.kind k.has k.of_terms;
      defs = λ x t e. let k = h.defs x t e in term_type (setting_of p) [] t k.kind k.has k.of_terms;
      made = λ x t e. absurd (cc);
    }

pub typed_without : (p : Program) (types : List TypeTree) (kinds : List Kind) (ts : List TypeTree) → AreTermTypes (setting_with p types) kinds ts → AreTermTypes (setting_of p) kinds ts
typed_without p types kinds [] h = tt
typed_without p types kinds (t ∷ ts) h = (term_type (setting_of p) kinds t h.0.kind h.0.has h.0.of_terms, typed_without p types kinds ts h.1)

-- each definition acts as itself
abbrev pub GlobalsAct : Program → Levels → Type 0
GlobalsAct p r =
    (d : ℕ) (it : Def) (γ' γ : Thunks) (δ' δ : TypeTrees) → slice_get p.defs d ≡ Some it → TermsAct p r it.ty (global d) γ' δ' (global d) γ δ

-- each constructor and each primitive acts as itself
pub record HeadsAct (p : Program) : Type 0 where
  pub cons : (n : ℕ) (c : ℕ) (it : Constructor) (γ' γ : Thunks) (δ' δ : TypeTrees) → con_at p.datas c ≡ Some it → TermsAct p (acts_from p n) (con_type it) (con c) γ' δ' (con c) γ δ
  pub prims : (n : ℕ) (q : Prim) (γ' γ : Thunks) (δ' δ : TypeTrees) → TermsAct p (acts_from p n) (schema_type q) (prim q) γ' δ' (prim q) γ δ

-- the terms that stand for the made definitions of these types act so, in environments whose types are so related
abbrev pub MadeAct : Program → List TypeTree → (ℕ → TermTree) → (ℕ → TermTree) → (TypeTrees → TypeTrees → Type 0) → Type 0
MadeAct p types o' o R =
    (n m : ℕ) (u : TypeTree) (γ' γ : Thunks) (δ' δ : TypeTrees) → slice_get types m ≡ Some u → R δ' δ → TermsAct p (acts_from p n) u (o' m) γ' δ' (o m) γ δ

-- what is known of two environments in which a typed term stands, of what is put for its variables, and of the types for its type variables
pub record Tied
    (p : Program) (R : TypeTrees → TypeTrees → Type 0) (related : Relation) (kinds : List Kind) (vars : List TypeTree) (σ' σ : Substitution)
    (τ' τ : TypeSubstitution) (r : Levels) (δ0 δ' δ : TypeTrees) (γ' γ : Thunks) : Type 0
  where
    pub known : Kinded p kinds δ0
    pub first : Carries kinds τ' δ' δ0
    pub second : Carries kinds τ δ δ0
    pub types : R δ' δ
    pub names : Named p related r vars σ' σ δ0 δ' δ γ' γ
    pub globals : GlobalsAct p r

pub looked_closed : (u : TypeTree) (δ : TypeTrees) → IsLookedAt u → IsLookedAt (closed_type u δ)
unfolding sub
looked_closed (scalar x w) δ i = tt
looked_closed (data_of d ts) δ i = tt
looked_closed _ δ i = absurd i

-- a pattern that isn't of a constructor, and binds nothing
abbrev pub IsNoCon : Pattern → Type 0
IsNoCon (OfCon c n) = ⊥
IsNoCon (OfLit x b) = Unit {0}
IsNoCon Default = Unit {0}

-- a case of which the first alternatives have one pattern, and either both or neither has further ones
pub case_acts : {p : Program} {r : Levels} → IsLevels p r → (u t : TypeTree) (q : Pattern) (s' s e' e : TermTree) (more' more : Alts) (γ' γ : Thunks) (δ' δ : TypeTrees) → IsLookedAt u → (more' ≡ no_alts → more ≡ no_alts) → (more ≡ no_alts → more' ≡ no_alts) → TermsAct p r u s' γ' δ' s γ δ → ((c n : ℕ) → q ≡ OfCon (record { number = c }) n → is_only (con_at p.datas c) ≡ true → TermsAct p r t e' (fields_from zero n (closed s' γ' δ') γ') δ' e (fields_from zero n (closed s γ δ) γ) δ) → (IsNoCon q → TermsAct p r t e' γ' δ' e γ δ) → ((k : ℕ) (v : Value) (set : Value → Type 0) (a : Arm) → act_step p (later (suc k) r) u v set → arm_of v (alt q e' more') ≡ Some a → ArmActs p (later (suc k) r) t (alt q e more) γ' δ' γ δ set a) → TermsAct p r t (case_of s' (alt q e' more')) γ' δ' (case_of s (alt q e more)) γ δ
case_acts {p} {r} l u t (OfCon c n) s' s e' e more' more γ' γ δ' δ looked same back ss fields plain arms = split (is_only (con_at p.datas c.number)) refl
  where
    split : (b : Bool) → is_only (con_at p.datas c.number) ≡ b → TermsAct p r t (case_of s' (alt (OfCon c n) e' more')) γ' δ' (case_of s (alt (OfCon c n) e more)) γ δ
    split true only = takes_acts l t n s' s e' e (alt (OfCon c n) e' more') (alt (OfCon c n) e more) γ' γ δ' δ (ap (λ b. by_fields b n e') only) (ap (λ b. by_fields b n e) only) (fields c.number n refl only)
    split false several = looks_acts l u t s' s (alt (OfCon c n) e' more') (alt (OfCon c n) e more) γ' γ δ' δ looked (ap (λ b. by_fields b n e') several) (ap (λ b. by_fields b n e) several) ss arms
case_acts l u t (OfLit x []) s' s e' e more' more γ' γ δ' δ looked same back ss fields plain arms = goes_on_acts l t s' s e' e (alt (OfLit x []) e' more') (alt (OfLit x []) e more) γ' γ δ' δ refl refl (plain tt)
case_acts l u t (OfLit x (b ∷ bs)) s' s e' e more' more γ' γ δ' δ looked same back ss fields plain arms = looks_acts l u t s' s (alt (OfLit x (b ∷ bs)) e' more') (alt (OfLit x (b ∷ bs)) e more) γ' γ δ' δ looked refl refl ss arms
case_acts l u t Default s' s e' e no_alts no_alts γ' γ δ' δ looked same back ss fields plain arms = goes_on_acts l t s' s e' e (alt Default e' no_alts) (alt Default e no_alts) γ' γ δ' δ refl refl (plain tt)
case_acts l u t Default s' s e' e (alt q2 f' m') (alt q1 f m) γ' γ δ' δ looked same back ss fields plain arms = looks_acts l u t s' s (alt Default e' (alt q2 f' m')) (alt Default e (alt q1 f m)) γ' γ δ' δ looked refl refl ss arms
case_acts l u t Default s' s e' e no_alts (alt q1 f m) γ' γ δ' δ looked same back ss fields plain arms = let bad = same refl in cc
case_acts l u t Default s' s e' e (alt q2 f' m') no_alts γ' γ δ' δ looked same back ss fields plain arms = let bad = back refl in cc

nothing_bound : (p : Program) (related : Relation) (r : Levels) {u : TypeTree} {q : Pattern} {fields : List TypeTree} → PatternOf p.datas u q fields → IsNoCon q → (bnd vars : List TypeTree) → AreSame fields bnd → (σ' σ : Substitution) (δ0 δ' δ : TypeTrees) (γ' γ : Thunks) → Named p related r vars σ' σ δ0 δ' δ γ' γ → Named p related r (with_more bnd vars) (up_by (binders q) σ') (up_by (binders q) σ) δ0 δ' δ γ' γ
unfolding up_by
nothing_bound p related r (of_con it e o n) plain bnd vars x σ' σ δ0 δ' δ γ' γ h = absurd plain
nothing_bound p related r (of_lit i e) plain [] vars x σ' σ δ0 δ' δ γ' γ h = h
nothing_bound p related r (of_lit i e) plain (b ∷ bnd) vars x σ' σ δ0 δ' δ γ' γ h = absurd x
nothing_bound p related r of_any plain [] vars x σ' σ δ0 δ' δ γ' γ h = h
nothing_bound p related r of_any plain (b ∷ bnd) vars x σ' σ δ0 δ' δ γ' γ h = absurd x

-- what a case's only pattern binds, as fields
pub only_fields : {p : Program} {r : Levels} → IsLevels p r → IsSound (setting_of p) → (kinds : List Kind) (δ : TypeTrees) → Kinded p kinds δ → {u : TypeTree} {q : Pattern} {fields : List TypeTree} → PatternOf p.datas u q fields → (j : Kind) → HasKind (setting_of p) kinds u j → (bnd : List TypeTree) → AreSame fields bnd → AreTermTypes (setting_of p) kinds bnd → (x' x : Thunk) → ThunksAct p r (closed_type u δ) x' x → (c n : ℕ) → q ≡ OfCon (record { number = c }) n → is_only (con_at p.datas c) ≡ true → AllAct p r (map (λ t. closed_type t δ) (reverse bnd)) (fields_from zero n x' none) (fields_from zero n x none)
only_fields {p} {r} l sound kinds δ known (of_con {d = d} {n = m} {c = c1} {ts = ts} it e o i) j k bnd x typed x' y acts c n same only =
    let number : c1.number ≡ c = cc in
    let size : m ≡ n = cc in
    let one : length it.it.cons ≡ 1 = eqb-true (length it.it.cons) 1 (ap is_only (sym e) ∙ (ap (λ c. is_only (con_at p.datas c)) number ∙ only)) in
    let sums = pattern_sums {s = setting_of p} (of_con {c = c1} {ts = ts} it e o i) sound kinds j k in
    subst (λ n. AllAct p r (map (λ t. closed_type t δ) (reverse bnd)) (fields_from zero n x' none) (fields_from zero n y none)) size
    (only_acts l sound kinds δ known c1.number d m it ts j bnd e o one i k x sums typed x' y acts)
only_fields l sound kinds δ known (of_lit i e) j k bnd x typed x' y acts c n same only = cc
only_fields l sound kinds δ known of_any j k bnd x typed x' y acts c n same only = cc

-- the right sides of two groups at a place, in two environments
pub record SideOf (p : Program) (r : Levels) (i : ℕ) (t : TypeTree) (g' : Group) (γ' : Thunks) (δ' : TypeTrees) (g : Group) (γ : Thunks) (δ : TypeTrees) : Type 0 where
  pub first : TermTree
  pub second : TermTree
  pub has_first : body_at g' i ≡ Some first
  pub has_second : body_at g i ≡ Some second
  pub acts : TermsAct p r t first γ' δ' second γ δ

pub sides_of : {p : Program} {r : Levels} {i : ℕ} {t : TypeTree} {g' g : Group} {γ' γ : Thunks} {δ' δ : TypeTrees} → SideOf p r i t g' (in_group g' γ' δ') δ' g (in_group g γ δ) δ → SidesAct p r i t g' γ' δ' g γ δ
sides_of s = record { first = s.first; second = s.second; has_first = s.has_first; has_second = s.has_second; acts = s.acts }

pub no_alts_filled : (o : ℕ → TermTree) (f : TypeTree → TypeTree) (alts : Alts) (σ : Substitution) (τ : TypeSubstitution) → filled_alts o f alts σ τ ≡ no_alts → alts ≡ no_alts
unfolding filled
no_alts_filled o f no_alts σ τ e = refl
no_alts_filled o f (alt q t more) σ τ e = cc

module _ (p : Program) (made_types : List TypeTree) (sound : IsSound (setting_with p made_types)) (o' o : ℕ → TermTree) (f' f : TypeTree → TypeTree) (keeps' : KeepsValues f') (keeps : KeepsValues f) (R : TypeTrees → TypeTrees → Type 0) (grows : (c : TypeTree) (δ' δ : TypeTrees) → R δ' δ → R (type_and c δ') (type_and c δ)) (mades : MadeAct p made_types o' o R) (heads : HeadsAct p) (related : Relation) (lasts : Lasts p related) (relates : (r : Levels) → IsLevels p r → (t : TypeTree) (e' e : TermTree) (δ' δ : TypeTrees) (γ' γ : Thunks) → related r t e' e δ' δ γ' γ → TermsAct p r t (with_origins o' e') γ' δ' (with_origins o e) γ δ) where
  base : IsSound (setting_of p)
  base = sound_without p made_types sound

  -- the same with other names
  with_names : {kinds : List Kind} {vars : List TypeTree} {σ' σ : Substitution} {τ' τ : TypeSubstitution} {r : Levels} {δ0 δ' δ : TypeTrees} {γ' γ : Thunks} → IsLevels p r → (i : ℕ) → Tied p R related kinds vars σ' σ τ' τ r δ0 δ' δ γ' γ → (new : List TypeTree) (υ' υ : Substitution) (ε' ε : Thunks) → Named p related (later i r) new υ' υ δ0 δ' δ ε' ε → Tied p R related kinds new υ' υ τ' τ (later i r) δ0 δ' δ ε' ε
  with_names l i h new υ' υ ε' ε names =
      record { known = h.known; first = h.first; second = h.second; types = h.types; names = names; globals = λ d it γ' γ δ' δ e. runs_later l i it.ty (term_runs p (global d) γ' δ') (term_has p (global d) γ δ) (h.globals d it γ' γ δ' δ e) }

  -- the same with fewer turns
  pub tied_falls : {kinds : List Kind} {vars : List TypeTree} {σ' σ : Substitution} {τ' τ : TypeSubstitution} {r : Levels} {δ0 δ' δ : TypeTrees} {γ' γ : Thunks} → IsLevels p r → (i : ℕ) → Tied p R related kinds vars σ' σ τ' τ r δ0 δ' δ γ' γ → Tied p R related kinds vars σ' σ τ' τ (later i r) δ0 δ' δ γ' γ
  tied_falls {vars = vars} {σ' = σ'} {σ = σ} {r = r} {δ0 = δ0} {δ' = δ'} {δ = δ} {γ' = γ'} {γ = γ} l i h = with_names l i h vars σ' σ γ' γ (named_later p related lasts r l i vars σ' σ δ0 δ' δ γ' γ h.names)

  -- under a lambda
  under_lambda : {kinds : List Kind} {vars : List TypeTree} {σ' σ : Substitution} {τ' τ : TypeSubstitution} {r : Levels} {δ0 δ' δ : TypeTrees} {γ' γ : Thunks} → IsLevels p r → (i : ℕ) → Tied p R related kinds vars σ' σ τ' τ r δ0 δ' δ γ' γ → (a : TypeTree) (x' x : Thunk) → ThunksAct p (later i r) (closed_type a δ0) x' x → Tied p R related kinds (a ∷ vars) (up σ') (up σ) τ' τ (later i r) δ0 δ' δ (thunk_and x' γ') (thunk_and x γ)
  under_lambda {vars = vars} {σ' = σ'} {σ = σ} {r = r} {δ0 = δ0} {δ' = δ'} {δ = δ} {γ' = γ'} {γ = γ} l i h a x' x acts =
      with_names l i h (a ∷ vars) (up σ') (up σ) (thunk_and x' γ') (thunk_and x γ)
      (named_and p related lasts (later i r) a vars σ' σ δ0 δ' δ x' x γ' γ acts (named_later p related lasts r l i vars σ' σ δ0 δ' δ γ' γ h.names))

  -- under a type binder
  under_type_lambda : {kinds : List Kind} {vars : List TypeTree} {σ' σ : Substitution} {τ' τ : TypeSubstitution} {r : Levels} {δ0 δ' δ : TypeTrees} {γ' γ : Thunks} → IsLevels p r → (i : ℕ) → Tied p R related kinds vars σ' σ τ' τ r δ0 δ' δ γ' γ → (j : Kind) (c : TypeTree) → HasKind (setting_of p) [] c j → evaluated c ≡ c → Tied p R related (j ∷ kinds) (under_binder vars) (under_type σ') (under_type σ) (up_type τ') (up_type τ) (later i r) (type_and c δ0) (type_and c δ') (type_and c δ) γ' γ
  under_type_lambda {kinds} {vars = vars} {σ' = σ'} {σ = σ} {τ' = τ'} {τ = τ} {r = r} {δ0 = δ0} {δ' = δ'} {δ = δ} {γ' = γ'} {γ = γ} l i h j c kd ev =
      let down = tied_falls l i h in
      record { known = (kd, ev, h.known); first = carries_type kinds τ' δ' δ0 j c ev h.first; second = carries_type kinds τ δ δ0 j c ev h.second; types = grows c δ' δ h.types; names = named_type p related lasts (later i r) c vars σ' σ δ0 δ' δ γ' γ down.names; globals = down.globals }

  -- inside a recursive group
  in_group_tied : {kinds : List Kind} {vars : List TypeTree} {σ' σ : Substitution} {τ' τ : TypeSubstitution} {r : Levels} {δ0 δ' δ : TypeTrees} {γ' γ : Thunks} → IsLevels p r → (i : ℕ) → Tied p R related kinds vars σ' σ τ' τ r δ0 δ' δ γ' γ → (b : Group) → MembersAct p (later i r) (map (λ t. closed_type t δ0) (declared b)) (filled_group o' f' b (up_by (size_of b) σ') τ') γ' δ' (filled_group o f b (up_by (size_of b) σ) τ) γ δ → Tied p R related kinds (with_more (declared b) vars) (up_by (size_of b) σ') (up_by (size_of b) σ) τ' τ (later i r) δ0 δ' δ (in_group (filled_group o' f' b (up_by (size_of b) σ') τ') γ' δ') (in_group (filled_group o f b (up_by (size_of b) σ) τ) γ δ)
  in_group_tied {vars = vars} {σ' = σ'} {σ = σ} {τ' = τ'} {τ = τ} {r = r} {δ0 = δ0} {δ' = δ'} {δ = δ} {γ' = γ'} {γ = γ} l i h b members =
      let b' = filled_group o' f' b (up_by (size_of b) σ') τ' in
      let b2 = filled_group o f b (up_by (size_of b) σ) τ in
      let names = named_group p related lasts (later i r) δ0 b' b2 γ' γ δ' δ (declared b) vars σ' σ (size_filled o' f' b (up_by (size_of b) σ') τ') (size_filled o f b (up_by (size_of b) σ) τ) (λ k t q. members k (closed_type t δ0) (found_in_map (λ t. closed_type t δ0) (declared b) k t q)) (named_later p related lasts r l i vars σ' σ δ0 δ' δ γ' γ h.names) in
      let sized = subst (λ n. Named p related (later i r) (with_more (declared b) vars) (up_by n σ') (up_by n σ) δ0 δ' δ (in_group b' γ' δ') (in_group b2 γ δ)) (sym (size_declared b)) names in
      with_names l i h (with_more (declared b) vars) (up_by (size_of b) σ') (up_by (size_of b) σ) (in_group b' γ' δ') (in_group b2 γ δ) sized

  -- beside what a pattern binds
  beside_bound : {kinds : List Kind} {vars : List TypeTree} {σ' σ : Substitution} {τ' τ : TypeSubstitution} {r : Levels} {δ0 δ' δ : TypeTrees} {γ' γ : Thunks} → IsLevels p r → (i : ℕ) → Tied p R related kinds vars σ' σ τ' τ r δ0 δ' δ γ' γ → {u : TypeTree} (q : Pattern) (bnd : List TypeTree) → Binds (setting_with p made_types) kinds u q bnd → (xs' xs : Thunks) → AllAct p (later i r) (map (λ t. closed_type t δ0) (reverse bnd)) xs' xs → Tied p R related kinds (with_more bnd vars) (up_by (binders q) σ') (up_by (binders q) σ) τ' τ (later i r) δ0 δ' δ (joined xs' γ') (joined xs γ)
  beside_bound {vars = vars} {σ' = σ'} {σ = σ} {r = r} {δ0 = δ0} {δ' = δ'} {δ = δ} {γ' = γ'} {γ = γ} l i h q bnd bs xs' xs all =
      let names = named_joined p related lasts (later i r) (reverse bnd) vars σ' σ δ0 δ' δ xs' xs γ' γ all (named_later p related lasts r l i vars σ' σ δ0 δ' δ γ' γ h.names) in
      with_names l i h (with_more bnd vars) (up_by (binders q) σ') (up_by (binders q) σ) (joined xs' γ') (joined xs γ)
      (subst (λ n. Named p related (later i r) (with_more bnd vars) (up_by n σ') (up_by n σ) δ0 δ' δ (joined xs' γ') (joined xs γ)) (length-reverse bnd ∙ binds bs) names)

  -- beside the fields of a thunk
  beside_fields : {kinds : List Kind} {vars : List TypeTree} {σ' σ : Substitution} {τ' τ : TypeSubstitution} {r : Levels} {δ0 δ' δ : TypeTrees} {γ' γ : Thunks} → IsLevels p r → Tied p R related kinds vars σ' σ τ' τ r δ0 δ' δ γ' γ → {u : TypeTree} (q : Pattern) (bnd : List TypeTree) → Binds (setting_with p made_types) kinds u q bnd → (n : ℕ) (x' x : Thunk) → AllAct p r (map (λ t. closed_type t δ0) (reverse bnd)) (fields_from zero n x' none) (fields_from zero n x none) → Tied p R related kinds (with_more bnd vars) (up_by (binders q) σ') (up_by (binders q) σ) τ' τ r δ0 δ' δ (fields_from zero n x' γ') (fields_from zero n x γ)
  beside_fields {kinds} {vars} {σ'} {σ} {τ'} {τ} {r} {δ0} {δ'} {δ} {γ'} {γ} l h q bnd bs n x' x all =
      let at = beside_bound l zero h q bnd bs (fields_from zero n x' none) (fields_from zero n x none) all in
      subst (λ env. Tied p R related kinds (with_more bnd vars) (up_by (binders q) σ') (up_by (binders q) σ) τ' τ r δ0 δ' δ env (fields_from zero n x γ)) (sym (fields_joined zero n x' γ'))
      (subst (λ env. Tied p R related kinds (with_more bnd vars) (up_by (binders q) σ') (up_by (binders q) σ) τ' τ r δ0 δ' δ (joined (fields_from zero n x' none) γ') env) (sym (fields_joined zero n x γ)) at)

  -- what is put for a variable
  name_acts : (r : Levels) → IsLevels p r → (t : TypeTree) (e' e : TermTree) (δ' δ : TypeTrees) (γ' γ : Thunks) → Variables p r t e' e γ' γ ⊎ related r t e' e δ' δ γ' γ → TermsAct p r t (with_origins o' e') γ' δ' (with_origins o e) γ δ
  unfolding with_origins
  name_acts r l t e' e δ' δ γ' γ (inl v) =
      subst (λ e'. TermsAct p r t (with_origins o' e') γ' δ' (with_origins o e) γ δ) (sym v.is_first)
      (subst (λ e. TermsAct p r t (var v.first) γ' δ' (with_origins o e) γ δ) (sym v.is_second) (var_acts l t v.first v.second γ' γ δ' δ v.look))
  name_acts r l t e' e δ' δ γ' γ (inr k) = relates r l t e' e δ' δ γ' γ k

  -- a case of anything that acts so, where the alternatives act so
  pub chosen_acts : {kinds : List Kind} {vars bnd : List TypeTree} {q : Pattern} {u : TypeTree} {j : Kind} → IsLookedAt u → HasKind (setting_with p made_types) kinds u j → Binds (setting_with p made_types) kinds u q bnd → (r : Levels) → IsLevels p r → (σ' σ : Substitution) (τ' τ : TypeSubstitution) (δ0 δ' δ : TypeTrees) (γ' γ : Thunks) → Tied p R related kinds vars σ' σ τ' τ r δ0 δ' δ γ' γ → (t : TypeTree) (s' s a' a : TermTree) (more' more : Alts) → (more' ≡ no_alts → more ≡ no_alts) → (more ≡ no_alts → more' ≡ no_alts) → TermsAct p r (closed_type u δ0) s' γ' δ' s γ δ → ((i : ℕ) (ε' ε : Thunks) → Tied p R related kinds (with_more bnd vars) (up_by (binders q) σ') (up_by (binders q) σ) τ' τ (later i r) δ0 δ' δ ε' ε → TermsAct p (later i r) t a' ε' δ' a ε δ) → ((i : ℕ) (v w : Value) → Seen p (later i r) (closed_type u δ0) v w → (a : Arm) → arm_of v more' ≡ Some a → ArmOf p (later i r) t more w γ' δ' γ δ a) → TermsAct p r t (case_of s' (alt q a' more')) γ' δ' (case_of s (alt q a more)) γ δ
  unfolding sub
  chosen_acts {kinds} {vars} {bnd} {q} {u} {j} looked ku bs r l σ' σ τ' τ δ0 δ' δ γ' γ h t s' s a' a more' more one_side other_side scrutinee body rest =
      let bnd_typed = typed_without p made_types kinds bnd bs.typed in
      let n = binders q in
      let thunk = thunk_acts l (closed_type u δ0) s' s γ' γ δ' δ scrutinee in
      case_acts l (closed_type u δ0) t q s' s a' a more' more γ' γ δ' δ (looked_closed u δ0 looked) one_side other_side scrutinee
      (λ c i same only. body zero (fields_from zero i (closed s' γ' δ') γ') (fields_from zero i (closed s γ δ) γ)
      (beside_fields l h q bnd bs i (closed s' γ' δ') (closed s γ δ)
      (only_fields l base kinds δ0 h.known bs.pattern j ku bnd bs.same bnd_typed (closed s' γ' δ') (closed s γ δ) thunk c i same only)))
      (λ plain. body zero γ' γ
      (with_names l zero h (with_more bnd vars) (up_by n σ') (up_by n σ) γ' γ (nothing_bound p related r bs.pattern plain bnd vars bs.same σ' σ δ0 δ' δ γ' γ h.names)))
      (λ i v set arm asked found.
      let see = seen u δ0 v set looked asked in
      let one = alt_acts t q a' a more' more γ' γ δ' δ v see.0 (matches_same see.2 q)
      (λ hit. body (suc i) (joined (bound v q) γ') (joined (bound see.0 q) γ)
      (beside_bound l (suc i) h q bnd bs (bound v q) (bound see.0 q) (pattern_acts (at_later (suc i) l) base kinds δ0 h.known bs.pattern j ku bnd bs.same bnd_typed see.2 refl hit)))
      (rest (suc i) v see.0 see.2) arm found in
      record { value = see.0; has_value = see.1; second = one.second; is_arm = one.is_arm; acts = one.acts })

  mutual
    unfolding sub filled

    pub typed_acts : {kinds : List Kind} {vars : List TypeTree} {e : TermTree} {t : TypeTree} → HasType (setting_with p made_types) kinds vars e t → AreTermTypes (setting_with p made_types) kinds vars → (r : Levels) → IsLevels p r → (σ' σ : Substitution) (τ' τ : TypeSubstitution) (δ0 δ' δ : TypeTrees) (γ' γ : Thunks) → Tied p R related kinds vars σ' σ τ' τ r δ0 δ' δ γ' γ → TermsAct p r (closed_type t δ0) (filled o' f' e σ' τ') γ' δ' (filled o f e σ τ) γ δ
    typed_acts (h_var {x = x} {t = t} i) g r l σ' σ τ' τ δ0 δ' δ γ' γ h = name_acts r l (closed_type t δ0) (σ' x) (σ x) δ' δ γ' γ (h.names x t i)
    typed_acts (h_global {d = d} {t = t} i) g r l σ' σ τ' τ δ0 δ' δ γ' γ h =
        let q = found_before_map (λ (d : Def). d.ty) p.defs d t i in
        let stays = closed_stays p δ0 (sound.defs d t i).has in
        subst (λ t. TermsAct p r t (global d) γ' δ' (global d) γ δ) (q.2 ∙ sym stays) (h.globals d q.0 γ' γ δ' δ q.1)
    typed_acts (h_made {m = m} {t = t} i) g r l σ' σ τ' τ δ0 δ' δ γ' γ h =
        let stays = closed_stays p δ0 (sound.made m t i).has in
        subst (λ t. TermsAct p r t (o' m) γ' δ' (o m) γ δ) (sym stays) (at_levels l (λ r. TermsAct p r t (o' m) γ' δ' (o m) γ δ) (λ n. mades n m t γ' γ δ' δ i h.types))
    typed_acts {kinds} {vars} (h_lam {a = a} {b = b} {e = e} {k = k} d fk) g r l σ' σ τ' τ δ0 δ' δ γ' γ h =
        lam_acts l (f' (sub a τ')) (f (sub a τ)) (closed_type a δ0) (closed_type b δ0) (filled o' f' e (up σ') τ') (filled o f e (up σ) τ) γ' γ δ' δ
        (λ i x' x xs. typed_acts d (function_takes (setting_with p made_types) kinds a b k fk, g) (later i r) (at_later i l) (up σ') (up σ) τ' τ δ0 δ' δ (thunk_and x' γ') (thunk_and x γ) (under_lambda l i h a x' x xs))
    typed_acts (h_app {a = a} {b = b} {c = c} {f = t} {e = e} d q x) g r l σ' σ τ' τ δ0 δ' δ γ' γ h =
        let takes = (function_parts (type_kinded d sound g).has).1 in
        let gives = (type_kinded q sound g).has in
        let arg = same_acts base l (closed_same p base δ0 h.known gives takes (same_turned x)) (term_runs p (filled o' f' e σ' τ') γ' δ') (term_has p (filled o f e σ τ) γ δ) (typed_acts q g r l σ' σ τ' τ δ0 δ' δ γ' γ h) in
        app_acts l (closed_type a δ0) (closed_type b δ0) (filled o' f' t σ' τ') (filled o f t σ τ) (filled o' f' e σ' τ') (filled o f e σ τ) γ' γ δ' δ (typed_acts d g r l σ' σ τ' τ δ0 δ' δ γ' γ h) arg
    typed_acts {kinds} {vars} (h_ty_lam {j = j} {t = t} {e = e} d) g r l σ' σ τ' τ δ0 δ' δ γ' γ h =
        ty_lam_acts l j j j (sub t (up_type (type_at δ0))) (filled o' f' e (under_type σ') (up_type τ')) (filled o f e (under_type σ) (up_type τ)) γ' γ δ' δ
        (λ i c kd ev. subst (λ t. TermsAct p (later i r) t (filled o' f' e (under_type σ') (up_type τ')) γ' (type_and c δ') (filled o f e (under_type σ) (up_type τ)) γ (type_and c δ)) (sym (opens_as t c δ0))
        (typed_acts d (typed_under (setting_with p made_types) kinds j vars g) (later i r) (at_later i l) (under_type σ') (under_type σ) (up_type τ') (up_type τ) (type_and c δ0) (type_and c δ') (type_and c δ) γ' γ (under_type_lambda l i h j c kd ev)))
    typed_acts {kinds} (h_ty_app {j = j} {k = k} {t = t} {a = a} {u = u} {f = e} d ka x ku) g r l σ' σ τ' τ δ0 δ' δ γ' γ h =
        let c = evaluated (closed_type a δ0) in
        let kc = kind_evaluated (closed_kind p δ0 h.known ka) in
        let bound_kind = (type_kinded d sound g).has in
        let acts = ty_app_acts l j (sub t (up_type (type_at δ0))) c (f' (sub a τ')) (f (sub a τ)) (filled o' f' e σ' τ') (filled o f e σ τ) γ' γ δ' δ (type_filled p τ' δ' δ0 f' keeps' ka h.first) (type_filled p τ δ δ0 f keeps ka h.second) kc (evaluated_twice (closed_type a δ0)) (typed_acts d g r l σ' σ τ' τ δ0 δ' δ γ' γ h) in
        same_acts base l (put_closes p base δ0 h.known bound_kind ka ku x) (term_runs p (ty_app (filled o' f' e σ' τ') (f' (sub a τ'))) γ' δ') (term_has p (ty_app (filled o f e σ τ) (f (sub a τ))) γ δ) acts
    typed_acts {kinds} {vars} (h_letrec {g = b} {e = e} {t = t} {k = k} d kt bs) g r l σ' σ τ' τ δ0 δ' δ γ' γ h =
        let inner = typed_more (setting_with p made_types) kinds (declared b) vars (bound_typed bs) g in
        let n = length (declared b) in
        let b' = filled_group o' f' b (up_by (size_of b) σ') τ' in
        let b2 = filled_group o f b (up_by (size_of b) σ) τ in
        let acts = members_act l (map (λ t. closed_type t δ0) (declared b)) b' b2 γ' γ δ' δ (λ i members j u q. sides_of (bound_acts bs inner (later i r) (at_later i l) (up_by (size_of b) σ') (up_by (size_of b) σ) τ' τ δ0 δ' δ (in_group b' γ' δ') (in_group b2 γ δ) (in_group_tied l i h b members) j u q)) in
        letrec_acts l (closed_type t δ0) b' b2 (filled o' f' e (up_by (size_of b) σ') τ') (filled o f e (up_by (size_of b) σ) τ) γ' γ δ' δ
        (typed_acts d inner r l (up_by (size_of b) σ') (up_by (size_of b) σ) τ' τ δ0 δ' δ (in_group b' γ' δ') (in_group b2 γ δ) (in_group_tied l zero h b acts))
    typed_acts (h_con {c = c} {it = it} e) g r l σ' σ τ' τ δ0 δ' δ γ' γ h =
        let stays = closed_stays p δ0 (con_kind (setting_of p) c it base e) in
        subst (λ t. TermsAct p r t (con c) γ' δ' (con c) γ δ) (sym stays) (at_levels l (λ r. TermsAct p r (con_type it) (con c) γ' δ' (con c) γ δ) (λ n. heads.cons n c it γ' γ δ' δ e))
    typed_acts (h_prim {p = q}) g r l σ' σ τ' τ δ0 δ' δ γ' γ h =
        let stays = closed_stays p δ0 (schema_kind (setting_of p) q base).has in
        subst (λ t. TermsAct p r t (prim q) γ' δ' (prim q) γ δ) (sym stays) (at_levels l (λ r. TermsAct p r (schema_type q) (prim q) γ' δ' (prim q) γ δ) (λ n. heads.prims n q γ' γ δ' δ))
    typed_acts (h_lit {r = s} {bits = b} i) g r l σ' σ τ' τ δ0 δ' δ γ' γ h = lit_acts l s b (nat_lit (length b)) (width_itself (length b) i) γ' γ δ' δ
    typed_acts (h_vec {t = t} {es = es} kt all) g r l σ' σ τ' τ δ0 δ' δ γ' γ h =
        vec_acts l (nat_lit (count es)) (closed_type t δ0) (f' (sub t τ')) (f (sub t τ)) (filled_all o' f' es σ' τ') (filled_all o f es σ τ) γ' γ δ' δ (elements_act all kt.has g r l σ' σ τ' τ δ0 δ' δ γ' γ h)
    typed_acts {kinds} {vars} (h_case {bound = bnd} {q = q} {more = more} {u = u} {t = t} {e = e} {f = a} {j = j} {k = k} d looked ku bs da kt fs alts hidden) g r l σ' σ τ' τ δ0 δ' δ γ' γ h =
        let inner = typed_more (setting_with p made_types) kinds bnd vars bs.typed g in
        let n = binders q in
        chosen_acts looked ku bs r l σ' σ τ' τ δ0 δ' δ γ' γ h (closed_type t δ0) (filled o' f' e σ' τ') (filled o f e σ τ) (filled o' f' a (up_by n σ') τ') (filled o f a (up_by n σ) τ) (filled_alts o' f' more σ' τ') (filled_alts o f more σ τ)
        (λ e. ap (λ alts. filled_alts o f alts σ τ) (no_alts_filled o' f' more σ' τ' e))
        (λ e. ap (λ alts. filled_alts o' f' alts σ' τ') (no_alts_filled o f more σ τ e))
        (typed_acts d g r l σ' σ τ' τ δ0 δ' δ γ' γ h)
        (λ i ε' ε tied. typed_acts da inner (later i r) (at_later i l) (up_by n σ') (up_by n σ) τ' τ δ0 δ' δ ε' ε tied)
        (λ i v w see. alts_act alts j ku k kt g (later i r) (at_later i l) σ' σ τ' τ δ0 δ' δ γ' γ (tied_falls l i h) v w see)

    bound_acts : {kinds : List Kind} {vars : List TypeTree} {k : Kind} {b : Group} → AreBound (setting_with p made_types) kinds vars k b → AreTermTypes (setting_with p made_types) kinds vars → (r : Levels) → IsLevels p r → (σ' σ : Substitution) (τ' τ : TypeSubstitution) (δ0 δ' δ : TypeTrees) (γ' γ : Thunks) → Tied p R related kinds vars σ' σ τ' τ r δ0 δ' δ γ' γ → (i : ℕ) (u : TypeTree) → slice_get (map (λ t. closed_type t δ0) (declared b)) i ≡ Some u → SideOf p r i u (filled_group o' f' b σ' τ') γ' δ' (filled_group o f b σ τ) γ δ
    bound_acts none_bound g r l σ' σ τ' τ δ0 δ' δ γ' γ h i v q = cc
    bound_acts {kinds} (bound_and {t = t} {u = u} {e = e} {g = b} kt fs d x bs) g r l σ' σ τ' τ δ0 δ' δ γ' γ h zero v q =
        let is : closed_type t δ0 ≡ v = cc in
        let acts = same_acts base l (closed_same p base δ0 h.known (type_kinded d sound g).has kt (same_turned x)) (term_runs p (filled o' f' e σ' τ') γ' δ') (term_has p (filled o f e σ τ) γ δ) (typed_acts d g r l σ' σ τ' τ δ0 δ' δ γ' γ h) in
        record { first = filled o' f' e σ' τ'; second = filled o f e σ τ; has_first = refl; has_second = refl; acts = subst (λ t. TermsAct p r t (filled o' f' e σ' τ') γ' δ' (filled o f e σ τ) γ δ) is acts }
    bound_acts (bound_and {g = b} kt fs d x bs) g r l σ' σ τ' τ δ0 δ' δ γ' γ h (suc i) v q =
        let one = bound_acts bs g r l σ' σ τ' τ δ0 δ' δ γ' γ h i v q in
        record { first = one.first; second = one.second; has_first = one.has_first; has_second = one.has_second; acts = one.acts }

    elements_act : {kinds : List Kind} {vars : List TypeTree} {t : TypeTree} {es : Terms} {k : Kind} → AllHave (setting_with p made_types) kinds vars t es → HasKind (setting_of p) kinds t k → AreTermTypes (setting_with p made_types) kinds vars → (r : Levels) → IsLevels p r → (σ' σ : Substitution) (τ' τ : TypeSubstitution) (δ0 δ' δ : TypeTrees) (γ' γ : Thunks) → Tied p R related kinds vars σ' σ τ' τ r δ0 δ' δ γ' γ → EachTermActs p r (closed_type t δ0) (filled_all o' f' es σ' τ') γ' δ' (filled_all o f es σ τ) γ δ
    elements_act none_have kt g r l σ' σ τ' τ δ0 δ' δ γ' γ h = tt
    elements_act (have_and {e = e} d x more) kt g r l σ' σ τ' τ δ0 δ' δ γ' γ h =
        (same_acts base l (closed_same p base δ0 h.known (type_kinded d sound g).has kt (same_turned x)) (term_runs p (filled o' f' e σ' τ') γ' δ') (term_has p (filled o f e σ τ) γ δ) (typed_acts d g r l σ' σ τ' τ δ0 δ' δ γ' γ h), elements_act more kt g r l σ' σ τ' τ δ0 δ' δ γ' γ h)

    pub alts_act : {kinds : List Kind} {vars : List TypeTree} {u t : TypeTree} {alts : Alts} → AllGive (setting_with p made_types) kinds vars u t alts → (j : Kind) → HasKind (setting_of p) kinds u j → (k : Kind) → HasKind (setting_of p) kinds t k → AreTermTypes (setting_with p made_types) kinds vars → (r : Levels) → IsLevels p r → (σ' σ : Substitution) (τ' τ : TypeSubstitution) (δ0 δ' δ : TypeTrees) (γ' γ : Thunks) → Tied p R related kinds vars σ' σ τ' τ r δ0 δ' δ γ' γ → (v w : Value) → Seen p r (closed_type u δ0) v w → (a : Arm) → arm_of v (filled_alts o' f' alts σ' τ') ≡ Some a → ArmOf p r (closed_type t δ0) (filled_alts o f alts σ τ) w γ' δ' γ δ a
    alts_act none_give j ku k kt g r l σ' σ τ' τ δ0 δ' δ γ' γ h v w s a found = cc
    alts_act {kinds} {vars} (give_and {bound = bnd} {t = t} {q = q} {e = e} {more = more} bs d x rest) j ku k kt g r l σ' σ τ' τ δ0 δ' δ γ' γ h v w s a found =
        let inner = typed_more (setting_with p made_types) kinds bnd vars bs.typed g in
        let bnd_typed = typed_without p made_types kinds bnd bs.typed in
        let n = binders q in
        alt_acts (closed_type t δ0) q (filled o' f' e (up_by n σ') τ') (filled o f e (up_by n σ) τ) (filled_alts o' f' more σ' τ') (filled_alts o f more σ τ) γ' γ δ' δ v w (matches_same s q)
        (λ hit. same_acts base l (closed_same p base δ0 h.known (type_kinded d sound inner).has kt (same_turned x)) (term_runs p (filled o' f' e (up_by n σ') τ') (joined (bound v q) γ') δ') (term_has p (filled o f e (up_by n σ) τ) (joined (bound w q) γ) δ)
        (typed_acts d inner r l (up_by n σ') (up_by n σ) τ' τ δ0 δ' δ (joined (bound v q) γ') (joined (bound w q) γ)
        (beside_bound l zero h q bnd bs (bound v q) (bound w q) (pattern_acts l base kinds δ0 h.known bs.pattern j ku bnd bs.same bnd_typed s refl hit))))
        (alts_act rest j ku k kt g r l σ' σ τ' τ δ0 δ' δ γ' γ h v w s) a found

  -- the variables of a typed group, in environments that are tied
  pub group_ties : {kinds : List Kind} {vars : List TypeTree} {k : Kind} {b : Group} → AreBound (setting_with p made_types) kinds (with_more (declared b) vars) k b → AreTermTypes (setting_with p made_types) kinds vars → (r : Levels) → IsLevels p r → (σ' σ : Substitution) (τ' τ : TypeSubstitution) (δ0 δ' δ : TypeTrees) (γ' γ : Thunks) → Tied p R related kinds vars σ' σ τ' τ r δ0 δ' δ γ' γ → Tied p R related kinds (with_more (declared b) vars) (up_by (size_of b) σ') (up_by (size_of b) σ) τ' τ r δ0 δ' δ (in_group (filled_group o' f' b (up_by (size_of b) σ') τ') γ' δ') (in_group (filled_group o f b (up_by (size_of b) σ) τ) γ δ)
  group_ties {kinds} {vars} {b = b} bs g r l σ' σ τ' τ δ0 δ' δ γ' γ h =
      let inner = typed_more (setting_with p made_types) kinds (declared b) vars (bound_typed bs) g in
      let b' = filled_group o' f' b (up_by (size_of b) σ') τ' in
      let b2 = filled_group o f b (up_by (size_of b) σ) τ in
      in_group_tied l zero h b (members_act l (map (λ t. closed_type t δ0) (declared b)) b' b2 γ' γ δ' δ (λ i members j u q. sides_of (bound_acts bs inner (later i r) (at_later i l) (up_by (size_of b) σ') (up_by (size_of b) σ) τ' τ δ0 δ' δ (in_group b' γ' δ') (in_group b2 γ δ) (in_group_tied l i h b members) j u q)))
