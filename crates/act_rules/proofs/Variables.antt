-- Environments of which the variables act so: under further variables, and at types that are the same.
use Rattle.std.specs.Prelude.{slice_get}
use Rattle.std.proofs.Common.{◌≡◌, ℕ, suc, zero, List, [], ◌∷◌, ◌++◌, length, map, reverse, Some, refl, sym, ap, ◌∙◌, subst}
use Rattle.chw_types.specs.declared.kind.Kind.{Kind}
use Rattle.chw_types.specs.TypeTree.{TypeTree, TypeTrees}
use Rattle.chw_types.proofs.SameLaws.{same_turned}
use Rattle.chw_terms.specs.declared.program.Program.{Program}
use Rattle.chw_terms.specs.declared.term.Pattern.{Pattern}
use Rattle.chw_terms.specs.TermMoves.{up_by}
use Rattle.chw_terms.specs.TermTree.{Group, size_of}
use Rattle.chw_terms.proofs.Renamed.{lift_by_none}
use Rattle.chw_typing.specs.Scopes.{AreTermTypes, AreSame, with_more}
use Rattle.chw_typing.specs.HeadTypes.{PatternOf, of_con, of_lit, of_any}
use Rattle.chw_typing.specs.Programs.{IsSound, setting_of}
use Rattle.chw_typing.proofs.Lists.{found_in_map}
use Rattle.chw_meaning.specs.Values.{Thunk, Thunks, none, thunk_and, closed_type, joined, in_group, fields_from}
use Rattle.acts.specs.Levels.{Levels, thunk_runs, thunk_has}
use Rattle.acts.specs.Acts.{AllAct}
use Rattle.acts.specs.Terms.{TiedBy, Kinded, setting_with}
use Rattle.acts.proofs.Closing.{closed_same}
use Rattle.acts.proofs.Filled.{variables_by, up_by_variables}
use Rattle.acts.proofs.Forms.{MembersAct}
use Rattle.acts.proofs.Globals.{Unrelated, unrelated_lasts, unnamed}
use Rattle.acts.proofs.Levels.{IsLevels}
use Rattle.acts.proofs.Names.{Named, named_by, named_group}
use Rattle.acts.proofs.SameActs.{Same, same_acts}
use Rattle.acts.proofs.Tied.{fields_joined}
use Rattle.acts.proofs.Typed.{IsNoCon}
use Rattle.act_rules.proofs.RuleMoves.{tied_more}

-- the variables of these types have thunks on both sides, and these act so
abbrev pub VariablesAct : Program → Levels → List TypeTree → TypeTrees → Thunks → Thunks → Type 0
VariablesAct p r vars δ γ' γ = TiedBy p r vars (λ x. x) (λ x. x) δ γ' γ

-- several more variables, the innermost first
pub joined_act : {p : Program} {r : Levels} (us vars : List TypeTree) (δ : TypeTrees) (xs' xs γ' γ : Thunks) → AllAct p r (map (λ t. closed_type t δ) us) xs' xs → VariablesAct p r vars δ γ' γ → VariablesAct p r (us ++ vars) δ (joined xs' γ') (joined xs γ)
joined_act [] vars δ none none γ' γ a h = h
joined_act (u ∷ us) vars δ (thunk_and x' xs') (thunk_and x xs) γ' γ a h = tied_more u (us ++ vars) δ x' x (joined xs' γ') (joined xs γ) a.0 (joined_act us vars δ xs' xs γ' γ a.1 h)
joined_act [] vars δ none (thunk_and x xs) γ' γ a h = absurd a
joined_act [] vars δ (thunk_and x' xs') xs γ' γ a h = absurd a
joined_act (u ∷ us) vars δ none xs γ' γ a h = absurd a
joined_act (u ∷ us) vars δ (thunk_and x' xs') none γ' γ a h = absurd a

-- the fields of a thunk
pub fields_tied : {p : Program} {r : Levels} (bnd vars : List TypeTree) (δ : TypeTrees) (n : ℕ) (x' x : Thunk) (γ' γ : Thunks) → AllAct p r (map (λ t. closed_type t δ) (reverse bnd)) (fields_from zero n x' none) (fields_from zero n x none) → VariablesAct p r vars δ γ' γ → VariablesAct p r (with_more bnd vars) δ (fields_from zero n x' γ') (fields_from zero n x γ)
fields_tied {p} {r} bnd vars δ n x' x γ' γ all h =
    subst (λ env. VariablesAct p r (with_more bnd vars) δ env (fields_from zero n x γ)) (sym (fields_joined zero n x' γ'))
    (subst (λ env. VariablesAct p r (with_more bnd vars) δ (joined (fields_from zero n x' none) γ') env) (sym (fields_joined zero n x γ))
    (joined_act (reverse bnd) vars δ (fields_from zero n x' none) (fields_from zero n x none) γ' γ all h))

-- what binds nothing
pub unbound_act : (p : Program) (r : Levels) {u : TypeTree} {q : Pattern} {fields : List TypeTree} → PatternOf p.datas u q fields → IsNoCon q → (bnd vars : List TypeTree) → AreSame fields bnd → (δ : TypeTrees) (γ' γ : Thunks) → VariablesAct p r vars δ γ' γ → VariablesAct p r (with_more bnd vars) δ γ' γ
unbound_act p r (of_con it e o n) plain bnd vars x δ γ' γ h = absurd plain
unbound_act p r (of_lit i e) plain [] vars x δ γ' γ h = h
unbound_act p r (of_lit i e) plain (b ∷ bnd) vars x δ γ' γ h = absurd x
unbound_act p r of_any plain [] vars x δ γ' γ h = h
unbound_act p r of_any plain (b ∷ bnd) vars x δ γ' γ h = absurd x

-- the members of two groups
pub members_tied : (p : Program) (r : Levels) (δ : TypeTrees) (g' g : Group) (γ' γ : Thunks) (us vars : List TypeTree) → size_of g' ≡ length us → size_of g ≡ length us → MembersAct p r (map (λ t. closed_type t δ) us) g' γ' δ g γ δ → VariablesAct p r vars δ γ' γ → VariablesAct p r (with_more us vars) δ (in_group g' γ' δ) (in_group g γ δ)
members_tied p r δ g' g γ' γ us vars a b acts h =
    let σ = variables_by (λ x. x) in
    let names = named_group p Unrelated (unrelated_lasts p) r δ g' g γ' γ δ δ us vars σ σ a b (λ i t q. acts i (closed_type t δ) (found_in_map (λ t. closed_type t δ) us i t q)) (named_by p Unrelated r vars (λ x. x) (λ x. x) δ δ δ γ' γ h) in
    unnamed p r (with_more us vars) δ (in_group g' γ' δ) (in_group g γ δ)
    (subst (λ υ. Named p Unrelated r (with_more us vars) υ υ δ δ δ (in_group g' γ' δ) (in_group g γ δ)) stays names)
  where
    stays : up_by (length us) (variables_by (λ x. x)) ≡ variables_by (λ x. x)
    stays = up_by_variables (length us) (λ x. x) ∙ ap variables_by (lift_by_none (length us))

-- the type of a variable in a scope of the same types
record FoundSame (p : Program) (vars : List TypeTree) (x : ℕ) (t : TypeTree) (δ : TypeTrees) : Type 0 where
  pub type : TypeTree
  pub found : slice_get vars x ≡ Some type
  pub same : Same p (closed_type type δ) (closed_type t δ)

found_same : (p : Program) (types : List TypeTree) → IsSound (setting_of p) → (kinds : List Kind) (δ : TypeTrees) → Kinded p kinds δ → (vars vars' : List TypeTree) → AreSame vars vars' → AreTermTypes (setting_with p types) kinds vars → AreTermTypes (setting_with p types) kinds vars' → (x : ℕ) (t : TypeTree) → slice_get vars x ≡ Some t → FoundSame p vars' x t δ
found_same p types sound kinds δ known [] vars' s g g' x t e = cc
found_same p types sound kinds δ known (v ∷ vars) [] s g g' x t e = absurd s
found_same p types sound kinds δ known (v ∷ vars) (w ∷ vars') s g g' zero t e =
    let is : v ≡ t = cc in
    record { type = w; found = refl; same = subst (λ t. Same p (closed_type w δ) (closed_type t δ)) is (closed_same p sound δ known g'.0.has g.0.has (same_turned s.0)) }
found_same p types sound kinds δ known (v ∷ vars) (w ∷ vars') s g g' (suc x) t e =
    let q = found_same p types sound kinds δ known vars vars' s.1 g.1 g'.1 x t e in
    record { type = q.type; found = q.found; same = q.same }

-- variables of types that are the same
pub same_variables_act : (p : Program) (types : List TypeTree) → IsSound (setting_of p) → (kinds : List Kind) (δ : TypeTrees) → Kinded p kinds δ → (vars vars' : List TypeTree) → AreSame vars vars' → AreTermTypes (setting_with p types) kinds vars → AreTermTypes (setting_with p types) kinds vars' → {r : Levels} → IsLevels p r → (γ' γ : Thunks) → VariablesAct p r vars' δ γ' γ → VariablesAct p r vars δ γ' γ
same_variables_act p types sound kinds δ known vars vars' s g g' l γ' γ h x t e =
    let q = found_same p types sound kinds δ known vars vars' s g g' x t e in
    let k = h x q.type q.found in
    record { first = k.first; second = k.second; has_first = k.has_first; has_second = k.has_second; acts = same_acts sound l q.same (thunk_runs p k.first) (thunk_has p k.second) k.acts }
