-- Definitions with their parameters written out.
use Rattle.std.proofs.Common.{◌≡◌, ◌∙◌, ap, refl, sym, subst, get_or}
use Rattle.std.proofs.Common.{ℕ, zero, suc, List, [], ◌∷◌, map, length, Some}
use Rattle.std.proofs.lemmas.Option.{slice_get_read}
use Rattle.std.specs.List.{slice_get}
use Rattle.std.specs.Prelude.{option_map, unwrap_or}
use Rattle.chw_types.proofs.SameLaws.{same_self}
use Rattle.chw_types.specs.TypeTree.{TypeTree}
use Rattle.chw_terms.specs.TermMoves.{rename}
use Rattle.chw_terms.specs.TermTree.{TermTree, var, global, lam, app}
use Rattle.chw_terms.specs.Tidy.{IsTidy}
use Rattle.chw_terms.specs.Unrolled.{parameters}
use Rattle.chw_terms.specs.declared.program.Def.{Def}
use Rattle.chw_terms.specs.declared.program.Program.{Program}
use Rattle.chw_terms.specs.declared.scene.Made.{Made}
use Rattle.chw_terms.specs.declared.scene.Sort.TheVariants.{Circuit}
use Rattle.chw_typing.proofs.Lists.{turned_onto}
use Rattle.chw_typing.specs.HeadTypes.{from_each}
use Rattle.chw_typing.specs.Scopes.{with_more}
use Rattle.chw_typing.specs.Given.{AsksForNone}
use Rattle.rewriting.specs.Named.{UnderLambdas, under_none, under_one}
use Rattle.rewriting.specs.Origins.{HoldsNoMade, eta_expanded, on_variables, under_each, with_origins}
use Rattle.rewriting.specs.Runs.{IsOpening, first_body, with_definition}
use Rattle.opening.specs.Expanded.{call_of, on_parameters}

-- a definition's name is closed
pub name_expanded : (t : TypeTree) (d : ℕ)
    → on_parameters t (global d) ≡ eta_expanded (parameters t) (global d)
unfolding rename
name_expanded t d = refl

-- no made definition occurs in a definition's name on its parameters
variables_hold_none : (d j n : ℕ) → HoldsNoMade (on_variables (global d) j n)
unfolding with_origins
variables_hold_none d j zero o = refl
variables_hold_none d j (suc n) o = ap (λ f. app f (var j)) (variables_hold_none d (suc j) n o)

lambdas_hold_none : (ts : List TypeTree) (e : TermTree)
    → HoldsNoMade e → HoldsNoMade (under_each ts e)
unfolding with_origins
lambdas_hold_none [] e h o = h o
lambdas_hold_none (t ∷ ts) e h o = ap (lam t) (lambdas_hold_none ts e h o)

pub name_holds_none : (t : TypeTree) (d : ℕ) → HoldsNoMade (on_parameters t (global d))
name_holds_none t d =
    let n = length (parameters t) in
    lambdas_hold_none (parameters t) (on_variables (global d) 0 n) (variables_hold_none d 0 n)

-- a term under a lambda for each parameter
pub lambdas_lead : (ts : List TypeTree) (r : TypeTree) (e : TermTree) (vars : List TypeTree)
    → AsksForNone r
    → UnderLambdas vars (under_each ts e) (from_each ts r) (map (λ t. 0) ts) (with_more ts vars) e
lambdas_lead [] r e vars none = under_none none
lambdas_lead (t ∷ ts) r e vars none =
    let whole = under_each (t ∷ ts) e in
    let path = map (λ t. 0) (t ∷ ts) in
    subst (λ scope. UnderLambdas vars whole (from_each (t ∷ ts) r) path scope e)
    (sym (turned_onto t ts vars))
    (under_one (same_self t) (lambdas_lead ts r e (t ∷ vars) none))

-- the definition in place of the name
definition_on_variables : (p : Program) (d : ℕ) (it : Def) → slice_get p.defs d ≡ Some it
    → (j n : ℕ)
    → with_definition p (on_variables (global d) j n) ≡ on_variables it.body j n
definition_on_variables p d it at j zero =
    ap (λ x. unwrap_or (option_map (λ (it : Def). it.body) x) (global d)) at
definition_on_variables p d it at j (suc n) =
    ap (λ f. app f (var j)) (definition_on_variables p d it at (suc j) n)

-- no lambda leads a name on variables
first_on_variables : (p : Program) (d n : ℕ)
    → first_body p (on_variables (global d) 0 n) ≡ with_definition p (on_variables (global d) 0 n)
first_on_variables p d zero = refl
first_on_variables p d (suc n) = refl

first_under_each : (p : Program) (ts : List TypeTree) (e : TermTree)
    → first_body p (under_each ts e) ≡ under_each ts (first_body p e)
first_under_each p [] e = refl
first_under_each p (t ∷ ts) e = ap (lam t) (first_under_each p ts e)

-- the first body of a definition's name on its parameters
first_expanded : (p : Program) (d : ℕ) (it : Def) (t : TypeTree) → slice_get p.defs d ≡ Some it
    → first_body p (eta_expanded (parameters t) (global d)) ≡ on_parameters t it.body
first_expanded p d it t at =
    let n = length (parameters t) in
    ap (first_body p) (sym (name_expanded t d))
    ∙ first_under_each p (parameters t) (on_variables (global d) 0 n)
    ∙ ap (under_each (parameters t))
    (first_on_variables p d n ∙ definition_on_variables p d it at 0 n)

-- the definition that the top names
pub top_found : (p : Program) (defs : List Def) (it : Def)
    → IsTidy p → defs ≡ p.defs → it ≡ get_or defs p.top.«def».number it
    → slice_get p.defs p.top.«def».number ≡ Some it
top_found p defs it tidy are is =
    let d = p.top.«def».number in
    let same = is ∙ ap (λ ds. get_or ds d it) are in
    slice_get_read p.defs (length p.defs) d it refl tidy.top_held same

-- its call opens the program
pub opens : (p : Program) (it : Def) → slice_get p.defs p.top.«def».number ≡ Some it
    → (made : List Made) → made ≡ call_of p.top.«def».number it ∷ []
    → IsOpening p made
opens p it at made is =
    let d = p.top.«def».number in
    let name = name_expanded it.ty d in
    let body = sym (first_expanded p d it it.ty at) in
    (it, at, is ∙ (λ i. record { origin = name i; body = body i; ty = it.ty; sort = Circuit } ∷ []))
