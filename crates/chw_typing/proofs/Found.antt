-- Each part of a typed term is at a place of it.
use Rattle.std.proofs.Common.{◌≡◌, ℕ, zero, suc, refl, subst, List, [], ◌∷◌, Option, Some, None}
use Rattle.std.specs.Prelude.{option_map, option_and_then}
use Rattle.chw_types.specs.declared.kind.Kind.{Kind}
use Rattle.chw_types.specs.TypeTree.{TypeTree}
use Rattle.chw_terms.specs.TermTree.{TermTree}
use Rattle.chw_typing.specs.Scopes.{Setting}
use Rattle.chw_typing.specs.Typing.{HasType, h_lam, h_app, h_ty_lam, h_ty_app, h_letrec, h_vec, h_case}
use Rattle.chw_typing.specs.Paths.{element_at, part_of_group, Branch, branch_at, part_at}
use Rattle.chw_typing.proofs.PathParts.{way_to}
use Rattle.chw_typing.specs.Around.{Around, here, in_lam, in_ty_lam, in_function, in_argument, in_ty_app, in_letrec, in_vector, in_scrutinee, in_branch}
use Rattle.chw_typing.specs.ContextLaws.{HasPlace}
use Rattle.chw_typing.proofs.Typed.{part_of_group_typed, element_typed, given_typed}

-- the alternative on the way to a part
pub record BranchWay (o : Option Branch) (p : List ℕ) (x : TermTree) : Type 0 where
  pub to : Branch
  pub is : o ≡ Some to
  pub part : part_at to.body p ≡ Some x

branch_way : (o : Option Branch) (p : List ℕ) (x : TermTree) → option_and_then (λ c. part_at c p) (option_map (λ a. a.body) o) ≡ Some x → BranchWay o p x
branch_way (Some a) p x h = record { to = a; is = refl; part = h }
branch_way None p x h = absurd cc

pub place_found : (p : List ℕ) {s : Setting} {kinds : List Kind} {vars : List TypeTree} {e : TermTree} {t : TypeTree} (x : TermTree) → HasType s kinds vars e t → part_at e p ≡ Some x → HasPlace s kinds vars e p x
place_found [] {s} {kinds} {vars} {e} x d h =
    let is : e ≡ x = cc in
    record { inner_kinds = kinds; inner_vars = vars; around = subst (Around s kinds vars e [] kinds vars) is here }
place_found (zero ∷ p) x (h_lam d l) h = let at = place_found p x d h in record { inner_kinds = at.inner_kinds; inner_vars = at.inner_vars; around = in_lam at.around }
place_found (zero ∷ p) x (h_ty_lam d) h = let at = place_found p x d h in record { inner_kinds = at.inner_kinds; inner_vars = at.inner_vars; around = in_ty_lam at.around }
place_found (zero ∷ p) x (h_app d c y) h = let at = place_found p x d h in record { inner_kinds = at.inner_kinds; inner_vars = at.inner_vars; around = in_function at.around }
place_found (suc zero ∷ p) x (h_app d c y) h = let at = place_found p x c h in record { inner_kinds = at.inner_kinds; inner_vars = at.inner_vars; around = in_argument at.around }
place_found (zero ∷ p) x (h_ty_app d l y m) h = let at = place_found p x d h in record { inner_kinds = at.inner_kinds; inner_vars = at.inner_vars; around = in_ty_app at.around }
place_found (i ∷ p) x (h_letrec {g = g} {e = e} {t = t} d l bs) h =
    let way = way_to (part_of_group g e i) p x h in
    let of = part_of_group_typed bs e t d i way.to way.is in
    let at = place_found p x of.1 way.part in
    record { inner_kinds = at.inner_kinds; inner_vars = at.inner_vars; around = in_letrec way.is at.around }
place_found (i ∷ p) x (h_vec {es = es} l ds) h =
    let way = way_to (element_at es i) p x h in
    let of = element_typed ds i way.to way.is in
    let at = place_found p x of.1 way.part in
    record { inner_kinds = at.inner_kinds; inner_vars = at.inner_vars; around = in_vector way.is at.around }
place_found (zero ∷ p) x (h_case d looked l b c m allows o n) h = let at = place_found p x d h in record { inner_kinds = at.inner_kinds; inner_vars = at.inner_vars; around = in_scrutinee at.around }
place_found (suc zero ∷ p) x (h_case {q = q} {f = f} d looked l b c m allows o n) h =
    let a : Branch = record { pattern = q; body = f } in
    let at = place_found p x c h in
    record { inner_kinds = at.inner_kinds; inner_vars = at.inner_vars; around = in_branch {a = a} refl d b at.around }
place_found (suc (suc i) ∷ p) x (h_case {more = more} d looked l b c m allows o n) h =
    let way = branch_way (branch_at more i) p x h in
    let of = given_typed o i way.to way.is in
    let at = place_found p x of.has way.part in
    record { inner_kinds = at.inner_kinds; inner_vars = at.inner_vars; around = in_branch way.is d of.binds at.around }
place_found _ x _ h = absurd cc
