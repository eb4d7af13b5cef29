-- The parts of a typed term are typed.
use Rattle.std.proofs.Common.{◌≡◌, ℕ, zero, suc, subst, List, Some}
use Rattle.chw_types.specs.declared.kind.Kind.{Kind}
use Rattle.chw_types.specs.TypeTree.{TypeTree}
use Rattle.chw_types.specs.SameTypes.{SameTypes}
use Rattle.chw_terms.specs.declared.term.Pattern.{Pattern}
use Rattle.chw_terms.specs.TermTree.{TermTree, vec_lit, case_of, Terms, Group, Alts, no_alts, alt}
use Rattle.chw_typing.specs.Scopes.{Setting, HasKind, AreTermTypes, with_more, declared}
use Rattle.chw_typing.specs.Programs.{IsSound}
use Rattle.chw_typing.specs.Typing.{Binds, HasType, h_lam, h_app, h_ty_lam, h_ty_app, h_letrec, h_vec, h_case, AreBound, none_bound, bound_and, AllHave, none_have, have_and, AllGive, none_give, give_and}
use Rattle.chw_typing.proofs.Kinded.{function_takes, typed_under, typed_more, bound_typed}
use Rattle.chw_typing.proofs.Patterns.{one_binding}
use Rattle.chw_typing.proofs.OneType.{one_type}
use Rattle.chw_typing.proofs.SameScopes.{are_same_self, same_more}
use Rattle.chw_typing.specs.Paths.{element_at, part_of_group, Branch, branch_at}
use Rattle.chw_typing.specs.Around.{Around, here, in_lam, in_ty_lam, in_function, in_argument, in_ty_app, in_letrec, in_vector, in_scrutinee, in_branch}
use Rattle.chw_typing.proofs.Plugged.{same_variables}

-- the term has a type
abbrev pub HasSomeType : Setting → List Kind → List TypeTree → TermTree → Type 0
HasSomeType s kinds vars e = (u : TypeTree) × HasType s kinds vars e u

some_type : (s : Setting) (kinds : List Kind) (vars : List TypeTree) (e f : TermTree) (t : TypeTree) → e ≡ f → HasType s kinds vars e t → HasSomeType s kinds vars f
some_type s kinds vars e f t is d = (t, subst (λ x. HasType s kinds vars x t) is d)

pub part_of_group_typed : {s : Setting} {kinds : List Kind} {vars : List TypeTree} {k : Kind} {g : Group} → AreBound s kinds vars k g → (e : TermTree) (t : TypeTree) → HasType s kinds vars e t → (i : ℕ) (b : TermTree) → part_of_group g e i ≡ Some b → HasSomeType s kinds vars b
part_of_group_typed {s} {kinds} {vars} none_bound e t d zero b at = let is : e ≡ b = cc in some_type s kinds vars e b t is d
part_of_group_typed none_bound e t d (suc i) b at = absurd cc
part_of_group_typed {s} {kinds} {vars} (bound_and {u = u} {e = r} l m c x bs) e t d zero b at = let is : r ≡ b = cc in some_type s kinds vars r b u is c
part_of_group_typed (bound_and l m c x bs) e t d (suc i) b at = part_of_group_typed bs e t d i b at

pub element_typed : {s : Setting} {kinds : List Kind} {vars : List TypeTree} {t : TypeTree} {es : Terms} → AllHave s kinds vars t es → (i : ℕ) (b : TermTree) → element_at es i ≡ Some b → HasSomeType s kinds vars b
element_typed none_have i b at = absurd cc
element_typed {s} {kinds} {vars} (have_and {u = u} {e = e} d x ds) zero b at = let is : e ≡ b = cc in some_type s kinds vars e b u is d
element_typed (have_and d x ds) (suc i) b at = element_typed ds i b at

-- an alternative with what its pattern binds and the type of its body
pub record BranchTyped (s : Setting) (kinds : List Kind) (vars : List TypeTree) (u : TypeTree) (a : Branch) : Type 0 where
  pub bound : List TypeTree
  pub binds : Binds s kinds u a.pattern bound
  pub type : TypeTree
  pub has : HasType s kinds (with_more bound vars) a.body type

pub branch_typed : (s : Setting) (kinds : List Kind) (vars bound : List TypeTree) (u v : TypeTree) (q : Pattern) (e : TermTree) (a : Branch) → Some (record { pattern = q; body = e }) ≡ Some a → Binds s kinds u q bound → HasType s kinds (with_more bound vars) e v → BranchTyped s kinds vars u a
branch_typed s kinds vars bound u v q e a at b d =
    let c : Branch = record { pattern = q; body = e } in
    let is : c ≡ a = cc in
    let it : BranchTyped s kinds vars u c = record { bound = bound; binds = b; type = v; has = d } in
    subst (BranchTyped s kinds vars u) is it

pub given_typed : {s : Setting} {kinds : List Kind} {vars : List TypeTree} {u t : TypeTree} {alts : Alts} → AllGive s kinds vars u t alts → (i : ℕ) (a : Branch) → branch_at alts i ≡ Some a → BranchTyped s kinds vars u a
given_typed none_give i a at = absurd cc
given_typed {s} {kinds} {vars} {u} (give_and {bound = bound} {v = v} {q = q} {e = e} b d x ds) zero a at = branch_typed s kinds vars bound u v q e a at b d
given_typed (give_and b d x ds) (suc i) a at = given_typed ds i a at

-- the body of an alternative, where the fields are those of another type of the scrutinee
branch_body_typed : (s : Setting) (kinds : List Kind) (vars bound : List TypeTree) (u v : TypeTree) (j : Kind) (a : Branch) → IsSound s → AreTermTypes s kinds vars → HasKind s kinds u j → SameTypes u v → Binds s kinds v a.pattern bound → BranchTyped s kinds vars u a → HasSomeType s kinds (with_more bound vars) a.body
branch_body_typed s kinds vars bound u v j a h g l x b it =
    let of =
    same_variables s kinds (with_more it.bound vars) (with_more bound vars) a.body it.type h (typed_more s kinds it.bound vars it.binds.typed g) (typed_more s kinds bound vars b.typed g)
    (same_more it.bound bound vars vars (one_binding it.binds b h j l x) (are_same_self vars)) it.has in
    (of.type, of.has)

case_typed : (s : Setting) (kinds : List Kind) (vars bound : List TypeTree) (e : TermTree) (u t : TypeTree) (alts : Alts) (a : Branch) (i : ℕ) → IsSound s → AreTermTypes s kinds vars → HasType s kinds vars (case_of e alts) t → branch_at alts i ≡ Some a → HasType s kinds vars e u → Binds s kinds u a.pattern bound → HasSomeType s kinds (with_more bound vars) a.body
case_typed s kinds vars bound e u t (alt q f more) a zero h g (h_case {bound = own} {u = v} {j = j} d looked l b c m allows o n) at d' b' =
    branch_body_typed s kinds vars bound v u j a h g l (one_type d d' h g g (are_same_self vars)) b' (branch_typed s kinds vars own v t q f a at b c)
case_typed s kinds vars bound e u t (alt q f more) a (suc i) h g (h_case {u = v} {j = j} d looked l b c m allows o n) at d' b' =
    branch_body_typed s kinds vars bound v u j a h g l (one_type d d' h g g (are_same_self vars)) b' (given_typed o i a at)
case_typed s kinds vars bound e u t no_alts a i h g d at d' b' = elim d [ ]

vector_typed : (s : Setting) (kinds : List Kind) (vars : List TypeTree) (t u : TypeTree) (es : Terms) (b : TermTree) (i : ℕ) → HasType s kinds vars (vec_lit t es) u → element_at es i ≡ Some b → HasSomeType s kinds vars b
vector_typed s kinds vars t u es b i (h_vec l ds) at = element_typed ds i b at

-- the scope of a place, and a type of what is there
abbrev pub PartTyped : Setting → List Kind → List TypeTree → TermTree → Type 0
PartTyped s ks vs x = AreTermTypes s ks vs × HasSomeType s ks vs x

pub part_typed : {s : Setting} {kinds ks : List Kind} {vars vs : List TypeTree} {e x : TermTree} {p : List ℕ} → Around s kinds vars e p ks vs x → IsSound s → AreTermTypes s kinds vars → (t : TypeTree) → HasType s kinds vars e t → PartTyped s ks vs x
part_typed here h g t d = (g, (t, d))
part_typed {s} {kinds} (in_lam {a = a} r) h g _ (h_lam {b = b} {k = k} d l) = part_typed r h (function_takes s kinds a b k l, g) b d
part_typed {s} {kinds} {vars = vars} (in_ty_lam {j = j} r) h g _ (h_ty_lam {t = t} d) = part_typed r h (typed_under s kinds j vars g) t d
part_typed (in_function r) h g t (h_app d c x) = part_typed r h g _ d
part_typed (in_argument r) h g t (h_app d c x) = part_typed r h g _ c
part_typed (in_ty_app r) h g t (h_ty_app d l x m) = part_typed r h g _ d
part_typed {s} {kinds} {vars = vars} (in_letrec {g = group} {e = e} {b = b} {i = i} at r) h g t (h_letrec d l bs) =
    let of = part_of_group_typed bs e t d i b at in
    part_typed r h (typed_more s kinds (declared group) vars (bound_typed bs) g) of.0 of.1
part_typed {s} {kinds} {vars = vars} (in_vector {t = u} {es = es} {e = e} {i = i} at r) h g t d =
    let of = vector_typed s kinds vars u t es e i d at in
    part_typed r h g of.0 of.1
part_typed (in_scrutinee r) h g t (h_case d looked l b c m allows o n) = part_typed r h g _ d
part_typed {s} {kinds} {vars = vars} (in_branch {bound = bound} {u = u} {e = e} {alts = alts} {a = a} {i = i} at c b r) h g t d =
    let of = case_typed s kinds vars bound e u t alts a i h g d at c b in
    part_typed r h (typed_more s kinds bound vars b.typed g) of.0 of.1
