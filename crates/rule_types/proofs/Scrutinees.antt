-- The parts of a typed case, the alternative that is taken, and a case with another scrutinee.
use Rattle.std.proofs.Common.{◌∙◌, ◌∷◌, ◌≡◌, List, [], arith, length, refl, subst, sym, ℕ}
use Rattle.chw_types.proofs.SameLaws.{same_self}
use Rattle.chw_types.proofs.TypeLaws.{same}
use Rattle.chw_types.specs.Arguments.{given}
use Rattle.chw_types.specs.Kinds.{HasFunctions}
use Rattle.chw_types.specs.SameTypes.{SameTypes}
use Rattle.chw_types.specs.TypeMoves.{lift_by, raised}
use Rattle.chw_types.specs.TypeTree.{TypeTree}
use Rattle.chw_types.specs.declared.kind.Kind.{Kind}
use Rattle.chw_terms.proofs.TermsPut.{sub_ids}
use Rattle.chw_terms.specs.TermMoves.{rename_alts}
use Rattle.chw_terms.specs.TermTree.{Alts, Group, TermTree, alt, binders, case_of, letrec, var}
use Rattle.chw_terms.specs.Unrolled.{named}
use Rattle.chw_terms.specs.declared.term.Pattern.{Pattern}
use Rattle.chw_typing.proofs.Patterns.{binds, binds_same, looked_at_same}
use Rattle.chw_typing.proofs.Renamed.{all_give_renamed, renames_more, type_renamed}
use Rattle.chw_typing.proofs.TermsPut.{kind_same, puts_same, term_put}
use Rattle.chw_typing.specs.Alternatives.{Hides}
use Rattle.chw_typing.specs.HeadTypes.{IsLookedAt}
use Rattle.chw_typing.specs.Programs.{IsSound}
use Rattle.chw_typing.specs.Scopes.{AreSame, AreTermTypes, HasKind, IsTermType, Setting, declared, with_more}
use Rattle.chw_typing.specs.Typing.{AllGive, AreBound, Binds, HasType, HasTypeUpTo, bound_and, give_and, h_case, h_letrec, none_bound}
use Rattle.chw_typing.proofs.GroupParts.{none_hidden_by, patterns_renamed}
use Rattle.chw_typing.specs.Paths.{Branch}
use Rattle.chw_typing.proofs.Applied.{functions_compose}
use Rattle.chw_typing.proofs.Given.{all_give_same}
use Rattle.rewriting.specs.Shapes.{IsTakenBy, by_first, by_later, shift_alts}
use Rattle.rule_types.proofs.Bodies.{renames_past}

-- what the type of a case says of its parts
pub record CaseTyped (s : Setting) (kinds : List Kind) (vars : List TypeTree) (e : TermTree) (alts : Alts) (t : TypeTree) : Type 0 where
  pub type : TypeTree
  pub has : HasType s kinds vars e type
  pub looked_at : IsLookedAt type
  pub kind : Kind
  pub has_kind : HasKind s kinds type kind
  pub result : Kind
  pub has_result : HasKind s kinds t result
  pub allows : HasFunctions kind result
  pub given_all : AllGive s kinds vars type t alts

pub case_typed : {s : Setting} {kinds : List Kind} {vars : List TypeTree} {e : TermTree} {alts : Alts} {t : TypeTree} → HasType s kinds vars (case_of e alts) t → CaseTyped s kinds vars e alts t
case_typed {t = t} (h_case {u = u} {j = j} {k = k} d look ku b df kt allow given hidden) =
    record { type = u; has = d; looked_at = look; kind = j; has_kind = ku; result = k; has_result = kt; allows = allow; given_all = give_and b df (same_self t) given }

-- what the type of a letrec says of its parts, in the scope of what it binds
pub record LetTyped (s : Setting) (kinds : List Kind) (inside : List TypeTree) (g : Group) (e : TermTree) (t : TypeTree) : Type 0 where
  pub kind : Kind
  pub has_kind : HasKind s kinds t kind
  pub sides : AreBound s kinds inside kind g
  pub body : HasType s kinds inside e t

pub let_parts : {s : Setting} {kinds : List Kind} {vars : List TypeTree} {g : Group} {e : TermTree} {t : TypeTree} → HasType s kinds vars (letrec g e) t → LetTyped s kinds (with_more (declared g) vars) g e t
let_parts (h_letrec {k = k} d l b) = record { kind = k; has_kind = l; sides = b; body = d }

pub let_of_parts : {s : Setting} {kinds : List Kind} {inside : List TypeTree} {g : Group} {e : TermTree} {t : TypeTree} → LetTyped s kinds inside g e t → (vars : List TypeTree) → inside ≡ with_more (declared g) vars → HasType s kinds vars (letrec g e) t
let_of_parts {s} {kinds} {g = g} {e = e} {t = t} p vars same =
    h_letrec (subst (λ sc. HasType s kinds sc e t) same p.body) p.has_kind (subst (λ sc. AreBound s kinds sc p.kind g) same p.sides)

-- what the types of alternatives say of one of them
pub record BranchTyped (s : Setting) (kinds : List Kind) (vars : List TypeTree) (u t : TypeTree) (b : Branch) : Type 0 where
  pub bound : List TypeTree
  pub binds : Binds s kinds u b.pattern bound
  pub has : HasTypeUpTo s kinds (with_more bound vars) b.body t

pub taken_typed : {s : Setting} {kinds : List Kind} {vars : List TypeTree} {u t : TypeTree} {p : Pattern} {alts : Alts} {b : Branch} → IsTakenBy p alts b → AllGive s kinds vars u t alts → BranchTyped s kinds vars u t b
taken_typed (by_first h) (give_and {bound = bound} {v = v} b d y ds) = record { bound = bound; binds = b; has = record { type = v; has = d; same = y } }
taken_typed (by_later n h) (give_and b d y ds) = taken_typed h ds

pub taken_hides : {p : Pattern} {alts : Alts} {b : Branch} → IsTakenBy p alts b → Hides b.pattern p
taken_hides (by_first h) = h
taken_hides (by_later n h) = taken_hides h

none_of : {X : Type 0} (xs : List X) → length xs ≡ 0 → xs ≡ []
none_of [] e = refl
none_of (x ∷ xs) e = absurd (omega (arith, e))

-- below a pattern without names
pub without_names : {s : Setting} {kinds : List Kind} {vars bound : List TypeTree} {u t : TypeTree} {q : Pattern} {e : TermTree} → Binds s kinds u q bound → binders q ≡ 0 → HasTypeUpTo s kinds (with_more bound vars) e t → HasTypeUpTo s kinds vars e t
without_names {s} {kinds} {vars} {bound} {t = t} {e = e} b none d =
    subst (λ ts. HasTypeUpTo s kinds (with_more ts vars) e t) (none_of bound (binds b ∙ none)) d

-- variables of types that are the same
pub same_scope : {s : Setting} {kinds : List Kind} {vars : List TypeTree} {e : TermTree} {t : TypeTree} → IsSound s → AreTermTypes s kinds vars → (vars' : List TypeTree) → AreTermTypes s kinds vars' → AreSame vars vars' → HasType s kinds vars e t → HasTypeUpTo s kinds vars' e t
same_scope {s} {kinds} {vars} {e} {t} h g vars' g' x d =
    subst (λ f. HasTypeUpTo s kinds vars' f t) (sub_ids e) (term_put d h g var vars' g' (puts_same s kinds vars vars' x))

-- what a kind allows is allowed by one that it allows
pub bound_allowed : {s : Setting} {kinds : List Kind} {vars : List TypeTree} {i : Kind} {g : Group} → AreBound s kinds vars i g → (k : Kind) → HasFunctions i k → AreBound s kinds vars k g
bound_allowed none_bound k f = none_bound
bound_allowed {i = i} (bound_and {j = j} l m d x b) k f = bound_and l (functions_compose j i k m f) d x (bound_allowed b k f)

-- a case below more binders, with a scrutinee there that has its type
pub case_moved : {s : Setting} {kinds : List Kind} {vars : List TypeTree} {e : TermTree} {alts : Alts} {t : TypeTree} → IsSound s → HasType s kinds vars (case_of e alts) t → (new : List TypeTree) (n : ℕ) → length new ≡ n → (e' : TermTree) (w : TypeTree) → HasType s kinds (with_more new vars) e' w → IsTermType s kinds w → ((u : TypeTree) → HasType s kinds vars e u → SameTypes u w) → HasType s kinds (with_more new vars) (case_of e' (shift_alts alts 0 n)) t
unfolding rename_alts
case_moved {s} {kinds} {vars} {t = t} h (h_case {bound = bound} {q = q} {more = more} {u = u} {f = f} {j = j} d look ku b df kt allow given hidden) new n l e' w d' named same =
    let ρ = raised 0 n in
    let past = renames_past new vars n l in
    let x = same u d in
    let first = type_renamed df (lift_by (binders q) ρ) (with_more bound (with_more new vars)) (renames_more bound (binders q) ρ vars (with_more new vars) (binds b) past) in
    h_case d' (looked_at_same u w look x) (kind_same s kinds u w j ku named x) (binds_same b h j w ku x) first kt allow
    (all_give_same (all_give_renamed given ρ (with_more new vars) past) h j ku x (same_self t))
    (none_hidden_by (alt q f more) (shift_alts (alt q f more) 0 n) (sym (patterns_renamed (alt q f more) ρ)) hidden)
