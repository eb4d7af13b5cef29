-- What types are found over, and that a term has one type.
use Rattle.std.proofs.Common.{◌≡◌, sym, subst, List, [], ◌∷◌, ◌++◌, reverse}
use Rattle.chw_types.specs.declared.kind.Kind.{Kind}
use Rattle.chw_types.specs.TypeTree.{TypeTree}
use Rattle.chw_types.specs.Kinds.{IsOfTerms}
use Rattle.chw_types.specs.SameTypes.{SameTypes}
use Rattle.chw_types.proofs.KindsFound.{one_kind}
use Rattle.chw_terms.specs.TermTree.{TermTree, var}
use Rattle.chw_terms.proofs.TermsPut.{sub_ids}
use Rattle.chw_typing.specs.Scopes.{Setting, HasKind, IsTermType, AreTermTypes, AreSame, under_binder, with_more}
use Rattle.chw_typing.specs.Typing.{HasType, HasTypeUpTo}
use Rattle.chw_typing.proofs.Kinded.{type_kinded, typed_under, typed_more}
use Rattle.chw_typing.proofs.OneType.{one_type}
use Rattle.chw_typing.proofs.SameScopes.{are_same_self}
use Rattle.chw_typing.proofs.TermsPut.{term_put, puts_same}
use Rattle.term_types.specs.Answers.{HasNoType, IsTyped, IsReady}
use Rattle.term_spines.specs.Kinding.{LacksKind}
use Rattle.seen_types.specs.declared.found.Found.{Found}
use Rattle.chw_typing.proofs.FoundTyped.{found_is_type}
use Rattle.term_spines.proofs.Waiting.{reverse_last}

pub one : {s : Setting} {kinds : List Kind} {vars : List TypeTree} {e : TermTree} {t u : TypeTree} → IsReady s kinds vars → HasType s kinds vars e t → HasType s kinds vars e u → SameTypes t u
one {vars = vars} h d g = one_type d g h.0 h.1 h.1 (are_same_self vars)

pub kinded : {s : Setting} {kinds : List Kind} {vars : List TypeTree} {e : TermTree} {t : TypeTree} → IsReady s kinds vars → HasType s kinds vars e t → IsTermType s kinds t
kinded h d = type_kinded d h.0 h.1

-- the kind of a term's type is one of terms
pub of_terms : {s : Setting} {kinds : List Kind} {vars : List TypeTree} {e : TermTree} (f : Found) → IsReady s kinds vars → IsTyped s kinds vars e f → IsOfTerms f.kind
of_terms f h d = let at = kinded h (found_is_type d.0) in subst IsOfTerms (one_kind at.has d.1) at.of_terms

-- under one more type binder
pub ready_under : (s : Setting) (kinds : List Kind) (vars : List TypeTree) (k : Kind) → IsReady s kinds vars → IsReady s (k ∷ kinds) (under_binder vars)
ready_under s kinds vars k h = (h.0, typed_under s kinds k vars h.1)

-- with more variables
pub ready_more : (s : Setting) (kinds : List Kind) (vars new : List TypeTree) → IsReady s kinds vars → AreTermTypes s kinds new → IsReady s kinds (with_more new vars)
ready_more s kinds vars new h g = (h.0, typed_more s kinds new vars g h.1)

-- the kinds with one more at the end
pub inner_kinds : (kinds inner : List Kind) (k : Kind) → inner ≡ kinds ++ k ∷ [] → reverse inner ≡ k ∷ reverse kinds
inner_kinds kinds inner k e = sym (reverse_last kinds inner k e)

-- a term of whose type no kind is found has no type
pub without_kind : {s : Setting} {kinds : List Kind} {vars : List TypeTree} {e : TermTree} (t : TypeTree) → IsReady s kinds vars → ((u : TypeTree) → HasType s kinds vars e u → u ≡ t) → LacksKind s kinds t → HasNoType s kinds vars e
without_kind {s} {kinds} t h is never u d = let at = kinded h d in never at.kind (subst (λ w. HasKind s kinds w at.kind) (is u d) at.has)

-- a type is kept up to naturals where the variables' types are the same
pub kept : {s : Setting} {kinds : List Kind} {vars vars' : List TypeTree} {e : TermTree} {t : TypeTree} → IsReady s kinds vars → IsReady s kinds vars' → AreSame vars vars' → HasType s kinds vars e t → HasTypeUpTo s kinds vars' e t
kept {s} {kinds} {vars} {vars'} {e} {t} h g q d = subst (λ f. HasTypeUpTo s kinds vars' f t) (sub_ids e) (term_put d h.0 h.1 var vars' g.1 (puts_same s kinds vars vars' q))
