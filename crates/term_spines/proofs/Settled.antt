-- Types with their kinds, and those that another type with a kind is put for.
use Rattle.std.proofs.Common.{◌≡◌, Option, Some, None, refl, sym, ◌∙◌, subst, List}
use Rattle.std.specs.Prelude.{MatchOption}
use Rattle.chw_types.specs.declared.kind.Kind.{Kind}
use Rattle.chw_types.specs.TypeTree.{TypeTree}
use Rattle.chw_types.specs.KindFound.{kind_found}
use Rattle.chw_types.specs.Kinds.{IsOfTerms}
use Rattle.chw_types.proofs.KindsFound.{one_kind, found_is_kind}
use Rattle.chw_typing.specs.Scopes.{Setting, HasKind, IsTermType}
use Rattle.chw_typing.specs.Leaving.{HasEachKind}
use Rattle.chw_typing.specs.WithoutZeros.{without_zeros}
use Rattle.chw_typing.specs.Finding.{settled, settled_by}
use Rattle.term_spines.specs.Kinding.{LacksKind, LacksKindUpTo, IsWithKind, IsSettled}
use Rattle.seen_types.specs.declared.found.Found.{Found}

-- a type without a kind is written without zeros
settled_unkinded : (s : Setting) (kinds : List Kind) (t : TypeTree) → LacksKind s kinds t → settled s kinds t ≡ without_zeros t
settled_unkinded s kinds t never = at (kind_found s.datas s.domains kinds t) refl
  where
    at : (o : Option Kind) → kind_found s.datas s.domains kinds t ≡ o → settled_by o t ≡ without_zeros t
    at None e = refl
    at (Some k) e = absurd (never k (found_is_kind s.datas s.domains kinds t k e))

-- what is found of a type written without zeros is what is asked for of the type
pub settled_told : (s : Setting) (kinds : List Kind) (t less : TypeTree) (r : Option Found) → LacksKind s kinds t → less ≡ without_zeros t → HasEachKind t less → MatchOption r (LacksKind s kinds less) (λ f. IsWithKind s kinds less f) → MatchOption r (LacksKindUpTo s kinds t) (λ f. IsSettled s kinds t f)
settled_told s kinds t less (Some f) none is each w = (settled_unkinded s kinds t none ∙ sym is ∙ sym w.0, subst (λ u. HasKind s kinds u f.kind) (sym w.0) w.1)
settled_told s kinds t less None none is each never = λ u k of e d. never k (each s.datas s.domains kinds u k of e d)

-- terms have no types of another kind
pub of_others : (s : Setting) (kinds : List Kind) (t : TypeTree) (k : Kind) → HasKind s kinds t k → (IsOfTerms k → ⊥) → IsTermType s kinds t → ⊥
of_others s kinds t k d none h = none (subst IsOfTerms (one_kind h.has d) h.of_terms)

pub of_none : (s : Setting) (kinds : List Kind) (t : TypeTree) → LacksKind s kinds t → IsTermType s kinds t → ⊥
of_none s kinds t never h = never h.kind h.has
