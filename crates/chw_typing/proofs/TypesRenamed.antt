-- Types are kept where type variables are renamed, and where a closed type is put.
use Rattle.std.proofs.Common.{◌≡◌, refl, sym, subst, List, [], ◌∷◌, ◌++◌, map, length, arith}
use Rattle.chw_types.specs.declared.kind.Kind.{Kind}
use Rattle.chw_types.specs.TypeTree.{TypeTree, ty_var}
use Rattle.chw_types.specs.TypeMoves.{Renaming, rename, sub, put_at, put}
use Rattle.chw_types.specs.Kinds.{kind_var}
use Rattle.chw_types.proofs.KindsKept.{puts_put, closed_anywhere, closed_small}
use Rattle.chw_terms.specs.TermTree.{TermTree}
use Rattle.chw_terms.specs.TypesMoved.{rename_types, sub_types, put_types}
use Rattle.chw_terms.proofs.TypesPut.{types_is_sub}
use Rattle.type_laws.proofs.PutSame.{renamed_is}
use Rattle.chw_typing.specs.Scopes.{Setting, HasKind, AreTermTypes}
use Rattle.chw_typing.specs.Programs.{IsSound}
use Rattle.chw_typing.specs.Typing.{HasType}
use Rattle.chw_typing.specs.Laws.{RenamesKinds, PutsTypes}
use Rattle.chw_typing.proofs.TypesPut.{type_put, all_put_typed}

all_renamed_is : (ts : List TypeTree) (ρ : Renaming) → map (λ t. rename t ρ) ts ≡ map (λ t. sub t (λ x. ty_var (ρ x))) ts
all_renamed_is [] ρ = refl
all_renamed_is (t ∷ ts) ρ = λ i. renamed_is t ρ i ∷ all_renamed_is ts ρ i

puts_variables : (s : Setting) (ρ : Renaming) (kinds kinds' : List Kind) → RenamesKinds ρ kinds kinds' → PutsTypes s (λ x. ty_var (ρ x)) kinds kinds'
puts_variables s ρ kinds kinds' h x k e = (kind_var (h x k e), omega arith)

pub types_renamed : {s : Setting} {kinds : List Kind} {vars : List TypeTree} {e : TermTree} {t : TypeTree} → HasType s kinds vars e t → IsSound s → AreTermTypes s kinds vars → (ρ : Renaming) (kinds' : List Kind) → RenamesKinds ρ kinds kinds' → HasType s kinds' (map (λ u. rename u ρ) vars) (rename_types e ρ) (rename t ρ)
types_renamed {s} {kinds} {vars} {e} {t} d h g ρ kinds' p =
    subst (λ us. HasType s kinds' us (rename_types e ρ) (rename t ρ)) (sym (all_renamed_is vars ρ))
    (subst (λ f. HasType s kinds' (map (λ u. sub u (λ x. ty_var (ρ x))) vars) f (rename t ρ)) (sym (types_is_sub e ρ))
    (subst (HasType s kinds' (map (λ u. sub u (λ x. ty_var (ρ x))) vars) (sub_types e (λ x. ty_var (ρ x)))) (sym (renamed_is t ρ))
    (type_put d h g (λ x. ty_var (ρ x)) kinds' (puts_variables s ρ kinds kinds' p))))

pub closed_type_put : {s : Setting} (inner outer : List Kind) {vars : List TypeTree} {e : TermTree} {t : TypeTree} (a : TypeTree) (j : Kind) → HasType s (inner ++ j ∷ outer) vars e t → IsSound s → AreTermTypes s (inner ++ j ∷ outer) vars → HasKind s [] a j → HasType s (inner ++ outer) (map (λ u. put u (length inner) a) vars) (put_types e (length inner) a) (put t (length inner) a)
closed_type_put {s} inner outer a j d h g k =
    type_put d h g (put_at (length inner) a) (inner ++ outer) (puts_put s.datas s.domains inner outer a j (closed_anywhere k outer) (closed_small k))

pub closed_put_typed : (s : Setting) (inner outer : List Kind) (vars : List TypeTree) (a : TypeTree) (j : Kind) → AreTermTypes s (inner ++ j ∷ outer) vars → HasKind s [] a j → AreTermTypes s (inner ++ outer) (map (λ u. put u (length inner) a) vars)
closed_put_typed s inner outer vars a j g k =
    all_put_typed s (put_at (length inner) a) (inner ++ j ∷ outer) (inner ++ outer) vars (puts_put s.datas s.domains inner outer a j (closed_anywhere k outer) (closed_small k)) g
