-- A settled type is the same up to naturals, and has each kind of terms that a type has which is the same.
use Rattle.std.proofs.Common.{◌≡◌, refl, ap, subst, List, [], ◌∷◌, map}
use Rattle.std.specs.Prelude.{Option, Some, None}
use Rattle.chw_types.specs.declared.kind.Kind.{Kind}
use Rattle.chw_types.specs.TypeTree.{TypeTree}
use Rattle.chw_types.specs.TypeMoves.{put}
use Rattle.chw_types.specs.KindFound.{kind_found}
use Rattle.chw_types.specs.SameTypes.{SameTypes}
use Rattle.chw_types.proofs.KindsFound.{found_is_kind, kind_is_found}
use Rattle.chw_types.proofs.KindsKept.{kind_put, puts_put, closed_small}
use Rattle.chw_types.proofs.SameLaws.{same_self}
use Rattle.type_laws.specs.KindsKept.{AreOfTerms}
use Rattle.type_laws.proofs.OneKind.{same_kind}
use Rattle.chw_typing.proofs.KindsLeft.{kind_left, same_left}
use Rattle.chw_typing.specs.Scopes.{Setting, HasKind, AreTermTypes, AreSame}
use Rattle.chw_typing.specs.Finding.{settled_by, settled}

same_settled_by : (o : Option Kind) (t : TypeTree) → SameTypes t (settled_by o t)
same_settled_by (Some k) t = same_self t
same_settled_by None t = same_left t

pub same_settled : (s : Setting) (kinds : List Kind) (t : TypeTree) → SameTypes t (settled s kinds t)
same_settled s kinds t = same_settled_by (kind_found s.datas s.domains kinds t) t

-- the types and what they are settled to
pub all_same_settled : (s : Setting) (kinds : List Kind) (ts : List TypeTree) → AreSame ts (map (λ a. settled s kinds a) ts)
all_same_settled s kinds [] = tt
all_same_settled s kinds (t ∷ ts) = (same_settled s kinds t, all_same_settled s kinds ts)

-- what has a kind stays
pub settled_kinded : (s : Setting) (kinds : List Kind) (t : TypeTree) (k : Kind) → HasKind s kinds t k → settled s kinds t ≡ t
settled_kinded s kinds t k d = ap (λ o. settled_by o t) (kind_is_found d)

kind_settled_by : (s : Setting) (kinds : List Kind) (o : Option Kind) (t u : TypeTree) (k : Kind) → kind_found s.datas s.domains kinds t ≡ o → AreOfTerms s.datas → SameTypes t u → HasKind s kinds u k → HasKind s kinds (settled_by o t) k
kind_settled_by s kinds (Some j) t u k e of x d =
    let it : HasKind s kinds t j = found_is_kind s.datas s.domains kinds t j e in
    subst (HasKind s kinds t) (same_kind x it d) it
kind_settled_by s kinds None t u k e of x d = kind_left x of d

pub kind_settled : (s : Setting) (kinds : List Kind) (t u : TypeTree) (k : Kind) → AreOfTerms s.datas → SameTypes t u → HasKind s kinds u k → HasKind s kinds (settled s kinds t) k
kind_settled s kinds t u k of x d = kind_settled_by s kinds (kind_found s.datas s.domains kinds t) t u k refl of x d

-- what is the same as types of terms settles to types of terms
pub all_settled_typed : (s : Setting) (kinds : List Kind) (ts us : List TypeTree) → AreOfTerms s.datas → AreSame ts us → AreTermTypes s kinds us → AreTermTypes s kinds (map (λ a. settled s kinds a) ts)
all_settled_typed s kinds [] us of h g = tt
all_settled_typed s kinds (t ∷ ts) (u ∷ us) of h g =
    (record { kind = g.0.kind; has = kind_settled s kinds t u g.0.kind of h.0 g.0.has; of_terms = g.0.of_terms }, all_settled_typed s kinds ts us of h.1 g.1)
all_settled_typed s kinds (t ∷ ts) [] of h g = absurd h

-- a closed type keeps the kind
pub closed_settles : (s : Setting) (j k : Kind) (t a : TypeTree) → HasKind s (j ∷ []) t k → HasKind s [] a j → settled s [] (put t 0 a) ≡ put t 0 a
closed_settles s j k t a d e = settled_kinded s [] (put t 0 a) k (kind_put d _ [] (puts_put s.datas s.domains [] [] a j e (closed_small e)))
