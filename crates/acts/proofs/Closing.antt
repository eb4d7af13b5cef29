-- Types in scope, with the closed types of an environment put for their variables.
use Rattle.std.proofs.Common.{◌≡◌, ◌≤◌, ◌⊎◌, inl, inr, ℕ, suc, zero, true, List, [], ◌∷◌, length, refl, ap, ◌∙◌, subst, arith}
use Rattle.chw_types.specs.declared.kind.Kind.{Kind}
use Rattle.chw_types.specs.declared.kind.Kind.TheVariants.{Nat}
use Rattle.chw_types.specs.TypeTree.{TypeTree, for_all, TypeTrees, no_types, type_and}
use Rattle.chw_types.specs.TypeMoves.{raised, shift, up, sub, up_by, one, put_at, put}
use Rattle.chw_types.specs.Kinds.{degree}
use Rattle.chw_types.specs.Polynomials.{is_natural}
use Rattle.chw_types.specs.SameTypes.{SameTypes}
use Rattle.chw_types.proofs.KindsKept.{Puts, kind_put, closed_small}
use Rattle.chw_types.proofs.SameLaws.{same_self, same_turned, same_through}
use Rattle.chw_types.proofs.TypeLaws.{same as same_function, rename_sub, sub_sub, sub_ids}
use Rattle.chw_terms.specs.declared.program.Program.{Program}
use Rattle.chw_terms.specs.Evaluated.{evaluated}
use Rattle.type_laws.specs.KindsKept.{AreOfTerms}
use Rattle.type_laws.specs.Standing.{InSums}
use Rattle.type_laws.proofs.KindsExact.{put_at_kinds}
use Rattle.type_laws.proofs.OneKind.{nat_natural, sums_kind}
use Rattle.type_laws.proofs.PutSame.{same_put}
use Rattle.type_laws.proofs.Slots.{sum_slot}
use Rattle.chw_typing.specs.Scopes.{HasKind}
use Rattle.chw_typing.specs.Programs.{IsSound, setting_of}
use Rattle.chw_typing.proofs.EvaluatedTypes.{same_evaluated, kind_evaluated}
use Rattle.chw_typing.proofs.Kinded.{bound_part}
use Rattle.chw_typing.proofs.OneType.{put_same_of_kinds}
use Rattle.chw_typing.proofs.Patterns.{are_of_terms}
use Rattle.chw_typing.proofs.PutAgreeing.{closed_put, put_into}
use Rattle.chw_typing.proofs.PutKinds.{sums_put}
use Rattle.chw_meaning.specs.Values.{type_at, closed_type}
use Rattle.acts.specs.Terms.{Kinded}
use Rattle.acts.proofs.SameActs.{Same, put_kind}

-- for each variable a closed type of its kind
pub puts_closed : (p : Program) (kinds : List Kind) (δ : TypeTrees) → Kinded p kinds δ → Puts p.datas (length p.domains) (type_at δ) kinds []
puts_closed p [] δ h x k e = absurd (cc)
puts_closed p (j ∷ kinds) no_types h x k e = absurd h
puts_closed p (j ∷ kinds) (type_and c δ) h zero k e = let is : j ≡ k = cc in subst (λ k. HasKind (setting_of p) [] c k × (degree c ≤ 1)) is (h.0, closed_small h.0)
puts_closed p (j ∷ kinds) (type_and c δ) h (suc x) k e = puts_closed p kinds δ h.2 x k e

pub closed_kind : (p : Program) {kinds : List Kind} (δ : TypeTrees) {t : TypeTree} {k : Kind} → Kinded p kinds δ → HasKind (setting_of p) kinds t k → HasKind (setting_of p) [] (closed_type t δ) k
closed_kind p {kinds} δ h d = kind_put d (type_at δ) [] (puts_closed p kinds δ h)

-- types that are the same, closed
pub closed_same : (p : Program) → IsSound (setting_of p) → {kinds : List Kind} (δ : TypeTrees) {t u : TypeTree} {j k : Kind} → Kinded p kinds δ → HasKind (setting_of p) kinds t j → HasKind (setting_of p) kinds u k → SameTypes t u → Same p (closed_type t δ) (closed_type u δ)
closed_same p sound {kinds} δ {t} {u} {j = j} {k = k} h d e x =
    record { first = j; second = k; has_first = closed_kind p δ h d; has_second = closed_kind p δ h e; same = same_put x (type_at δ) (type_at δ) (λ y. same_self (type_at δ y)) natural }
  where
    natural : (y : ℕ) → InSums t y ⊎ InSums u y → is_natural (type_at δ y) ≡ true
    natural y z = nat_natural (are_of_terms (setting_of p) sound) (puts_closed p kinds δ h y Nat (sum_slot d e y z)).0 refl

-- a closed type stays as it is
pub closed_stays : (p : Program) {t : TypeTree} {k : Kind} (δ : TypeTrees) → HasKind (setting_of p) [] t k → closed_type t δ ≡ t
closed_stays p δ d = closed_put d (type_at δ)

-- a type seen from under a type binder
pub closed_shift : (t c : TypeTree) (δ : TypeTrees) → closed_type (shift t 0 1) (type_and c δ) ≡ closed_type t δ
closed_shift t c δ = rename_sub t (raised 0 1) (type_at (type_and c δ)) ∙ ap (λ ρ. sub t (λ x. type_at (type_and c δ) (ρ x))) one_more
  where
    more : (x : ℕ) → raised 0 1 x ≡ suc x
    more x = omega arith

    one_more : raised 0 1 ≡ (λ x. suc x)
    one_more = same_function (raised 0 1) (λ x. suc x) more

-- the body of a bound type, opened at a closed type
pub opens_as : (t c : TypeTree) (δ : TypeTrees) → put (sub t (up (type_at δ))) 0 c ≡ closed_type t (type_and c δ)
unfolding put_at up_by up sub
opens_as t c δ = sub_sub t (up (type_at δ)) (one c) ∙ ap (sub t) (same_function (λ x. sub (up (type_at δ) x) (one c)) (type_at (type_and c δ)) here)
  where
    here : (x : ℕ) → sub (up (type_at δ) x) (one c) ≡ type_at (type_and c δ) x
    here zero = refl
    here (suc x) = rename_sub (type_at δ x) suc (one c) ∙ sub_ids (type_at δ x)

-- the closed body of a bound type at the evaluated argument, and the closed type of the application
pub put_closes : (p : Program) → IsSound (setting_of p) → {kinds : List Kind} (δ : TypeTrees) {t a u : TypeTree} {i j k : Kind} → Kinded p kinds δ → HasKind (setting_of p) kinds (for_all j t) i → HasKind (setting_of p) kinds a j → HasKind (setting_of p) kinds u k → SameTypes (put t 0 a) u → Same p (put (sub t (up (type_at δ))) 0 (evaluated (closed_type a δ))) (closed_type u δ)
unfolding sub
put_closes p sound {kinds} δ {t} {a} {u} {i} {j} {k} h f l m x =
    record { first = i; second = k; has_first = put_kind p body arg; has_second = closed_kind p δ h m; same = same_through at_once (subst (λ z. SameTypes z (closed_type u δ)) (put_into t a (type_at δ)) closed) }
  where
    of_terms : AreOfTerms p.datas
    of_terms = are_of_terms (setting_of p) sound

    body : HasKind (setting_of p) (j ∷ []) (sub t (up (type_at δ))) i
    body = (bound_part (closed_kind p δ {t = for_all j t} h f)).0

    closed_arg : HasKind (setting_of p) [] (closed_type a δ) j
    closed_arg = closed_kind p δ h l

    arg : HasKind (setting_of p) [] (evaluated (closed_type a δ)) j
    arg = kind_evaluated closed_arg

    at_once : SameTypes (put (sub t (up (type_at δ))) 0 (evaluated (closed_type a δ))) (put (sub t (up (type_at δ))) 0 (closed_type a δ))
    at_once = put_same_of_kinds j of_terms body body arg (same_self (sub t (up (type_at δ)))) (same_turned (same_evaluated (closed_type a δ)))

    natural : (y : ℕ) → InSums (put t 0 a) y ⊎ InSums u y → is_natural (type_at δ y) ≡ true
    natural y (inl z) = nat_natural of_terms (puts_closed p kinds δ h y Nat (sums_put (bound_part f).0 (put_at 0 a) kinds (put_at_kinds p.datas (length p.domains) [] kinds a j l) y z)).0 refl
    natural y (inr z) = nat_natural of_terms (puts_closed p kinds δ h y Nat (sums_kind m y z)).0 refl

    closed : SameTypes (sub (put t 0 a) (type_at δ)) (closed_type u δ)
    closed = same_put x (type_at δ) (type_at δ) (λ y. same_self (type_at δ y)) natural
