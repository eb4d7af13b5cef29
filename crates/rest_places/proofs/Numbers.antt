-- Closed naturals are numbers.
use Rattle.std.proofs.Common.{◌≡◌, ◌∙◌, refl, subst, ℕ, ◌+◌, ◌*◌, List, [], ◌∷◌, reverse, Some}
use Rattle.std.specs.List.{slice_get}
use Rattle.chw_types.specs.declared.kind.Kind.{Kind}
use Rattle.chw_types.specs.declared.kind.Kind.TheVariants.{Nat}
use Rattle.chw_types.specs.declared.declarations.Data.{Data}
use Rattle.chw_types.specs.Arguments.{arguments}
use Rattle.chw_types.specs.Kinds.{IsOfTerms, KindOf, kind_var, kind_nat, kind_sum, kind_product, kind_domain, kind_scalar, kind_vector, kind_data, kind_fun, kind_signal, kind_for_all, KindsOf, no_kinds, kind_and}
use Rattle.chw_types.specs.Polynomials.{ended}
use Rattle.chw_types.specs.TypeMoves.{Substitution, sub}
use Rattle.chw_types.specs.TypeTree.{TypeTree, nat_lit, ty_var}
use Rattle.chw_types.proofs.TypeLaws.{sub_ids}
use Rattle.chw_types.specs.TypeView.{trees_of}
use Rattle.type_laws.specs.KindsKept.{AreOfTerms}
use Rattle.type_laws.proofs.Arguing.{kinds_of_arguments}
use Rattle.chw_terms.specs.Evaluated.{evaluated, added, multiplied_by}
use Rattle.chw_typing.specs.Programs.{IsSound}
use Rattle.chw_typing.specs.Scopes.{Setting, HasKind}
use Rattle.chw_typing.proofs.Heads.{functions_of_terms}
use Rattle.chw_typing.proofs.Patterns.{are_of_terms}

abbrev pub IsSomeNumber : TypeTree → Type 0
IsSomeNumber t = (k : ℕ) × (evaluated t ≡ nat_lit k)

-- a natural, where numbers are put for its variables
number_put : {datas : List Data} {domains : ℕ} {scope : List Kind} {t : TypeTree} {k : Kind} → AreOfTerms datas → KindOf datas domains scope t k → k ≡ Nat → (σ : Substitution) → ((x : ℕ) → slice_get scope x ≡ Some Nat → IsSomeNumber (σ x)) → IsSomeNumber (sub t σ)
unfolding sub evaluated
number_put {scope = scope} h (kind_var {x = x} e) is σ put = put x (e ∙ (λ i. Some (is i)))
number_put h (kind_nat {n = n}) is σ put = (n, refl)
number_put h (kind_sum d e l) is σ put =
    let a = number_put h d refl σ put in
    let b = number_put h e refl σ put in
    (ended (a.0 + b.0), λ i. added (a.1 i) (b.1 i))
number_put h (kind_product d e l) is σ put =
    let a = number_put h d refl σ put in
    let b = number_put h e refl σ put in
    (ended (a.0 * b.0), λ i. multiplied_by (a.1 i) (b.1 i))
number_put h (kind_domain l) is σ put = absurd cc
number_put h (kind_scalar d) is σ put = absurd cc
number_put h (kind_vector d e o) is σ put = absurd (subst IsOfTerms is o)
number_put h (kind_data {d = d} {it = it} e ds) is σ put = absurd (subst IsOfTerms is (h d it e))
number_put h (kind_fun {j = j} {k = k} d e f) is σ put = absurd (subst IsOfTerms is (functions_of_terms j k f).1)
number_put h (kind_signal d e) is σ put = absurd cc
number_put h (kind_for_all d o) is σ put = absurd (subst IsOfTerms is o)

pub closed_is_number : (s : Setting) (n : TypeTree) → IsSound s → HasKind s [] n Nat → IsSomeNumber n
closed_is_number s n h d = subst IsSomeNumber (sub_ids n) (number_put (are_of_terms s h) d refl ty_var (λ x q. absurd cc))

pub put_is_number : (s : Setting) (ks : List Kind) (n : TypeTree) (types : List TypeTree) → IsSound s → HasKind s (reverse ks) n Nat → KindsOf s.datas s.domains [] (trees_of types) ks → IsSomeNumber (sub n (arguments (trees_of types)))
put_is_number s ks n types h d kinds =
    number_put (are_of_terms s h) d refl (arguments (trees_of types))
    (λ x q. closed_is_number s (arguments (trees_of types) x) h (kinds_of_arguments s.datas s.domains [] ks (trees_of types) kinds x Nat q))

-- types with their kinds
pub data Listed (s : Setting) : List TypeTree → List Kind → Type 0 where
  listed_none : Listed s [] []
  listed_and : {t : TypeTree} {ts : List TypeTree} {k : Kind} {ks : List Kind} → HasKind s [] t k → Listed s ts ks → Listed s (t ∷ ts) (k ∷ ks)

pub listed : {s : Setting} {ks : List Kind} (types : List TypeTree) → KindsOf s.datas s.domains [] (trees_of types) ks → Listed s types ks
listed [] no_kinds = listed_none
listed (t ∷ types) (kind_and d ds) = listed_and d (listed types ds)
