-- What is put for the variables in scope decides; and a closed type stays as it is.
use Rattle.std.proofs.Common.{◌≡◌, ℕ, suc, zero, refl, sym, ap, ◌∙◌, List, [], ◌∷◌, map, length, reverse, arith}
use Rattle.std.specs.Prelude.{Some}
use Rattle.std.specs.List.{slice_get}
use Rattle.std.proofs.lemmas.List.{length-reverse}
use Rattle.chw_types.specs.declared.kind.Kind.{Kind}
use Rattle.chw_types.specs.declared.declarations.Data.{Data}
use Rattle.chw_types.specs.TypeTree.{TypeTree, ty_var, nat_sum, nat_product, scalar, vector, data_of, fun, signal, for_all, TypeTrees, no_types, type_and}
use Rattle.chw_types.specs.TypeMoves.{rename, raised, shift, Substitution, up, sub, sub_all, up_by, one, put_at, put}
use Rattle.chw_types.specs.Arguments.{list_of, given, arguments}
use Rattle.chw_types.specs.Kinds.{KindOf, kind_var, kind_nat, kind_sum, kind_product, kind_domain, kind_scalar, kind_vector, kind_data, kind_fun, kind_signal, kind_for_all, KindsOf, no_kinds, kind_and}
use Rattle.chw_types.proofs.TypeLaws.{same, rename_sub, sub_rename, sub_sub, sub_ids}
use Rattle.chw_typing.proofs.Lists.{found_beside, map_reverse}

-- the same is put for each variable in scope
abbrev pub Agree : List Kind → Substitution → Substitution → Type 0
Agree scope σ τ = (x : ℕ) (k : Kind) → slice_get scope x ≡ Some k → σ x ≡ τ x

agree_under : (scope : List Kind) (j : Kind) (σ τ : Substitution) → Agree scope σ τ → Agree (j ∷ scope) (up σ) (up τ)
unfolding up
agree_under scope j σ τ h zero k e = refl
agree_under scope j σ τ h (suc x) k e = ap (λ t. rename t suc) (h x k e)

mutual
  unfolding sub

  pub put_agreeing : {datas : List Data} {domains : ℕ} {scope : List Kind} {t : TypeTree} {k : Kind} → KindOf datas domains scope t k → (σ τ : Substitution) → Agree scope σ τ → sub t σ ≡ sub t τ
  put_agreeing (kind_var {x = x} {k = k} e) σ τ h = h x k e
  put_agreeing kind_nat σ τ h = refl
  put_agreeing (kind_sum d e small) σ τ h = λ i. nat_sum (put_agreeing d σ τ h i) (put_agreeing e σ τ h i)
  put_agreeing (kind_product d e small) σ τ h = λ i. nat_product (put_agreeing d σ τ h i) (put_agreeing e σ τ h i)
  put_agreeing (kind_domain l) σ τ h = refl
  put_agreeing (kind_scalar {s = s} d) σ τ h = ap (scalar s) (put_agreeing d σ τ h)
  put_agreeing (kind_vector d e o) σ τ h = λ i. vector (put_agreeing d σ τ h i) (put_agreeing e σ τ h i)
  put_agreeing (kind_data {d = d} e ds) σ τ h = ap (data_of d) (put_all_agreeing ds σ τ h)
  put_agreeing (kind_fun d e o) σ τ h = λ i. fun (put_agreeing d σ τ h i) (put_agreeing e σ τ h i)
  put_agreeing (kind_signal d e) σ τ h = λ i. signal (put_agreeing d σ τ h i) (put_agreeing e σ τ h i)
  put_agreeing (kind_for_all {scope = scope} {j = j} d o) σ τ h = ap (for_all j) (put_agreeing d (up σ) (up τ) (agree_under scope j σ τ h))

  pub put_all_agreeing : {datas : List Data} {domains : ℕ} {scope : List Kind} {ts : TypeTrees} {ks : List Kind} → KindsOf datas domains scope ts ks → (σ τ : Substitution) → Agree scope σ τ → sub_all ts σ ≡ sub_all ts τ
  put_all_agreeing no_kinds σ τ h = refl
  put_all_agreeing (kind_and d ds) σ τ h = λ i. type_and (put_agreeing d σ τ h i) (put_all_agreeing ds σ τ h i)

pub closed_put : {datas : List Data} {domains : ℕ} {t : TypeTree} {k : Kind} → KindOf datas domains [] t k → (σ : Substitution) → sub t σ ≡ t
closed_put {t = t} d σ = put_agreeing d σ ty_var (λ x k e. absurd (cc)) ∙ sub_ids t

-- a shift goes through a putting
pub put_shifted : (t : TypeTree) (σ : Substitution) → shift (sub t σ) 0 1 ≡ sub (shift t 0 1) (up σ)
unfolding up
put_shifted t σ =
    sub_rename t σ (raised 0 1)
    ∙ ap (sub t) (same (λ x. rename (σ x) (raised 0 1)) (λ x. up σ (raised 0 1 x)) (λ x. here x))
    ∙ sym (rename_sub t (raised 0 1) (up σ))
  where
    more : (x : ℕ) → raised 0 1 x ≡ suc x
    more x = omega arith

    one_more : raised 0 1 ≡ (λ x. suc x)
    one_more = same (raised 0 1) (λ x. suc x) more

    here : (x : ℕ) → rename (σ x) (raised 0 1) ≡ up σ (raised 0 1 x)
    here x = ap (rename (σ x)) one_more ∙ ap (λ ρ. up σ (ρ x)) (sym one_more)

-- a putting goes into what is put for the innermost variable
pub put_into : (t a : TypeTree) (σ : Substitution) → sub (put t 0 a) σ ≡ put (sub t (up σ)) 0 (sub a σ)
unfolding put_at up_by up sub
put_into t a σ = sub_sub t (one a) σ ∙ ap (sub t) (same (λ x. sub (one a x) σ) (λ x. sub (up σ x) (one (sub a σ))) here) ∙ sym (sub_sub t (up σ) (one (sub a σ)))
  where
    here : (x : ℕ) → sub (one a x) σ ≡ sub (up σ x) (one (sub a σ))
    here zero = refl
    here (suc x) = sym (rename_sub (σ x) suc (one (sub a σ)) ∙ sub_ids (σ x))

list_of_put : (ts : TypeTrees) (σ : Substitution) → list_of (sub_all ts σ) ≡ map (λ t. sub t σ) (list_of ts)
unfolding sub
list_of_put no_types σ = refl
list_of_put (type_and t ts) σ = ap (λ us. sub t σ ∷ us) (list_of_put ts σ)

given_put : (ts : List TypeTree) (σ : Substitution) (x : ℕ) (t : TypeTree) → slice_get ts x ≡ Some t → given (map (λ u. sub u σ) ts) x ≡ sub (given ts x) σ
given_put [] σ x t e = absurd (cc)
given_put (u ∷ ts) σ zero t e = refl
given_put (u ∷ ts) σ (suc x) t e = given_put ts σ x t e

pub kinds_length : {datas : List Data} {domains : ℕ} {scope : List Kind} {ts : TypeTrees} {ks : List Kind} → KindsOf datas domains scope ts ks → length (list_of ts) ≡ length ks
kinds_length no_kinds = refl
kinds_length (kind_and d ds) = ap suc (kinds_length ds)

-- a putting goes into the arguments of a data type, in a field of it
pub field_put : {datas : List Data} {domains : ℕ} {scope params : List Kind} {f : TypeTree} {k : Kind} {ts : TypeTrees} → KindOf datas domains (reverse params) f k → KindsOf datas domains scope ts params → (σ : Substitution) → sub (sub f (arguments ts)) σ ≡ sub f (arguments (sub_all ts σ))
field_put {params = params} {f = f} {ts = ts} d ds σ = sub_sub f (arguments ts) σ ∙ put_agreeing d (λ x. sub (arguments ts x) σ) (arguments (sub_all ts σ)) here
  where
    turned : reverse (list_of (sub_all ts σ)) ≡ map (λ t. sub t σ) (reverse (list_of ts))
    turned = ap reverse (list_of_put ts σ) ∙ sym (map_reverse (λ t. sub t σ) (list_of ts))

    here : Agree (reverse params) (λ x. sub (arguments ts x) σ) (arguments (sub_all ts σ))
    here x k e =
        let at = found_beside (reverse (list_of ts)) (reverse params) x k (length-reverse (list_of ts) ∙ kinds_length ds ∙ sym (length-reverse params)) e in
        sym (ap (λ us. given us x) turned ∙ given_put (reverse (list_of ts)) σ x at.0 at.1)
