-- Kinds are kept by putting exactly where the degrees fit.
use Rattle.std.proofs.Common.{◌≡◌, ℕ, suc, zero, refl, subst, List, [], ◌∷◌, ◌++◌, length}
use Rattle.std.specs.Prelude.{Some}
use Rattle.std.specs.List.{slice_get}
use Rattle.chw_types.specs.declared.kind.Kind.{Kind}
use Rattle.chw_types.specs.declared.declarations.Data.{Data}
use Rattle.chw_types.specs.TypeTree.{TypeTree, TypeTrees}
use Rattle.chw_types.specs.TypeMoves.{Substitution, up, up_by, sub, sub_all, one, put_at}
use Rattle.chw_types.specs.Kinds.{KindOf, kind_var, kind_nat, kind_sum, kind_product, kind_domain, kind_scalar, kind_vector, kind_data, kind_fun, kind_signal, kind_for_all, KindsOf, no_kinds, kind_and}
use Rattle.chw_types.proofs.KindsKept.{kind_renamed}
use Rattle.type_laws.specs.DegreesFit.{DegreesFit, AllDegreesFit}

mutual
  pub kind_fits : {datas : List Data} {domains : ℕ} {scope : List Kind} {t : TypeTree} {k : Kind} → KindOf datas domains scope t k → DegreesFit t
  kind_fits (kind_var e) = tt
  kind_fits kind_nat = tt
  kind_fits (kind_sum d e small) = (small, kind_fits d, kind_fits e)
  kind_fits (kind_product d e small) = (small, kind_fits d, kind_fits e)
  kind_fits (kind_domain l) = tt
  kind_fits (kind_scalar d) = kind_fits d
  kind_fits (kind_vector d e o) = (kind_fits d, kind_fits e)
  kind_fits (kind_data e ds) = kinds_fit ds
  kind_fits (kind_fun d e o) = (kind_fits d, kind_fits e)
  kind_fits (kind_signal d e) = (kind_fits d, kind_fits e)
  kind_fits (kind_for_all d o) = kind_fits d

  pub kinds_fit : {datas : List Data} {domains : ℕ} {scope : List Kind} {ts : TypeTrees} {ks : List Kind} → KindsOf datas domains scope ts ks → AllDegreesFit ts
  kinds_fit no_kinds = tt
  kinds_fit (kind_and d ds) = (kind_fits d, kinds_fit ds)

-- each variable has a type of its kind put for it
abbrev pub PutsKinds : List Data → ℕ → Substitution → List Kind → List Kind → Type 0
PutsKinds datas domains σ scope scope' = (x : ℕ) (k : Kind) → slice_get scope x ≡ Some k → KindOf datas domains scope' (σ x) k

-- so under a binder
pub kinds_under : (datas : List Data) (domains : ℕ) (σ : Substitution) (scope scope' : List Kind) (j : Kind) → PutsKinds datas domains σ scope scope' → PutsKinds datas domains (up σ) (j ∷ scope) (j ∷ scope')
unfolding up
kinds_under datas domains σ scope scope' j h zero k e = kind_var e
kinds_under datas domains σ scope scope' j h (suc x) k e = kind_renamed (h x k e) suc (j ∷ scope') (λ y i f. f)

mutual
  unfolding sub

  pub kind_if_fits : {datas : List Data} {domains : ℕ} {scope : List Kind} {t : TypeTree} {k : Kind} → KindOf datas domains scope t k → (σ : Substitution) (scope' : List Kind) → PutsKinds datas domains σ scope scope' → DegreesFit (sub t σ) → KindOf datas domains scope' (sub t σ) k
  kind_if_fits (kind_var {x = x} {k = k} e) σ scope' h f = h x k e
  kind_if_fits kind_nat σ scope' h f = kind_nat
  kind_if_fits (kind_sum d e small) σ scope' h f = kind_sum (kind_if_fits d σ scope' h f.1) (kind_if_fits e σ scope' h f.2) f.0
  kind_if_fits (kind_product d e small) σ scope' h f = kind_product (kind_if_fits d σ scope' h f.1) (kind_if_fits e σ scope' h f.2) f.0
  kind_if_fits (kind_domain l) σ scope' h f = kind_domain l
  kind_if_fits (kind_scalar d) σ scope' h f = kind_scalar (kind_if_fits d σ scope' h f)
  kind_if_fits (kind_vector d e o) σ scope' h f = kind_vector (kind_if_fits d σ scope' h f.0) (kind_if_fits e σ scope' h f.1) o
  kind_if_fits (kind_data e ds) σ scope' h f = kind_data e (kinds_if_fit ds σ scope' h f)
  kind_if_fits (kind_fun d e o) σ scope' h f = kind_fun (kind_if_fits d σ scope' h f.0) (kind_if_fits e σ scope' h f.1) o
  kind_if_fits (kind_signal d e) σ scope' h f = kind_signal (kind_if_fits d σ scope' h f.0) (kind_if_fits e σ scope' h f.1)
  kind_if_fits {datas} {domains} (kind_for_all {scope = scope} {j = j} d o) σ scope' h f =
      kind_for_all (kind_if_fits d (up σ) (j ∷ scope') (kinds_under datas domains σ scope scope' j h) f) o

  pub kinds_if_fit : {datas : List Data} {domains : ℕ} {scope : List Kind} {ts : TypeTrees} {ks : List Kind} → KindsOf datas domains scope ts ks → (σ : Substitution) (scope' : List Kind) → PutsKinds datas domains σ scope scope' → AllDegreesFit (sub_all ts σ) → KindsOf datas domains scope' (sub_all ts σ) ks
  kinds_if_fit no_kinds σ scope' h f = no_kinds
  kinds_if_fit (kind_and d ds) σ scope' h f = kind_and (kind_if_fits d σ scope' h f.0) (kinds_if_fit ds σ scope' h f.1)

one_kind_put : (datas : List Data) (domains : ℕ) (outer : List Kind) (a : TypeTree) (j : Kind) → KindOf datas domains outer a j → PutsKinds datas domains (one a) (j ∷ outer) outer
one_kind_put datas domains outer a j d zero k e = let is : j ≡ k = cc in subst (KindOf datas domains outer a) is d
one_kind_put datas domains outer a j d (suc x) k e = kind_var e

pub put_at_kinds : (datas : List Data) (domains : ℕ) (inner outer : List Kind) (a : TypeTree) (j : Kind) → KindOf datas domains outer a j → PutsKinds datas domains (put_at (length inner) a) (inner ++ j ∷ outer) (inner ++ outer)
unfolding put_at up_by
put_at_kinds datas domains [] outer a j d = one_kind_put datas domains outer a j d
put_at_kinds datas domains (i ∷ inner) outer a j d = kinds_under datas domains (put_at (length inner) a) (inner ++ j ∷ outer) (inner ++ outer) i (put_at_kinds datas domains inner outer a j d)

-- the variable that is put for
pub slot_at : (inner outer : List Kind) (j : Kind) → slice_get (inner ++ j ∷ outer) (length inner) ≡ Some j
slot_at [] outer j = refl
slot_at (i ∷ inner) outer j = slot_at inner outer j
