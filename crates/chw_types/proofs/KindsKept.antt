-- Kinds are kept by renaming and by putting.
use Rattle.std.proofs.Common.{◌≡◌, ℕ, suc, zero, ◌+◌, ◌≤◌, refl, sym, ap, ◌∙◌, subst, List, [], ◌∷◌, ◌++◌, length, max, arith}
use Rattle.std.specs.Prelude.{Some}
use Rattle.std.specs.List.{slice_get}
use Rattle.chw_types.specs.declared.kind.Kind.{Kind}
use Rattle.chw_types.specs.declared.kind.Kind.TheVariants.{Nat}
use Rattle.chw_types.specs.declared.declarations.Data.{Data}
use Rattle.chw_types.specs.TypeTree.{TypeTree, ty_var, nat_lit, nat_sum, nat_product, domain, scalar, vector, data_of, fun, signal, for_all, TypeTrees}
use Rattle.chw_types.specs.TypeMoves.{Renaming, lift, rename, rename_all, Substitution, up, up_by, sub, sub_all, raised, one, put_at}
use Rattle.chw_types.proofs.TypeLaws.{rename_ids}
use Rattle.chw_types.specs.Kinds.{degree, KindOf, kind_var, kind_nat, kind_sum, kind_product, kind_domain, kind_scalar, kind_vector, kind_data, kind_fun, kind_signal, kind_for_all, KindsOf, no_kinds, kind_and}

pub degree_renamed : (t : TypeTree) (ρ : Renaming) → degree (rename t ρ) ≡ degree t
unfolding rename
degree_renamed (ty_var x) ρ = refl
degree_renamed (nat_sum a b) ρ = λ i. max (degree_renamed a ρ i) (degree_renamed b ρ i)
degree_renamed (nat_product a b) ρ = λ i. degree_renamed a ρ i + degree_renamed b ρ i
degree_renamed (nat_lit n) ρ = refl
degree_renamed (domain d) ρ = refl
degree_renamed (scalar s w) ρ = refl
degree_renamed (vector n t) ρ = refl
degree_renamed (data_of d ts) ρ = refl
degree_renamed (fun a b) ρ = refl
degree_renamed (signal d t) ρ = refl
degree_renamed (for_all k t) ρ = refl

-- each variable goes to one of its kind
abbrev pub Renames : Renaming → List Kind → List Kind → Type 0
Renames ρ scope scope' = (x : ℕ) (k : Kind) → slice_get scope x ≡ Some k → slice_get scope' (ρ x) ≡ Some k

renames_under : (ρ : Renaming) (scope scope' : List Kind) (j : Kind) → Renames ρ scope scope' → Renames (lift ρ) (j ∷ scope) (j ∷ scope')
renames_under ρ scope scope' j h zero k e = e
renames_under ρ scope scope' j h (suc x) k e = h x k e

mutual
  unfolding rename

  pub kind_renamed : {datas : List Data} {domains : ℕ} {scope : List Kind} {t : TypeTree} {k : Kind} → KindOf datas domains scope t k → (ρ : Renaming) (scope' : List Kind) → Renames ρ scope scope' → KindOf datas domains scope' (rename t ρ) k
  kind_renamed (kind_var {x = x} {k = k} e) ρ scope' h = kind_var (h x k e)
  kind_renamed kind_nat ρ scope' h = kind_nat
  kind_renamed (kind_sum {a = a} {b = b} d e small) ρ scope' h =
      kind_sum (kind_renamed d ρ scope' h) (kind_renamed e ρ scope' h) (subst (λ n. n ≤ 4) (sym (degree_renamed (nat_sum a b) ρ)) small)
  kind_renamed (kind_product {a = a} {b = b} d e small) ρ scope' h =
      kind_product (kind_renamed d ρ scope' h) (kind_renamed e ρ scope' h) (subst (λ n. n ≤ 4) (sym (degree_renamed (nat_product a b) ρ)) small)
  kind_renamed (kind_domain l) ρ scope' h = kind_domain l
  kind_renamed (kind_scalar d) ρ scope' h = kind_scalar (kind_renamed d ρ scope' h)
  kind_renamed (kind_vector d e o) ρ scope' h = kind_vector (kind_renamed d ρ scope' h) (kind_renamed e ρ scope' h) o
  kind_renamed (kind_data e ds) ρ scope' h = kind_data e (kinds_renamed ds ρ scope' h)
  kind_renamed (kind_fun d e o) ρ scope' h = kind_fun (kind_renamed d ρ scope' h) (kind_renamed e ρ scope' h) o
  kind_renamed (kind_signal d e) ρ scope' h = kind_signal (kind_renamed d ρ scope' h) (kind_renamed e ρ scope' h)
  kind_renamed (kind_for_all {scope = scope} {j = j} d o) ρ scope' h = kind_for_all (kind_renamed d (lift ρ) (j ∷ scope') (renames_under ρ scope scope' j h)) o

  pub kinds_renamed : {datas : List Data} {domains : ℕ} {scope : List Kind} {ts : TypeTrees} {ks : List Kind} → KindsOf datas domains scope ts ks → (ρ : Renaming) (scope' : List Kind) → Renames ρ scope scope' → KindsOf datas domains scope' (rename_all ts ρ) ks
  kinds_renamed no_kinds ρ scope' h = no_kinds
  kinds_renamed (kind_and d ds) ρ scope' h = kind_and (kind_renamed d ρ scope' h) (kinds_renamed ds ρ scope' h)

-- each variable has a type of its kind put for it, of degree at most 1
abbrev pub Puts : List Data → ℕ → Substitution → List Kind → List Kind → Type 0
Puts datas domains σ scope scope' =
    (x : ℕ) (k : Kind) → slice_get scope x ≡ Some k → KindOf datas domains scope' (σ x) k × (degree (σ x) ≤ 1)

puts_under : (datas : List Data) (domains : ℕ) (σ : Substitution) (scope scope' : List Kind) (j : Kind) → Puts datas domains σ scope scope' → Puts datas domains (up σ) (j ∷ scope) (j ∷ scope')
unfolding up
puts_under datas domains σ scope scope' j h zero k e = (kind_var e, omega arith)
puts_under datas domains σ scope scope' j h (suc x) k e =
    let at = h x k e in
    (kind_renamed at.0 suc (j ∷ scope') (λ y i f. f), subst (λ n. n ≤ 1) (sym (degree_renamed (σ x) suc)) at.1)

-- a natural's degree doesn't rise
degree_put : {datas : List Data} {domains : ℕ} {scope : List Kind} {t : TypeTree} {k : Kind} → KindOf datas domains scope t k → k ≡ Nat → (σ : Substitution) (scope' : List Kind) → Puts datas domains σ scope scope' → degree (sub t σ) ≤ degree t
unfolding sub
degree_put (kind_var {x = x} {k = k} e) is σ scope' h = (h x k e).1
degree_put kind_nat is σ scope' h = omega arith
degree_put (kind_sum d e small) is σ scope' h = let l = degree_put d refl σ scope' h in let r = degree_put e refl σ scope' h in omega arith
degree_put (kind_product d e small) is σ scope' h = let l = degree_put d refl σ scope' h in let r = degree_put e refl σ scope' h in omega arith
degree_put (kind_domain l) is σ scope' h = omega arith
degree_put (kind_scalar d) is σ scope' h = omega arith
degree_put (kind_vector d e o) is σ scope' h = omega arith
degree_put (kind_data e ds) is σ scope' h = omega arith
degree_put (kind_fun d e o) is σ scope' h = omega arith
degree_put (kind_signal d e) is σ scope' h = omega arith
degree_put (kind_for_all d o) is σ scope' h = omega arith

mutual
  unfolding sub

  pub kind_put : {datas : List Data} {domains : ℕ} {scope : List Kind} {t : TypeTree} {k : Kind} → KindOf datas domains scope t k → (σ : Substitution) (scope' : List Kind) → Puts datas domains σ scope scope' → KindOf datas domains scope' (sub t σ) k
  kind_put (kind_var {x = x} {k = k} e) σ scope' h = (h x k e).0
  kind_put kind_nat σ scope' h = kind_nat
  kind_put (kind_sum {a = a} {b = b} d e small) σ scope' h =
      let l = degree_put d refl σ scope' h in
      let r = degree_put e refl σ scope' h in
      kind_sum (kind_put d σ scope' h) (kind_put e σ scope' h) (omega arith)
  kind_put (kind_product {a = a} {b = b} d e small) σ scope' h =
      let l = degree_put d refl σ scope' h in
      let r = degree_put e refl σ scope' h in
      kind_product (kind_put d σ scope' h) (kind_put e σ scope' h) (omega arith)
  kind_put (kind_domain l) σ scope' h = kind_domain l
  kind_put (kind_scalar d) σ scope' h = kind_scalar (kind_put d σ scope' h)
  kind_put (kind_vector d e o) σ scope' h = kind_vector (kind_put d σ scope' h) (kind_put e σ scope' h) o
  kind_put (kind_data e ds) σ scope' h = kind_data e (kinds_put ds σ scope' h)
  kind_put (kind_fun d e o) σ scope' h = kind_fun (kind_put d σ scope' h) (kind_put e σ scope' h) o
  kind_put (kind_signal d e) σ scope' h = kind_signal (kind_put d σ scope' h) (kind_put e σ scope' h)
  kind_put {datas} {domains} (kind_for_all {scope = scope} {j = j} d o) σ scope' h = kind_for_all (kind_put d (up σ) (j ∷ scope') (puts_under datas domains σ scope scope' j h)) o

  pub kinds_put : {datas : List Data} {domains : ℕ} {scope : List Kind} {ts : TypeTrees} {ks : List Kind} → KindsOf datas domains scope ts ks → (σ : Substitution) (scope' : List Kind) → Puts datas domains σ scope scope' → KindsOf datas domains scope' (sub_all ts σ) ks
  kinds_put no_kinds σ scope' h = no_kinds
  kinds_put (kind_and d ds) σ scope' h = kind_and (kind_put d σ scope' h) (kinds_put ds σ scope' h)

renames_outside : (new outer : List Kind) → Renames (raised 0 (length new)) outer (new ++ outer)
renames_outside [] outer x k e = subst (λ y. slice_get outer y ≡ Some k) (plus x) e
  where
    plus : (x : ℕ) → x ≡ x + 0
    plus x = omega arith
renames_outside (j ∷ new) outer x k e = subst (λ y. slice_get (j ∷ new ++ outer) y ≡ Some k) (plus x) (renames_outside new outer x k e)
  where
    plus : (x : ℕ) → suc (x + length new) ≡ x + suc (length new)
    plus x = omega arith

-- what a shift makes room for
pub renames_shift : (inner new outer : List Kind) → Renames (raised (length inner) (length new)) (inner ++ outer) (inner ++ new ++ outer)
renames_shift [] new outer = renames_outside new outer
renames_shift (j ∷ inner) new outer = renames_under (raised (length inner) (length new)) (inner ++ outer) (inner ++ new ++ outer) j (renames_shift inner new outer)

puts_one : (datas : List Data) (domains : ℕ) (outer : List Kind) (a : TypeTree) (j : Kind) → KindOf datas domains outer a j → degree a ≤ 1 → Puts datas domains (one a) (j ∷ outer) outer
puts_one datas domains outer a j d small zero k e = let is : j ≡ k = cc in (subst (KindOf datas domains outer a) is d, small)
puts_one datas domains outer a j d small (suc x) k e = (kind_var e, omega arith)

-- what a putting takes away
pub puts_put : (datas : List Data) (domains : ℕ) (inner outer : List Kind) (a : TypeTree) (j : Kind) → KindOf datas domains outer a j → degree a ≤ 1 → Puts datas domains (put_at (length inner) a) (inner ++ j ∷ outer) (inner ++ outer)
unfolding put_at up_by
puts_put datas domains [] outer a j d small = puts_one datas domains outer a j d small
puts_put datas domains (i ∷ inner) outer a j d small = puts_under datas domains (put_at (length inner) a) (inner ++ j ∷ outer) (inner ++ outer) i (puts_put datas domains inner outer a j d small)

-- a closed type has no variable, and so degree 0
closed_degree : {datas : List Data} {domains : ℕ} {scope : List Kind} {t : TypeTree} {k : Kind} → KindOf datas domains scope t k → scope ≡ [] → degree t ≤ 0
closed_degree (kind_var {x = x} {k = k} e) is = absurd (let f = ap (λ s. slice_get s x) (sym is) ∙ e in cc)
closed_degree kind_nat is = omega arith
closed_degree (kind_sum d e small) is = let l = closed_degree d is in let r = closed_degree e is in omega arith
closed_degree (kind_product d e small) is = let l = closed_degree d is in let r = closed_degree e is in omega arith
closed_degree (kind_domain l) is = omega arith
closed_degree (kind_scalar d) is = omega arith
closed_degree (kind_vector d e o) is = omega arith
closed_degree (kind_data e ds) is = omega arith
closed_degree (kind_fun d e o) is = omega arith
closed_degree (kind_signal d e) is = omega arith
closed_degree (kind_for_all d o) is = omega arith

renames_none : (scope : List Kind) → Renames (λ x. x) [] scope
renames_none scope x k e = absurd (cc)

-- a closed type has its kind in every scope
pub closed_anywhere : {datas : List Data} {domains : ℕ} {t : TypeTree} {k : Kind} → KindOf datas domains [] t k → (scope : List Kind) → KindOf datas domains scope t k
closed_anywhere {datas} {domains} {t = t} {k = k} d scope = subst (λ u. KindOf datas domains scope u k) (rename_ids t) (kind_renamed d (λ x. x) scope (renames_none scope))

pub closed_small : {datas : List Data} {domains : ℕ} {t : TypeTree} {k : Kind} → KindOf datas domains [] t k → degree t ≤ 1
closed_small d = let l = closed_degree d refl in omega arith
