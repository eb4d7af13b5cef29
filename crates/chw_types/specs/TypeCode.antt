-- How the logic stores a type: as a tree of numbers, which gives it back.
use Rattle.std.specs.Prelude.{◌≡◌, ℕ, suc, zero, refl}
use Rattle.std.proofs.Common.{sym, ap, ◌∙◌}
use Rattle.std.specs.Coded.{Coded}
use base.Stored.{Gv, gnil, gnum, gcons}
use Rattle.chw_types.specs.declared.kind.Kind.{Kind}
use Rattle.chw_types.specs.declared.kind.Kind.TheVariants.{Nat, Dom, Val, Cir}
use Rattle.chw_types.specs.declared.kind.Scalar.{Scalar}
use Rattle.chw_types.specs.declared.kind.Scalar.TheVariants.{U, S, B}
use Rattle.chw_types.specs.TypeTree.{TypeTree, ty_var, nat_lit, nat_sum, nat_product, domain, scalar, vector, data_of, fun, signal, for_all, TypeTrees, no_types, type_and}

abbrev pub kind_number : Kind → ℕ
kind_number Nat = 0
kind_number Dom = 1
kind_number Val = 2
kind_number Cir = 3

abbrev pub kind_at : ℕ → Kind
kind_at zero = Nat
kind_at (suc zero) = Dom
kind_at (suc (suc zero)) = Val
kind_at (suc (suc (suc n))) = Cir

abbrev pub scalar_number : Scalar → ℕ
scalar_number U = 0
scalar_number S = 1
scalar_number B = 2

abbrev pub scalar_at : ℕ → Scalar
scalar_at zero = U
scalar_at (suc zero) = S
scalar_at (suc (suc n)) = B

abbrev pub number_in : Gv → ℕ
number_in gnil = 0
number_in (gnum n) = n
number_in (gcons a b) = 0

-- a tag with two parts
abbrev pub node : ℕ → Gv → Gv → Gv
node n a b = gcons (gnum n) (gcons a b)

abbrev mutual
  pub tree_code : TypeTree → Gv
  tree_code (ty_var x) = node 0 (gnum x) gnil
  tree_code (nat_lit n) = node 1 (gnum n) gnil
  tree_code (nat_sum a b) = node 2 (tree_code a) (tree_code b)
  tree_code (nat_product a b) = node 3 (tree_code a) (tree_code b)
  tree_code (domain d) = node 4 (gnum d) gnil
  tree_code (scalar s w) = node 5 (gnum (scalar_number s)) (tree_code w)
  tree_code (vector n t) = node 6 (tree_code n) (tree_code t)
  tree_code (data_of d ts) = node 7 (gnum d) (trees_code ts)
  tree_code (fun a b) = node 8 (tree_code a) (tree_code b)
  tree_code (signal d t) = node 9 (tree_code d) (tree_code t)
  tree_code (for_all k t) = node 10 (gnum (kind_number k)) (tree_code t)

  pub trees_code : TypeTrees → Gv
  trees_code no_types = gnil
  trees_code (type_and t ts) = gcons (tree_code t) (trees_code ts)

-- the type with this tag, of what the parts give as a number, as types and as a list
abbrev pub tree_at : ℕ → (n : ℕ) (a b : TypeTree) (ts : TypeTrees) → TypeTree
tree_at zero n a b ts = ty_var n
tree_at (suc zero) n a b ts = nat_lit n
tree_at (suc (suc zero)) n a b ts = nat_sum a b
tree_at (suc (suc (suc zero))) n a b ts = nat_product a b
tree_at (suc (suc (suc (suc zero)))) n a b ts = domain n
tree_at (suc (suc (suc (suc (suc zero))))) n a b ts = scalar (scalar_at n) b
tree_at (suc (suc (suc (suc (suc (suc zero)))))) n a b ts = vector a b
tree_at (suc (suc (suc (suc (suc (suc (suc zero))))))) n a b ts = data_of n ts
tree_at (suc (suc (suc (suc (suc (suc (suc (suc zero)))))))) n a b ts = fun a b
tree_at (suc (suc (suc (suc (suc (suc (suc (suc (suc zero))))))))) n a b ts = signal a b
tree_at (suc (suc (suc (suc (suc (suc (suc (suc (suc (suc k)))))))))) n a b ts = for_all (kind_at n) b

abbrev mutual
  pub tree_back : Gv → TypeTree
  tree_back (gcons tag (gcons a b)) =
      tree_at (number_in tag) (number_in a) (tree_back a) (tree_back b) (trees_back b)
  tree_back _ = ty_var 0

  pub trees_back : Gv → TypeTrees
  trees_back (gcons a b) = type_and (tree_back a) (trees_back b)
  trees_back _ = no_types

pub kind_back : (k : Kind) → kind_at (kind_number k) ≡ k
kind_back Nat = refl
kind_back Dom = refl
kind_back Val = refl
kind_back Cir = refl

pub scalar_back : (s : Scalar) → scalar_at (scalar_number s) ≡ s
scalar_back U = refl
scalar_back S = refl
scalar_back B = refl

mutual
  pub tree_same : (t : TypeTree) → tree_back (tree_code t) ≡ t
  tree_same (ty_var x) = refl
  tree_same (nat_lit n) = refl
  tree_same (nat_sum a b) = λ i. nat_sum (tree_same a i) (tree_same b i)
  tree_same (nat_product a b) = λ i. nat_product (tree_same a i) (tree_same b i)
  tree_same (domain d) = refl
  tree_same (scalar s w) = λ i. scalar (scalar_back s i) (tree_same w i)
  tree_same (vector n t) = λ i. vector (tree_same n i) (tree_same t i)
  tree_same (data_of d ts) = ap (data_of d) (trees_same ts)
  tree_same (fun a b) = λ i. fun (tree_same a i) (tree_same b i)
  tree_same (signal d t) = λ i. signal (tree_same d i) (tree_same t i)
  tree_same (for_all k t) = λ i. for_all (kind_back k i) (tree_same t i)

  pub trees_same : (ts : TypeTrees) → trees_back (trees_code ts) ≡ ts
  trees_same no_types = refl
  trees_same (type_and t ts) = λ i. type_and (tree_same t i) (trees_same ts i)

abbrev pub coded_tree : Coded TypeTree
coded_tree = record { code = tree_code; inj = λ x y p. sym (tree_same x) ∙ (ap tree_back p ∙ tree_same y) }
