-- The right sides of circuits that copy wires, by their heads.
use Rattle.std.proofs.Common.{◌≡◌, ℕ, ◌<◌, arith, List, [], ◌∷◌, ◌++◌, map, Some, refl, sym, ap, ◌∙◌, subst}
use Rattle.chw_base.specs.declared.index.ConId.{ConId}
use Rattle.chw_types.specs.declared.declarations.Data.{Data}
use Rattle.chw_types.specs.TypeTree.{TypeTree}
use Rattle.chw_prims.specs.declared.prim.Primitive.{Primitive as Prim}
use Rattle.chw_prims.specs.declared.prim.Primitive.TheVariants.{UnsafeSynchronizer}
use Rattle.chw_terms.specs.Constructors.{Constructor, con_at}
use Rattle.chw_terms.specs.declared.term.Pattern.TheVariants.{OfCon}
use Rattle.chw_terms.specs.TermTree.{TermTree, var, made, app, ty_app, con, prim, case_of, no_alts, alt}
use Rattle.chw_terms.specs.TermView.{applied}
use Rattle.chw_typing.specs.Given.{types_then}
use Rattle.rewriting.specs.Origins.{Origins}
use Rattle.normal_forms.specs.Circuits.{IsCircuitSide, of_variable, of_register, of_block_ram, of_synchronizer, of_pure, of_lifted, of_call, of_constructor, of_projection, IsLiftedCall, lifted_on_one, lifted_on_more}
use Rattle.normal_forms.specs.Values.{on_names}
use Rattle.net_built.specs.Terms.{head_of, types_of, operands_of}

-- the variables of these numbers
abbrev pub names : List ℕ → List TermTree
names xs = map (λ x. var x) xs

pub head_then : (f : TermTree) (types : List TypeTree) (es : List TermTree) → head_of (applied f (types_then types es)) ≡ head_of f
head_then f [] [] = refl
head_then f [] (e ∷ es) = head_then (app f e) [] es
head_then f (t ∷ types) es = head_then (ty_app f t) types es

no_end : {A : Type 0} (xs : List A) (x : A) → xs ++ x ∷ [] ≡ [] → ⊥
no_end [] x e = absurd cc
no_end (y ∷ xs) x e = absurd cc

-- a head that is given nothing is the whole
pub alone : (e : TermTree) → types_of e ≡ [] → operands_of e ≡ [] → e ≡ head_of e
alone (app f a) k l = absurd (no_end (operands_of f) a l)
alone (ty_app f t) k l = absurd (no_end (types_of f) t k)
alone _ k l = refl

-- no head of a right side that copies wires
abbrev IsOther : TermTree → Type 0
IsOther (var x) = ⊥
IsOther (con c) = ⊥
IsOther (case_of e alts) = ⊥
IsOther (prim p) = p ≡ UnsafeSynchronizer → ⊥
IsOther _ = Unit {0}

-- a right side that copies wires, or another one
data Shape (datas : List Data) : TermTree → Type 0 where
  a_variable : {x : ℕ} → Shape datas (var x)
  a_crossing : {d b a : TypeTree} {x : ℕ} → Shape datas (on_names (prim UnsafeSynchronizer) (d ∷ b ∷ a ∷ []) (x ∷ []))
  a_product : {e : TermTree} {it : Constructor} (c : ℕ) (types : List TypeTree) (xs : List ℕ) → con_at datas c ≡ Some it → e ≡ on_names (con c) types xs → Shape datas e
  a_projection : {x n z : ℕ} {c : ConId} → z < n → Shape datas (case_of (var x) (alt (OfCon c n) (var z) no_alts))
  another : {e : TermTree} → IsOther (head_of e) → Shape datas e

lifted_other : {m n : ℕ} {e : TermTree} → IsLiftedCall m e n → IsOther (head_of e)
lifted_other lifted_on_one = λ e. cc
lifted_other (lifted_on_more more) = λ e. cc

shape_of : {o : Origins} {e : TermTree} → IsCircuitSide o e → Shape o.program.datas e
shape_of of_variable = a_variable
shape_of (of_register k) = another (λ e. cc)
shape_of (of_block_ram k h) = another (λ e. cc)
shape_of of_synchronizer = a_crossing
shape_of (of_pure k) = another (λ e. cc)
shape_of (of_lifted m is v lifted) = another (lifted_other lifted)
shape_of (of_call m xs is v n) = another (subst IsOther (sym (head_then (made m) [] (names xs))) tt)
shape_of (of_constructor c types xs known n) = a_product c types xs known refl
shape_of (of_projection l) = a_projection l

-- a product
pub record Product (datas : List Data) (e : TermTree) : Type 0 where
  pub c : ℕ
  pub types : List TypeTree
  pub xs : List ℕ
  pub it : Constructor
  pub known : con_at datas c ≡ Some it
  pub is : e ≡ on_names (con c) types xs

product_shape : {datas : List Data} {e : TermTree} → Shape datas e → (c : ℕ) → head_of e ≡ con c → Product datas e
product_shape a_variable c h = absurd cc
product_shape a_crossing c h = absurd cc
product_shape (a_product {it = it} d types xs known is) c h = record { c = d; types = types; xs = xs; it = it; known = known; is = is }
product_shape (a_projection l) c h = absurd cc
product_shape (another other) c h = absurd (subst IsOther h other)

pub product_of : {o : Origins} {e : TermTree} → IsCircuitSide o e → (c : ℕ) → head_of e ≡ con c → Product o.program.datas e
product_of side c h = product_shape (shape_of side) c h

-- a signal that crosses into another domain
pub record Crossing (e : TermTree) : Type 0 where
  pub d : TypeTree
  pub b : TypeTree
  pub a : TypeTree
  pub x : ℕ
  pub is : e ≡ on_names (prim UnsafeSynchronizer) (d ∷ b ∷ a ∷ []) (x ∷ [])

crossing_shape : {datas : List Data} {e : TermTree} → Shape datas e → head_of e ≡ prim UnsafeSynchronizer → Crossing e
crossing_shape a_variable h = absurd cc
crossing_shape (a_crossing {d = d} {b = b} {a = a} {x = x}) h = record { d = d; b = b; a = a; x = x; is = refl }
crossing_shape (a_product c types xs known is) h =
    let k : con c ≡ prim UnsafeSynchronizer = sym (ap (λ e. head_of e) is ∙ head_then (con c) types (names xs)) ∙ h in absurd cc
crossing_shape (a_projection l) h = absurd cc
crossing_shape (another other) h = absurd (subst IsOther h other refl)

pub crossing_of : {o : Origins} {e : TermTree} → IsCircuitSide o e → head_of e ≡ prim UnsafeSynchronizer → Crossing e
crossing_of side h = crossing_shape (shape_of side) h

projection_shape : {datas : List Data} {e : TermTree} → Shape datas e → (x n z : ℕ) (c : ConId) → e ≡ case_of (var x) (alt (OfCon c n) (var z) no_alts) → z < n
projection_shape a_variable x n z c h = absurd cc
projection_shape a_crossing x n z c h = absurd cc
projection_shape (a_product d types xs known is) x n z c h =
    let k : con d ≡ case_of (var x) (alt (OfCon c n) (var z) no_alts) = sym (ap (λ e. head_of e) is ∙ head_then (con d) types (names xs)) ∙ ap (λ e. head_of e) h in absurd cc
projection_shape (a_projection {n = m} {z = y} l) x n z c h =
    let count : m ≡ n = cc in
    let place : y ≡ z = cc in
    omega (arith, l, count, place)
projection_shape (another other) x n z c h = absurd (subst IsOther (ap (λ e. head_of e) h) other)

pub projection_of : {o : Origins} {e : TermTree} → IsCircuitSide o e → (x n z : ℕ) (c : ConId) → e ≡ case_of (var x) (alt (OfCon c n) (var z) no_alts) → z < n
projection_of side x n z c h = projection_shape (shape_of side) x n z c h
