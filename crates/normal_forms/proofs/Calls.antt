-- In a body in normal form made definitions stand only where they are called.
use Rattle.std.proofs.Common.{◌≡◌, ℕ, suc, zero, refl, sym, ◌∙◌, ap, subst, List, [], ◌∷◌, ◌++◌, map, length, replicate, Some}
use Rattle.std.specs.List.{slice_get, AllByRecursion}
use Rattle.std.specs.Prelude.{option_map}
use Rattle.std.proofs.lemmas.List.{append-nil}
use Rattle.chw_types.specs.declared.declarations.Data.{Data}
use Rattle.chw_types.specs.TypeTree.{TypeTree}
use Rattle.chw_prims.specs.declared.prim.Primitive.TheVariants.{Fmap, Ap, Pure, Register, BlockRam, UnsafeSynchronizer}
use Rattle.chw_terms.specs.declared.scene.Sort.{Sort}
use Rattle.chw_terms.specs.declared.scene.Sort.TheVariants.{Value, Circuit}
use Rattle.chw_terms.specs.declared.term.Arg.TheVariants.{OfTerm}
use Rattle.chw_terms.specs.TermTree.{TermTree, var, made, lam, app, ty_app, letrec, con, prim, lit, vec_lit, case_of, Group, no_bindings, bind, Alts, no_alts, alt}
use Rattle.chw_terms.specs.TermView.{applied, terms_of}
use Rattle.chw_typing.specs.Given.{types_then}
use Rattle.chw_typing.specs.Paths.{child, element_at, part_of_group, branch_at, part_at}
use Rattle.chw_typing.proofs.PathParts.{way_to, part_below}
use Rattle.rewriting.specs.Named.{UnderLambdas, under_none, under_one}
use Rattle.rewriting.specs.Origins.{MadeOf, Origins}
use Rattle.rewriting.specs.Spots.{asked_for}
use Rattle.rewriting.specs.Shapes.{IsMade, fmap_of}
use Rattle.normal_forms.specs.Calls.{IsCalled, as_head, as_function, HoldsOnlyCalls}
use Rattle.normal_forms.specs.Circuits.{IsConstant, constant_literal, constant_constructor, constant_vector, AreConstants, no_constants, constant_and, IsLiftedCall, lifted_on_one, lifted_on_more}
use Rattle.normal_forms.specs.Circuits.{IsCircuitSide, of_variable, of_register, of_block_ram, of_synchronizer, of_pure, of_lifted, of_call, of_constructor, of_projection}
use Rattle.normal_forms.specs.Circuits.{AreCircuitSides, no_circuit_sides, circuit_side_and, IsCircuitBody, circuit_variable, circuit_letrec}
use Rattle.normal_forms.specs.Normal.{HasForm, IsNormalBody}
use Rattle.normal_forms.specs.Values.{on_names, IsBlock, block_variable, block_letrec, AreSides, no_sides, side_and, AreBlocks, no_blocks, block_and}
use Rattle.normal_forms.specs.Values.{IsSide, side_variable, side_literal, side_constructor, side_vector, side_primitive, side_call, side_case}

-- what is called in a child is called in the term
called_below : (o : Origins) (e c : TermTree) (i m : ℕ) {path : List ℕ} → child e i ≡ Some c → IsCalled o c m path → IsCalled o e m (i ∷ path)
called_below o e c i m is (as_head path xs known n part) = as_head (i ∷ path) xs known n (part_below e c i path is ∙ part)
called_below o e c i m is (as_function path d a b x part) = as_function (i ∷ path) d a b x (part_below e c i path is ∙ part)

no_made : (e : TermTree) (m : ℕ) → (IsMade e → ⊥) → e ≡ made m → ⊥
no_made e m n is = n (subst IsMade (sym is) tt)

-- a term that is no made definition holds only calls where its children do
by_children : (o : Origins) (e : TermTree) → (IsMade e → ⊥) → ((i : ℕ) (c : TermTree) → child e i ≡ Some c → HoldsOnlyCalls o c) → HoldsOnlyCalls o e
by_children o e n each [] m is = let same : e ≡ made m = cc in absurd (no_made e m n same)
by_children o e n each (i ∷ path) m is =
    let way = way_to (child e i) path (made m) is in called_below o e way.to i m way.is (each i way.to way.is path m way.part)

var_calls : (o : Origins) (x : ℕ) → HoldsOnlyCalls o (var x)
var_calls o x = by_children o (var x) (λ h. h) (λ i c is. absurd cc)

con_calls : (o : Origins) (c : ℕ) → HoldsOnlyCalls o (con c)
con_calls o c = by_children o (con c) (λ h. h) (λ i e is. absurd cc)

prim_calls : (o : Origins) (p : _) → HoldsOnlyCalls o (prim p)
prim_calls o p = by_children o (prim p) (λ h. h) (λ i e is. absurd cc)

lit_calls : (o : Origins) (s : _) (bits : _) → HoldsOnlyCalls o (lit s bits)
lit_calls o s bits = by_children o (lit s bits) (λ h. h) (λ i e is. absurd cc)

app_child : (o : Origins) (f a : TermTree) → HoldsOnlyCalls o f → HoldsOnlyCalls o a → (i : ℕ) (c : TermTree) → child (app f a) i ≡ Some c → HoldsOnlyCalls o c
app_child o f a h g zero c is = let same : f ≡ c = cc in subst (HoldsOnlyCalls o) same h
app_child o f a h g (suc zero) c is = let same : a ≡ c = cc in subst (HoldsOnlyCalls o) same g
app_child o f a h g (suc (suc i)) c is = absurd cc

app_calls : (o : Origins) (f a : TermTree) → HoldsOnlyCalls o f → HoldsOnlyCalls o a → HoldsOnlyCalls o (app f a)
app_calls o f a h g = by_children o (app f a) (λ h. h) (app_child o f a h g)

ty_app_child : (o : Origins) (f : TermTree) (t : TypeTree) → HoldsOnlyCalls o f → (i : ℕ) (c : TermTree) → child (ty_app f t) i ≡ Some c → HoldsOnlyCalls o c
ty_app_child o f t h zero c is = let same : f ≡ c = cc in subst (HoldsOnlyCalls o) same h
ty_app_child o f t h (suc i) c is = absurd cc

lam_child : (o : Origins) (t : TypeTree) (e : TermTree) → HoldsOnlyCalls o e → (i : ℕ) (c : TermTree) → child (lam t e) i ≡ Some c → HoldsOnlyCalls o c
lam_child o t e h zero c is = let same : e ≡ c = cc in subst (HoldsOnlyCalls o) same h
lam_child o t e h (suc i) c is = absurd cc

-- spines
abbrev AllHold : Origins → List TermTree → Type 0
AllHold o es = AllByRecursion (HoldsOnlyCalls o) es

terms_calls : (o : Origins) (es : List TermTree) (e : TermTree) → HoldsOnlyCalls o e → AllHold o es → HoldsOnlyCalls o (applied e (map (λ a. OfTerm a) es))
terms_calls o [] e h all = h
terms_calls o (a ∷ es) e h all = terms_calls o es (app e a) (app_calls o e a h all.0) all.1

spine_calls : (o : Origins) (types : List TypeTree) (es : List TermTree) (e : TermTree) → HoldsOnlyCalls o e → AllHold o es → HoldsOnlyCalls o (applied e (types_then types es))
spine_calls o [] es e h all = terms_calls o es e h all
spine_calls o (t ∷ types) es e h all = spine_calls o types es (ty_app e t) (by_children o (ty_app e t) (λ h. h) (ty_app_child o e t h)) all

names_hold : (o : Origins) (xs : List ℕ) → AllHold o (map (λ x. var x) xs)
names_hold o [] = tt
names_hold o (x ∷ xs) = (var_calls o x, names_hold o xs)

on_names_calls : (o : Origins) (types : List TypeTree) (xs : List ℕ) (e : TermTree) → HoldsOnlyCalls o e → HoldsOnlyCalls o (on_names e types xs)
on_names_calls o types xs e h = spine_calls o types (map (λ x. var x) xs) e h (names_hold o xs)

-- a made definition on variables: what stands there is its head
record AtHead (e : TermTree) (n : ℕ) (path : List ℕ) (m : ℕ) : Type 0 where
  rest : List ℕ
  is : path ≡ replicate n 0 ++ rest
  part : part_at e rest ≡ Some (made m)

zeros_turned : (n : ℕ) (q : List ℕ) → replicate n 0 ++ 0 ∷ q ≡ 0 ∷ replicate n 0 ++ q
zeros_turned zero q = refl
zeros_turned (suc n) q = ap (λ p. 0 ∷ p) (zeros_turned n q)

var_holds_none : (x m : ℕ) (path : List ℕ) → part_at (var x) path ≡ Some (made m) → ⊥
var_holds_none x m [] is = absurd cc
var_holds_none x m (i ∷ path) is = absurd cc

one_less : (e : TermTree) (x n m : ℕ) (path rest : List ℕ) → path ≡ replicate n 0 ++ rest → part_at (app e (var x)) rest ≡ Some (made m) → AtHead e (suc n) path m
one_less e x n m path [] is part = absurd cc
one_less e x n m path (zero ∷ rest) is part = record { rest = rest; is = is ∙ zeros_turned n rest; part = part }
one_less e x n m path (suc zero ∷ rest) is part = absurd (var_holds_none x m rest part)
one_less e x n m path (suc (suc i) ∷ rest) is part = absurd cc

at_head : (xs : List ℕ) (e : TermTree) (path : List ℕ) (m : ℕ) → part_at (applied e (map (λ a. OfTerm a) (map (λ x. var x) xs))) path ≡ Some (made m) → AtHead e (length xs) path m
at_head [] e path m is = record { rest = path; is = refl; part = is }
at_head (x ∷ xs) e path m is = let at = at_head xs (app e (var x)) path m is in one_less e x (length xs) m path at.rest at.is at.part

head_called : (o : Origins) (m k : ℕ) (xs : List ℕ) (it : MadeOf) (path rest : List ℕ) → slice_get o.made m ≡ Some it → length xs ≡ asked_for it.ty → path ≡ replicate (length xs) 0 ++ rest → part_at (made m) rest ≡ Some (made k) → IsCalled o (on_names (made m) [] xs) k path
head_called o m k xs it path [] known n is part =
    let same : m ≡ k = cc in
    let all : path ≡ replicate (length xs) 0 = is ∙ append-nil (replicate (length xs) 0) in
    subst (λ j. IsCalled o (on_names (made m) [] xs) j path) same (subst (IsCalled o (on_names (made m) [] xs) m) (sym all) (as_head [] xs known n refl))
head_called o m k xs it path (i ∷ rest) known n is part = absurd cc

call_calls : (o : Origins) (m : ℕ) (xs : List ℕ) (it : MadeOf) → slice_get o.made m ≡ Some it → length xs ≡ asked_for it.ty → HoldsOnlyCalls o (on_names (made m) [] xs)
call_calls o m xs it known n path k is = let at = at_head xs (made m) path k is in head_called o m k xs it path at.rest known n at.is at.part

-- a lifted made definition
fmap_head : TypeTree → TypeTree → TypeTree → TermTree
fmap_head d a b = ty_app (ty_app (ty_app (prim Fmap) d) a) b

fmap_head_calls : (o : Origins) (d a b : TypeTree) → HoldsOnlyCalls o (fmap_head d a b)
unfolding fmap_head
fmap_head_calls o d a b = spine_calls o (d ∷ a ∷ b ∷ []) [] (prim Fmap) (prim_calls o Fmap) tt

fmap_calls : (o : Origins) (d a b : TypeTree) (m x : ℕ) → HoldsOnlyCalls o (fmap_of d a b (made m) (var x))
unfolding fmap_head
fmap_calls o d a b m x [] k is = absurd cc
fmap_calls o d a b m x (zero ∷ []) k is = absurd cc
fmap_calls o d a b m x (zero ∷ zero ∷ path) k is =
    called_below o (fmap_of d a b (made m) (var x)) (app (fmap_head d a b) (made m)) 0 k refl
    (called_below o (app (fmap_head d a b) (made m)) (fmap_head d a b) 0 k refl (fmap_head_calls o d a b path k is))
fmap_calls o d a b m x (zero ∷ suc zero ∷ []) k is =
    let same : m ≡ k = cc in subst (λ j. IsCalled o (fmap_of d a b (made m) (var x)) j (0 ∷ 1 ∷ [])) same (as_function [] d a b x refl)
fmap_calls o d a b m x (zero ∷ suc zero ∷ i ∷ path) k is = absurd cc
fmap_calls o d a b m x (zero ∷ suc (suc j) ∷ path) k is = absurd cc
fmap_calls o d a b m x (suc zero ∷ path) k is = absurd (var_holds_none x k path is)
fmap_calls o d a b m x (suc (suc j) ∷ path) k is = absurd cc

lifted_calls : (o : Origins) {m n : ℕ} {e : TermTree} → IsLiftedCall m e n → HoldsOnlyCalls o e
lifted_calls o {m} (lifted_on_one {d = d} {a = a} {b = b} {x = x}) = fmap_calls o d a b m x
lifted_calls o (lifted_on_more {d = d} {a = a} {b = b} {u = u} {x = x} more) =
    spine_calls o (d ∷ a ∷ b ∷ []) (u ∷ var x ∷ []) (prim Ap) (prim_calls o Ap) (lifted_calls o more, (var_calls o x, tt))

-- lists of terms, groups, alternatives
vector_child : (o : Origins) (es : List TermTree) → AllHold o es → (i : ℕ) (c : TermTree) → element_at (terms_of es) i ≡ Some c → HoldsOnlyCalls o c
vector_child o [] all i c is = absurd cc
vector_child o (e ∷ es) all zero c is = let same : e ≡ c = cc in subst (HoldsOnlyCalls o) same all.0
vector_child o (e ∷ es) all (suc i) c is = vector_child o es all.1 i c is

vector_calls : (o : Origins) (t : TypeTree) (es : List TermTree) → AllHold o es → HoldsOnlyCalls o (vec_lit t (terms_of es))
vector_calls o t es all = by_children o (vec_lit t (terms_of es)) (λ h. h) (vector_child o es all)

abbrev GroupHolds : Origins → Group → Type 0
GroupHolds o no_bindings = Unit {0}
GroupHolds o (bind t e g) = HoldsOnlyCalls o e × GroupHolds o g

group_child : (o : Origins) (g : Group) (b : TermTree) → GroupHolds o g → HoldsOnlyCalls o b → (i : ℕ) (c : TermTree) → part_of_group g b i ≡ Some c → HoldsOnlyCalls o c
group_child o no_bindings b all h zero c is = let same : b ≡ c = cc in subst (HoldsOnlyCalls o) same h
group_child o no_bindings b all h (suc i) c is = absurd cc
group_child o (bind t e g) b all h zero c is = let same : e ≡ c = cc in subst (HoldsOnlyCalls o) same all.0
group_child o (bind t e g) b all h (suc i) c is = group_child o g b all.1 h i c is

letrec_calls : (o : Origins) (g : Group) (x : ℕ) → GroupHolds o g → HoldsOnlyCalls o (letrec g (var x))
letrec_calls o g x all = by_children o (letrec g (var x)) (λ h. h) (group_child o g (var x) all (var_calls o x))

abbrev AltsHold : Origins → Alts → Type 0
AltsHold o no_alts = Unit {0}
AltsHold o (alt q e more) = HoldsOnlyCalls o e × AltsHold o more

branch_child : (o : Origins) (alts : Alts) → AltsHold o alts → (i : ℕ) (c : TermTree) → option_map (λ a. a.body) (branch_at alts i) ≡ Some c → HoldsOnlyCalls o c
branch_child o no_alts all i c is = absurd cc
branch_child o (alt q e more) all zero c is = let same : e ≡ c = cc in subst (HoldsOnlyCalls o) same all.0
branch_child o (alt q e more) all (suc i) c is = branch_child o more all.1 i c is

case_child : (o : Origins) (x : ℕ) (alts : Alts) → AltsHold o alts → (i : ℕ) (c : TermTree) → child (case_of (var x) alts) i ≡ Some c → HoldsOnlyCalls o c
case_child o x alts all zero c is = let same : var x ≡ c = cc in subst (HoldsOnlyCalls o) same (var_calls o x)
case_child o x alts all (suc i) c is = branch_child o alts all i c is

case_calls : (o : Origins) (x : ℕ) (alts : Alts) → AltsHold o alts → HoldsOnlyCalls o (case_of (var x) alts)
case_calls o x alts all = by_children o (case_of (var x) alts) (λ h. h) (case_child o x alts all)

-- the forms
mutual
  block_calls : {o : Origins} {vars : List TypeTree} {e : TermTree} → IsBlock o vars e → HoldsOnlyCalls o e
  block_calls {o} (block_variable {x = x}) = var_calls o x
  block_calls {o} (block_letrec {g = g} {x = x} sides none) = letrec_calls o g x (sides_call sides)

  sides_call : {o : Origins} {vars : List TypeTree} {g : Group} → AreSides o vars g → GroupHolds o g
  sides_call no_sides = tt
  sides_call (side_and r s more) = (side_calls s, sides_call more)

  side_calls : {o : Origins} {vars : List TypeTree} {e : TermTree} → IsSide o vars e → HoldsOnlyCalls o e
  side_calls {o} (side_variable {x = x}) = var_calls o x
  side_calls {o} (side_literal {s = s} {bits = bits}) = lit_calls o s bits
  side_calls {o} (side_constructor c types xs is n) = on_names_calls o types xs (con c) (con_calls o c)
  side_calls {o} (side_vector t xs) = vector_calls o t (map (λ x. var x) xs) (names_hold o xs)
  side_calls {o} (side_primitive p types xs w n) = on_names_calls o types xs (prim p) (prim_calls o p)
  side_calls {o} (side_call m xs {it} is v n) = call_calls o m xs it is n
  side_calls {o} (side_case {x = x} {alts = alts} is blocks) = case_calls o x alts (blocks_call blocks)

  blocks_call : {o : Origins} {vars : List TypeTree} {u : TypeTree} {alts : Alts} → AreBlocks o vars u alts → AltsHold o alts
  blocks_call no_blocks = tt
  blocks_call (block_and p b more) = (block_calls b, blocks_call more)

mutual
  constant_calls : (o : Origins) {datas : List Data} {e : TermTree} → IsConstant datas e → HoldsOnlyCalls o e
  constant_calls o (constant_literal {s = s} {bits = bits}) = lit_calls o s bits
  constant_calls o (constant_constructor c types es is n all) = spine_calls o types es (con c) (con_calls o c) (constants_call o all)
  constant_calls o (constant_vector t es all) = vector_calls o t es (constants_call o all)

  constants_call : (o : Origins) {datas : List Data} {es : List TermTree} → AreConstants datas es → AllHold o es
  constants_call o no_constants = tt
  constants_call o (constant_and c more) = (constant_calls o c, constants_call o more)

circuit_side_calls : {o : Origins} {e : TermTree} → IsCircuitSide o e → HoldsOnlyCalls o e
circuit_side_calls {o} (of_variable {x = x}) = var_calls o x
circuit_side_calls {o} (of_register {d = d} {a = a} {c = c} {x = x} k) =
    on_names_calls o [] (x ∷ []) (applied (prim Register) (types_then (d ∷ a ∷ []) (c ∷ [])))
    (spine_calls o (d ∷ a ∷ []) (c ∷ []) (prim Register) (prim_calls o Register) (constant_calls o k, tt))
circuit_side_calls {o} (of_block_ram {d = d} {n = n} {k = w} {a = a} {c = c} {x = x} {y = y} k h) =
    on_names_calls o [] (x ∷ y ∷ []) (applied (prim BlockRam) (types_then (d ∷ n ∷ w ∷ a ∷ []) (c ∷ [])))
    (spine_calls o (d ∷ n ∷ w ∷ a ∷ []) (c ∷ []) (prim BlockRam) (prim_calls o BlockRam) (constant_calls o k, tt))
circuit_side_calls {o} (of_synchronizer {d = d} {e = e} {a = a} {x = x}) =
    on_names_calls o (d ∷ e ∷ a ∷ []) (x ∷ []) (prim UnsafeSynchronizer) (prim_calls o UnsafeSynchronizer)
circuit_side_calls {o} (of_pure {d = d} {a = a} {c = c} k) = spine_calls o (d ∷ a ∷ []) (c ∷ []) (prim Pure) (prim_calls o Pure) (constant_calls o k, tt)
circuit_side_calls {o} (of_lifted m is v chain) = lifted_calls o chain
circuit_side_calls {o} (of_call m xs {it} is s n) = call_calls o m xs it is n
circuit_side_calls {o} (of_constructor c types xs is n) = on_names_calls o types xs (con c) (con_calls o c)
circuit_side_calls {o} (of_projection {x = x} {z = z} l) = case_calls o x _ (var_calls o z, tt)

circuit_sides_call : {o : Origins} {g : Group} → AreCircuitSides o g → GroupHolds o g
circuit_sides_call no_circuit_sides = tt
circuit_sides_call (circuit_side_and p s more) = (circuit_side_calls s, circuit_sides_call more)

circuit_calls : {o : Origins} {e : TermTree} → IsCircuitBody o e → HoldsOnlyCalls o e
circuit_calls {o} (circuit_variable {x = x}) = var_calls o x
circuit_calls {o} (circuit_letrec {g = g} {x = x} sides) = letrec_calls o g x (circuit_sides_call sides)

form_calls : (o : Origins) (sort : Sort) (vars : List TypeTree) (e : TermTree) → HasForm o sort vars e → HoldsOnlyCalls o e
form_calls o Value vars e h = block_calls h
form_calls o Circuit vars e h = circuit_calls h

lambdas_calls : (o : Origins) {vars vs : List TypeTree} {e x : TermTree} {t : TypeTree} {p : List ℕ} → UnderLambdas vars e t p vs x → HoldsOnlyCalls o x → HoldsOnlyCalls o e
lambdas_calls o (under_none a) h = h
lambdas_calls o (under_one {a = a} {e = e} s u) h = by_children o (lam a e) (λ h. h) (lam_child o a e (lambdas_calls o u h))

pub body_calls : (o : Origins) (it : MadeOf) (body : TermTree) → IsNormalBody o it body → HoldsOnlyCalls o body
body_calls o it body h = lambdas_calls o h.under (form_calls o it.sort h.vars h.inner h.form)
