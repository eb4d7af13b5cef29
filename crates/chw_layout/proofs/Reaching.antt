-- From each data type lead only chains that are shorter than the list of data types, where references have no cycle.
use Rattle.std.proofs.Common.{◌≡◌, ℕ, suc, zero, ◌+◌, ◌-◌, ◌*◌, ◌<◌, inl, inr, refl, sym, ap, subst, List, [], ◌∷◌, ◌++◌, length, get_or, arith}
use Rattle.std.specs.Prelude.{Some}
use Rattle.std.specs.List.{slice_get}
use Rattle.chw_types.specs.declared.declarations.ConDecl.{ConDecl}
use Rattle.chw_types.specs.declared.declarations.Data.{Data}
use Rattle.chw_types.specs.TypeTree.{TypeTree, vector, data_of, TypeTrees}
use Rattle.chw_types.specs.TypeView.{trees_of}
use Rattle.chw_types.specs.TypeSize.{tree_size, trees_size}
use Rattle.chw_types.specs.Arguments.{all_fields}
use Rattle.chw_types.specs.References.{Mentions, MentionsAny, MentionedIn, HasNoCycle}
use Rattle.chw_layout.specs.Outcomes.{ReachesAt, Reaches, AllReach}
use Rattle.chw_layout.specs.Sizes.{fields_size, cons_size, datas_size}

got_within : (datas : List Data) (d : ℕ) (it : Data) → slice_get datas d ≡ Some it → d < length datas
got_within [] d it e = absurd (cc)
got_within (x ∷ datas) zero it e = omega arith
got_within (x ∷ datas) (suc d) it e = let w = got_within datas d it e in omega arith

-- a data type of an early place reaches little
reach_from : (datas : List Data) (order : HasNoCycle datas) (n d : ℕ) → (d < length datas → order.place d < n) → ReachesAt datas n d
reach_from datas order zero d h = λ it e. absurd (let w = h (got_within datas d it e) in omega arith)
reach_from datas order (suc n) d h = λ it e f m.
    reach_from datas order n f (λ l. let w = h (got_within datas d it e) in let v = order.earlier d f l (it, e, m) in omega arith)

pub reaches_all : (datas : List Data) → HasNoCycle datas → (t : TypeTree) → Reaches datas (length datas) t
reaches_all datas order t = λ d m. reach_from datas order (length datas) d (order.within d)

pub reach_some : (datas : List Data) (n d : ℕ) (it : Data) → ReachesAt datas n d → slice_get datas d ≡ Some it → 0 < n
reach_some datas zero d it h e = absurd (h it e)
reach_some datas (suc n) d it h e = omega arith

reach_below : (datas : List Data) (n d : ℕ) (it : Data) → ReachesAt datas (suc n) d → slice_get datas d ≡ Some it → AllReach datas n (all_fields it.cons)
reach_below datas n d it h e = h it e

pub reach_inside : (datas : List Data) (n d : ℕ) (it : Data) (cs : List ConDecl) → ReachesAt datas n d → slice_get datas d ≡ Some it → cs ≡ it.cons → AllReach datas (n - 1) (all_fields cs)
reach_inside datas zero d it cs h e is = absurd (h it e)
reach_inside datas (suc n) d it cs h e is =
    let k : suc n - 1 ≡ n = omega arith in
    subst (λ m. AllReach datas m (all_fields cs)) (sym k) (subst (λ xs. AllReach datas n (all_fields xs)) (sym is) (reach_below datas n d it h e))

mentioned_left : (ts us : List TypeTree) (d : ℕ) → MentionedIn ts d → MentionedIn (ts ++ us) d
mentioned_left [] us d m = absurd m
mentioned_left (t ∷ ts) us d (inl m) = inl m
mentioned_left (t ∷ ts) us d (inr m) = inr (mentioned_left ts us d m)

mentioned_right : (ts us : List TypeTree) (d : ℕ) → MentionedIn us d → MentionedIn (ts ++ us) d
mentioned_right [] us d m = m
mentioned_right (t ∷ ts) us d m = inr (mentioned_right ts us d m)

-- a type among these
pub reach_one : (datas : List Data) (n : ℕ) (ts : List TypeTree) (i : ℕ) (t : TypeTree) → i < length ts → t ≡ get_or ts i t → AllReach datas n ts → Reaches datas n t
reach_one datas n [] i t l e h = absurd (omega arith)
reach_one datas n (u ∷ ts) zero t l e h = λ d m. h d (inl (subst (λ v. Mentions v d) e m))
reach_one datas n (u ∷ ts) (suc i) t l e h = reach_one datas n ts i t (omega arith) e (λ d m. h d (inr m))

-- a constructor among these
pub reach_con : (datas : List Data) (n : ℕ) (cs : List ConDecl) (i : ℕ) (c : ConDecl) → i < length cs → c ≡ get_or cs i c → AllReach datas n (all_fields cs) → AllReach datas n c.fields
reach_con datas n [] i c l e h = absurd (omega arith)
reach_con datas n (x ∷ cs) zero c l e h = λ d m. h d (mentioned_left x.fields (all_fields cs) d (subst (λ (v : ConDecl). MentionedIn v.fields d) e m))
reach_con datas n (x ∷ cs) (suc i) c l e h = reach_con datas n cs i c (omega arith) e (λ d m. h d (mentioned_right x.fields (all_fields cs) d m))

-- the parts of a type
pub reach_element : (datas : List Data) (n : ℕ) (len t : TypeTree) → Reaches datas n (vector len t) → Reaches datas n t
reach_element datas n len t h = λ d m. h d (inr m)

any_of_one : (ts : List TypeTree) (i : ℕ) (t : TypeTree) (d : ℕ) → i < length ts → t ≡ get_or ts i t → Mentions t d → MentionsAny (trees_of ts) d
any_of_one [] i t d l e m = absurd (omega arith)
any_of_one (u ∷ ts) zero t d l e m = inl (subst (λ v. Mentions v d) e m)
any_of_one (u ∷ ts) (suc i) t d l e m = inr (any_of_one ts i t d (omega arith) e m)

pub reach_argument : (datas : List Data) (n x : ℕ) (ts : List TypeTree) (i : ℕ) (t : TypeTree) → i < length ts → t ≡ get_or ts i t → Reaches datas n (data_of x (trees_of ts)) → Reaches datas n t
reach_argument datas n x ts i t l e h = λ d m. h d (inr (any_of_one ts i t d l e m))

pub reach_data : (datas : List Data) (n x : ℕ) (ts : TypeTrees) → Reaches datas n (data_of x ts) → ReachesAt datas n x
reach_data datas n x ts h = h x (inl refl)

-- the parts of a type and of a data type are smaller
some_size : (ts : List TypeTree) → 0 < fields_size ts
some_size [] = omega arith
some_size (t ∷ ts) = omega arith

pub size_of_one : (ts : List TypeTree) (i : ℕ) (t : TypeTree) → i < length ts → t ≡ get_or ts i t → tree_size t + 1 < fields_size ts
size_of_one [] i t l e = absurd (omega arith)
size_of_one (u ∷ ts) zero t l e = omega (arith, ap tree_size e, some_size ts)
size_of_one (u ∷ ts) (suc i) t l e = let w = size_of_one ts i t (omega arith) e in omega arith

pub size_of_con : (cs : List ConDecl) (i : ℕ) (c : ConDecl) → i < length cs → c ≡ get_or cs i c → fields_size c.fields < cons_size cs
size_of_con [] i c l e = absurd (omega arith)
size_of_con (x ∷ cs) zero c l e = omega (arith, ap (λ (v : ConDecl). fields_size v.fields) e)
size_of_con (x ∷ cs) (suc i) c l e = let w = size_of_con cs i c (omega arith) e in omega arith

pub size_of_data : (datas : List Data) (d : ℕ) (it : Data) (cs : List ConDecl) → slice_get datas d ≡ Some it → cs ≡ it.cons → cons_size cs < datas_size datas
size_of_data [] d it cs e is = absurd (cc)
size_of_data (x ∷ datas) zero it cs e is =
    let same : x ≡ it = cc in omega (arith, ap cons_size is, ap (λ (v : Data). cons_size v.cons) same)
size_of_data (x ∷ datas) (suc d) it cs e is = let w = size_of_data datas d it cs e is in omega arith

pub size_of_argument : (ts : List TypeTree) (i : ℕ) (t : TypeTree) → i < length ts → t ≡ get_or ts i t → tree_size t < trees_size (trees_of ts)
size_of_argument [] i t l e = absurd (omega arith)
size_of_argument (u ∷ ts) zero t l e = omega (arith, ap tree_size e)
size_of_argument (u ∷ ts) (suc i) t l e = let w = size_of_argument ts i t (omega arith) e in omega arith

-- one data type deeper
pub lower : (n k c : ℕ) → 0 < n → c < k → (n - 1) * k + c < n * k
lower zero k c l h = absurd (omega arith)
lower (suc n) k c l h =
    let e : suc n - 1 ≡ n = omega arith in
    subst (λ m. m * k + c < suc n * k) (sym e) (let p : n * k + c < suc n * k = omega arith in p)
