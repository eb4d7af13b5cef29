-- Variables in scope, read from the list in which they are held.
use Rattle.std.proofs.Common.{◌≡◌, ◌∙◌, sym, ap, refl, ℕ, zero, suc, ◌+◌, ◌-◌, ◌<◌, ◌≤◌, arith, add-one, List, [], ◌∷◌, ◌++◌, reverse, length, get_or, take, drop, append_assoc, append-nil, Some, None}
use Rattle.std.specs.List.{slice_get, slice_index_or}
use Rattle.std.specs.Option.{option_map, unwrap_or}
use Rattle.std.proofs.lemmas.List.{drop_all, get_or-reverse, length-reverse, length-map}
use Rattle.std.proofs.lemmas.Option.{slice_get_read, slice_get_past, slice_get-map}
use Rattle.chw_typing.proofs.Lists.{map_reverse}
use Rattle.chw_base.specs.declared.index.WireId.{WireId}
use Rattle.net_built.specs.Terms.{Variable, variable, wires_at}
use Rattle.value_build.specs.declared.scope.Variable.{Variable as Held}
use Rattle.chw_terms.specs.declared.term.Binding.{Binding}
use Rattle.value_build.specs.Groups.{bound_of}
use Rattle.value_build.proofs.Operands.{left_of}
use Rattle.value_build.specs.InScope.{as_variable, as_variables, in_scope}

-- the variable of this number
pub held_at : (vs : List Held) (n : ℕ) (v : Held) → n < length vs → v ≡ get_or vs (length vs - 1 - n) v
    → slice_get (in_scope vs) n ≡ Some (as_variable v)
held_at vs n v l e =
    let read : slice_get (reverse vs) n ≡ Some v =
    slice_get_read (reverse vs) (length (reverse vs)) n v refl (omega (arith, length-reverse vs)) (e ∙ sym (get_or-reverse vs n v l)) in
    ap (λ us. slice_get us n) (sym (map_reverse as_variable vs))
    ∙ slice_get-map as_variable (reverse vs) n
    ∙ ap (option_map as_variable) read

-- its wires
pub wires_held : (vs : List Held) (n : ℕ) (v : Held) → n < length vs → v ≡ get_or vs (length vs - 1 - n) v
    → wires_at (in_scope vs) n ≡ v.wires
wires_held vs n v l e =
    ap (λ o. unwrap_or (option_map (λ (w : Variable). w.wires) o) []) (held_at vs n v l e)

-- one that isn't there has none
pub wires_past : (vs : List Held) (n : ℕ) → length vs ≤ n → wires_at (in_scope vs) n ≡ []
wires_past vs n l =
    let past : slice_get (in_scope vs) n ≡ None =
    slice_get_past (in_scope vs) n (omega (arith, length-reverse (as_variables vs), length-map vs as_variable)) in
    ap (λ o. unwrap_or (option_map (λ (w : Variable). w.wires) o) []) past

-- the first of some lists of wires, where there is one
abbrev first_wires : List (List WireId) → List WireId
first_wires [] = []
first_wires (w ∷ wires) = w

abbrev rest_wires : List (List WireId) → List (List WireId)
rest_wires [] = []
rest_wires (w ∷ wires) = wires

bound_first : (b : Binding) (bs : List Binding) (wires : List (List WireId))
    → bound_of (b ∷ bs) wires ≡ variable b.ty (first_wires wires) ∷ bound_of bs (rest_wires wires)
bound_first b bs [] = refl
bound_first b bs (w ∷ wires) = refl

first_left : (wires : List (List WireId)) (i : ℕ) → first_wires (drop i wires) ≡ slice_index_or wires i []
first_left [] zero = refl
first_left [] (suc i) = refl
first_left (w ∷ wires) zero = refl
first_left (w ∷ wires) (suc i) = first_left wires i

rest_left : (wires : List (List WireId)) (i : ℕ) → rest_wires (drop i wires) ≡ drop (suc i) wires
rest_left [] zero = refl
rest_left [] (suc i) = refl
rest_left (w ∷ wires) zero = refl
rest_left (w ∷ wires) (suc i) = rest_left wires i

-- one more binding
pub bound_grown : (bs : List Binding) (wires : List (List WireId)) (i : ℕ) (b : Binding) (before later all : List Variable)
    → i < length bs → b ≡ get_or bs i b → later ≡ before ++ variable b.ty (slice_index_or wires i []) ∷ []
    → before ++ bound_of (drop i bs) (drop i wires) ≡ all
    → later ++ bound_of (drop (i + 1) bs) (drop (i + 1) wires) ≡ all
bound_grown bs wires i b before later all l is grown so =
    let here : Variable = variable b.ty (slice_index_or wires i []) in
    let rest : List Variable = bound_of (drop (i + 1) bs) (drop (i + 1) wires) in
    let left : bound_of (drop i bs) (drop i wires) ≡ here ∷ rest =
    ap (λ ds. bound_of ds (drop i wires)) (left_of bs i b l is)
    ∙ bound_first b (drop (i + 1) bs) (drop i wires)
    ∙ (λ k. variable b.ty (first_left wires i k) ∷ bound_of (drop (i + 1) bs) (rest_left wires i k))
    ∙ ap (λ n. here ∷ bound_of (drop (i + 1) bs) (drop n wires)) (sym (add-one i)) in
    ap (λ vs. vs ++ rest) grown
    ∙ append_assoc before (here ∷ []) rest
    ∙ ap (λ vs. before ++ vs) (sym left)
    ∙ so

pub bound_whole : (bs : List Binding) (wires : List (List WireId)) (i : ℕ) (done all : List Variable) → length bs ≤ i
    → done ++ bound_of (drop i bs) (drop i wires) ≡ all → done ≡ all
bound_whole bs wires i done all l so =
    sym (append-nil done) ∙ ap (λ ds. done ++ bound_of ds (drop i wires)) (sym (drop_all i bs l)) ∙ so

-- the variable as it is held
abbrev back : Variable → Held
back v = record { ty = v.ty; wires = v.wires }

abbrev first_or : Variable → List Variable → Variable
first_or d [] = d
first_or d (v ∷ vs) = v

abbrev but_first : List Variable → List Variable
but_first [] = []
but_first (v ∷ vs) = vs

-- what was in scope before others came is left when they go
pub scope_left : (outer inner : List Held) (bound : List Variable) → as_variables inner ≡ as_variables outer ++ bound
    → take (length outer) inner ≡ outer
scope_left [] inner bound e = refl
scope_left (o ∷ outer) [] bound e = absurd cc
scope_left (o ∷ outer) (v ∷ inner) bound e =
    let same : v ≡ o = ap (λ vs. back (first_or (as_variable v) vs)) e in
    let rest : take (length outer) inner ≡ outer = scope_left outer inner bound (ap but_first e) in
    λ i. same i ∷ rest i
