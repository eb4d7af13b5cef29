-- Which thunks the variables of an environment have.
use Rattle.std.specs.Prelude.{slice_get}
use Rattle.std.proofs.Common.{◌≡◌, ◌<◌, ◌+◌, ℕ, suc, zero, List, [], ◌∷◌, length, Some, refl, ap, ◌∙◌, arith}
use Rattle.chw_types.specs.TypeTree.{TypeTrees}
use Rattle.chw_terms.specs.TermTree.{Group, no_bindings, bind, size_of}
use Rattle.chw_meaning.specs.Values.{Thunk, member, field, Thunks, none, thunk_and, thunk_at, count_of, joined, members, in_group, fields_from}
use Rattle.carrying.specs.TermLaws.{onto}

members_past : (all g : Group) (k : ℕ) (γ : Thunks) (δ : TypeTrees) (before : Thunks) (x : ℕ) → thunk_at (members all g k γ δ before) (size_of g + x) ≡ thunk_at before x
members_past all no_bindings k γ δ before x = let e : 0 + x ≡ x = omega arith in ap (thunk_at before) e
members_past all (bind t e g) k γ δ before x =
    let same : suc (size_of g) + x ≡ size_of g + suc x = omega arith in
    ap (thunk_at (members all g (suc k) γ δ (thunk_and (member all k γ δ) before))) same
    ∙ members_past all g (suc k) γ δ (thunk_and (member all k γ δ) before) (suc x)

members_at : (all g : Group) (k : ℕ) (γ : Thunks) (δ : TypeTrees) (before : Thunks) (i j : ℕ) → i + suc j ≡ size_of g → thunk_at (members all g k γ δ before) i ≡ Some (member all (k + j) γ δ)
members_at all no_bindings k γ δ before i j e = absurd (omega (arith, e))
members_at all (bind t f g) k γ δ before i zero e =
    let last : i ≡ size_of g + 0 = omega (arith, e) in
    let number : k ≡ k + 0 = omega arith in
    ap (thunk_at (members all g (suc k) γ δ (thunk_and (member all k γ δ) before))) last
    ∙ members_past all g (suc k) γ δ (thunk_and (member all k γ δ) before) 0
    ∙ ap (λ n. Some (member all n γ δ)) number
members_at all (bind t f g) k γ δ before i (suc j) e =
    let number : suc k + j ≡ k + suc j = omega arith in
    members_at all g (suc k) γ δ (thunk_and (member all k γ δ) before) i j (omega (arith, e))
    ∙ ap (λ n. Some (member all n γ δ)) number

pub group_variables : (g : Group) (γ : Thunks) (δ : TypeTrees) (i j : ℕ) → i + suc j ≡ size_of g → thunk_at (in_group g γ δ) i ≡ Some (member g j γ δ)
group_variables g γ δ i j e = let number : 0 + j ≡ j = omega arith in members_at g g zero γ δ γ i j e ∙ ap (λ n. Some (member g n γ δ)) number

pub outside_group : (g : Group) (γ : Thunks) (δ : TypeTrees) (x : ℕ) → thunk_at (in_group g γ δ) (size_of g + x) ≡ thunk_at γ x
outside_group g γ δ x = members_past g g zero γ δ γ x

pub outside_function : (xs : List Thunk) (γ : Thunks) (x : ℕ) → thunk_at (onto xs γ) (length xs + x) ≡ thunk_at γ x
outside_function [] γ x = let e : 0 + x ≡ x = omega arith in ap (thunk_at γ) e
outside_function (y ∷ xs) γ x =
    let e : suc (length xs) + x ≡ length xs + suc x = omega arith in
    ap (thunk_at (onto xs (thunk_and y γ))) e ∙ outside_function xs (thunk_and y γ) (suc x)

pub parameter_variables : (xs : List Thunk) (γ : Thunks) (i j : ℕ) (x : Thunk) → slice_get xs j ≡ Some x → i + suc j ≡ length xs → thunk_at (onto xs γ) i ≡ Some x
parameter_variables [] γ i j x at e = absurd (omega (arith, e))
parameter_variables (y ∷ xs) γ i zero x at e =
    let last : i ≡ length xs + 0 = omega (arith, e) in
    ap (thunk_at (onto xs (thunk_and y γ))) last ∙ outside_function xs (thunk_and y γ) 0 ∙ at
parameter_variables (y ∷ xs) γ i (suc j) x at e = parameter_variables xs (thunk_and y γ) i j x at (omega (arith, e))

pub bound_variables : (ths γ : Thunks) (x : ℕ) → x < count_of ths → thunk_at (joined ths γ) x ≡ thunk_at ths x
bound_variables none γ x l = absurd (omega (arith, l))
bound_variables (thunk_and th ths) γ zero l = refl
bound_variables (thunk_and th ths) γ (suc x) l = bound_variables ths γ x (omega (arith, l))

pub outside_alternative : (ths γ : Thunks) (x : ℕ) → thunk_at (joined ths γ) (count_of ths + x) ≡ thunk_at γ x
outside_alternative none γ x = let e : 0 + x ≡ x = omega arith in ap (thunk_at γ) e
outside_alternative (thunk_and th ths) γ x =
    let e : suc (count_of ths) + x ≡ suc (count_of ths + x) = omega arith in
    ap (thunk_at (thunk_and th (joined ths γ))) e ∙ outside_alternative ths γ x

pub fields_at_place : (a n i : ℕ) (th : Thunk) (γ : Thunks) → i < n → thunk_at (fields_from a n th γ) i ≡ Some (field (a + i) th)
fields_at_place a zero i th γ l = absurd (omega (arith, l))
fields_at_place a (suc n) zero th γ l = let e : a ≡ a + 0 = omega arith in ap (λ k. Some (field k th)) e
fields_at_place a (suc n) (suc i) th γ l =
    let e : suc a + i ≡ a + suc i = omega arith in
    fields_at_place (suc a) n i th γ (omega (arith, l)) ∙ ap (λ k. Some (field k th)) e

past_fields : (a n : ℕ) (th : Thunk) (γ : Thunks) (x : ℕ) → thunk_at (fields_from a n th γ) (n + x) ≡ thunk_at γ x
past_fields a zero th γ x = let e : 0 + x ≡ x = omega arith in ap (thunk_at γ) e
past_fields a (suc n) th γ x =
    let e : suc n + x ≡ suc (n + x) = omega arith in
    ap (thunk_at (fields_from a (suc n) th γ)) e ∙ past_fields (suc a) n th γ x

pub field_variables : (n i : ℕ) (th : Thunk) (γ : Thunks) → i < n → thunk_at (fields_from zero n th γ) i ≡ Some (field i th)
field_variables n i th γ l = let e : 0 + i ≡ i = omega arith in fields_at_place zero n i th γ l ∙ ap (λ k. Some (field k th)) e

pub outside_fields : (n : ℕ) (th : Thunk) (γ : Thunks) (x : ℕ) → thunk_at (fields_from zero n th γ) (n + x) ≡ thunk_at γ x
outside_fields n th γ x = past_fields zero n th γ x
