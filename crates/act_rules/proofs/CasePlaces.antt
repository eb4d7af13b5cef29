-- Where the variables that are bound together have their types and their thunks.
use Rattle.std.specs.Prelude.{slice_get}
use Rattle.std.proofs.Common.{◌≡◌, ◌+◌, ◌⊎◌, inl, inr, ℕ, suc, zero, List, [], ◌∷◌, length, Some, refl, ap, ◌∙◌, subst, arith}
use Rattle.chw_types.specs.TypeTree.{TypeTree, TypeTrees}
use Rattle.chw_typing.specs.Scopes.{with_more}
use Rattle.chw_typing.proofs.Lists.{turned_onto}
use Rattle.chw_terms.specs.TermTree.{Group, no_bindings, bind, size_of}
use Rattle.chw_meaning.specs.Values.{Thunk, member, field, Thunks, thunk_and, thunk_at, joined, members, in_group, fields_from}

-- the variable is the one for this place among the new ones, or one of those outside
abbrev pub NewOrOuter : {A : Type 0} → List A → List A → ℕ → A → Type 0
NewOrOuter ts vs x t =
    ((j : ℕ) × (x + suc j ≡ length ts) × (slice_get ts j ≡ Some t)) ⊎ ((y : ℕ) × (x ≡ y + length ts) × (slice_get vs y ≡ Some t))

pub new_or_outer : (ts vs : List TypeTree) (x : ℕ) (t : TypeTree) → slice_get (with_more ts vs) x ≡ Some t → NewOrOuter ts vs x t
new_or_outer [] vs x t e = inr (x, omega arith, e)
new_or_outer (u ∷ ts) vs x t e = next (new_or_outer ts (u ∷ vs) x t (subst (λ us. slice_get us x ≡ Some t) (turned_onto u ts vs) e))
  where
    next : NewOrOuter ts (u ∷ vs) x t → NewOrOuter (u ∷ ts) vs x t
    next (inl (j, size, found)) = inl (suc j, omega (arith, size), found)
    next (inr (zero, size, found)) = inl (zero, omega (arith, size), found)
    next (inr (suc y, size, found)) = inr (y, omega (arith, size), found)

-- the type of a variable outside of those that are bound together
pub more_past : (ts vs : List TypeTree) (y : ℕ) → slice_get (with_more ts vs) (y + length ts) ≡ slice_get vs y
more_past [] vs y = ap (slice_get vs) (let e : y + 0 ≡ y = omega arith in e)
more_past (t ∷ ts) vs y =
    ap (λ us. slice_get us (y + suc (length ts))) (turned_onto t ts vs)
    ∙ ap (slice_get (with_more ts (t ∷ vs))) (let e : y + suc (length ts) ≡ suc y + length ts = omega arith in e)
    ∙ more_past ts (t ∷ vs) (suc y)

-- and that of the one for a place among them
pub name_at : (ts vs : List TypeTree) (x j : ℕ) (t : TypeTree) → x + suc j ≡ length ts → slice_get ts j ≡ Some t → slice_get (with_more ts vs) x ≡ Some t
name_at [] vs x j t size found = cc
name_at (u ∷ ts) vs x zero t size found =
    ap (λ us. slice_get us x) (turned_onto u ts vs) ∙ ap (slice_get (with_more ts (u ∷ vs))) (let e : x ≡ 0 + length ts = omega (arith, size) in e) ∙ more_past ts (u ∷ vs) 0 ∙ found
name_at (u ∷ ts) vs x (suc j) t size found = ap (λ us. slice_get us x) (turned_onto u ts vs) ∙ name_at ts (u ∷ vs) x j t (omega (arith, size)) found

pub thunk_past : (all g : Group) (i : ℕ) (γ : Thunks) (δ : TypeTrees) (before : Thunks) (x : ℕ) → thunk_at (members all g i γ δ before) (x + size_of g) ≡ thunk_at before x
thunk_past all no_bindings i γ δ before x = ap (thunk_at before) (let e : x + 0 ≡ x = omega arith in e)
thunk_past all (bind t e g) i γ δ before x =
    ap (thunk_at (members all g (suc i) γ δ (thunk_and (member all i γ δ) before))) (let e : x + suc (size_of g) ≡ suc x + size_of g = omega arith in e)
    ∙ thunk_past all g (suc i) γ δ (thunk_and (member all i γ δ) before) (suc x)

member_from : (all g : Group) (i : ℕ) (γ : Thunks) (δ : TypeTrees) (before : Thunks) (x j : ℕ) → x + suc j ≡ size_of g → thunk_at (members all g i γ δ before) x ≡ Some (member all (j + i) γ δ)
member_from all no_bindings i γ δ before x j size = absurd (let e : zero ≡ suc (x + j) = omega (arith, size) in cc)
member_from all (bind t e g) i γ δ before x zero size =
    ap (thunk_at (members all g (suc i) γ δ (thunk_and (member all i γ δ) before))) (let e : x ≡ zero + size_of g = omega (arith, size) in e)
    ∙ thunk_past all g (suc i) γ δ (thunk_and (member all i γ δ) before) zero
    ∙ ap (λ k. Some (member all k γ δ)) (let e : i ≡ zero + i = omega arith in e)
member_from all (bind t e g) i γ δ before x (suc j) size =
    member_from all g (suc i) γ δ (thunk_and (member all i γ δ) before) x j (omega (arith, size))
    ∙ ap (λ k. Some (member all k γ δ)) (let e : j + suc i ≡ suc j + i = omega arith in e)

-- the thunk of a variable of a group is that binding
pub member_at : (g : Group) (γ : Thunks) (δ : TypeTrees) (x j : ℕ) → x + suc j ≡ size_of g → thunk_at (in_group g γ δ) x ≡ Some (member g j γ δ)
member_at g γ δ x j size = member_from g g zero γ δ γ x j size ∙ ap (λ k. Some (member g k γ δ)) (let e : j + zero ≡ j = omega arith in e)

pub outside_at : (g : Group) (γ : Thunks) (δ : TypeTrees) (x : ℕ) → thunk_at (in_group g γ δ) (x + size_of g) ≡ thunk_at γ x
outside_at g γ δ x = thunk_past g g zero γ δ γ x

pub field_past : (i k : ℕ) (th : Thunk) (γ : Thunks) (x : ℕ) → thunk_at (fields_from i k th γ) (x + k) ≡ thunk_at γ x
field_past i zero th γ x = ap (thunk_at γ) (let e : x + 0 ≡ x = omega arith in e)
field_past i (suc k) th γ x = ap (thunk_at (fields_from i (suc k) th γ)) (let e : x + suc k ≡ suc (x + k) = omega arith in e) ∙ field_past (suc i) k th γ x

field_from : (i k : ℕ) (th : Thunk) (γ : Thunks) (x j : ℕ) → x + suc j ≡ k → thunk_at (fields_from i k th γ) x ≡ Some (field (x + i) th)
field_from i zero th γ x j size = absurd (let e : zero ≡ suc (x + j) = omega (arith, size) in cc)
field_from i (suc k) th γ zero j size = ap (λ m. Some (field m th)) (let e : i ≡ zero + i = omega arith in e)
field_from i (suc k) th γ (suc x) j size =
    field_from (suc i) k th γ x j (omega (arith, size)) ∙ ap (λ m. Some (field m th)) (let e : x + suc i ≡ suc x + i = omega arith in e)

-- the thunk of a field's variable is that field
pub field_at : (k : ℕ) (th : Thunk) (γ : Thunks) (x j : ℕ) → x + suc j ≡ k → thunk_at (fields_from zero k th γ) x ≡ Some (field x th)
field_at k th γ x j size = field_from zero k th γ x j size ∙ ap (λ m. Some (field m th)) (let e : x + zero ≡ x = omega arith in e)

-- thunks one after another before others, the last one innermost
abbrev pub onto : List Thunk → Thunks → Thunks
onto [] before = before
onto (x ∷ xs) before = onto xs (thunk_and x before)

pub onto_past : (xs : List Thunk) (before : Thunks) (y : ℕ) → thunk_at (onto xs before) (y + length xs) ≡ thunk_at before y
onto_past [] before y = ap (thunk_at before) (let e : y + 0 ≡ y = omega arith in e)
onto_past (x ∷ xs) before y =
    ap (thunk_at (onto xs (thunk_and x before))) (let e : y + suc (length xs) ≡ suc y + length xs = omega arith in e) ∙ onto_past xs (thunk_and x before) (suc y)

pub onto_at : (xs : List Thunk) (before : Thunks) (x j : ℕ) → x + suc j ≡ length xs → thunk_at (onto xs before) x ≡ slice_get xs j
onto_at [] before x j size = absurd (let e : zero ≡ suc (x + j) = omega (arith, size) in cc)
onto_at (th ∷ xs) before x zero size =
    ap (thunk_at (onto xs (thunk_and th before))) (let e : x ≡ zero + length xs = omega (arith, size) in e) ∙ onto_past xs (thunk_and th before) zero
onto_at (th ∷ xs) before x (suc j) size = onto_at xs (thunk_and th before) x j (omega (arith, size))

pub onto_joined : (xs : List Thunk) (ys γ : Thunks) → joined (onto xs ys) γ ≡ onto xs (joined ys γ)
onto_joined [] ys γ = refl
onto_joined (x ∷ xs) ys γ = onto_joined xs (thunk_and x ys) γ
