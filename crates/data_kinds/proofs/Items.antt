-- Data types that differ in nothing but their kinds, one by one.
use Rattle.std.proofs.Common.{◌≡◌, ℕ, suc, List, [], ◌∷◌, Option, Some, None, option_map, slice_get, refl, sym, ap, ◌∙◌}
use Rattle.std.proofs.lemmas.Option.{slice_get-map}
use Rattle.chw_types.specs.declared.kind.Kind.{Kind}
use Rattle.chw_types.specs.declared.kind.Kind.TheVariants.{Nat, Dom, Val, Cir}
use Rattle.chw_types.specs.declared.declarations.Data.{Data}
use Rattle.data_kinds.specs.Kinds.{of_kind, SameButKinds}

-- kinds that can't differ are the same
pub same_kind : (j k : Kind) → ((j ≡ k → ⊥) → ⊥) → j ≡ k
same_kind Nat Nat h = refl
same_kind Dom Dom h = refl
same_kind Val Val h = refl
same_kind Cir Cir h = refl
same_kind j k h = absurd (h (λ e. absurd (cc)))

-- so are data types of the same kind
pub same_data : (it it' : Data) → of_kind Val it' ≡ of_kind Val it → it'.kind ≡ it.kind → it' ≡ it
same_data it it' same kind = λ i. of_kind (kind i) (same i)

-- what stands at one place, in both lists or in none
abbrev pub AreAlike : Option Data → Option Data → Type 0
AreAlike o o' = option_map (of_kind Val) o' ≡ option_map (of_kind Val) o

pub alike_at : (ds es : List Data) → SameButKinds ds es → (d : ℕ) → AreAlike (slice_get ds d) (slice_get es d)
alike_at ds es same d = sym (slice_get-map (of_kind Val) es d) ∙ ap (λ l. slice_get l d) same ∙ slice_get-map (of_kind Val) ds d

-- is the same, if the kinds can't differ
pub same_item : (o o' : Option Data) → AreAlike o o' → ((it it' : Data) → o ≡ Some it → o' ≡ Some it' → (it'.kind ≡ it.kind → ⊥) → ⊥) → o' ≡ o
same_item None None h kinds = refl
same_item None (Some it') h kinds = absurd (cc)
same_item (Some it) None h kinds = absurd (cc)
same_item (Some it) (Some it') h kinds =
    let same : of_kind Val it' ≡ of_kind Val it = cc in
    ap Some (same_data it it' same (same_kind it'.kind it.kind (kinds it it' refl refl)))

-- lists with the same items are the same
pub same_list : (ds es : List Data) → ((d : ℕ) → slice_get es d ≡ slice_get ds d) → ds ≡ es
same_list [] [] h = refl
same_list [] (e ∷ es) h = let at : Some e ≡ None = h 0 in absurd (cc)
same_list (d ∷ ds) [] h = let at : None ≡ Some d = h 0 in absurd (cc)
same_list (d ∷ ds) (e ∷ es) h =
    let at : Some e ≡ Some d = h 0 in
    let head : d ≡ e = cc in
    let tail = same_list ds es (λ n. h (suc n)) in
    cc
