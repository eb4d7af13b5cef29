-- Data types that are not equal as trees, as the code finds it.
use Rattle.std.proofs.Common.{◌≡◌, ℕ, ◌<◌, false, refl, sym, ap, ◌∙◌, List, [], ◌∷◌, length, get_or, IsTrue, ◌↔◌}
use Rattle.std.proofs.lemmas.List.{get_or_default}
use Rattle.chw_types.specs.TypeTree.{TypeTree, data_of}
use Rattle.chw_types.specs.TypeView.{trees_of}

trees_same : (ts us : List TypeTree) → trees_of ts ≡ trees_of us → ts ≡ us
trees_same [] [] e = refl
trees_same [] (u ∷ us) e = absurd (cc)
trees_same (t ∷ ts) [] e = absurd (cc)
trees_same (t ∷ ts) (u ∷ us) e =
    let first : t ≡ u = cc in
    let rest : trees_of ts ≡ trees_of us = cc in
    λ i. first i ∷ trees_same ts us rest i

-- other arguments
pub unequal_data : (d e : ℕ) (ts us : List TypeTree) (x y : TypeTree) → data_of d (trees_of ts) ≡ x → data_of e (trees_of us) ≡ y → (ts ≡ us → ⊥) → IsTrue false ↔ x ≡ y
unequal_data d e ts us x y f g differ = (λ h. absurd (cc), λ same. absurd (differ (trees_same ts us (arguments (f ∙ same ∙ sym g)))))
  where
    arguments : data_of d (trees_of ts) ≡ data_of e (trees_of us) → trees_of ts ≡ trees_of us
    arguments h = cc

-- one other argument
pub unequal_at : (ts us : List TypeTree) (i : ℕ) (t u : TypeTree) → i < length us → t ≡ get_or ts i t → u ≡ get_or us i u → (t ≡ u → ⊥) → ts ≡ us → ⊥
unequal_at ts us i t u l e f differ same = differ (e ∙ ap (λ s. get_or s i t) same ∙ get_or_default us i t u l ∙ sym f)
