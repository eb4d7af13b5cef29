-- Lists of data types whose references have no cycle.
use Rattle.std.proofs.Common.{◌≡◌, ℕ, suc, zero, sym, ap, subst, ◌∙◌, [], ◌∷◌, arith, inl, inr}
use Rattle.chw_types.specs.declared.declarations.Data.{Data}
use Rattle.chw_types.specs.TypeTree.{ty_var}
use Rattle.chw_types.specs.Arguments.{all_fields}
use Rattle.chw_types.specs.References.{MentionedIn, Refers, HasNoCycle}

none_mentioned : (e x y : ℕ) → MentionedIn (ty_var x ∷ ty_var y ∷ []) e → ⊥
none_mentioned e x y (inl m) = m
none_mentioned e x y (inr (inl m)) = m
none_mentioned e x y (inr (inr m)) = m

refers_not : (it : Data) (x y d e : ℕ) → all_fields it.cons ≡ ty_var x ∷ ty_var y ∷ [] → Refers (it ∷ []) d e → ⊥
refers_not it x y zero e is r =
    let same : it ≡ r.0 = cc (r.1) in
    none_mentioned e x y (subst (λ fs. MentionedIn fs e) (ap (λ d. all_fields d.cons) (sym same) ∙ is) r.2)
refers_not it x y (suc d) e is r = absurd (let f = r.1 in cc)

-- one data type of two variables as fields
pub two_variables : (it : Data) (x y : ℕ) → all_fields it.cons ≡ ty_var x ∷ ty_var y ∷ [] → HasNoCycle (it ∷ [])
two_variables it x y is = record { place = λ d. 0; within = λ d l. omega arith; earlier = λ d e l r. absurd (refers_not it x y d e is r) }
