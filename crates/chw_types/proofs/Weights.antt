-- How much there is of a closed type when its data types are unfolded: the element of a vector weighs less, and so does each field
-- with the arguments put in.
use Rattle.std.proofs.Common.{◌≡◌, ℕ, suc, zero, ◌+◌, ◌<◌, inl, inr, refl, sym, ap, ◌∙◌, List, [], ◌∷◌, ◌++◌, length, map, arith}
use Rattle.std.specs.Prelude.{reverse, Option, Some, None}
use Rattle.std.specs.List.{slice_get}
use Rattle.std.proofs.lemmas.List.{reverse-append, map-append}
use Rattle.std.proofs.lemmas.Option.{slice_get_within}
use Rattle.chw_types.specs.declared.declarations.Data.{Data}
use Rattle.chw_types.specs.TypeTree.{TypeTree, ty_var, nat_lit, nat_sum, nat_product, domain, scalar, vector, data_of, fun, signal, for_all, TypeTrees, no_types, type_and}
use Rattle.chw_types.specs.TypeMoves.{Substitution, sub, sub_all}
use Rattle.chw_types.specs.Arguments.{list_of, given, arguments, all_fields}
use Rattle.chw_types.specs.References.{Mentions, MentionsAny, MentionedIn, HasNoCycle}

unfoldable mutual
  -- from the weights of data types, by those of their arguments, and of variables
  pub weight : (ℕ → List ℕ → ℕ) → (ℕ → ℕ) → TypeTree → ℕ
  weight W ρ (ty_var x) = ρ x
  weight W ρ (vector n t) = suc (weight W ρ t)
  weight W ρ (data_of d ts) = suc (W d (weights W ρ ts))
  weight W ρ _ = 0

  pub weights : (ℕ → List ℕ → ℕ) → (ℕ → ℕ) → TypeTrees → List ℕ
  weights W ρ no_types = []
  weights W ρ (type_and t ts) = weight W ρ t ∷ weights W ρ ts

-- these numbers for the variables from 0 on
abbrev pub numbers : List ℕ → ℕ → ℕ
numbers [] x = 0
numbers (n ∷ more) zero = n
numbers (n ∷ more) (suc x) = numbers more x

abbrev pub field_weight : (ℕ → List ℕ → ℕ) → (ℕ → ℕ) → List TypeTree → ℕ
field_weight W ρ [] = 0
field_weight W ρ (f ∷ fs) = suc (weight W ρ f) + field_weight W ρ fs

abbrev pub fields_in : Option Data → List TypeTree
fields_in None = []
fields_in (Some it) = all_fields it.cons

-- unfolded so many times
unfoldable pub data_weight : List Data → ℕ → ℕ → List ℕ → ℕ
data_weight datas zero d ws = 0
data_weight datas (suc n) d ws = field_weight (data_weight datas n) (numbers (reverse ws)) (fields_in (slice_get datas d))

-- of a closed type
abbrev pub whole : List Data → TypeTree → ℕ
whole datas t = weight (data_weight datas (length datas)) (λ x. 0) t

abbrev pub all_whole : List Data → List TypeTree → ℕ
all_whole datas [] = 0
all_whole datas (t ∷ ts) = suc (whole datas t) + all_whole datas ts

mutual
  unfolding weight sub

  weight_put : (W : ℕ → List ℕ → ℕ) (ρ : ℕ → ℕ) (t : TypeTree) (σ : Substitution) → weight W ρ (sub t σ) ≡ weight W (λ x. weight W ρ (σ x)) t
  weight_put W ρ (ty_var x) σ = refl
  weight_put W ρ (data_of d ts) σ = ap (λ ws. suc (W d ws)) (weights_put W ρ ts σ)
  weight_put W ρ (nat_lit n) σ = refl
  weight_put W ρ (nat_sum a b) σ = refl
  weight_put W ρ (nat_product a b) σ = refl
  weight_put W ρ (domain d) σ = refl
  weight_put W ρ (scalar s w) σ = refl
  weight_put W ρ (vector n t) σ = ap suc (weight_put W ρ t σ)
  weight_put W ρ (fun a b) σ = refl
  weight_put W ρ (signal a b) σ = refl
  weight_put W ρ (for_all k t) σ = refl

  weights_put : (W : ℕ → List ℕ → ℕ) (ρ : ℕ → ℕ) (ts : TypeTrees) (σ : Substitution) → weights W ρ (sub_all ts σ) ≡ weights W (λ x. weight W ρ (σ x)) ts
  weights_put W ρ no_types σ = refl
  weights_put W ρ (type_and t ts) σ = λ i. weight_put W ρ t σ i ∷ weights_put W ρ ts σ i

weights_list : (W : ℕ → List ℕ → ℕ) (ρ : ℕ → ℕ) (ts : TypeTrees) → weights W ρ ts ≡ map (weight W ρ) (list_of ts)
unfolding weight
weights_list W ρ no_types = refl
weights_list W ρ (type_and t ts) = ap (λ ws. weight W ρ t ∷ ws) (weights_list W ρ ts)

pub reverse_map : {X : Type 0} (f : TypeTree → X) (ts : List TypeTree) → reverse (map f ts) ≡ map f (reverse ts)
reverse_map f [] = refl
reverse_map f (t ∷ ts) =
    reverse-append (f t ∷ []) (map f ts) ∙ ap (λ us. us ++ f t ∷ []) (reverse_map f ts) ∙ sym (map-append f (reverse ts) (t ∷ [])) ∙ ap (map f) (sym (reverse-append (t ∷ []) ts))

numbers_given : (W : ℕ → List ℕ → ℕ) (ts : List TypeTree) (x : ℕ) → numbers (map (weight W (λ y. 0)) ts) x ≡ weight W (λ y. 0) (given ts x)
unfolding weight
numbers_given W [] x = refl
numbers_given W (t ∷ ts) zero = refl
numbers_given W (t ∷ ts) (suc x) = numbers_given W ts x

-- the weights of the arguments are those that variables have
numbers_arguments : (W : ℕ → List ℕ → ℕ) (ts : TypeTrees) → numbers (reverse (weights W (λ y. 0) ts)) ≡ (λ x. weight W (λ y. 0) (arguments ts x))
numbers_arguments W ts = λ i x. (here x) i
  where
    here : (x : ℕ) → numbers (reverse (weights W (λ y. 0) ts)) x ≡ weight W (λ y. 0) (arguments ts x)
    here x = ap (λ ws. numbers ws x) (ap reverse (weights_list W (λ y. 0) ts) ∙ reverse_map (weight W (λ y. 0)) (list_of ts)) ∙ numbers_given W (reverse (list_of ts)) x

mutual
  unfolding weight

  same_weight : (W V : ℕ → List ℕ → ℕ) (ρ : ℕ → ℕ) (t : TypeTree) → ((e : ℕ) → Mentions t e → (ws : List ℕ) → W e ws ≡ V e ws) → weight W ρ t ≡ weight V ρ t
  same_weight W V ρ (ty_var x) h = refl
  same_weight W V ρ (data_of d ts) h = ap suc (h d (inl refl) (weights W ρ ts) ∙ ap (V d) (same_weights W V ρ ts (λ e m. h e (inr m))))
  same_weight W V ρ (nat_lit n) h = refl
  same_weight W V ρ (nat_sum a b) h = refl
  same_weight W V ρ (nat_product a b) h = refl
  same_weight W V ρ (domain d) h = refl
  same_weight W V ρ (scalar s w) h = refl
  same_weight W V ρ (vector n t) h = ap suc (same_weight W V ρ t (λ e m. h e (inr m)))
  same_weight W V ρ (fun a b) h = refl
  same_weight W V ρ (signal a b) h = refl
  same_weight W V ρ (for_all k t) h = refl

  same_weights : (W V : ℕ → List ℕ → ℕ) (ρ : ℕ → ℕ) (ts : TypeTrees) → ((e : ℕ) → MentionsAny ts e → (ws : List ℕ) → W e ws ≡ V e ws) → weights W ρ ts ≡ weights V ρ ts
  same_weights W V ρ no_types h = refl
  same_weights W V ρ (type_and t ts) h = λ i. same_weight W V ρ t (λ e m. h e (inl m)) i ∷ same_weights W V ρ ts (λ e m. h e (inr m)) i

same_fields : (W V : ℕ → List ℕ → ℕ) (ρ : ℕ → ℕ) (fs : List TypeTree) → ((e : ℕ) → MentionedIn fs e → (ws : List ℕ) → W e ws ≡ V e ws) → field_weight W ρ fs ≡ field_weight V ρ fs
same_fields W V ρ [] h = refl
same_fields W V ρ (f ∷ fs) h = λ i. suc (same_weight W V ρ f (λ e m. h e (inl m)) i) + same_fields W V ρ fs (λ e m. h e (inr m)) i

no_fields : (datas : List Data) (d : ℕ) (o : Option Data) → slice_get datas d ≡ o → (d < length datas → ⊥) → fields_in o ≡ []
no_fields datas d None e h = refl
no_fields datas d (Some it) e h = absurd (h (slice_get_within datas d it e))

mentioned_by : (datas : List Data) (order : HasNoCycle datas) (d e : ℕ) (o : Option Data) → slice_get datas d ≡ o → MentionedIn (fields_in o) e → e < length datas → (order.place e < order.place d) × (d < length datas)
mentioned_by datas order d e None is m l = absurd m
mentioned_by datas order d e (Some it) is m l = (order.earlier d e l (it, is, m), slice_get_within datas d it is)

-- unfolding once more than the place says changes nothing
stable : (datas : List Data) (order : HasNoCycle datas) (n d : ℕ) → (d < length datas → order.place d < n) → (ws : List ℕ) → data_weight datas n d ws ≡ data_weight datas (suc n) d ws
unfolding data_weight
stable datas order zero d h ws =
    ap (field_weight (data_weight datas zero) (numbers (reverse ws))) (sym (no_fields datas d (slice_get datas d) refl (λ l. absurd (let w = h l in omega arith))))
stable datas order (suc n) d h ws =
    same_fields (data_weight datas n) (data_weight datas (suc n)) (numbers (reverse ws)) (fields_in (slice_get datas d))
    (λ e m. stable datas order n e (λ l. let w = mentioned_by datas order d e (slice_get datas d) refl m l in let k = h w.1 in omega (arith, w.0)))

fields_put : (datas : List Data) (W : ℕ → List ℕ → ℕ) (σ : Substitution) (fs : List TypeTree) → W ≡ data_weight datas (length datas) → field_weight W (λ x. weight W (λ y. 0) (σ x)) fs ≡ all_whole datas (map (λ f. sub f σ) fs)
fields_put datas W σ [] e = refl
fields_put datas W σ (f ∷ fs) e = λ i. suc ((sym (weight_put W (λ y. 0) f σ) ∙ ap (λ V. weight V (λ y. 0) (sub f σ)) e) i) + fields_put datas W σ fs e i

-- a data type weighs one more than its fields with the arguments put in
pub unfolded : (datas : List Data) (order : HasNoCycle datas) (d : ℕ) (it : Data) (ts : TypeTrees) → slice_get datas d ≡ Some it → whole datas (data_of d ts) ≡ suc (all_whole datas (map (λ f. sub f (arguments ts)) (all_fields it.cons)))
unfolding weight data_weight
unfolded datas order d it ts known =
    let W : ℕ → List ℕ → ℕ = data_weight datas (length datas) in
    ap suc
    (stable datas order (length datas) d (λ l. order.within d l) (weights W (λ y. 0) ts)
    ∙ ap (λ o. field_weight W (numbers (reverse (weights W (λ y. 0) ts))) (fields_in o)) known
    ∙ ap (λ ρ. field_weight W ρ (all_fields it.cons)) (numbers_arguments W ts)
    ∙ fields_put datas W (arguments ts) (all_fields it.cons) refl)

pub all_whole_append : (datas : List Data) (ts us : List TypeTree) → all_whole datas (ts ++ us) ≡ all_whole datas ts + all_whole datas us
all_whole_append datas [] us = omega arith
all_whole_append datas (t ∷ ts) us = ap (λ n. suc (whole datas t) + n) (all_whole_append datas ts us) ∙ plus (whole datas t) (all_whole datas ts) (all_whole datas us)
  where
    plus : (a b c : ℕ) → suc a + (b + c) ≡ suc a + b + c
    plus a b c = omega arith

pub all_whole_reverse : (datas : List Data) (ts : List TypeTree) → all_whole datas (reverse ts) ≡ all_whole datas ts
all_whole_reverse datas [] = refl
all_whole_reverse datas (t ∷ ts) =
    ap (all_whole datas) (reverse-append (t ∷ []) ts) ∙ all_whole_append datas (reverse ts) (t ∷ []) ∙ ap (λ n. n + all_whole datas (t ∷ [])) (all_whole_reverse datas ts) ∙ plus (whole datas t) (all_whole datas ts)
  where
    plus : (a b : ℕ) → b + (suc a + 0) ≡ suc a + b
    plus a b = omega arith

-- what a vector weighs
pub whole_vector : (datas : List Data) (n t : TypeTree) → whole datas (vector n t) ≡ suc (whole datas t)
unfolding weight
whole_vector datas n t = refl
