-- Constructors and primitives act as themselves.
use Rattle.std.specs.Prelude.{slice_get}
use Rattle.std.proofs.Common.{◌≡◌, ◌<◌, ◌+◌, ◌⊎◌, inl, inr, ℕ, suc, zero, List, [], ◌∷◌, ◌++◌, length, map, reverse, Some, refl, sym, ap, ◌∙◌, subst, arith}
use Rattle.std.proofs.lemmas.List.{length-append, length-reverse}
use Rattle.std.proofs.lemmas.Option.{slice_get_within}
use Rattle.chw_types.specs.declared.kind.Kind.{Kind}
use Rattle.chw_types.specs.declared.kind.Kind.TheVariants.{Nat, Dom, Val}
use Rattle.chw_types.specs.declared.kind.Scalar.TheVariants.{U, B}
use Rattle.chw_types.specs.TypeTree.{TypeTree, ty_var, nat_lit, nat_sum, nat_product, scalar, vector, data_of, fun, signal, TypeTrees, no_types}
use Rattle.chw_types.specs.TypeMoves.{Substitution, sub, sub_all}
use Rattle.chw_types.specs.Arguments.{list_of, given, arguments}
use Rattle.chw_prims.specs.declared.prim.Primitive.{Primitive as Prim}
use Rattle.chw_prims.specs.declared.row.Row.{Row}
use Rattle.chw_prims.specs.declared.row.Row.TheVariants.{Binary, WideSum, WideProduct, Unary, Shift, Compare, Extend, Truncate, Cut, Joined, Reduce, Packed, Unpacked, Mapping, Applying, Constant, Delay, Memory, Crossing, Element, ElementAt, Replaced, Mapped, Zipped, FoldedLeft, FoldedRight, Generated, Replicated, Appended, Concatenated, Taken, Dropped, Reversed, Rotated}
use Rattle.chw_prims.specs.Schemas.{bool, maybe, pair, row_of, schema_type}
use Rattle.chw_terms.specs.declared.program.Program.{Program}
use Rattle.chw_terms.specs.Constructors.{Constructor, con_at}
use Rattle.chw_terms.specs.TermTree.{con, prim}
use Rattle.chw_typing.specs.Scopes.{IsTermType}
use Rattle.chw_typing.specs.HeadTypes.{variables, con_type, fields_at}
use Rattle.chw_typing.specs.Programs.{IsSound, setting_of}
use Rattle.chw_typing.proofs.Heads.{con_kind}
use Rattle.chw_typing.proofs.Lists.{reverse_cons, map_reverse}
use Rattle.chw_typing.proofs.Patterns.{fields_typed}
use Rattle.chw_typing.proofs.PutAgreeing.{Agree, put_agreeing}
use Rattle.chw_meaning.specs.Values.{con_of, con_head, Thunks, none, type_at, closed_type}
use Rattle.chw_meaning.specs.Steps.{Step, gives, params_of, fields_of, step}
use Rattle.chw_meaning.specs.Eval.{r_gives, e_con}
use Rattle.acts.specs.Levels.{Levels, term_has}
use Rattle.acts.specs.Acts.{AllAct, acts_from}
use Rattle.acts.proofs.Closing.{closed_stays}
use Rattle.acts.proofs.Forms.{TermsAct}
use Rattle.acts.proofs.Levels.{IsLevels, from_turns, cost, more}
use Rattle.acts.proofs.Replaces.{replaced_line}
use Rattle.acts.proofs.Rows.{prim_acts, binary_line, wide_sum_line, wide_product_line, unary_line, shift_line, extend_line, truncate_line, cut_line, joined_line, packed_line, unpacked_line, compare_line, reduce_line, mapping_line, applying_line, constant_line, delay_line, memory_line, crossing_line, element_line, element_at_line, mapped_line, zipped_line, folded_left_line, folded_right_line, generated_line, replicated_line, appended_line, concatenated_line, taken_line, dropped_line, reversed_line, rotated_line}
use Rattle.acts.proofs.Telescopes.{step_has, StepsAct, unapplied_acts}
use Rattle.acts.proofs.Typed.{HeadsAct}
use Rattle.acts.proofs.Values.{built_acts}

row_acts : (p : Program) → IsSound (setting_of p) → (q : Prim) (row : Row) → row_of q ≡ row → (r : Levels) → IsLevels p r → (γ' γ : Thunks) (δ' δ : TypeTrees) → TermsAct p r (schema_type q) (prim q) γ' δ' (prim q) γ δ
row_acts p sound q (Binary x) e = prim_acts p sound q (Binary x) e (Nat ∷ []) (scalar x (ty_var 0) ∷ scalar x (ty_var 0) ∷ []) (scalar x (ty_var 0)) refl refl refl (binary_line p sound q x e)
row_acts p sound q (WideSum x) e = prim_acts p sound q (WideSum x) e (Nat ∷ []) (scalar x (ty_var 0) ∷ scalar x (ty_var 0) ∷ []) (scalar x (nat_sum (ty_var 0) (nat_lit 1))) refl refl refl (wide_sum_line p sound q x e)
row_acts p sound q (WideProduct x) e = prim_acts p sound q (WideProduct x) e (Nat ∷ Nat ∷ []) (scalar x (ty_var 1) ∷ scalar x (ty_var 0) ∷ []) (scalar x (nat_sum (ty_var 1) (ty_var 0))) refl refl refl (wide_product_line p sound q x e)
row_acts p sound q (Unary x) e = prim_acts p sound q (Unary x) e (Nat ∷ []) (scalar x (ty_var 0) ∷ []) (scalar x (ty_var 0)) refl refl refl (unary_line p sound q x e)
row_acts p sound q (Shift x) e = prim_acts p sound q (Shift x) e (Nat ∷ Nat ∷ []) (scalar x (ty_var 1) ∷ scalar U (ty_var 0) ∷ []) (scalar x (ty_var 1)) refl refl refl (shift_line p sound q x e)
row_acts p sound q (Extend x) e = prim_acts p sound q (Extend x) e (Nat ∷ Nat ∷ []) (scalar x (ty_var 1) ∷ []) (scalar x (nat_sum (ty_var 1) (ty_var 0))) refl refl refl (extend_line p sound q x e)
row_acts p sound q (Truncate x) e = prim_acts p sound q (Truncate x) e (Nat ∷ Nat ∷ []) (scalar x (nat_sum (ty_var 1) (ty_var 0)) ∷ []) (scalar x (ty_var 1)) refl refl refl (truncate_line p sound q x e)
row_acts p sound q Cut e = prim_acts p sound q Cut e (Nat ∷ Nat ∷ Nat ∷ []) (scalar B (nat_sum (nat_sum (ty_var 0) (ty_var 1)) (ty_var 2)) ∷ []) (scalar B (ty_var 1)) refl refl refl (cut_line p sound q e)
row_acts p sound q Joined e = prim_acts p sound q Joined e (Nat ∷ Nat ∷ []) (scalar B (ty_var 1) ∷ scalar B (ty_var 0) ∷ []) (scalar B (nat_sum (ty_var 1) (ty_var 0))) refl refl refl (joined_line p sound q e)
row_acts p sound q (Packed x) e = prim_acts p sound q (Packed x) e (Nat ∷ []) (scalar x (ty_var 0) ∷ []) (scalar B (ty_var 0)) refl refl refl (packed_line p sound q x e)
row_acts p sound q (Unpacked x) e = prim_acts p sound q (Unpacked x) e (Nat ∷ []) (scalar B (ty_var 0) ∷ []) (scalar x (ty_var 0)) refl refl refl (unpacked_line p sound q x e)
row_acts p sound q (Compare x) e = prim_acts p sound q (Compare x) e (Nat ∷ []) (scalar x (ty_var 0) ∷ scalar x (ty_var 0) ∷ []) bool refl refl refl (compare_line p sound q x e)
row_acts p sound q Reduce e = prim_acts p sound q Reduce e (Nat ∷ []) (scalar B (ty_var 0) ∷ []) bool refl refl refl (reduce_line p sound q e)
row_acts p sound q Mapping e = prim_acts p sound q Mapping e (Dom ∷ Val ∷ Val ∷ []) (fun (ty_var 1) (ty_var 0) ∷ signal (ty_var 2) (ty_var 1) ∷ []) (signal (ty_var 2) (ty_var 0)) refl refl refl (mapping_line p sound q)
row_acts p sound q Applying e = prim_acts p sound q Applying e (Dom ∷ Val ∷ Val ∷ []) (signal (ty_var 2) (fun (ty_var 1) (ty_var 0)) ∷ signal (ty_var 2) (ty_var 1) ∷ []) (signal (ty_var 2) (ty_var 0)) refl refl refl (applying_line p sound q)
row_acts p sound q Constant e = prim_acts p sound q Constant e (Dom ∷ Val ∷ []) (ty_var 0 ∷ []) (signal (ty_var 1) (ty_var 0)) refl refl refl (constant_line p sound q)
row_acts p sound q Delay e = prim_acts p sound q Delay e (Dom ∷ Val ∷ []) (ty_var 0 ∷ signal (ty_var 1) (ty_var 0) ∷ []) (signal (ty_var 1) (ty_var 0)) refl refl refl (delay_line p sound q)
row_acts p sound q Memory e = prim_acts p sound q Memory e (Dom ∷ Nat ∷ Nat ∷ Val ∷ []) (vector (nat_sum (ty_var 2) (nat_lit 1)) (ty_var 0) ∷ signal (ty_var 3) (scalar U (ty_var 1)) ∷ signal (ty_var 3) (maybe (pair (scalar U (ty_var 1)) (ty_var 0))) ∷ []) (signal (ty_var 3) (ty_var 0)) refl refl refl (memory_line p sound q)
row_acts p sound q Crossing e = prim_acts p sound q Crossing e (Dom ∷ Dom ∷ Val ∷ []) (signal (ty_var 2) (ty_var 0) ∷ []) (signal (ty_var 1) (ty_var 0)) refl refl refl (crossing_line p sound q)
row_acts p sound q (Element kind) e = prim_acts p sound q (Element kind) e (Nat ∷ Nat ∷ kind ∷ []) (vector (nat_sum (nat_sum (ty_var 2) (nat_lit 1)) (ty_var 1)) (ty_var 0) ∷ []) (ty_var 0) refl refl refl (element_line p sound q kind)
row_acts p sound q ElementAt e = prim_acts p sound q ElementAt e (Nat ∷ Nat ∷ Val ∷ []) (vector (nat_sum (ty_var 2) (nat_lit 1)) (ty_var 0) ∷ scalar U (ty_var 1) ∷ []) (ty_var 0) refl refl refl (element_at_line p sound q)
row_acts p sound q (Mapped kind) e = prim_acts p sound q (Mapped kind) e (Nat ∷ kind ∷ kind ∷ []) (fun (ty_var 1) (ty_var 0) ∷ vector (ty_var 2) (ty_var 1) ∷ []) (vector (ty_var 2) (ty_var 0)) refl refl refl (mapped_line p sound q kind)
row_acts p sound q (Zipped kind) e = prim_acts p sound q (Zipped kind) e (Nat ∷ kind ∷ kind ∷ kind ∷ []) (fun (ty_var 2) (fun (ty_var 1) (ty_var 0)) ∷ vector (ty_var 3) (ty_var 2) ∷ vector (ty_var 3) (ty_var 1) ∷ []) (vector (ty_var 3) (ty_var 0)) refl refl refl (zipped_line p sound q kind)
row_acts p sound q (FoldedLeft kind) e = prim_acts p sound q (FoldedLeft kind) e (Nat ∷ kind ∷ kind ∷ []) (fun (ty_var 0) (fun (ty_var 1) (ty_var 0)) ∷ ty_var 0 ∷ vector (ty_var 2) (ty_var 1) ∷ []) (ty_var 0) refl refl refl (folded_left_line p sound q kind)
row_acts p sound q (FoldedRight kind) e = prim_acts p sound q (FoldedRight kind) e (Nat ∷ kind ∷ kind ∷ []) (fun (ty_var 1) (fun (ty_var 0) (ty_var 0)) ∷ ty_var 0 ∷ vector (ty_var 2) (ty_var 1) ∷ []) (ty_var 0) refl refl refl (folded_right_line p sound q kind)
row_acts p sound q (Generated kind) e = prim_acts p sound q (Generated kind) e (Nat ∷ Nat ∷ kind ∷ []) (fun (scalar U (ty_var 1)) (ty_var 0) ∷ []) (vector (ty_var 2) (ty_var 0)) refl refl refl (generated_line p sound q kind)
row_acts p sound q (Replicated kind) e = prim_acts p sound q (Replicated kind) e (Nat ∷ kind ∷ []) (ty_var 0 ∷ []) (vector (ty_var 1) (ty_var 0)) refl refl refl (replicated_line p sound q kind)
row_acts p sound q (Appended kind) e = prim_acts p sound q (Appended kind) e (Nat ∷ Nat ∷ kind ∷ []) (vector (ty_var 2) (ty_var 0) ∷ vector (ty_var 1) (ty_var 0) ∷ []) (vector (nat_sum (ty_var 2) (ty_var 1)) (ty_var 0)) refl refl refl (appended_line p sound q kind)
row_acts p sound q (Concatenated kind) e = prim_acts p sound q (Concatenated kind) e (Nat ∷ Nat ∷ kind ∷ []) (vector (ty_var 2) (vector (ty_var 1) (ty_var 0)) ∷ []) (vector (nat_product (ty_var 2) (ty_var 1)) (ty_var 0)) refl refl refl (concatenated_line p sound q kind)
row_acts p sound q (Taken kind) e = prim_acts p sound q (Taken kind) e (Nat ∷ Nat ∷ kind ∷ []) (vector (nat_sum (ty_var 2) (ty_var 1)) (ty_var 0) ∷ []) (vector (ty_var 2) (ty_var 0)) refl refl refl (taken_line p sound q kind)
row_acts p sound q (Dropped kind) e = prim_acts p sound q (Dropped kind) e (Nat ∷ Nat ∷ kind ∷ []) (vector (nat_sum (ty_var 2) (ty_var 1)) (ty_var 0) ∷ []) (vector (ty_var 1) (ty_var 0)) refl refl refl (dropped_line p sound q kind)
row_acts p sound q (Reversed kind) e = prim_acts p sound q (Reversed kind) e (Nat ∷ kind ∷ []) (vector (ty_var 1) (ty_var 0) ∷ []) (vector (ty_var 1) (ty_var 0)) refl refl refl (reversed_line p sound q kind)
row_acts p sound q (Rotated kind) e = prim_acts p sound q (Rotated kind) e (Nat ∷ Nat ∷ kind ∷ []) (vector (ty_var 2) (ty_var 0) ∷ []) (vector (ty_var 2) (ty_var 0)) refl refl refl (rotated_line p sound q kind)
row_acts p sound q Replaced e = prim_acts p sound q Replaced e (Nat ∷ Nat ∷ Val ∷ []) (vector (ty_var 2) (ty_var 0) ∷ scalar U (ty_var 1) ∷ ty_var 0 ∷ []) (vector (ty_var 2) (ty_var 0)) refl refl refl (replaced_line p sound q)

-- the first types of a putting
abbrev firsts : ℕ → Substitution → List TypeTree
firsts zero σ = []
firsts (suc n) σ = firsts n σ ++ σ n ∷ []

firsts_length : (n : ℕ) (σ : Substitution) → length (firsts n σ) ≡ n
firsts_length zero σ = refl
firsts_length (suc n) σ = length-append (firsts n σ) (σ n ∷ []) ∙ (let e : length (firsts n σ) + 1 ≡ suc n = omega (arith, firsts_length n σ) in e)

given_left : (xs ys : List TypeTree) (x : ℕ) → x < length xs → given (xs ++ ys) x ≡ given xs x
given_left [] ys x l = absurd (let bad : ⊥ = omega (arith, l) in bad)
given_left (a ∷ xs) ys zero l = refl
given_left (a ∷ xs) ys (suc x) l = given_left xs ys x (omega (arith, l))

given_end : (xs : List TypeTree) (a : TypeTree) → given (xs ++ a ∷ []) (length xs) ≡ a
given_end [] a = refl
given_end (b ∷ xs) a = given_end xs a

last_or : (x n : ℕ) → x < suc n → (x < n) ⊎ (x ≡ n)
last_or x zero l = inr (omega (arith, l))
last_or zero (suc n) l = inl (omega arith)
last_or (suc x) (suc n) l = one_more (last_or x n (omega (arith, l)))
  where
    one_more : (x < n) ⊎ (x ≡ n) → (suc x < suc n) ⊎ (suc x ≡ suc n)
    one_more (inl h) = inl (omega (arith, h))
    one_more (inr h) = inr (ap suc h)

given_firsts : (n : ℕ) (σ : Substitution) (x : ℕ) → x < n → given (firsts n σ) x ≡ σ x
given_firsts zero σ x l = absurd (let bad : ⊥ = omega (arith, l) in bad)
given_firsts (suc n) σ x l = by (last_or x n l) (given_firsts n σ x)
  where
    by : (x < n) ⊎ (x ≡ n) → (x < n → given (firsts n σ) x ≡ σ x) → given (firsts n σ ++ σ n ∷ []) x ≡ σ x
    by (inl m) before = given_left (firsts n σ) (σ n ∷ []) x (omega (arith, m, firsts_length n σ)) ∙ before m
    by (inr e) before = ap (given (firsts n σ ++ σ n ∷ [])) (e ∙ sym (firsts_length n σ)) ∙ given_end (firsts n σ) (σ n) ∙ ap σ (sym e)

variables_put : (n : ℕ) (σ : Substitution) → reverse (list_of (sub_all (variables n) σ)) ≡ firsts n σ
unfolding sub
variables_put zero σ = refl
variables_put (suc n) σ = reverse_cons (σ n) (list_of (sub_all (variables n) σ)) ∙ ap (λ xs. xs ++ σ n ∷ []) (variables_put n σ)

fields_closed : (p : Program) (params : List Kind) (fs : List TypeTree) (ts : TypeTrees) → ((i : ℕ) (f : TypeTree) → slice_get fs i ≡ Some f → IsTermType (setting_of p) (reverse params) f) → map (λ f. sub f (arguments (sub_all (variables (length params)) (type_at ts)))) fs ≡ map (λ t. closed_type t ts) fs
fields_closed p params [] ts typed = refl
fields_closed p params (f ∷ fs) ts typed = λ i. put_agreeing (typed 0 f refl).has (arguments (sub_all (variables (length params)) (type_at ts))) (type_at ts) agree i ∷ fields_closed p params fs ts (λ j. typed (suc j)) i
  where
    agree : Agree (reverse params) (arguments (sub_all (variables (length params)) (type_at ts))) (type_at ts)
    agree x k e =
        ap (λ xs. given xs x) (variables_put (length params) (type_at ts))
        ∙ given_firsts (length params) (type_at ts) x (omega (arith, slice_get_within (reverse params) x k e, length-reverse params))

con_step : {p : Program} {r : Levels} → IsLevels p r → (c : ℕ) (it : Constructor) (us : TypeTrees) (xs' xs : Thunks) → con_at p.datas c ≡ Some it → AllAct p r (reverse (fields_at it us)) xs' xs → StepsAct p r (data_of it.of us) (gives (con_of c xs')) (gives (con_of c xs))
con_step {p} l c it us xs' xs held all h' h m v al r_gives = built_acts l zero c it.of it us xs' xs (step_has p (gives (con_of c xs)) h) held refl (zero, r_gives) all

con_acts : (p : Program) → IsSound (setting_of p) → (c : ℕ) (it : Constructor) → con_at p.datas c ≡ Some it → (r : Levels) → IsLevels p r → (γ' γ : Thunks) (δ' δ : TypeTrees) → TermsAct p r (con_type it) (con c) γ' δ' (con c) γ δ
unfolding sub
con_acts p sound c it held r l γ' γ δ' δ h' h m v al (e_con {n = n} d) =
    cost l n (con_type it) v (term_has p (con c) γ δ h) (more l n (con_type it) v (step_has p unapplied h) (term_has p (con c) γ δ h) (λ w x. (suc x.0, e_con x.1)) (steps h' h n v al d))
  where
    unapplied : Step
    unapplied = step p.datas (con_head c) no_types none

    us : TypeTrees → TypeTrees
    us ts = sub_all (variables (length it.it.params)) (type_at ts)

    args : (ts : TypeTrees) → map (λ t. closed_type t ts) (reverse it.decl.fields) ≡ reverse (fields_at it (us ts))
    args ts = map_reverse (λ t. closed_type t ts) it.decl.fields ∙ ap reverse (sym (fields_closed p it.it.params it.decl.fields ts (fields_typed (setting_of p) c it sound held)))

    steps : StepsAct p r (con_type it) unapplied unapplied
    steps =
        subst (λ t. StepsAct p r t unapplied unapplied) (closed_stays p no_types (con_kind (setting_of p) c it sound held))
        (unapplied_acts p (con_head c) (data_of it.of (variables (length it.it.params))) l it.it.params it.decl.fields (ap params_of held) (ap fields_of held)
        (λ n ts xs' xs known size all. con_step (from_turns p n) c it (us ts) xs' xs held (subst (λ fs. AllAct p (acts_from p n) fs xs' xs) (args ts) all)))

pub heads_act : (p : Program) → IsSound (setting_of p) → HeadsAct p
heads_act p sound =
    record {
      cons = λ n c it γ' γ δ' δ held. con_acts p sound c it held (acts_from p n) (from_turns p n) γ' γ δ' δ;
      prims = λ n q γ' γ δ' δ. row_acts p sound q (row_of q) refl (acts_from p n) (from_turns p n) γ' γ δ' δ;
    }
