-- What the loops over types, fields and constructors keep.
use Rattle.std.proofs.Common.{◌≡◌, ℕ, zero, suc, ◌+◌, ◌-◌, ◌<◌, ◌≤◌, refl, sym, ap, subst, ◌∙◌, List, [], ◌∷◌, ◌++◌, length, get_or, take, drop, arith}
use Rattle.std.specs.List.{AllZip}
use Rattle.std.proofs.lemmas.List.{drop_more, drop_all, take_more}
use Rattle.chw_types.specs.declared.declarations.ConDecl.{ConDecl}
use Rattle.chw_types.specs.declared.declarations.Data.{Data}
use Rattle.chw_types.specs.TypeTree.{TypeTree}
use Rattle.chw_types.specs.TypeMoves.{sub}
use Rattle.chw_layout.specs.Measured.{fits, Measured, MeasuredCons, no_cons_measured, con_measured, MeasuredFields, no_fields_measured, field_measured}
use Rattle.chw_layout.proofs.Measures.{next_field, next_con}
use Rattle.type_widths.specs.declared.outcome.Outcome.{Outcome}
use Rattle.type_widths.specs.declared.outcome.Outcome.TheVariants.{Fits}
use Rattle.type_widths.specs.Outcomes.{then_outcome, or_outcome, Lays, ComesUnder, FieldsCome, ConsCome}
use Rattle.type_widths.proofs.Laying.{then_lays, or_lays}

-- one more type with its outcome
zip_last : (datas : List Data) (env : List Outcome) (ts : List TypeTree) (os : List Outcome) (t : TypeTree) (o : Outcome) → AllZip (ComesUnder datas env) ts os → ComesUnder datas env t o
    → AllZip (ComesUnder datas env) (ts ++ t ∷ []) (os ++ o ∷ [])
zip_last datas env [] [] t o a c = (c, tt)
zip_last datas env (u ∷ ts) (p ∷ os) t o a c = (a.0, zip_last datas env ts os t o a.1 c)
zip_last datas env [] (p ∷ os) t o a c = absurd a
zip_last datas env (u ∷ ts) [] t o a c = absurd a

-- the types so far with the next one
pub next_comes : (datas : List Data) (env : List Outcome) (ts : List TypeTree) (i : ℕ) (os more : List Outcome) (t : TypeTree) (o : Outcome) → i < length ts → t ≡ get_or ts i t → ComesUnder datas env t o
    → more ≡ os ++ o ∷ [] → AllZip (ComesUnder datas env) (take i ts) os → AllZip (ComesUnder datas env) (take (i + 1) ts) more
next_comes datas env ts i os more t o l e c is a =
    subst (λ us. AllZip (ComesUnder datas env) us more) (sym (take_more ts i t l ∙ ap (λ u. take i ts ++ u ∷ []) (sym e)))
    (subst (AllZip (ComesUnder datas env) (take i ts ++ t ∷ [])) (sym is) (zip_last datas env (take i ts) os t o a c))

take_whole : (ts : List TypeTree) (i : ℕ) → length ts ≤ i → take i ts ≡ ts
take_whole [] zero l = refl
take_whole [] (suc i) l = refl
take_whole (t ∷ ts) zero l = absurd (omega arith)
take_whole (t ∷ ts) (suc i) l = ap (λ us. t ∷ us) (take_whole ts i (omega arith))

pub all_come : (datas : List Data) (env : List Outcome) (ts : List TypeTree) (i : ℕ) (os : List Outcome) → length ts ≤ i → AllZip (ComesUnder datas env) (take i ts) os → AllZip (ComesUnder datas env) ts os
all_come datas env ts i os l a = subst (λ us. AllZip (ComesUnder datas env) us os) (take_whole ts i l) a

-- behind all fields there is none
pub no_fields_come : (datas : List Data) (env : List Outcome) (fs : List TypeTree) (i : ℕ) → length fs ≤ i → FieldsCome datas env (drop i fs) (Fits 0)
no_fields_come datas env fs i l = λ σ h. subst (λ gs. MeasuredFields datas gs σ (fits 0)) (sym (drop_all i fs l)) no_fields_measured

-- one more field before those that are measured
pub field_before : (datas : List Data) (env : List Outcome) (fs : List TypeTree) (i j : ℕ) (f : TypeTree) (o rest all : Outcome)
    → j ≡ i - 1 → 0 < i → j < length fs → f ≡ get_or fs j f → ComesUnder datas env f o → FieldsCome datas env (drop i fs) rest → all ≡ then_outcome o rest
    → FieldsCome datas env (drop j fs) all
field_before datas env fs i j f o rest all at some l is comes behind same = λ σ h.
    let next : i ≡ j + 1 = omega arith in
    let left : drop j fs ≡ f ∷ drop (j + 1) fs = drop_more fs j f l ∙ ap (λ g. g ∷ drop (j + 1) fs) (sym is) in
    let more : Lays (MeasuredFields datas (drop (j + 1) fs) σ) rest = subst (λ k. Lays (MeasuredFields datas (drop k fs) σ) rest) next (behind σ h) in
    subst (λ gs. Lays (MeasuredFields datas gs σ) all) (sym left)
    (subst (Lays (MeasuredFields datas (f ∷ drop (j + 1) fs) σ)) (sym same)
    (then_lays (Measured datas (sub f σ)) (MeasuredFields datas (drop (j + 1) fs) σ) (MeasuredFields datas (f ∷ drop (j + 1) fs) σ)
    (λ a b p q. field_measured p q) (λ m r. let w = next_field r in (w.one, w.others, w.first, w.rest)) o rest (comes σ h).as_layout more))

-- behind all constructors there is none
pub no_cons_come : (datas : List Data) (env : List Outcome) (cs : List ConDecl) (i : ℕ) → length cs ≤ i → ConsCome datas env (drop i cs) (Fits 0)
no_cons_come datas env cs i l = λ σ h. subst (λ ks. MeasuredCons datas ks σ (fits 0)) (sym (drop_all i cs l)) no_cons_measured

-- one more constructor before those that are measured
pub con_before : (datas : List Data) (env : List Outcome) (cs : List ConDecl) (i j : ℕ) (c : ConDecl) (o rest all : Outcome)
    → j ≡ i - 1 → 0 < i → j < length cs → c ≡ get_or cs j c → FieldsCome datas env c.fields o → ConsCome datas env (drop i cs) rest → all ≡ or_outcome o rest
    → ConsCome datas env (drop j cs) all
con_before datas env cs i j c o rest all at some l is comes behind same = λ σ h.
    let next : i ≡ j + 1 = omega arith in
    let left : drop j cs ≡ c ∷ drop (j + 1) cs = drop_more cs j c l ∙ ap (λ k. k ∷ drop (j + 1) cs) (sym is) in
    let more : Lays (MeasuredCons datas (drop (j + 1) cs) σ) rest = subst (λ k. Lays (MeasuredCons datas (drop k cs) σ) rest) next (behind σ h) in
    subst (λ ks. Lays (MeasuredCons datas ks σ) all) (sym left)
    (subst (Lays (MeasuredCons datas (c ∷ drop (j + 1) cs) σ)) (sym same)
    (or_lays (MeasuredFields datas c.fields σ) (MeasuredCons datas (drop (j + 1) cs) σ) (MeasuredCons datas (c ∷ drop (j + 1) cs) σ)
    (λ a b p q. con_measured p q) (λ m r. let w = next_con r in (w.one, w.others, w.first, w.rest)) o rest (comes σ h) more))
