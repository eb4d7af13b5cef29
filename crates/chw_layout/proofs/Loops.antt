-- What the loops over fields and constructors keep.
use Rattle.std.proofs.Common.{◌≡◌, ℕ, suc, zero, ◌+◌, ◌<◌, ◌≤◌, refl, sym, ap, subst, ◌∙◌, List, [], ◌∷◌, ◌++◌, length, get_or, map, take, drop, arith}
use Rattle.std.specs.Prelude.{max}
use Rattle.std.proofs.lemmas.List.{drop_more, drop_all, take_more}
use Rattle.chw_types.specs.declared.declarations.ConDecl.{ConDecl}
use Rattle.chw_types.specs.declared.declarations.Data.{Data}
use Rattle.chw_types.specs.TypeTree.{TypeTree}
use Rattle.chw_types.specs.TypeMoves.{Substitution, sub}
use Rattle.chw_types.specs.Polynomials.{greatest, ended}
use Rattle.chw_layout.specs.declared.outcome.Outcome.{Outcome}
use Rattle.chw_layout.specs.declared.outcome.Outcome.TheVariants.{Number, Fits, TooWide}
use Rattle.chw_layout.specs.Measured.{Measure, fits, too_wide, then_measure, or_measure, MeasuredCons, MeasuredFields}
use Rattle.chw_layout.specs.Outcomes.{laid, Known, ComesUnder, FieldsCome, ConsCome, AllCome}
use Rattle.chw_layout.proofs.Measures.{IsWithin, fields_within, next_field, next_con, no_fields, no_cons}
use Rattle.chw_layout.proofs.Coming.{come_more}

-- the fields from here on have the measure that is left after this sum
abbrev pub FieldsLeft : List Data → List Outcome → List TypeTree → ℕ → ℕ → Type 0
FieldsLeft datas env fs i sum =
    (σ : Substitution) → Known datas env σ → (m : Measure) → MeasuredFields datas fs σ m → (r : Measure) × MeasuredFields datas (drop i fs) σ r × (m ≡ then_measure (fits sum) r)

nothing_before : (m : Measure) → IsWithin greatest m → m ≡ then_measure (fits 0) m
nothing_before (fits w) h = let e : w ≡ ended (0 + w) = omega arith in ap fits e
nothing_before (too_wide e) h = refl

sum_then : (s w : ℕ) (r : Measure) → then_measure (fits s) (then_measure (fits w) r) ≡ then_measure (fits (ended (s + w))) r
sum_then s w (fits b) = let e : ended (s + ended (w + b)) ≡ ended (ended (s + w) + b) = omega arith in ap fits e
sum_then s w (too_wide e) = refl

pub fields_begin : (datas : List Data) (env : List Outcome) (fs : List TypeTree) → FieldsLeft datas env fs 0 0
fields_begin datas env fs = λ σ h m d. (m, d, nothing_before m (fields_within d))

pub fits_laid : (w : ℕ) (m : Measure) → Fits w ≡ laid m → m ≡ fits w
fits_laid w (fits v) e = cc
fits_laid w (too_wide x) e = absurd (cc)

at_field : (datas : List Data) (fs : List TypeTree) (i : ℕ) (f : TypeTree) (σ : Substitution) (m : Measure) → i < length fs → f ≡ get_or fs i f → MeasuredFields datas (drop i fs) σ m → MeasuredFields datas (f ∷ drop (i + 1) fs) σ m
at_field datas fs i f σ m l e d = subst (λ gs. MeasuredFields datas gs σ m) (drop_more fs i f l ∙ ap (λ g. g ∷ drop (i + 1) fs) (sym e)) d

pub fields_go_on : (datas : List Data) (env : List Outcome) (fs : List TypeTree) (i sum width sum' : ℕ) (f : TypeTree) → i < length fs → f ≡ get_or fs i f → ComesUnder datas env f (Fits width) → sum' ≡ ended (sum + width) → FieldsLeft datas env fs i sum → FieldsLeft datas env fs (i + 1) sum'
fields_go_on datas env fs i sum width sum' f l e c is h = λ σ k m d.
    let w = h σ k m d in
    let v = next_field (at_field datas fs i f σ w.0 l e w.1) in
    let one : v.one ≡ fits width = fits_laid width v.one ((c σ k).as_layout v.one v.first) in (
      v.others,
      v.rest,
      w.2 ∙ ap (then_measure (fits sum)) (v.is ∙ ap (λ o. then_measure o v.others) one) ∙ sum_then sum width v.others ∙ ap (λ s. then_measure (fits s) v.others) (sym is),
    )

-- what is passed is no width
abbrev pub IsPassed : Outcome → Type 0
IsPassed (Fits w) = ⊥
IsPassed _ = Unit {0}

pub is_passed : (o : Outcome) → ((w : ℕ) → o ≡ Fits w → ⊥) → IsPassed o
is_passed (Number n) h = tt
is_passed (Fits w) h = h w refl
is_passed (TooWide e) h = tt

then_passed : (o : Outcome) (s : ℕ) (one rest : Measure) → IsPassed o → o ≡ laid one → laid (then_measure (fits s) (then_measure one rest)) ≡ laid one
then_passed o s (fits w) rest h e = absurd (subst IsPassed e h)
then_passed o s (too_wide x) rest h e = refl

pub fields_stop : (datas : List Data) (env : List Outcome) (fs : List TypeTree) (i sum : ℕ) (o : Outcome) (f : TypeTree) → i < length fs → f ≡ get_or fs i f → ComesUnder datas env f o → IsPassed o → FieldsLeft datas env fs i sum → FieldsCome datas env fs o
fields_stop datas env fs i sum o f l e c p h = λ σ k m d.
    let w = h σ k m d in
    let v = next_field (at_field datas fs i f σ w.0 l e w.1) in
    let one = (c σ k).as_layout v.one v.first in
    one ∙ sym (then_passed o sum v.one v.others p one) ∙ ap laid (sym (w.2 ∙ ap (then_measure (fits sum)) v.is))

pub fields_end : (datas : List Data) (env : List Outcome) (fs : List TypeTree) (i sum : ℕ) → length fs ≤ i → sum ≤ greatest → FieldsLeft datas env fs i sum → FieldsCome datas env fs (Fits sum)
fields_end datas env fs i sum l s h = λ σ k m d.
    let w = h σ k m d in
    let none : w.0 ≡ fits 0 = no_fields (subst (λ gs. MeasuredFields datas gs σ w.0) (drop_all i fs l) w.1) in
    let e : sum ≡ ended (sum + 0) = omega arith in
    ap Fits e ∙ ap laid (sym (w.2 ∙ ap (then_measure (fits sum)) none))

-- the constructors from here on have the measure that is left beside this width
abbrev pub ConsLeft : List Data → List Outcome → List ConDecl → ℕ → ℕ → Type 0
ConsLeft datas env cs i widest =
    (σ : Substitution) → Known datas env σ → (m : Measure) → MeasuredCons datas cs σ m → (r : Measure) × MeasuredCons datas (drop i cs) σ r × (m ≡ or_measure (fits widest) r)

none_before : (m : Measure) → m ≡ or_measure (fits 0) m
none_before (fits w) = let e : w ≡ max 0 w = omega arith in ap fits e
none_before (too_wide e) = refl

or_then : (s w : ℕ) (r : Measure) → or_measure (fits s) (or_measure (fits w) r) ≡ or_measure (fits (max s w)) r
or_then s w (fits b) = let e : max s (max w b) ≡ max (max s w) b = omega arith in ap fits e
or_then s w (too_wide e) = refl

pub cons_begin : (datas : List Data) (env : List Outcome) (cs : List ConDecl) → ConsLeft datas env cs 0 0
cons_begin datas env cs = λ σ h m d. (m, d, none_before m)

at_con : (datas : List Data) (cs : List ConDecl) (i : ℕ) (c : ConDecl) (σ : Substitution) (m : Measure) → i < length cs → c ≡ get_or cs i c → MeasuredCons datas (drop i cs) σ m → MeasuredCons datas (c ∷ drop (i + 1) cs) σ m
at_con datas cs i c σ m l e d = subst (λ xs. MeasuredCons datas xs σ m) (drop_more cs i c l ∙ ap (λ x. x ∷ drop (i + 1) cs) (sym e)) d

pub cons_go_on : (datas : List Data) (env : List Outcome) (cs : List ConDecl) (i widest width widest' : ℕ) (con : ConDecl) → i < length cs → con ≡ get_or cs i con → FieldsCome datas env con.fields (Fits width) → widest' ≡ max widest width → ConsLeft datas env cs i widest → ConsLeft datas env cs (i + 1) widest'
cons_go_on datas env cs i widest width widest' con l e c is h = λ σ k m d.
    let w = h σ k m d in
    let v = next_con (at_con datas cs i con σ w.0 l e w.1) in
    let one : v.one ≡ fits width = fits_laid width v.one (c σ k v.one v.first) in (
      v.others,
      v.rest,
      w.2 ∙ ap (or_measure (fits widest)) (v.is ∙ ap (λ o. or_measure o v.others) one) ∙ or_then widest width v.others ∙ ap (λ s. or_measure (fits s) v.others) (sym is),
    )

or_passed : (o : Outcome) (s : ℕ) (one rest : Measure) → IsPassed o → o ≡ laid one → laid (or_measure (fits s) (or_measure one rest)) ≡ laid one
or_passed o s (fits w) rest h e = absurd (subst IsPassed e h)
or_passed o s (too_wide x) rest h e = refl

pub cons_stop : (datas : List Data) (env : List Outcome) (cs : List ConDecl) (i widest : ℕ) (o : Outcome) (con : ConDecl) → i < length cs → con ≡ get_or cs i con → FieldsCome datas env con.fields o → IsPassed o → ConsLeft datas env cs i widest → ConsCome datas env cs o
cons_stop datas env cs i widest o con l e c p h = λ σ k m d.
    let w = h σ k m d in
    let v = next_con (at_con datas cs i con σ w.0 l e w.1) in
    let one = c σ k v.one v.first in
    one ∙ sym (or_passed o widest v.one v.others p one) ∙ ap laid (sym (w.2 ∙ ap (or_measure (fits widest)) v.is))

pub cons_end : (datas : List Data) (env : List Outcome) (cs : List ConDecl) (i widest : ℕ) → length cs ≤ i → ConsLeft datas env cs i widest → ConsCome datas env cs (Fits widest)
cons_end datas env cs i widest l h = λ σ k m d.
    let w = h σ k m d in
    let none : w.0 ≡ fits 0 = no_cons (subst (λ xs. MeasuredCons datas xs σ w.0) (drop_all i cs l) w.1) in
    let e : widest ≡ max widest 0 = omega arith in
    ap Fits e ∙ ap laid (sym (w.2 ∙ ap (or_measure (fits widest)) none))

-- the arguments up to here have these outcomes
abbrev pub ArgumentsCome : List Data → List Outcome → List TypeTree → ℕ → List Outcome → Type 0
ArgumentsCome datas env ts i os = (σ : Substitution) → Known datas env σ → AllCome datas (map (λ t. sub t σ) (take i ts)) os

map_end : (f : TypeTree → TypeTree) (ts : List TypeTree) (t : TypeTree) → map f (ts ++ t ∷ []) ≡ map f ts ++ f t ∷ []
map_end f [] t = refl
map_end f (u ∷ ts) t = ap (λ us. f u ∷ us) (map_end f ts t)

pub arguments_go_on : (datas : List Data) (env : List Outcome) (ts : List TypeTree) (i : ℕ) (os os' : List Outcome) (t : TypeTree) (o : Outcome) → i < length ts → t ≡ get_or ts i t → ComesUnder datas env t o → os' ≡ os ++ o ∷ [] → ArgumentsCome datas env ts i os → ArgumentsCome datas env ts (i + 1) os'
arguments_go_on datas env ts i os os' t o l e c is h = λ σ k.
    let f : TypeTree → TypeTree = λ u. sub u σ in
    let p : map f (take (i + 1) ts) ≡ map f (take i ts) ++ f t ∷ [] =
    ap (map f) (take_more ts i t l ∙ ap (λ u. take i ts ++ u ∷ []) (sym e)) ∙ map_end f (take i ts) t in
    subst (λ us. AllCome datas us os') (sym p) (subst (AllCome datas (map f (take i ts) ++ f t ∷ [])) (sym is) (come_more datas (map f (take i ts)) os (f t) o (h σ k) (c σ k)))

take_whole : (ts : List TypeTree) (i : ℕ) → length ts ≤ i → take i ts ≡ ts
take_whole [] zero l = refl
take_whole [] (suc i) l = refl
take_whole (t ∷ ts) zero l = absurd (omega arith)
take_whole (t ∷ ts) (suc i) l = ap (λ us. t ∷ us) (take_whole ts i (omega arith))

pub arguments_end : (datas : List Data) (env : List Outcome) (ts us : List TypeTree) (i : ℕ) (os : List Outcome) → length ts ≤ i → ts ≡ us → ArgumentsCome datas env ts i os → (σ : Substitution) → Known datas env σ → AllCome datas (map (λ t. sub t σ) us) os
arguments_end datas env ts us i os l e h = λ σ k. subst (λ vs. AllCome datas (map (λ t. sub t σ) vs) os) (take_whole ts i l ∙ e) (h σ k)
