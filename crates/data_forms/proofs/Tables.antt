-- Tables of forms that grow.
use Rattle.std.proofs.Common.{◌≡◌, ℕ, zero, suc, ◌<◌, ◌≤◌, List, [], ◌∷◌, ◌++◌, length, map, get_or, refl, sym, ap, subst, ◌∙◌, arith, append_assoc, length-append}
use Rattle.std.specs.Prelude.{Some, Result, Ok, Err, IfOk, OnOk}
use Rattle.std.specs.List.{AllByRecursion, slice_get}
use Rattle.std.proofs.lemmas.List.{append-nil, map-append}
use Rattle.std.proofs.lemmas.Option.{slice_get_within}
use Rattle.chw_types.specs.declared.declarations.ConDecl.{ConDecl}
use Rattle.chw_types.specs.declared.declarations.Data.{Data}
use Rattle.chw_types.specs.Arguments.{arguments}
use Rattle.chw_base.specs.declared.limits.TheConstants.{DATA_BITS}
use Rattle.chw_types.specs.TypeMoves.{Substitution, sub}
use Rattle.chw_types.specs.TypeTree.{TypeTree, TypeTrees, data_of}
use Rattle.chw_layout.specs.Measured.{HasWidth, MeasuredFields, fits}
use Rattle.chw_layout.proofs.Fitting.{con_width, cons_width, field_width}
use Rattle.data_bits.specs.Encoding.{FieldsFit, Fits}
use Rattle.data_forms.specs.declared.forms.Form.{Form}
use Rattle.data_forms.specs.declared.forms.Shape.{Shape}
use Rattle.data_forms.specs.Forms.{AreConsAt, AreForms, AreTypesAt, Grows, IsForm, IsShape, is_all, is_row, is_choice, is_decoded, IsTypeAt, fields_of, type_at}

-- ---- places

pub type_of : (forms : List Form) (i : ℕ) (f : Form) → slice_get forms i ≡ Some f → type_at forms i ≡ f.ty
type_of [] i f e = absurd (cc)
type_of (g ∷ forms) zero f e = let same : g ≡ f = cc in ap (λ (x : Form). x.ty) same
type_of (g ∷ forms) (suc i) f e = type_of forms i f e

type_kept : (forms more : List Form) (i : ℕ) → i < length forms → type_at (forms ++ more) i ≡ type_at forms i
type_kept [] more i below = absurd (omega (arith, below))
type_kept (f ∷ forms) more zero below = refl
type_kept (f ∷ forms) more (suc i) below = type_kept forms more i (omega (arith, below))

types_kept : (forms more : List Form) (bound : ℕ) (places : List ℕ) → bound ≤ length forms → AllByRecursion (λ at. at < bound) places → map (type_at (forms ++ more)) places ≡ map (type_at forms) places
types_kept forms more bound [] le below = refl
types_kept forms more bound (at ∷ places) le below =
    let first = below.0 in
    λ i. type_kept forms more at (omega (arith, first, le)) i ∷ types_kept forms more bound places le below.1 i

below_more : (bound higher : ℕ) (places : List ℕ) → bound ≤ higher → AllByRecursion (λ at. at < bound) places → AllByRecursion (λ at. at < higher) places
below_more bound higher [] le all = tt
below_more bound higher (at ∷ places) le all = let first = all.0 in (omega (arith, first, le), below_more bound higher places le all.1)

-- types stay at their places
types_stay : (forms more : List Form) (bound higher : ℕ) (types : List TypeTree) (places : List ℕ) → bound ≤ length forms → bound ≤ higher → AreTypesAt forms bound types places
    → AreTypesAt (forms ++ more) higher types places
types_stay forms more bound higher types places le up are = record {
  below = below_more bound higher places up are.below;
  are = types_kept forms more bound places le are.below ∙ are.are;
}

cons_stay : (forms more : List Form) (bound higher : ℕ) (σ : Substitution) (cons : List ConDecl) (places : List (List ℕ)) → bound ≤ length forms → bound ≤ higher
    → AreConsAt forms bound σ cons places → AreConsAt (forms ++ more) higher σ cons places
cons_stay forms more bound higher σ [] [] le up are = tt
cons_stay forms more bound higher σ [] (ps ∷ places) le up are = absurd are
cons_stay forms more bound higher σ (c ∷ cons) [] le up are = absurd are
cons_stay forms more bound higher σ (c ∷ cons) (ps ∷ places) le up are =
    (types_stay forms more bound higher (fields_of c.fields σ) ps le up are.0, cons_stay forms more bound higher σ cons places le up are.1)

-- a shape stays one of its type
shape_stays : {datas : List Data} {t : TypeTree} {s : Shape} (forms more : List Form) (place : ℕ) → place ≤ length forms → IsShape datas forms place t s → IsShape datas (forms ++ more) place t s
shape_stays forms more place le (is_all takes) = is_all takes
shape_stays forms more place le (is_row {at = at} count below is) = is_row count below (type_kept forms more at (omega (arith, below, le)) ∙ is)
shape_stays forms more place le (is_choice {it = it} {ts = ts} {cons = cons} known tag are) =
    is_choice known tag (cons_stay forms more place place (arguments ts) it.cons cons le (omega arith) are)
shape_stays forms more place le is_decoded = is_decoded

-- ---- one form more

-- what stands in a longer list
data StandsIn {A : Type 0} (xs : List A) (y : A) (i : ℕ) (x : A) : Type 0 where
  before : slice_get xs i ≡ Some x → StandsIn xs y i x
  last : i ≡ length xs → y ≡ x → StandsIn xs y i x

stands_in : {A : Type 0} (xs : List A) (y : A) (i : ℕ) (x : A) → slice_get (xs ++ y ∷ []) i ≡ Some x → StandsIn xs y i x
stands_in [] y zero x e = last refl (cc)
stands_in [] y (suc i) x e = absurd (cc)
stands_in (z ∷ xs) y zero x e = before e
stands_in (z ∷ xs) y (suc i) x e =
    elim (stands_in xs y i x e) [ before h ↦ before h | last at same ↦ last (omega (arith, at)) same ]

pub last_type : (forms : List Form) (f : Form) → type_at (forms ++ f ∷ []) (length forms) ≡ f.ty
last_type [] f = refl
last_type (g ∷ forms) f = last_type forms f

pub forms_push : (datas : List Data) (forms : List Form) (f : Form) → HasWidth datas f.ty f.width → IsShape datas forms (length forms) f.ty f.shape → AreForms datas forms → AreForms datas (forms ++ f ∷ [])
forms_push datas forms f width shape are i g at =
    elim (stands_in forms f i g at) [
      | before h ↦
          let within = slice_get_within forms i g h in
          let old = are i g h in
          record { width = old.width; shape = shape_stays forms (f ∷ []) i (omega (arith, within)) old.shape }
      | last place same ↦
          subst (IsForm datas (forms ++ f ∷ []) i) same
          (record { width = width; shape = subst (λ n. IsShape datas (forms ++ f ∷ []) n f.ty f.shape) (sym place) (shape_stays forms (f ∷ []) (length forms) (omega arith) shape) })
    ]

pub no_forms : (datas : List Data) (forms : List Form) → forms ≡ [] → AreForms datas forms
no_forms datas forms none = subst (AreForms datas) (sym none) (λ i f at. absurd (cc))

-- ---- growing tables

pub grown_none : (forms : List Form) → Grows forms forms
grown_none forms = ([], sym (append-nil forms))

pub grown_more : (a b c : List Form) → Grows a b → Grows b c → Grows a c
grown_more a b c x y = (x.0 ++ y.0, y.1 ∙ ap (λ l. l ++ y.0) x.1 ∙ append_assoc a x.0 y.0)

-- what the loops that put forms keep
pub record PutTypes (datas : List Data) (old forms : List Form) (types : List TypeTree) (places : List ℕ) : Type 0 where
  pub forms_are : AreForms datas forms
  pub grown : Grows old forms
  pub at : AreTypesAt forms (length forms) types places

pub record PutCons (datas : List Data) (old forms : List Form) (σ : Substitution) (cons : List ConDecl) (places : List (List ℕ)) : Type 0 where
  pub forms_are : AreForms datas forms
  pub grown : Grows old forms
  pub at : AreConsAt forms (length forms) σ cons places

pub no_types_put : (datas : List Data) (forms : List Form) (places : List ℕ) → AreForms datas forms → places ≡ [] → PutTypes datas forms forms [] places
no_types_put datas forms places are none =
    subst (PutTypes datas forms forms []) (sym none) (record { forms_are = are; grown = grown_none forms; at = record { below = tt; are = refl } })

pub no_cons_put : (datas : List Data) (forms : List Form) (σ : Substitution) (places : List (List ℕ)) → AreForms datas forms → places ≡ [] → PutCons datas forms forms σ [] places
no_cons_put datas forms σ places are none =
    subst (PutCons datas forms forms σ []) (sym none) (record { forms_are = are; grown = grown_none forms; at = tt })

below_push : (bound : ℕ) (places : List ℕ) (at : ℕ) → AllByRecursion (λ i. i < bound) places → at < bound → AllByRecursion (λ i. i < bound) (places ++ at ∷ [])
below_push bound [] at all here = (here, tt)
below_push bound (i ∷ places) at all here = (all.0, below_push bound places at all.1 here)

cons_push : (forms : List Form) (bound : ℕ) (σ : Substitution) (cons : List ConDecl) (places : List (List ℕ)) (c : ConDecl) (ps : List ℕ) → AreConsAt forms bound σ cons places
    → AreTypesAt forms bound (fields_of c.fields σ) ps → AreConsAt forms bound σ (cons ++ c ∷ []) (places ++ ps ∷ [])
cons_push forms bound σ [] [] c ps are here = (here, tt)
cons_push forms bound σ [] (qs ∷ places) c ps are here = absurd are
cons_push forms bound σ (b ∷ cons) [] c ps are here = absurd are
cons_push forms bound σ (b ∷ cons) (qs ∷ places) c ps are here = (are.0, cons_push forms bound σ cons places c ps are.1 here)

length_grown : (a b : List Form) → Grows a b → length a ≤ length b
length_grown a b g = let n = ap length g.1 ∙ length-append a g.0 in omega (arith, n)

pub type_put : (datas : List Data) (old forms new : List Form) (types types' : List TypeTree) (places places' : List ℕ) (t : TypeTree) (at : ℕ)
    → types' ≡ types ++ t ∷ [] → places' ≡ places ++ at ∷ [] → AreForms datas new → Grows forms new → IsTypeAt new at t → PutTypes datas old forms types places
    → PutTypes datas old new types' places'
type_put datas old forms new types types' places places' t at one two are g here put =
    let long = length_grown forms new g in
    let stay : AreTypesAt new (length new) types places =
    subst (λ l. AreTypesAt l (length new) types places) (sym g.1) (types_stay forms g.0 (length forms) (length new) types places (omega arith) long put.at) in
    subst (λ ts. PutTypes datas old new ts places') (sym one)
    (subst (PutTypes datas old new (types ++ t ∷ [])) (sym two)
    (record {
      forms_are = are;
      grown = grown_more old forms new put.grown g;
      at = record {
        below = below_push (length new) places at stay.below here.within;
        are = map-append (type_at new) places (at ∷ []) ∙ (λ i. stay.are i ++ here.is_type i ∷ []);
      };
    }))

pub con_put : (datas : List Data) (old forms new : List Form) (σ : Substitution) (cons cons' : List ConDecl) (places places' : List (List ℕ)) (c : ConDecl) (ps : List ℕ)
    → cons' ≡ cons ++ c ∷ [] → places' ≡ places ++ ps ∷ [] → AreForms datas new → Grows forms new → AreTypesAt new (length new) (fields_of c.fields σ) ps
    → PutCons datas old forms σ cons places → PutCons datas old new σ cons' places'
con_put datas old forms new σ cons cons' places places' c ps one two are g here put =
    let long = length_grown forms new g in
    let stay : AreConsAt new (length new) σ cons places =
    subst (λ l. AreConsAt l (length new) σ cons places) (sym g.1) (cons_stay forms g.0 (length forms) (length new) σ cons places (omega arith) long put.at) in
    subst (λ cs. PutCons datas old new σ cs places') (sym one)
    (subst (PutCons datas old new σ (cons ++ c ∷ [])) (sym two)
    (record {
      forms_are = are;
      grown = grown_more old forms new put.grown g;
      at = cons_push new (length new) σ cons places c ps stay here;
    }))

-- the form that is put last
pub type_last : (forms new : List Form) (f : Form) (at : ℕ) → new ≡ forms ++ f ∷ [] → at ≡ length forms → IsTypeAt new at f.ty
type_last forms new f at put place =
    let n = ap length put ∙ length-append forms (f ∷ []) in
    record {
      within = omega (arith, n, place);
      is_type = (λ i. type_at (put i) (place i)) ∙ last_type forms f;
    }

-- what is answered, of which two things hold
pub ok_both : {T E : Type 0} {P S : T → Type 0} {Q : Type 0} (r : Result T E) → ((x : T) → P x → Q → S x) → IfOk r P → OnOk r Q → IfOk r S
ok_both (Ok x) f p q = f x p q
ok_both (Err e) f p q = tt

-- ---- fields of types with widths

pub con_fits : (datas : List Data) (d : ℕ) (ts : TypeTrees) (it : Data) (tag : ℕ) (c : ConDecl) (fields : List TypeTree) → slice_get datas d ≡ Some it → slice_get it.cons tag ≡ Some c
    → fields ≡ c.fields → Fits datas (data_of d ts) → FieldsFit datas fields (arguments ts)
con_fits datas d ts it tag c fields known at are f =
    let x = cons_width it known f.1 in
    let y = con_width it.cons tag c at x.cons in
    record {
      width = y.s;
      measured = subst (λ gs. MeasuredFields datas gs (arguments ts) (fits y.s)) (sym are) y.fields;
      within = let p = x.is in let q = x.within in let r = y.within in omega (arith, p, q, r);
    }

fields_fit_at : (datas : List Data) (fs : List TypeTree) (σ : Substitution) (w i : ℕ) (f : TypeTree) → w ≤ DATA_BITS → i < length fs → f ≡ get_or fs i f → MeasuredFields datas fs σ (fits w) → Fits datas (sub f σ)
fields_fit_at datas [] σ w i f small below at m = absurd (omega (arith, below))
fields_fit_at datas (g ∷ fs) σ w zero f small below at m =
    let x = field_width small m in (x.a, subst (λ u. HasWidth datas (sub u σ) x.a) (sym at) x.first)
fields_fit_at datas (g ∷ fs) σ w (suc i) f small below at m =
    let x = field_width small m in
    let sum = x.is in
    fields_fit_at datas fs σ x.b i f (omega (arith, small, sum)) (omega (arith, below)) at x.rest

pub field_fits : (datas : List Data) (fs : List TypeTree) (σ : Substitution) (i : ℕ) (f : TypeTree) → i < length fs → f ≡ get_or fs i f → FieldsFit datas fs σ → Fits datas (sub f σ)
field_fits datas fs σ i f below at fit = fields_fit_at datas fs σ fit.width i f fit.within below at fit.measured
