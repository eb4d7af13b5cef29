-- What the loops that encode keep.
use Rattle.std.proofs.Common.{◌≡◌, ℕ, suc, zero, ◌+◌, ◌<◌, ◌≤◌, Bool, refl, sym, ap, subst, ◌∙◌, List, [], ◌∷◌, ◌++◌, length, get_or, take, arith, append_assoc}
use Rattle.std.proofs.lemmas.List.{take_all, take_more, append-nil}
use Rattle.chw_base.specs.declared.limits.TheConstants.{DATA_BITS}
use Rattle.chw_types.specs.declared.declarations.Data.{Data}
use Rattle.chw_types.specs.TypeTree.{TypeTree}
use Rattle.chw_types.specs.TypeMoves.{Substitution, sub}
use Rattle.chw_layout.specs.Datum.{Datum, no_data, datum_and}
use Rattle.chw_layout.specs.DatumView.{datums_of}
use Rattle.chw_layout.specs.DatumSize.{datum_size, data_size}
use Rattle.chw_layout.specs.Measured.{fits, MeasuredFields, HasWidth}
use Rattle.chw_layout.specs.Encodes.{first_constructor, IsValueOf, AreElements, element_and, AreFields, field_and, Encodes, EncodesElements, no_element_bits, element_bits, EncodesFields, no_field_bits, field_bits}
use Rattle.data_bits.specs.Encoding.{Adds, Fits, FieldsFit}
use Rattle.chw_layout.proofs.Fitting.{field_width}

pub elements_end : {datas : List Data} {t : TypeTree} {v : Datum} {b more : List Bool} (vs : List Datum) → EncodesElements datas t (datums_of vs) b → Encodes datas t v more → EncodesElements datas t (datums_of (vs ++ v ∷ [])) (b ++ more)
elements_end {datas} {t} {v} {b} {more} [] no_element_bits e = subst (EncodesElements datas t (datum_and v no_data)) (append_nil more) (element_bits e no_element_bits)
  where
    append_nil : (xs : List Bool) → xs ++ [] ≡ xs
    append_nil [] = refl
    append_nil (x ∷ xs) = ap (λ ys. x ∷ ys) (append_nil xs)
elements_end {datas} {t} {v} {b} {more} (u ∷ vs) (element_bits {bits = x} {more = xs} f fs) e =
    subst (EncodesElements datas t (datum_and u (datums_of (vs ++ v ∷ [])))) (sym (append_assoc x xs more)) (element_bits f (elements_end vs fs e))

pub elements_more : (datas : List Data) (t : TypeTree) (vs : List Datum) (i : ℕ) (v : Datum) (old into into' : List Bool) → i < length vs → v ≡ get_or vs i v → Adds (EncodesElements datas t (datums_of (take i vs))) old into → Adds (Encodes datas t v) into into' → Adds (EncodesElements datas t (datums_of (take (i + 1) vs))) old into'
elements_more datas t vs i v old into into' l e a b = (
  a.0 ++ b.0,
  subst (λ us. EncodesElements datas t (datums_of us) (a.0 ++ b.0)) (sym (take_more vs i v l ∙ ap (λ u. take i vs ++ u ∷ []) (sym e))) (elements_end (take i vs) a.1 b.1),
  b.2 ∙ ap (λ xs. xs ++ b.0) a.2 ∙ append_assoc old a.0 b.0,
)

pub element_at : (datas : List Data) (t : TypeTree) (vs : List Datum) (i : ℕ) (v : Datum) → i < length vs → v ≡ get_or vs i v → AreElements datas t (datums_of vs) → IsValueOf datas t v
element_at datas t [] i v l e a = absurd (omega arith)
element_at datas t (u ∷ vs) zero v l e (element_and k ks) = subst (IsValueOf datas t) (sym e) k
element_at datas t (u ∷ vs) (suc i) v l e (element_and k ks) = element_at datas t vs i v (omega arith) e ks

pub size_at : (vs : List Datum) (i : ℕ) (v : Datum) → i < length vs → v ≡ get_or vs i v → datum_size v < data_size (datums_of vs)
size_at [] i v l e = absurd (omega arith)
size_at (u ∷ vs) zero v l e = omega (arith, ap datum_size e)
size_at (u ∷ vs) (suc i) v l e = let w = size_at vs i v (omega arith) e in omega arith

pub fields_end : {datas : List Data} {σ : Substitution} (f : TypeTree) {v : Datum} {b more : List Bool} (fs : List TypeTree) (vs : List Datum) → EncodesFields datas fs σ (datums_of vs) b → Encodes datas (sub f σ) v more → EncodesFields datas (fs ++ f ∷ []) σ (datums_of (vs ++ v ∷ [])) (b ++ more)
fields_end {datas} {σ} f {v} {b} {more} [] [] no_field_bits e = subst (EncodesFields datas (f ∷ []) σ (datum_and v no_data)) (append_nil more) (field_bits e no_field_bits)
  where
    append_nil : (xs : List Bool) → xs ++ [] ≡ xs
    append_nil [] = refl
    append_nil (x ∷ xs) = ap (λ ys. x ∷ ys) (append_nil xs)
fields_end {datas} {σ} f {v} {b} {more} [] (u ∷ vs) x e = elim x [ ]
fields_end {datas} {σ} f {v} {b} {more} (g ∷ fs) [] x e = elim x [ ]
fields_end {datas} {σ} f {v} {b} {more} (g ∷ fs) (u ∷ vs) (field_bits {bits = x} {more = xs} h hs) e =
    subst (EncodesFields datas (g ∷ (fs ++ f ∷ [])) σ (datum_and u (datums_of (vs ++ v ∷ [])))) (sym (append_assoc x xs more)) (field_bits h (fields_end f fs vs hs e))

pub fields_more : (datas : List Data) (fs : List TypeTree) (σ : Substitution) (vs : List Datum) (i : ℕ) (f : TypeTree) (v : Datum) (old into into' : List Bool) → i < length fs → f ≡ get_or fs i f → i < length vs → v ≡ get_or vs i v → Adds (EncodesFields datas (take i fs) σ (datums_of (take i vs))) old into → Adds (Encodes datas (sub f σ) v) into into' → Adds (EncodesFields datas (take (i + 1) fs) σ (datums_of (take (i + 1) vs))) old into'
fields_more datas fs σ vs i f v old into into' k d l e a b = (
  a.0 ++ b.0,
  subst (λ gs. EncodesFields datas gs σ (datums_of (take (i + 1) vs)) (a.0 ++ b.0)) (sym (take_more fs i f k ∙ ap (λ g. take i fs ++ g ∷ []) (sym d)))
      (subst (λ us. EncodesFields datas (take i fs ++ f ∷ []) σ (datums_of us) (a.0 ++ b.0)) (sym (take_more vs i v l ∙ ap (λ u. take i vs ++ u ∷ []) (sym e))) (fields_end f (take i fs) (take i vs) a.1 b.1)),
  b.2 ∙ ap (λ xs. xs ++ b.0) a.2 ∙ append_assoc old a.0 b.0,
)

pub field_at : (datas : List Data) (fs : List TypeTree) (σ : Substitution) (vs : List Datum) (i : ℕ) (f : TypeTree) (v : Datum) → i < length fs → f ≡ get_or fs i f → i < length vs → v ≡ get_or vs i v → AreFields datas fs σ (datums_of vs) → IsValueOf datas (sub f σ) v
field_at datas [] σ vs i f v k d l e a = absurd (omega arith)
field_at datas (g ∷ fs) σ [] i f v k d l e a = absurd (omega arith)
field_at datas (g ∷ fs) σ (u ∷ vs) zero f v k d l e (field_and x xs) = subst (λ h. IsValueOf datas (sub h σ) v) (sym d) (subst (IsValueOf datas (sub g σ)) (sym e) x)
field_at datas (g ∷ fs) σ (u ∷ vs) (suc i) f v k d l e (field_and x xs) = field_at datas fs σ vs i f v (omega arith) d (omega arith) e xs

pub as_many_fields : (datas : List Data) (fs : List TypeTree) (σ : Substitution) (vs : List Datum) → AreFields datas fs σ (datums_of vs) → length fs ≡ length vs
as_many_fields datas [] σ [] a = refl
as_many_fields datas [] σ (v ∷ vs) a = elim a [ ]
as_many_fields datas (f ∷ fs) σ [] a = elim a [ ]
as_many_fields datas (f ∷ fs) σ (v ∷ vs) (field_and x xs) = ap suc (as_many_fields datas fs σ vs xs)

field_fits_at : (datas : List Data) (fs : List TypeTree) (σ : Substitution) (i : ℕ) (f : TypeTree) (s : ℕ) → i < length fs → f ≡ get_or fs i f → s ≤ DATA_BITS → MeasuredFields datas fs σ (fits s) → Fits datas (sub f σ)
field_fits_at datas [] σ i f s k d l m = absurd (omega arith)
field_fits_at datas (g ∷ fs) σ zero f s k d l m = let w = field_width l m in (w.a, subst (λ h. HasWidth datas (sub h σ) w.a) (sym d) w.first)
field_fits_at datas (g ∷ fs) σ (suc i) f s k d l m = let w = field_width l m in field_fits_at datas fs σ i f w.b (omega arith) d (let p = w.is in omega arith) w.rest

pub field_fits : (datas : List Data) (fs : List TypeTree) (σ : Substitution) (i : ℕ) (f : TypeTree) → i < length fs → f ≡ get_or fs i f → FieldsFit datas fs σ → Fits datas (sub f σ)
field_fits datas fs σ i f k d h = field_fits_at datas fs σ i f h.width k d h.within h.measured

pub first_at_zero : (datas : List Data) → first_constructor datas zero ≡ 0
first_at_zero [] = refl
first_at_zero (x ∷ datas) = refl

pub first_more : (datas : List Data) (i : ℕ) (it : Data) → i < length datas → it ≡ get_or datas i it → first_constructor datas (i + 1) ≡ first_constructor datas i + length it.cons
first_more [] i it l e = absurd (omega arith)
first_more (x ∷ datas) zero it l e = let p : length x.cons ≡ length it.cons = ap (λ (d : Data). length d.cons) (sym e) in none datas x it p
  where
    none : (datas : List Data) (x it : Data) → length x.cons ≡ length it.cons → length x.cons + first_constructor datas zero ≡ 0 + length it.cons
    none datas x it p = omega (arith, p, first_at_zero datas)
first_more (x ∷ datas) (suc i) it l e =
    let w = first_more datas i it (omega arith) e in
    let p : suc i + 1 ≡ suc (i + 1) = omega arith in
    ap (first_constructor (x ∷ datas)) p ∙ ap (λ n. length x.cons + n) w ∙ (let q : length x.cons + (first_constructor datas i + length it.cons) ≡ length x.cons + first_constructor datas i + length it.cons = omega arith in q)

pub elements_whole : (datas : List Data) (t : TypeTree) (vs : List Datum) (i : ℕ) (old new : List Bool) → length vs ≤ i → Adds (EncodesElements datas t (datums_of (take i vs))) old new → Adds (EncodesElements datas t (datums_of vs)) old new
elements_whole datas t vs i old new l a = (a.0, subst (λ us. EncodesElements datas t (datums_of us) a.0) (take_all i vs l) a.1, a.2)

pub fields_whole : (datas : List Data) (fs : List TypeTree) (σ : Substitution) (vs : List Datum) (i : ℕ) (old new : List Bool) → length vs ≤ i → length fs ≤ i → Adds (EncodesFields datas (take i fs) σ (datums_of (take i vs))) old new → Adds (EncodesFields datas fs σ (datums_of vs)) old new
fields_whole datas fs σ vs i old new l k a = (
  a.0,
  subst (λ gs. EncodesFields datas gs σ (datums_of vs) a.0) (take_all i fs k) (subst (λ us. EncodesFields datas (take i fs) σ (datums_of us) a.0) (take_all i vs l) a.1),
  a.2,
)

pub no_elements_added : (datas : List Data) (t : TypeTree) (old : List Bool) → Adds (EncodesElements datas t no_data) old old
no_elements_added datas t old = ([], no_element_bits, sym (append-nil old))

pub no_fields_added : (datas : List Data) (σ : Substitution) (old : List Bool) → Adds (EncodesFields datas [] σ no_data) old old
no_fields_added datas σ old = ([], no_field_bits, sym (append-nil old))
