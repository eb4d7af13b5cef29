-- What the loops that decode keep, and what bits of data say.
use Rattle.std.proofs.Common.{◌≡◌, ℕ, suc, zero, ◌+◌, ◌-◌, ◌*◌, ◌<◌, ◌≤◌, ◌^◌, Bool, true, false, rules, Vec, Global, refl, sym, ap, subst, ◌∙◌, List, [], ◌∷◌, ◌++◌, length, get_or, take, drop, arith, append_assoc, length-append}
use Rattle.std.specs.Prelude.{Option, None, Some, IfSome, IfNone, IsTrue, replicate}
use Rattle.std.proofs.Math.Nat.{mod-eq_of_lt}
use Rattle.std.specs.List.{slice_get}
use Rattle.std.proofs.lemmas.Option.{slice_get_within}
use Rattle.std.proofs.lemmas.List.{nil_from_length, take_all, take_more, drop_more, take-append-drop, drop_all, append-nil, length-replicate}
use Rattle.chw_base.specs.declared.limits.TheConstants.{DATA_BITS}
use Rattle.chw_bits.specs.Bits.{number_of, bits_of}
use Rattle.chw_bits.proofs.Numbers.{length-bits_of}
use Rattle.chw_bits.proofs.RoundTrips.{number_of-bits_of, bits_of-number_of}
use Rattle.chw_types.specs.declared.declarations.ConDecl.{ConDecl}
use Rattle.chw_types.specs.declared.declarations.Data.{Data}
use Rattle.chw_types.specs.declared.ty.TyNode.{TyNode}
use Rattle.chw_types.specs.declared.ty.TyNode.TheVariants.{Var, NatLit, Sum, Times, DomOf, Unsigned, Signed, BitVector, Vec as VecNode, DataOf, Fun, Signal, Forall}
use Rattle.chw_types.specs.TypeTree.{TypeTree, vector, data_of, TypeTrees}
use Rattle.chw_types.specs.TypeView.{tree_of}
use Rattle.chw_types.specs.TypeMoves.{Substitution, sub}
use Rattle.chw_types.specs.Arguments.{arguments}
use Rattle.chw_layout.specs.Datum.{Datum, word, built, elements, Datums}
use Rattle.chw_layout.specs.DatumView.{datums_of}
use Rattle.chw_layout.specs.Measured.{Measure, fits, closed_value, tag_width, Measured, MeasuredFields, HasWidth}
use Rattle.chw_layout.specs.Encodes.{count_of, first_constructor, filled, Encodes, scalar_bits, vector_bits, data_bits, EncodesElements, no_element_bits, element_bits, EncodesFields, no_field_bits, field_bits}
use Rattle.chw_layout.proofs.Measures.{measured_once, measured_within, data_measured}
use Rattle.chw_layout.proofs.Fitting.{scalar_width, element_width, cons_width, con_width, field_width}
use Rattle.chw_layout.proofs.Tags.{tag_suffices, tag_shortest}
use Rattle.chw_layout.proofs.Encodings.{BitsMean, encoded_length, append_split, data_parts}
use Rattle.data_bits.specs.Decoding.{IsRow, ArePadded, FieldsWithin}
use Rattle.data_bits.specs.Encoding.{Fits}
use Rattle.data_bits.proofs.Adding.{elements_end, fields_end}

one_width : {datas : List Data} {t : TypeTree} (a b : ℕ) → HasWidth datas t a → HasWidth datas t b → a ≡ b
one_width a b d e = let p : fits a ≡ fits b = measured_once d e in cc

pub bits_mean : BitsMean
bits_mean width n l = number_of-bits_of width n ∙ mod-eq_of_lt l

pub length_first : (k : ℕ) (xs : List Bool) → k ≤ length xs → length (take k xs) ≡ k
length_first zero xs l = refl
length_first (suc k) [] l = absurd (omega arith)
length_first (suc k) (x ∷ xs) l = ap suc (length_first k xs (omega arith))

-- what is read at a place
pub read_at : {X : Type 0} → (xs : List X) (i : ℕ) (x : X) → i < length xs → x ≡ get_or xs i x → slice_get xs i ≡ Some x
read_at [] i x l e = absurd (omega arith)
read_at (y ∷ xs) zero x l e = ap Some (sym e)
read_at (y ∷ xs) (suc i) x l e = read_at xs i x (omega arith) e

-- what an answer says
pub none_of : {X : Type 0} {P : Type 0} → (o : Option X) → ((x : X) → o ≡ Some x → ⊥) → IfNone o P → P
none_of None h p = p
none_of (Some x) h p = absurd (h x refl)

pub value_some : (datas : List Data) (t : TypeTree) (bits : List Bool) (o : Option Datum) (v : Datum) → o ≡ Some v → IfSome o (λ x. Encodes datas t x bits) → Encodes datas t v bits
value_some datas t bits o v e h = subst (λ (x : Option Datum). IfSome x (λ y. Encodes datas t y bits)) e h

pub row_some : (datas : List Data) (t : TypeTree) (n : ℕ) (bits : List Bool) (o : Option (Vec Datum Global)) (values : Vec Datum Global) → o ≡ Some values → IfSome o (λ vs. IsRow datas t n bits (datums_of vs.items)) → IsRow datas t n bits (datums_of values.items)
row_some datas t n bits o values e h = subst (λ (x : Option (Vec Datum Global)). IfSome x (λ vs. IsRow datas t n bits (datums_of vs.items))) e h

pub padded_some : (datas : List Data) (fs : List TypeTree) (σ : Substitution) (bits : List Bool) (o : Option (Vec Datum Global)) (values : Vec Datum Global) → o ≡ Some values → IfSome o (λ vs. ArePadded datas fs σ bits (datums_of vs.items)) → ArePadded datas fs σ bits (datums_of values.items)
padded_some datas fs σ bits o values e h = subst (λ (x : Option (Vec Datum Global)). IfSome x (λ vs. ArePadded datas fs σ bits (datums_of vs.items))) e h

pub not_true : (b : Bool) → b ≡ false → IsTrue b → ⊥
not_true true e h = cc
not_true false e h = search rules

-- scalars
pub scalar_decoded : (datas : List Data) (n : TyNode) (bits : List Bool) (m : Measure) → m ≡ fits (length bits) → ((x : _) (y : _) → n ≡ VecNode x y → ⊥) → ((x : _) (y : _) → n ≡ DataOf x y → ⊥) → Measured datas (tree_of n) m → Encodes datas (tree_of n) (word bits) bits
scalar_decoded datas (Unsigned w) bits m e f g d = scalar_bits (scalar_width (subst (Measured datas (tree_of (Unsigned w))) e d))
scalar_decoded datas (Signed w) bits m e f g d = scalar_bits (scalar_width (subst (Measured datas (tree_of (Signed w))) e d))
scalar_decoded datas (BitVector w) bits m e f g d = scalar_bits (scalar_width (subst (Measured datas (tree_of (BitVector w))) e d))
scalar_decoded datas (VecNode x y) bits m e f g d = absurd (f x y refl)
scalar_decoded datas (DataOf x y) bits m e f g d = absurd (g x y refl)
scalar_decoded datas (Var x) bits m e f g d = elim d [ ]
scalar_decoded datas (NatLit n) bits m e f g d = elim d [ ]
scalar_decoded datas (Sum x y) bits m e f g d = elim d [ ]
scalar_decoded datas (Times x y) bits m e f g d = elim d [ ]
scalar_decoded datas (DomOf x) bits m e f g d = elim d [ ]
scalar_decoded datas (Fun x y) bits m e f g d = elim d [ ]
scalar_decoded datas (Signal x y) bits m e f g d = elim d [ ]
scalar_decoded datas (Forall x y) bits m e f g d = elim d [ ]

-- a type's width is small
pub width_small : {datas : List Data} {t : TypeTree} (w : ℕ) → HasWidth datas t w → w ≤ DATA_BITS
width_small w d = measured_within d

-- a list is its first part and what is after it
joined : (w : ℕ) (part rest more : List Bool) → part ≡ take w rest → more ≡ drop w rest → rest ≡ part ++ more
joined w part rest more e f = sym (take-append-drop w rest) ∙ (λ i. sym e i ++ sym f i)

-- vectors
count_same : (vs : List Datum) → count_of (datums_of vs) ≡ length vs
count_same [] = refl
count_same (v ∷ vs) = ap suc (count_same vs)

-- the first of these values has the first bits
record RowHead (datas : List Data) (t : TypeTree) (n : ℕ) (part more : List Bool) : Type 0 where
  v : Datum
  head : Encodes datas t v part
  vs : Datums
  rest : IsRow datas t n more vs

row_head_of : {datas : List Data} {t : TypeTree} {us : Datums} {all : List Bool} (n w : ℕ) (part more : List Bool) → HasWidth datas t w → EncodesElements datas t us all → count_of us ≡ suc n → all ≡ part ++ more → length part ≡ w → RowHead datas t n part more
row_head_of n w part more d no_element_bits c e l = absurd (omega arith)
row_head_of {datas} {t} n w part more d (element_bits {v = v} {vs = vs} {bits = b} {more = bs} x xs) c e l =
    let s = append_split b part bs more (encoded_length length-bits_of x d ∙ sym l) e in
    record { v = v; head = subst (Encodes datas t v) s.0 x; vs = vs; rest = record { many = omega arith; encoded = subst (EncodesElements datas t vs) s.1 xs } }

row_head : (datas : List Data) (t : TypeTree) (n w : ℕ) (part more all : List Bool) (us : Datums) → HasWidth datas t w → all ≡ part ++ more → length part ≡ w → IsRow datas t (suc n) all us → RowHead datas t n part more
row_head datas t n w part more all us d e l r = row_head_of n w part more d r.encoded r.many e l

-- what is read of the elements of a vector
pub record RowRead (datas : List Data) (t : TypeTree) (n w : ℕ) (bits : List Bool) (i : ℕ) (values : List Datum) (rest : List Bool) : Type 0 where
  pub done : List Bool
  pub is : bits ≡ done ++ rest
  pub read : EncodesElements datas t (datums_of values) done
  pub many : length values ≡ i
  pub left : ℕ
  pub count : i + left ≡ n
  pub room : length rest ≡ left * w
  pub back : (vs : Datums) → IsRow datas t n bits vs → (us : Datums) × IsRow datas t left rest us

pub row_begins : (datas : List Data) (t : TypeTree) (n w : ℕ) (bits : List Bool) (values : List Datum) → values ≡ [] → length bits ≡ n * w → RowRead datas t n w bits 0 values bits
row_begins datas t n w bits values e l =
    subst (λ vs. RowRead datas t n w bits 0 vs bits) (sym e)
    (record { done = []; is = refl; read = no_element_bits; many = refl; left = n; count = omega arith; room = l; back = λ vs r. (vs, r) })

one_more : (n w : ℕ) → suc n * w ≡ w + n * w
one_more n w = omega arith

room_here : (i n left w l : ℕ) → i + left ≡ n → i < n → l ≡ left * w → w ≤ l
room_here i n zero w l c k e = absurd (omega arith)
room_here i n (suc left) w l c k e = omega (arith, one_more left w)

pub row_room : (datas : List Data) (t : TypeTree) (n w : ℕ) (bits : List Bool) (i : ℕ) (values : List Datum) (rest : List Bool) → i < n → RowRead datas t n w bits i values rest → w ≤ length rest
row_room datas t n w bits i values rest k r = room_here i n r.left w (length rest) r.count k r.room

row_step : (datas : List Data) (t : TypeTree) (n w : ℕ) (bits : List Bool) (i : ℕ) (values : List Datum) (rest part more : List Bool) (v : Datum) (left : ℕ) → i < n → HasWidth datas t w → length part ≡ w → rest ≡ part ++ more → Encodes datas t v part → (r : RowRead datas t n w bits i values rest) → r.left ≡ left → RowRead datas t n w bits (i + 1) (values ++ v ∷ []) more
row_step datas t n w bits i values rest part more v zero k d l e x r is = absurd (let c = r.count in omega arith)
row_step datas t n w bits i values rest part more v (suc left) k d l e x r is =
    let c = r.count in
    let m : length rest ≡ suc left * w = r.room ∙ ap (λ z. z * w) is in
    let p : length rest ≡ length part + length more = ap length e ∙ length-append part more in
    let q = one_more left w in
    record {
      done = r.done ++ part;
      is = r.is ∙ ap (λ z. r.done ++ z) e ∙ sym (append_assoc r.done part more);
      read = elements_end values r.read x;
      many = length-append values (v ∷ []) ∙ ap (λ z. z + 1) r.many;
      left = left;
      count = omega arith;
      room = omega arith;
      back = λ vs h.
          let u = r.back vs h in
          let y = row_head datas t left w part more rest u.0 d e l (subst (λ z. IsRow datas t z rest u.0) is u.1) in
          (y.vs, y.rest);
    }

pub row_goes_on : (datas : List Data) (t : TypeTree) (n w : ℕ) (bits : List Bool) (i : ℕ) (values values' : List Datum) (rest part more : List Bool) (v : Datum) → i < n → HasWidth datas t w → length part ≡ w → rest ≡ part ++ more → Encodes datas t v part → values' ≡ values ++ v ∷ [] → RowRead datas t n w bits i values rest → RowRead datas t n w bits (i + 1) values' more
row_goes_on datas t n w bits i values values' rest part more v k d l e x is r =
    subst (λ vs. RowRead datas t n w bits (i + 1) vs more) (sym is) (row_step datas t n w bits i values rest part more v r.left k d l e x r refl)

row_none : (datas : List Data) (t : TypeTree) (n w : ℕ) (bits : List Bool) (i : ℕ) (values : List Datum) (rest part more : List Bool) (left : ℕ) → i < n → HasWidth datas t w → length part ≡ w → rest ≡ part ++ more → ((v : Datum) → Encodes datas t v part → ⊥) → (r : RowRead datas t n w bits i values rest) → r.left ≡ left → (vs : Datums) → IsRow datas t n bits vs → ⊥
row_none datas t n w bits i values rest part more zero k d l e x r is vs h = absurd (let c = r.count in omega arith)
row_none datas t n w bits i values rest part more (suc left) k d l e x r is vs h =
    let u = r.back vs h in
    let y = row_head datas t left w part more rest u.0 d e l (subst (λ z. IsRow datas t z rest u.0) is u.1) in
    x y.v y.head

pub row_fails : (datas : List Data) (t : TypeTree) (n w : ℕ) (bits : List Bool) (i : ℕ) (values : List Datum) (rest part more : List Bool) → i < n → HasWidth datas t w → length part ≡ w → rest ≡ part ++ more → ((v : Datum) → Encodes datas t v part → ⊥) → RowRead datas t n w bits i values rest → (vs : Datums) → IsRow datas t n bits vs → ⊥
row_fails datas t n w bits i values rest part more k d l e x r = row_none datas t n w bits i values rest part more r.left k d l e x r refl

pub row_ends : (datas : List Data) (t : TypeTree) (n w : ℕ) (bits : List Bool) (i : ℕ) (values : List Datum) (rest : List Bool) → n ≤ i → RowRead datas t n w bits i values rest → IsRow datas t n bits (datums_of values)
row_ends datas t n w bits i values rest k r =
    let c = r.count in
    let z : r.left ≡ 0 = omega arith in
    let q : length rest ≡ 0 * w = r.room ∙ ap (λ y. y * w) z in
    let p : length rest ≡ 0 = omega arith in
    let e : bits ≡ r.done = r.is ∙ ap (λ y. r.done ++ y) (nil_from_length rest p) ∙ append-nil r.done in
    record { many = count_same values ∙ r.many ∙ (let s : i ≡ n = omega arith in s); encoded = subst (EncodesElements datas t (datums_of values)) (sym e) r.read }

-- the bits of a vector
pub vector_decoded : (datas : List Data) (n t : TypeTree) (k : ℕ) (bits : List Bool) (vs : Datums) → k ≡ closed_value n → IsRow datas t k bits vs → Encodes datas (vector n t) (elements vs) bits
vector_decoded datas n t k bits vs e r = vector_bits (r.many ∙ e) r.encoded

pub vector_none : (datas : List Data) (n t : TypeTree) (k : ℕ) (bits : List Bool) → k ≡ closed_value n → ((vs : Datums) → IsRow datas t k bits vs → ⊥) → (v : Datum) → Encodes datas (vector n t) v bits → ⊥
vector_none datas n t k bits e h v (vector_bits {vs = vs} l es) = h vs (record { many = l ∙ sym e; encoded = es })

pub vector_length : (datas : List Data) (n t : TypeTree) (k w l : ℕ) → k ≡ closed_value n → HasWidth datas (vector n t) l → HasWidth datas t w → l ≡ k * w
vector_length datas n t k w l e d f =
    let x = element_width d in
    x.is ∙ (λ i. sym e i * one_width x.a w x.element f i)

-- fields
padded_to : (rest bits : List Bool) (z : ℕ) → rest ≡ bits ++ replicate z false → rest ≡ filled (length rest) bits
padded_to rest bits z e =
    let l : length rest ≡ length bits + z = ap length e ∙ length-append bits (replicate z false) ∙ ap (λ n. length bits + n) (length-replicate z false) in
    let k : z ≡ length rest - length bits = omega arith in
    e ∙ ap (λ n. bits ++ replicate n false) k

-- the first of these fields has the first bits
record FieldHead (datas : List Data) (f : TypeTree) (fs : List TypeTree) (σ : Substitution) (part more : List Bool) : Type 0 where
  v : Datum
  head : Encodes datas (sub f σ) v part
  vs : Datums
  rest : ArePadded datas fs σ more vs

field_head_of : {datas : List Data} {f : TypeTree} {fs : List TypeTree} {σ : Substitution} {us : Datums} {all : List Bool} (w z : ℕ) (part more : List Bool) → HasWidth datas (sub f σ) w → EncodesFields datas (f ∷ fs) σ us all → all ++ replicate z false ≡ part ++ more → length part ≡ w → FieldHead datas f fs σ part more
field_head_of {datas} {f} {fs} {σ} w z part more d (field_bits {v = v} {vs = vs} {bits = b} {more = bs} x xs) e l =
    let s = append_split b part (bs ++ replicate z false) more (encoded_length length-bits_of x d ∙ sym l) (sym (append_assoc b bs (replicate z false)) ∙ e) in
    record { v = v; head = subst (Encodes datas (sub f σ) v) s.0 x; vs = vs; rest = record { bits = bs; encoded = xs; is = padded_to more bs z (sym s.1) } }

field_head : (datas : List Data) (f : TypeTree) (fs : List TypeTree) (σ : Substitution) (w : ℕ) (part more all : List Bool) (us : Datums) → HasWidth datas (sub f σ) w → all ≡ part ++ more → length part ≡ w → ArePadded datas (f ∷ fs) σ all us → FieldHead datas f fs σ part more
field_head datas f fs σ w part more all us d e l r = field_head_of w (length all - length r.bits) part more d r.encoded (sym r.is ∙ e) l

-- what is read of fields
pub record FieldsRead (datas : List Data) (fs : List TypeTree) (σ : Substitution) (bits : List Bool) (i : ℕ) (values : List Datum) (rest : List Bool) : Type 0 where
  pub done : List Bool
  pub is : bits ≡ done ++ rest
  pub read : EncodesFields datas (take i fs) σ (datums_of values) done
  pub left : FieldsWithin datas (drop i fs) σ (length rest)
  pub back : (vs : Datums) → ArePadded datas fs σ bits vs → (us : Datums) × ArePadded datas (drop i fs) σ rest us

pub fields_begin : (datas : List Data) (fs : List TypeTree) (σ : Substitution) (bits : List Bool) (values : List Datum) → values ≡ [] → FieldsWithin datas fs σ (length bits) → FieldsRead datas fs σ bits 0 values bits
fields_begin datas fs σ bits values e w =
    subst (λ vs. FieldsRead datas fs σ bits 0 vs bits) (sym e)
    (record { done = []; is = refl; read = no_field_bits; left = w; back = λ vs r. (vs, r) })

here : (fs : List TypeTree) (i : ℕ) (f : TypeTree) → i < length fs → f ≡ get_or fs i f → drop i fs ≡ f ∷ drop (i + 1) fs
here fs i f l e = drop_more fs i f l ∙ ap (λ g. g ∷ drop (i + 1) fs) (sym e)

-- the next field, and those after it
record NextField (datas : List Data) (f : TypeTree) (fs : List TypeTree) (σ : Substitution) (most : ℕ) : Type 0 where
  a : ℕ
  b : ℕ
  first : HasWidth datas (sub f σ) a
  rest : MeasuredFields datas fs σ (fits b)
  within : a + b ≤ most
  small : most ≤ DATA_BITS

next : (datas : List Data) (fs : List TypeTree) (σ : Substitution) (i : ℕ) (f : TypeTree) (most : ℕ) → i < length fs → f ≡ get_or fs i f → FieldsWithin datas (drop i fs) σ most → NextField datas f (drop (i + 1) fs) σ most
next datas fs σ i f most l e w =
    let p = w.within in
    let q = w.small in
    let x = field_width (let k : w.width ≤ DATA_BITS = omega arith in k) (subst (λ gs. MeasuredFields datas gs σ (fits w.width)) (here fs i f l e) w.measured) in
    record { a = x.a; b = x.b; first = x.first; rest = x.rest; within = let r = x.is in omega arith; small = w.small }

pub field_has_width : (datas : List Data) (fs : List TypeTree) (σ : Substitution) (bits : List Bool) (i : ℕ) (values : List Datum) (rest : List Bool) (f : TypeTree) → i < length fs → f ≡ get_or fs i f → FieldsRead datas fs σ bits i values rest → Fits datas (sub f σ)
field_has_width datas fs σ bits i values rest f l e r = let n = next datas fs σ i f (length rest) l e r.left in (n.a, n.first)

pub field_room : (datas : List Data) (fs : List TypeTree) (σ : Substitution) (bits : List Bool) (i : ℕ) (values : List Datum) (rest : List Bool) (f : TypeTree) (w : ℕ) → i < length fs → f ≡ get_or fs i f → HasWidth datas (sub f σ) w → FieldsRead datas fs σ bits i values rest → w ≤ length rest
field_room datas fs σ bits i values rest f w l e d r =
    let n = next datas fs σ i f (length rest) l e r.left in
    let p = n.within in
    let q = one_width w n.a d n.first in
    omega arith

pub fields_go_on : (datas : List Data) (fs : List TypeTree) (σ : Substitution) (bits : List Bool) (i : ℕ) (values values' : List Datum) (rest part more : List Bool) (f : TypeTree) (w : ℕ) (v : Datum) → i < length fs → f ≡ get_or fs i f → HasWidth datas (sub f σ) w → length part ≡ w → rest ≡ part ++ more → Encodes datas (sub f σ) v part → values' ≡ values ++ v ∷ [] → FieldsRead datas fs σ bits i values rest → FieldsRead datas fs σ bits (i + 1) values' more
fields_go_on datas fs σ bits i values values' rest part more f w v l e d k j x is r =
    let n = next datas fs σ i f (length rest) l e r.left in
    let q = one_width w n.a d n.first in
    let m : length rest ≡ length part + length more = ap length j ∙ length-append part more in
    let near = n.within in
    let small = n.small in
    subst (λ vs. FieldsRead datas fs σ bits (i + 1) vs more) (sym is)
    (record {
      done = r.done ++ part;
      is = r.is ∙ ap (λ z. r.done ++ z) j ∙ sym (append_assoc r.done part more);
      read = subst (λ gs. EncodesFields datas gs σ (datums_of (values ++ v ∷ [])) (r.done ++ part)) (sym (take_more fs i f l ∙ ap (λ g. take i fs ++ g ∷ []) (sym e))) (fields_end f (take i fs) values r.read x);
      left = record { width = n.b; measured = n.rest; within = omega arith; small = omega arith };
      back = λ vs h.
          let u = r.back vs h in
          let y = field_head datas f (drop (i + 1) fs) σ w part more rest u.0 d j k (subst (λ gs. ArePadded datas gs σ rest u.0) (here fs i f l e) u.1) in
          (y.vs, y.rest);
    })

pub fields_fail : (datas : List Data) (fs : List TypeTree) (σ : Substitution) (bits : List Bool) (i : ℕ) (values : List Datum) (rest part more : List Bool) (f : TypeTree) (w : ℕ) → i < length fs → f ≡ get_or fs i f → HasWidth datas (sub f σ) w → length part ≡ w → rest ≡ part ++ more → ((v : Datum) → Encodes datas (sub f σ) v part → ⊥) → FieldsRead datas fs σ bits i values rest → (vs : Datums) → ArePadded datas fs σ bits vs → ⊥
fields_fail datas fs σ bits i values rest part more f w l e d k j x r vs h =
    let u = r.back vs h in
    let y = field_head datas f (drop (i + 1) fs) σ w part more rest u.0 d j k (subst (λ gs. ArePadded datas gs σ rest u.0) (here fs i f l e) u.1) in
    x y.v y.head

pub fields_done : (datas : List Data) (fs : List TypeTree) (σ : Substitution) (bits : List Bool) (i : ℕ) (values : List Datum) (rest : List Bool) → length fs ≤ i → rest ≡ replicate (length rest) false → FieldsRead datas fs σ bits i values rest → ArePadded datas fs σ bits (datums_of values)
fields_done datas fs σ bits i values rest l z r =
    record {
      bits = r.done;
      encoded = subst (λ gs. EncodesFields datas gs σ (datums_of values) r.done) (take_all i fs l) r.read;
      is = padded_to bits r.done (length rest) (r.is ∙ ap (λ x. r.done ++ x) z);
    }

no_bits_of : {datas : List Data} {σ : Substitution} {us : Datums} {b : List Bool} → EncodesFields datas [] σ us b → b ≡ []
no_bits_of no_field_bits = refl

pub fields_not_zero : (datas : List Data) (fs : List TypeTree) (σ : Substitution) (bits : List Bool) (i : ℕ) (values : List Datum) (rest : List Bool) → length fs ≤ i → (rest ≡ replicate (length rest) false → ⊥) → FieldsRead datas fs σ bits i values rest → (vs : Datums) → ArePadded datas fs σ bits vs → ⊥
fields_not_zero datas fs σ bits i values rest l z r vs h =
    let u = r.back vs h in
    let x = subst (λ gs. ArePadded datas gs σ rest u.0) (drop_all i fs l) u.1 in
    let k : length rest - 0 ≡ length rest = omega arith in
    z (x.is ∙ ap (filled (length rest)) (no_bits_of x.encoded) ∙ ap (λ n. replicate n false) k)

-- data
pub data_known : {datas : List Data} {d w : ℕ} {ts : TypeTrees} → HasWidth datas (data_of d ts) w → d < length datas
data_known {datas} {d} h = let x = data_measured h in slice_get_within datas d x.it x.known

pub tag_room : (datas : List Data) (d l k : ℕ) (ts : TypeTrees) (it : Data) → slice_get datas d ≡ Some it → HasWidth datas (data_of d ts) l → k ≡ tag_width (length it.cons) → k ≤ l
tag_room datas d l k ts it known h e = let x = cons_width it known h in let p = x.is in omega arith

pub tag_narrow : (n k : ℕ) → n < 2 ^ 64 → k ≡ tag_width n → k ≤ 64
tag_narrow n k l e = let w = tag_shortest n 64 (omega arith) in omega arith

pub data_fields : (datas : List Data) (d l k : ℕ) (ts : TypeTrees) (it : Data) (tag : ℕ) (c : ConDecl) (rest : ℕ) → slice_get datas d ≡ Some it → HasWidth datas (data_of d ts) l → k ≡ tag_width (length it.cons) → slice_get it.cons tag ≡ Some c → l ≡ k + rest → FieldsWithin datas c.fields (arguments ts) rest
data_fields datas d l k ts it tag c rest known h e at m =
    let x = cons_width it known h in
    let y = con_width it.cons tag c at x.cons in
    record { width = y.s; measured = y.fields; within = let p = x.is in let q = y.within in omega arith; small = let p = x.within in omega arith }

-- what bits of data say
record DataSplit (datas : List Data) (it : Data) (ts : TypeTrees) (first rest : List Bool) : Type 0 where
  i : ℕ
  c : ConDecl
  vs : Datums
  at : slice_get it.cons i ≡ Some c
  tag : i ≡ number_of first
  fields : ArePadded datas c.fields (arguments ts) rest vs

data_split : (datas : List Data) (d k : ℕ) (ts : TypeTrees) (it : Data) (bits first rest : List Bool) (v : Datum) → BitsMean → slice_get datas d ≡ Some it → k ≡ tag_width (length it.cons) → length first ≡ k → bits ≡ first ++ rest → Encodes datas (data_of d ts) v bits → DataSplit datas it ts first rest
data_split datas d k ts it bits first rest v mean known e l j x =
    let p = data_parts it known x in
    let t = tag_width (length it.cons) in
    let z = p.width - length (bits_of t p.i ++ p.bits) in
    let s = append_split (bits_of t p.i) first (p.bits ++ replicate z false) rest (length-bits_of t p.i ∙ sym (l ∙ e)) (sym (append_assoc (bits_of t p.i) p.bits (replicate z false)) ∙ sym p.is ∙ j) in
    let below = slice_get_within it.cons p.i p.c p.at in
    let enough = tag_suffices (length it.cons) in
    record {
      i = p.i;
      c = p.c;
      vs = p.vs;
      at = p.at;
      tag = sym (mean t p.i (omega arith)) ∙ ap number_of s.0;
      fields = record { bits = p.bits; encoded = p.fields; is = padded_to rest p.bits z (sym s.1) };
    }

-- no constructor has the tag
pub tag_fails : (datas : List Data) (d k : ℕ) (ts : TypeTrees) (it : Data) (bits first rest : List Bool) → BitsMean → slice_get datas d ≡ Some it → k ≡ tag_width (length it.cons) → length first ≡ k → bits ≡ first ++ rest → length it.cons ≤ number_of first → (v : Datum) → Encodes datas (data_of d ts) v bits → ⊥
tag_fails datas d k ts it bits first rest mean known e l j past v x =
    let s = data_split datas d k ts it bits first rest v mean known e l j x in
    let below = slice_get_within it.cons s.i s.c s.at in
    let t = s.tag in
    absurd (omega arith)

-- the constructor with the tag has no such fields
pub data_fails : (datas : List Data) (d k : ℕ) (ts : TypeTrees) (it : Data) (bits first rest : List Bool) (tag : ℕ) (c : ConDecl) → BitsMean → slice_get datas d ≡ Some it → k ≡ tag_width (length it.cons) → length first ≡ k → bits ≡ first ++ rest → tag ≡ number_of first → slice_get it.cons tag ≡ Some c → ((vs : Datums) → ArePadded datas c.fields (arguments ts) rest vs → ⊥) → (v : Datum) → Encodes datas (data_of d ts) v bits → ⊥
data_fails datas d k ts it bits first rest tag c mean known e l j is at h v x =
    let s = data_split datas d k ts it bits first rest v mean known e l j x in
    let same : s.i ≡ tag = s.tag ∙ sym is in
    let q : slice_get it.cons s.i ≡ slice_get it.cons tag = ap (slice_get it.cons) same in
    let some : Some s.c ≡ Some c = sym s.at ∙ q ∙ at in
    let con : s.c ≡ c = cc in
    h s.vs (subst (λ (y : ConDecl). ArePadded datas y.fields (arguments ts) rest s.vs) con s.fields)

-- the constructor with the tag, and its fields
pub data_decoded : (datas : List Data) (d k n : ℕ) (ts : TypeTrees) (it : Data) (bits first rest : List Bool) (tag : ℕ) (c : ConDecl) (vs : Datums) → slice_get datas d ≡ Some it → HasWidth datas (data_of d ts) (length bits) → k ≡ tag_width (length it.cons) → length first ≡ k → bits ≡ first ++ rest → tag ≡ number_of first → slice_get it.cons tag ≡ Some c → n ≡ first_constructor datas d + tag → ArePadded datas c.fields (arguments ts) rest vs → Encodes datas (data_of d ts) (built n vs) bits
data_decoded datas d k n ts it bits first rest tag c vs known own e l j is at number fields =
    let t = tag_width (length it.cons) in
    let made : bits_of t tag ≡ first = (λ i. bits_of (sym (l ∙ e) i) (is i)) ∙ bits_of-number_of first in
    let z = length rest - length fields.bits in
    let whole : bits ≡ (bits_of t tag ++ fields.bits) ++ replicate z false =
    j ∙ (λ i. sym made i ++ fields.is i) ∙ sym (append_assoc (bits_of t tag) fields.bits (replicate z false)) in
    subst (Encodes datas (data_of d ts) (built n vs)) (sym (padded_to bits (bits_of t tag ++ fields.bits) z whole))
    (data_bits tag (length bits) it c fields.bits known number at fields.encoded own)
