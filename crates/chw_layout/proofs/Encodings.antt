-- The laws of encodings.
use Rattle.std.proofs.Common.{◌≡◌, ℕ, suc, zero, ◌+◌, ◌-◌, ◌*◌, ◌^◌, ◌<◌, ◌≤◌, Bool, false, refl, sym, ap, subst, ◌∙◌, List, [], ◌∷◌, ◌++◌, length, arith, append_assoc, length-append}
use Rattle.std.specs.Prelude.{Some, replicate}
use Rattle.std.specs.List.{slice_get}
use Rattle.std.proofs.lemmas.List.{length-replicate}
use Rattle.chw_base.specs.declared.limits.TheConstants.{DATA_BITS}
use Rattle.chw_bits.specs.Bits.{number_of, bits_of}
use Rattle.chw_types.specs.declared.declarations.ConDecl.{ConDecl}
use Rattle.chw_types.specs.declared.declarations.Data.{Data}
use Rattle.chw_types.specs.TypeTree.{TypeTree, data_of, TypeTrees}
use Rattle.chw_types.specs.TypeMoves.{Substitution}
use Rattle.chw_types.specs.Arguments.{arguments}
use Rattle.chw_layout.specs.Datum.{Datum, word, built, elements, Datums, datum_and}
use Rattle.chw_layout.specs.Measured.{fits, tag_width, MeasuredFields, HasWidth}
use Rattle.chw_layout.specs.Encodes.{count_of, first_constructor, IsValueOf, scalar_value, vector_value, data_value, AreElements, no_elements, element_and, AreFields, no_fields, field_and, filled, Encodes, scalar_bits, vector_bits, data_bits, EncodesElements, no_element_bits, element_bits, EncodesFields, no_field_bits, field_bits}
use Rattle.chw_layout.proofs.Measures.{measured_once, known_measured, no_fields as nothing_measured}
use Rattle.chw_layout.proofs.Tags.{tag_suffices}
use Rattle.chw_layout.proofs.Fitting.{scalar_width, element_width, cons_width, con_width, field_width}

-- bits and what they mean
abbrev pub BitsMean : Type 0
BitsMean = (width n : ℕ) → n < 2 ^ width → number_of (bits_of width n) ≡ n

abbrev pub BitsAreAsMany : Type 0
BitsAreAsMany = (width n : ℕ) → length (bits_of width n) ≡ width

one_width : {datas : List Data} {t : TypeTree} {w v : ℕ} → HasWidth datas t w → HasWidth datas t v → w ≡ v
one_width {w = w} {v = v} a b = let e : fits w ≡ fits v = measured_once a b in cc

length_filled : (w : ℕ) (bits : List Bool) → length bits ≤ w → length (filled w bits) ≡ w
length_filled w bits l = length-append bits (replicate (w - length bits) false) ∙ ap (λ n. length bits + n) (length-replicate (w - length bits) false) ∙ (let e : length bits + (w - length bits) ≡ w = omega arith in e)

no_width : {datas : List Data} {σ : Substitution} {s : ℕ} → MeasuredFields datas [] σ (fits s) → 0 ≡ s
no_width {s = s} d = let e : fits s ≡ fits 0 = nothing_measured d in cc

one_more : (n w : ℕ) → w + n * w ≡ suc n * w
one_more n w = omega arith

-- an encoding has the type's width
mutual
  pub encoded_length : {datas : List Data} {t : TypeTree} {v : Datum} {bits : List Bool} {w : ℕ} → BitsAreAsMany → Encodes datas t v bits → HasWidth datas t w → length bits ≡ w
  encoded_length h (scalar_bits l) d = l ∙ sym (scalar_width d)
  encoded_length h (vector_bits {vs = vs} {bits = bits} l e) d =
      let x = element_width d in elements_length h e x.element ∙ ap (λ n. n * x.a) l ∙ sym x.is
  encoded_length h (data_bits i width it c bits known n at e own) d =
      let x = cons_width it known own in
      let y = con_width it.cons i c at x.cons in
      let k = fields_length h e y.fields (let p = x.is in let q = x.within in let r = y.within in omega arith) in
      let j = length-append (bits_of (tag_width (length it.cons)) i) bits in
      let m = h (tag_width (length it.cons)) i in
      length_filled width (bits_of (tag_width (length it.cons)) i ++ bits) (let p = x.is in let r = y.within in omega arith) ∙ one_width own d

  pub elements_length : {datas : List Data} {t : TypeTree} {vs : Datums} {bits : List Bool} {w : ℕ} → BitsAreAsMany → EncodesElements datas t vs bits → HasWidth datas t w → length bits ≡ count_of vs * w
  elements_length {w = w} h no_element_bits d = let e : 0 ≡ 0 * w = omega arith in e
  elements_length {w = w} h (element_bits {vs = vs} {bits = bits} {more = more} e es) d =
      length-append bits more ∙ (λ i. encoded_length h e d i + elements_length h es d i) ∙ one_more (count_of vs) w

  pub fields_length : {datas : List Data} {fs : List TypeTree} {σ : Substitution} {vs : Datums} {bits : List Bool} {s : ℕ} → BitsAreAsMany → EncodesFields datas fs σ vs bits → MeasuredFields datas fs σ (fits s) → s ≤ DATA_BITS → length bits ≡ s
  fields_length h no_field_bits d l = no_width d
  fields_length h (field_bits {bits = bits} {more = more} e es) d l =
      let x = field_width l d in
      length-append bits more ∙ (λ i. encoded_length h e x.first i + fields_length h es x.rest (let p = x.is in omega arith) i) ∙ sym x.is

-- what has an encoding is a value
mutual
  pub encoded_value : {datas : List Data} {t : TypeTree} {v : Datum} {bits : List Bool} → Encodes datas t v bits → IsValueOf datas t v
  encoded_value (scalar_bits l) = scalar_value l
  encoded_value (vector_bits l e) = vector_value l (encoded_elements e)
  encoded_value (data_bits i width it c bits known n at e own) = data_value i it c known (known_measured it known own).as_many n at (encoded_fields e)

  encoded_elements : {datas : List Data} {t : TypeTree} {vs : Datums} {bits : List Bool} → EncodesElements datas t vs bits → AreElements datas t vs
  encoded_elements no_element_bits = no_elements
  encoded_elements (element_bits e es) = element_and (encoded_value e) (encoded_elements es)

  encoded_fields : {datas : List Data} {fs : List TypeTree} {σ : Substitution} {vs : Datums} {bits : List Bool} → EncodesFields datas fs σ vs bits → AreFields datas fs σ vs
  encoded_fields no_field_bits = no_fields
  encoded_fields (field_bits e es) = field_and (encoded_value e) (encoded_fields es)

-- a value of a type with a width has an encoding
mutual
  pub value_encoded : {datas : List Data} {t : TypeTree} {v : Datum} {w : ℕ} → IsValueOf datas t v → HasWidth datas t w → (bits : List Bool) × Encodes datas t v bits
  value_encoded (scalar_value {bits = bits} l) d = (bits, scalar_bits l)
  value_encoded (vector_value l es) d = let e = elements_encoded es (element_width d).element in (e.0, vector_bits l e.1)
  value_encoded {w = w} (data_value i it c known as_many n at fs) d =
      let x = cons_width it known d in
      let y = con_width it.cons i c at x.cons in
      let e = fields_encoded fs y.fields (let p = x.is in let q = x.within in let r = y.within in omega arith) in
      (filled w (bits_of (tag_width (length it.cons)) i ++ e.0), data_bits i w it c e.0 known n at e.1 d)

  elements_encoded : {datas : List Data} {t : TypeTree} {vs : Datums} {w : ℕ} → AreElements datas t vs → HasWidth datas t w → (bits : List Bool) × EncodesElements datas t vs bits
  elements_encoded no_elements d = ([], no_element_bits)
  elements_encoded (element_and v vs) d = let e = value_encoded v d in let es = elements_encoded vs d in (e.0 ++ es.0, element_bits e.1 es.1)

  pub fields_encoded : {datas : List Data} {fs : List TypeTree} {σ : Substitution} {vs : Datums} {s : ℕ} → AreFields datas fs σ vs → MeasuredFields datas fs σ (fits s) → s ≤ DATA_BITS → (bits : List Bool) × EncodesFields datas fs σ vs bits
  fields_encoded no_fields d l = ([], no_field_bits)
  fields_encoded (field_and v vs) d l =
      let x = field_width l d in
      let e = value_encoded v x.first in
      let es = fields_encoded vs x.rest (let p = x.is in omega arith) in
      (e.0 ++ es.0, field_bits e.1 es.1)

-- what an encoding of data says of the value
pub record DataParts (datas : List Data) (d : ℕ) (ts : TypeTrees) (it : Data) (v : Datum) (all : List Bool) : Type 0 where
  pub n : ℕ
  pub i : ℕ
  pub c : ConDecl
  pub vs : Datums
  pub bits : List Bool
  pub width : ℕ
  pub built_of : v ≡ built n vs
  pub number : n ≡ first_constructor datas d + i
  pub at : slice_get it.cons i ≡ Some c
  pub fields : EncodesFields datas c.fields (arguments ts) vs bits
  pub own : HasWidth datas (data_of d ts) width
  pub is : all ≡ filled width (bits_of (tag_width (length it.cons)) i ++ bits)

pub data_parts : {datas : List Data} {d : ℕ} {ts : TypeTrees} {v : Datum} {all : List Bool} (it : Data) → slice_get datas d ≡ Some it → Encodes datas (data_of d ts) v all → DataParts datas d ts it v all
data_parts {datas} {d} {ts} {v} {all} it known (data_bits {n = n} i width other c {vs = vs} bits k number at e own) =
    let same : other ≡ it = cc (k, known) in
    subst (λ o. DataParts datas d ts o v all) same
    (record { n = n; i = i; c = c; vs = vs; bits = bits; width = width; built_of = refl; number = number; at = at; fields = e; own = own; is = refl })

fields_along : {datas : List Data} {σ : Substitution} {vs : Datums} {bits : List Bool} (c e : ConDecl) → c ≡ e → EncodesFields datas c.fields σ vs bits → EncodesFields datas e.fields σ vs bits
fields_along {datas} {σ} {vs} {bits} c e p f = subst (λ (x : ConDecl). EncodesFields datas x.fields σ vs bits) p f

same_at : (cs : List ConDecl) (i j : ℕ) (c e : ConDecl) → i ≡ j → slice_get cs i ≡ Some c → slice_get cs j ≡ Some e → c ≡ e
same_at cs i j c e p f g = let h : slice_get cs i ≡ slice_get cs j = ap (slice_get cs) p in cc

-- an encoding is determined
mutual
  pub encoded_once : {datas : List Data} {t : TypeTree} {v : Datum} {b more : List Bool} → Encodes datas t v b → Encodes datas t v more → b ≡ more
  encoded_once (scalar_bits l) (scalar_bits k) = refl
  encoded_once (vector_bits l e) (vector_bits k f) = elements_once e f
  encoded_once {datas = datas} (data_bits {d = d} {n = n} i width it c {ts = ts} {vs = vs} bits known number at e own) f =
      let p = data_parts it known f in
      let at_n : n ≡ p.n = cc (p.built_of) in
      let same_vs : p.vs ≡ vs = cc (p.built_of) in
      let same_i : i ≡ p.i = let q = p.number in omega arith in
      let same_c : p.c ≡ c = sym (same_at it.cons i p.i c p.c same_i at p.at) in
      let g = fields_once e (fields_along p.c c same_c (subst (λ xs. EncodesFields datas p.c.fields (arguments ts) xs p.bits) same_vs p.fields)) in
      (λ j. filled (one_width own p.own j) (bits_of (tag_width (length it.cons)) (same_i j) ++ g j)) ∙ sym p.is

  elements_once : {datas : List Data} {t : TypeTree} {vs : Datums} {b more : List Bool} → EncodesElements datas t vs b → EncodesElements datas t vs more → b ≡ more
  elements_once no_element_bits no_element_bits = refl
  elements_once (element_bits e es) (element_bits f fs) = λ i. encoded_once e f i ++ elements_once es fs i

  fields_once : {datas : List Data} {fs : List TypeTree} {σ : Substitution} {vs : Datums} {b more : List Bool} → EncodesFields datas fs σ vs b → EncodesFields datas fs σ vs more → b ≡ more
  fields_once no_field_bits no_field_bits = refl
  fields_once (field_bits e es) (field_bits f fs) = λ i. encoded_once e f i ++ fields_once es fs i

pub append_split : (xs ys us vs : List Bool) → length xs ≡ length ys → xs ++ us ≡ ys ++ vs → (xs ≡ ys) × (us ≡ vs)
append_split [] [] us vs l e = (refl, e)
append_split [] (y ∷ ys) us vs l e = absurd (cc)
append_split (x ∷ xs) [] us vs l e = absurd (cc)
append_split (x ∷ xs) (y ∷ ys) us vs l e =
    let w = append_split xs ys us vs (let k : length xs ≡ length ys = omega arith in k) (cc) in
    let h : x ≡ y = cc in
    ((λ i. h i ∷ w.0 i), w.1)

at_below : (cs : List ConDecl) (i : ℕ) (c : ConDecl) → slice_get cs i ≡ Some c → i < length cs
at_below [] i c e = absurd (cc)
at_below (x ∷ cs) zero c e = omega arith
at_below (x ∷ cs) (suc i) c e = let w = at_below cs i c e in omega arith

-- tags tell the constructors apart
pub same_tag : BitsMean → (n i j : ℕ) → i < n → j < n → bits_of (tag_width n) i ≡ bits_of (tag_width n) j → i ≡ j
same_tag h n i j l k e =
    let w = tag_suffices n in
    sym (h (tag_width n) i (omega arith)) ∙ ap number_of e ∙ h (tag_width n) j (omega arith)

-- an encoding determines the value
mutual
  pub encoded_same : {datas : List Data} {t : TypeTree} {v u : Datum} {b more : List Bool} {w : ℕ} → BitsAreAsMany → BitsMean → Encodes datas t v b → Encodes datas t u more → HasWidth datas t w → b ≡ more → v ≡ u
  encoded_same h m (scalar_bits l) (scalar_bits k) d e = ap word e
  encoded_same h m (vector_bits l es) (vector_bits k fs) d e = ap elements (elements_same h m es fs (element_width d).element (l ∙ sym k) e)
  encoded_same {datas = datas} {u = u} h m (data_bits {d = d} {n = n} i width it c {ts = ts} {vs = vs} bits known number at es own) f w e =
      let p = data_parts it known f in
      let x = cons_width it known own in
      let y = con_width it.cons i c at x.cons in
      let k = tag_width (length it.cons) in
      let s = one_width p.own own in
      let all = e ∙ p.is ∙ ap (λ z. filled z (bits_of k p.i ++ p.bits)) s in
      let parts = append_split (bits_of k i) (bits_of k p.i) (bits ++ replicate (width - length (bits_of k i ++ bits)) false) (p.bits ++ replicate (width - length (bits_of k p.i ++ p.bits)) false) (h k i ∙ sym (h k p.i))
      (sym (append_assoc (bits_of k i) bits (replicate (width - length (bits_of k i ++ bits)) false)) ∙ all ∙ append_assoc (bits_of k p.i) p.bits (replicate (width - length (bits_of k p.i ++ p.bits)) false)) in
      let same_i = same_tag m (length it.cons) i p.i (at_below it.cons i c at) (at_below it.cons p.i p.c p.at) parts.0 in
      let same_c : p.c ≡ c = sym (same_at it.cons i p.i c p.c same_i at p.at) in
      let fs = fields_along p.c c same_c p.fields in
      let small : y.s ≤ DATA_BITS = let q = x.is in let r = x.within in let z = y.within in omega arith in
      let inner = append_split bits p.bits _ _ (fields_length h es y.fields small ∙ sym (fields_length h fs y.fields small)) parts.1 in
      let same_vs = fields_same h m es fs y.fields small inner.0 in
      let same_n : n ≡ p.n = number ∙ ap (λ j. first_constructor datas d + j) same_i ∙ sym p.number in
      (λ j. built (same_n j) (same_vs j)) ∙ sym p.built_of

  elements_same : {datas : List Data} {t : TypeTree} {vs us : Datums} {b more : List Bool} {w : ℕ} → BitsAreAsMany → BitsMean → EncodesElements datas t vs b → EncodesElements datas t us more → HasWidth datas t w → count_of vs ≡ count_of us → b ≡ more → vs ≡ us
  elements_same h m no_element_bits no_element_bits d l e = refl
  elements_same h m no_element_bits (element_bits f fs) d l e = absurd (cc)
  elements_same h m (element_bits g gs) no_element_bits d l e = absurd (cc)
  elements_same h m (element_bits {vs = vs} {bits = b} {more = bs} g gs) (element_bits {vs = us} {bits = f} {more = fs} k ks) d l e =
      let w = append_split b f bs fs (encoded_length h g d ∙ sym (encoded_length h k d)) e in
      let n : count_of vs ≡ count_of us = omega arith in
      λ i. datum_and (encoded_same h m g k d w.0 i) (elements_same h m gs ks d n w.1 i)

  pub fields_same : {datas : List Data} {ts : List TypeTree} {σ : Substitution} {vs us : Datums} {b more : List Bool} {s : ℕ} → BitsAreAsMany → BitsMean → EncodesFields datas ts σ vs b → EncodesFields datas ts σ us more → MeasuredFields datas ts σ (fits s) → s ≤ DATA_BITS → b ≡ more → vs ≡ us
  fields_same h m no_field_bits no_field_bits d l e = refl
  fields_same h m (field_bits {bits = b} {more = bs} g gs) (field_bits {bits = f} {more = fs} k ks) d l e =
      let x = field_width l d in
      let w = append_split b f bs fs (encoded_length h g x.first ∙ sym (encoded_length h k x.first)) e in
      λ i. datum_and (encoded_same h m g k x.first w.0 i) (fields_same h m gs ks x.rest (let p = x.is in omega arith) w.1 i)
