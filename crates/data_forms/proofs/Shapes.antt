-- What the shape of a type says of its bits.
use Rattle.std.proofs.Common.{◌≡◌, ℕ, zero, suc, ◌*◌, ◌<◌, ◌≤◌, ◌^◌, Bool, List, [], ◌∷◌, ◌++◌, length, map, get_or, take, drop, refl, sym, ap, subst, ◌∙◌, arith, length-append}
use Rattle.std.specs.Prelude.{Some, IsTrue, ◌↔◌}
use Rattle.std.specs.List.{AllByRecursion, slice_get}
use Rattle.std.proofs.lemmas.List.{nil_from_length, take-append-drop}
use Rattle.std.proofs.lemmas.Option.{slice_get-get_or}
use Rattle.chw_bits.specs.Bits.{number_of}
use Rattle.chw_types.specs.declared.declarations.ConDecl.{ConDecl}
use Rattle.chw_types.specs.declared.declarations.Data.{Data}
use Rattle.chw_types.specs.Arguments.{arguments}
use Rattle.chw_types.specs.TypeMoves.{Substitution}
use Rattle.chw_types.specs.TypeTree.{TypeTree, TypeTrees, ty_var, vector, data_of}
use Rattle.chw_layout.specs.Datum.{Datums}
use Rattle.chw_layout.specs.Encodes.{Encodes, HaveConstructors}
use Rattle.chw_layout.specs.EncodingPromises.{ZeroIsThere}
use Rattle.chw_layout.specs.Measured.{HasWidth, closed_value, tag_width}
use Rattle.chw_layout.proofs.Fitting.{element_width}
use Rattle.data_bits.specs.Decoding.{ArePadded, FieldsWithin, IsRow}
use Rattle.data_bits.proofs.Decoded.{bits_mean, data_fields, length_first, tag_fails, tag_narrow, tag_room}
use Rattle.data_forms.specs.declared.forms.Form.{Form}
use Rattle.data_forms.specs.declared.forms.Shape.{Shape}
use Rattle.data_forms.specs.declared.forms.Shape.TheVariants.{All, Row, Choice}
use Rattle.data_forms.specs.Forms.{AreConsAt, AreForms, AreTypesAt, HasRowWidth, IsEncoding, IsShape, is_all, is_row, is_choice, is_decoded, TakesAll, fields_of, type_at}
use Rattle.data_forms.proofs.Tables.{type_of}
use Rattle.data_forms.proofs.Walks.{choice_judged, row_judged, same_width, within_closed}

-- ---- a form of the table

pub form_at : (datas : List Data) (forms : List Form) (at : ℕ) (d : Form) → AreForms datas forms → at < length forms → HasWidth datas (type_at forms at) (get_or forms at d).width
form_at datas forms at d are below =
    let read = slice_get-get_or forms at d below in
    subst (λ u. HasWidth datas u (get_or forms at d).width) (sym (type_of forms at (get_or forms at d) read)) (are at (get_or forms at d) read).width

pub type_got : (forms : List Form) (places : List ℕ) (i : ℕ) → i < length places
    → type_at forms (get_or places i 0) ≡ get_or (map (type_at forms) places) i (type_at forms (get_or places i 0))
type_got forms [] i below = absurd (omega (arith, below))
type_got forms (at ∷ places) zero below = refl
type_got forms (at ∷ places) (suc i) below = type_got forms places i (omega (arith, below))

-- a type of width 0 takes the one list of bits that is so long
pub empty_takes : ZeroIsThere → (datas : List Data) (t : TypeTree) (w : ℕ) → HaveConstructors datas → HasWidth datas t w → w ≡ 0 → TakesAll datas t
empty_takes zeros datas t w cons has none bits long =
    let same : length bits ≡ w = same_width (length bits) w long has in
    let z = zeros datas t 0 cons (subst (HasWidth datas t) none has) in
    (z.0, subst (Encodes datas t z.0) (sym (nil_from_length bits (same ∙ none))) z.1)

-- ---- shapes

pub record RowOf (forms : List Form) (place : ℕ) (t : TypeTree) (count at : ℕ) : Type 0 where
  pub n : TypeTree
  pub of : TypeTree
  pub is_vector : t ≡ vector n of
  pub counted : count ≡ closed_value n
  pub below : at < place
  pub is_type : type_at forms at ≡ of

pub record ChoiceOf (datas : List Data) (forms : List Form) (place : ℕ) (t : TypeTree) (tag : ℕ) (cons : List (List ℕ)) : Type 0 where
  pub d : ℕ
  pub it : Data
  pub ts : TypeTrees
  pub is_data : t ≡ data_of d ts
  pub known : slice_get datas d ≡ Some it
  pub tag_is : tag ≡ tag_width (length it.cons)
  pub are : AreConsAt forms place (arguments ts) it.cons cons

pub all_of : {datas : List Data} {forms : List Form} {place : ℕ} {t : TypeTree} {s : Shape} → s ≡ All → IsShape datas forms place t s → TakesAll datas t
all_of e (is_all takes) = takes
all_of e (is_row count below is) = absurd (cc)
all_of e (is_choice known tag are) = absurd (cc)
all_of e is_decoded = absurd (cc)

pub row_of : {datas : List Data} {forms : List Form} {place : ℕ} {t : TypeTree} {s : Shape} (count at : ℕ) → s ≡ Row count at → IsShape datas forms place t s → RowOf forms place t count at
row_of count at e (is_all takes) = absurd (cc)
row_of {forms = forms} {place = place} count at e (is_row {n = n} {t = t} {count = count'} {at = at'} counted below is) =
    let same_count : count' ≡ count = cc in
    let same_at : at' ≡ at = cc in
    record {
      n = n;
      of = t;
      is_vector = refl;
      counted = sym same_count ∙ counted;
      below = subst (λ x. x < place) same_at below;
      is_type = subst (λ x. type_at forms x ≡ t) same_at is;
    }
row_of count at e (is_choice known tag are) = absurd (cc)
row_of count at e is_decoded = absurd (cc)

pub choice_of : {datas : List Data} {forms : List Form} {place : ℕ} {t : TypeTree} {s : Shape} (tag : ℕ) (cons : List (List ℕ)) → s ≡ Choice tag cons → IsShape datas forms place t s
    → ChoiceOf datas forms place t tag cons
choice_of tag cons e (is_all takes) = absurd (cc)
choice_of tag cons e (is_row count below is) = absurd (cc)
choice_of {forms = forms} {place = place} tag cons e (is_choice {d = d} {tag = tag'} {it = it} {ts = ts} {cons = cons'} known tag_is are) =
    let same_tag : tag' ≡ tag = cc in
    let same_cons : cons' ≡ cons = cc in
    record {
      d = d;
      it = it;
      ts = ts;
      is_data = refl;
      known = known;
      tag_is = sym same_tag ∙ tag_is;
      are = subst (AreConsAt forms place (arguments ts) it.cons) same_cons are;
    }
choice_of tag cons e is_decoded = absurd (cc)

-- ---- constructors and their places

pub as_many_cons : (forms : List Form) (bound : ℕ) (σ : Substitution) (cons : List ConDecl) (places : List (List ℕ)) → AreConsAt forms bound σ cons places → length cons ≡ length places
as_many_cons forms bound σ [] [] are = refl
as_many_cons forms bound σ [] (ps ∷ places) are = absurd are
as_many_cons forms bound σ (c ∷ cons) [] are = absurd are
as_many_cons forms bound σ (c ∷ cons) (ps ∷ places) are = let n = as_many_cons forms bound σ cons places are.1 in omega (arith, n)

pub record ConAt (forms : List Form) (bound : ℕ) (σ : Substitution) (cons : List ConDecl) (tag : ℕ) (ps : List ℕ) : Type 0 where
  pub c : ConDecl
  pub is_con : slice_get cons tag ≡ Some c
  pub at : AreTypesAt forms bound (fields_of c.fields σ) ps

pub con_at : (forms : List Form) (bound : ℕ) (σ : Substitution) (cons : List ConDecl) (places : List (List ℕ)) (tag : ℕ) (ps : List ℕ) → AreConsAt forms bound σ cons places
    → slice_get places tag ≡ Some ps → ConAt forms bound σ cons tag ps
con_at forms bound σ [] [] tag ps are e = absurd (cc)
con_at forms bound σ [] (qs ∷ places) tag ps are e = absurd are
con_at forms bound σ (c ∷ cons) [] tag ps are e = absurd are
con_at forms bound σ (c ∷ cons) (qs ∷ places) zero ps are e =
    let same : qs ≡ ps = cc in
    record { c = c; is_con = refl; at = subst (AreTypesAt forms bound (fields_of c.fields σ)) same are.0 }
con_at forms bound σ (c ∷ cons) (qs ∷ places) (suc tag) ps are e =
    let r = con_at forms bound σ cons places tag ps are.1 e in
    record { c = r.c; is_con = r.is_con; at = r.at }

-- ---- rows and choices

pub row_width : {datas : List Data} {forms : List Form} {place : ℕ} {t : TypeTree} {w : ℕ} (count at : ℕ) → RowOf forms place t count at → HasWidth datas t w → HasRowWidth datas (type_at forms at) count w
row_width {datas} {w = w} count at r has =
    let x = element_width (subst (λ u. HasWidth datas u w) r.is_vector has) in
    record { width = x.a; each = subst (λ u. HasWidth datas u x.a) (sym r.is_type) x.element; together = x.is ∙ ap (λ n. n * x.a) (sym r.counted) }

pub row_whole : {datas : List Data} {forms : List Form} {place : ℕ} {t : TypeTree} (count at : ℕ) (bits : List Bool) (judged : Bool) → RowOf forms place t count at
    → (IsTrue judged ↔ ((vs : Datums) × IsRow datas (type_at forms at) count bits vs)) → IsTrue judged ↔ IsEncoding datas t bits
row_whole {datas} count at bits judged r h =
    subst (λ u. IsTrue judged ↔ IsEncoding datas u bits) (sym r.is_vector)
    (row_judged datas r.n r.of count bits judged r.counted (subst (λ u. IsTrue judged ↔ ((vs : Datums) × IsRow datas u count bits vs)) r.is_type h))

module _ (datas : List Data) (forms : List Form) (place : ℕ) (t : TypeTree) (tag : ℕ) (cons : List (List ℕ)) (bits : List Bool) (ch : ChoiceOf datas forms place t tag cons) (has : HasWidth datas t (length bits)) where
  own : HasWidth datas (data_of ch.d ch.ts) (length bits)
  own = subst (λ u. HasWidth datas u (length bits)) ch.is_data has

  pub choice_room : tag ≤ length bits
  choice_room = tag_room datas ch.d (length bits) tag ch.ts ch.it ch.known own ch.tag_is

  pub choice_first : length (take tag bits) ≡ tag
  choice_first = length_first tag bits choice_room

  many : length ch.it.cons ≡ length cons
  many = as_many_cons forms place (arguments ch.ts) ch.it.cons cons ch.are

  pub choice_narrow : length cons < 2 ^ 64 → length (take tag bits) ≤ 64
  choice_narrow few =
      let n = many in
      let narrow = tag_narrow (length ch.it.cons) tag (omega (arith, few, n)) ch.tag_is in
      omega (arith, narrow, choice_first)

  pub choice_past : length cons ≤ number_of (take tag bits) → IsEncoding datas t bits → ⊥
  choice_past past v =
      let n = many in
      tag_fails datas ch.d tag ch.ts ch.it bits (take tag bits) (drop tag bits) bits_mean ch.known ch.tag_is choice_first (sym (take-append-drop tag bits))
      (omega (arith, past, n)) v.0 (subst (λ u. Encodes datas u v.0 bits) ch.is_data v.1)

  module _ (places : List ℕ) (rest : List Bool) (at : slice_get cons (number_of (take tag bits)) ≡ Some places) (is : rest ≡ drop tag bits) where
    con : ConAt forms place (arguments ch.ts) ch.it.cons (number_of (take tag bits)) places
    con = con_at forms place (arguments ch.ts) ch.it.cons cons (number_of (take tag bits)) places ch.are at

    parts : bits ≡ take tag bits ++ rest
    parts = sym (take-append-drop tag bits) ∙ ap (λ r. take tag bits ++ r) (sym is)

    pub choice_below : AllByRecursion (λ i. i < place) places
    choice_below = con.at.below

    pub choice_within : FieldsWithin datas (map (type_at forms) places) ty_var (length rest)
    choice_within =
        let l = ap length parts ∙ length-append (take tag bits) rest in
        subst (λ us. FieldsWithin datas us ty_var (length rest)) (sym con.at.are)
        (within_closed datas con.c.fields (arguments ch.ts) (length rest)
        (data_fields datas ch.d (length bits) tag ch.ts ch.it (number_of (take tag bits)) con.c (length rest) ch.known own ch.tag_is con.is_con (omega (arith, l, choice_first))))

    pub choice_whole : (judged : Bool) → (IsTrue judged ↔ ((vs : Datums) × ArePadded datas (map (type_at forms) places) ty_var rest vs)) → IsTrue judged ↔ IsEncoding datas t bits
    choice_whole judged h =
        subst (λ u. IsTrue judged ↔ IsEncoding datas u bits) (sym ch.is_data)
        (choice_judged datas ch.d tag ch.ts ch.it bits (take tag bits) rest (number_of (take tag bits)) con.c judged ch.known own ch.tag_is choice_first parts refl con.is_con
        (subst (λ us. IsTrue judged ↔ ((vs : Datums) × ArePadded datas us ty_var rest vs)) con.at.are h))
