-- Bits that are judged by forms: what the loops keep, and what the bits of a whole say.
use Rattle.std.proofs.Common.{◌≡◌, ℕ, zero, suc, ◌+◌, ◌*◌, ◌<◌, ◌≤◌, max, Bool, true, false, List, [], ◌∷◌, ◌++◌, length, get_or, take, drop, refl, sym, ap, subst, ◌∙◌, arith}
use Rattle.std.specs.Prelude.{Some, IsTrue, ◌↔◌, replicate}
use Rattle.std.specs.List.{AllByRecursion, slice_get}
use Rattle.std.proofs.lemmas.List.{take-append-drop}
use Rattle.std.proofs.lemmas.Bool.{false≢true}
use Rattle.chw_bits.specs.Bits.{number_of}
use Rattle.chw_types.specs.declared.declarations.ConDecl.{ConDecl}
use Rattle.chw_types.specs.declared.declarations.Data.{Data}
use Rattle.chw_types.specs.Arguments.{arguments}
use Rattle.chw_types.specs.TypeMoves.{Substitution, sub}
use Rattle.chw_types.specs.TypeTree.{TypeTree, TypeTrees, ty_var, vector, data_of}
use Rattle.chw_types.proofs.TypeLaws.{sub_ids}
use Rattle.chw_layout.specs.Datum.{Datum, Datums, built, elements}
use Rattle.chw_layout.specs.DatumView.{datums_of}
use Rattle.chw_layout.specs.Encodes.{Encodes, EncodesFields, no_field_bits, field_bits, first_constructor}
use Rattle.chw_layout.specs.Measured.{HasWidth, Measure, MeasuredFields, no_fields_measured, field_measured, Measured, closed_value, fits, tag_width}
use Rattle.chw_layout.proofs.Measures.{measured_once}
use Rattle.data_bits.specs.Decoding.{ArePadded, FieldsWithin, IsRow}
use Rattle.data_bits.proofs.Decoded.{FieldsRead, RowRead, bits_mean, data_decoded, data_fails, fields_begin, fields_done, fields_fail, fields_go_on, fields_not_zero, field_room, length_first, row_begins, row_ends, row_fails, row_goes_on, row_room, vector_decoded, vector_none}
use Rattle.data_forms.specs.Forms.{IsEncoding, fields_of}

-- ---- places

-- the least number above all of these
abbrev pub above : List ℕ → ℕ
above [] = 0
above (at ∷ places) = max (suc at) (above places)

pub below_above : (places : List ℕ) (i at : ℕ) → slice_get places i ≡ Some at → at < above places
below_above [] i at e = absurd (cc)
below_above (p ∷ places) zero at e = let same : p ≡ at = cc in omega (arith, same)
below_above (p ∷ places) (suc i) at e = let h = below_above places i at e in omega (arith, h)

pub above_within : (bound : ℕ) (places : List ℕ) → AllByRecursion (λ at. at < bound) places → above places ≤ bound
above_within bound [] all = omega arith
above_within bound (at ∷ places) all = let first = all.0 in let rest = above_within bound places all.1 in omega (arith, first, rest)

pub all_within : (bound higher : ℕ) (places : List ℕ) → bound ≤ higher → AllByRecursion (λ at. at < bound) places → AllByRecursion (λ at. at < higher) places
all_within bound higher [] le all = tt
all_within bound higher (at ∷ places) le all = let first = all.0 in (omega (arith, first, le), all_within bound higher places le all.1)

pub within_at : (bound : ℕ) (places : List ℕ) (i at : ℕ) → AllByRecursion (λ at. at < bound) places → slice_get places i ≡ Some at → at < bound
within_at bound [] i at all e = absurd (cc)
within_at bound (p ∷ places) zero at all e = let same : p ≡ at = cc in subst (λ n. n < bound) same all.0
within_at bound (p ∷ places) (suc i) at all e = within_at bound places i at all.1 e

-- ---- what a test of parts says of the whole

pub whole_by_parts : (judged : Bool) (P Q : Type 0) → (IsTrue judged ↔ P) → (P → Q) → ((P → ⊥) → Q → ⊥) → IsTrue judged ↔ Q
whole_by_parts true P Q h to back = (λ e. to (h.0 e), λ q. refl)
whole_by_parts false P Q h to back = (λ e. absurd (false≢true e), λ q. absurd (back (λ p. false≢true (h.1 p)) q))

pub never : (P : Type 0) → (P → ⊥) → IsTrue false ↔ P
never P none = (λ e. absurd (false≢true e), λ p. absurd (none p))

-- a test that fails: nothing has the bits
pub test_fails : (judged : Bool) (P : Type 0) → judged ≡ false → (IsTrue judged ↔ P) → P → ⊥
test_fails judged P is h p = false≢true (sym is ∙ h.1 p)

-- ---- rows

-- so many of the values are there
pub record RowTaken (datas : List Data) (t : TypeTree) (n w : ℕ) (bits : List Bool) (i : ℕ) (rest : List Bool) : Type 0 where
  pub width : HasWidth datas t w
  pub values : List Datum
  pub read : RowRead datas t n w bits i values rest

pub same_width : {datas : List Data} {t : TypeTree} (a b : ℕ) → HasWidth datas t a → HasWidth datas t b → a ≡ b
same_width a b d e = let p : fits a ≡ fits b = measured_once d e in cc

pub row_starts : (datas : List Data) (t : TypeTree) (n w v : ℕ) (bits : List Bool) → HasWidth datas t w → HasWidth datas t v → length bits ≡ n * v → RowTaken datas t n w bits 0 bits
row_starts datas t n w v bits has also all = record {
  width = has;
  values = [];
  read = row_begins datas t n w bits [] refl (all ∙ ap (λ m. n * m) (same_width v w also has));
}

pub row_part : (datas : List Data) (t : TypeTree) (n w : ℕ) (bits : List Bool) (i : ℕ) (rest : List Bool) → i < n → RowTaken datas t n w bits i rest → w ≤ length rest
row_part datas t n w bits i rest below r = row_room datas t n w bits i r.values rest below r.read

pub row_more : (datas : List Data) (t : TypeTree) (n w : ℕ) (bits : List Bool) (i : ℕ) (rest more : List Bool) → i < n → more ≡ drop w rest → IsEncoding datas t (take w rest)
    → RowTaken datas t n w bits i rest → RowTaken datas t n w bits (i + 1) more
row_more datas t n w bits i rest more below is v r =
    let room = row_part datas t n w bits i rest below r in
    let join : rest ≡ take w rest ++ more = sym (take-append-drop w rest) ∙ ap (λ m. take w rest ++ m) (sym is) in
    record {
      width = r.width;
      values = r.values ++ v.0 ∷ [];
      read = row_goes_on datas t n w bits i r.values (r.values ++ v.0 ∷ []) rest (take w rest) more v.0 below r.width (length_first w rest room) join v.1 refl r.read;
    }

pub row_stops : (datas : List Data) (t : TypeTree) (n w : ℕ) (bits : List Bool) (i : ℕ) (rest : List Bool) → i < n → (IsEncoding datas t (take w rest) → ⊥)
    → RowTaken datas t n w bits i rest → ((vs : Datums) × IsRow datas t n bits vs) → ⊥
row_stops datas t n w bits i rest below none r all =
    let room = row_part datas t n w bits i rest below r in
    row_fails datas t n w bits i r.values rest (take w rest) (drop w rest) below r.width (length_first w rest room) (sym (take-append-drop w rest)) (λ v x. none (v, x)) r.read all.0 all.1

pub row_is_whole : (datas : List Data) (t : TypeTree) (n w : ℕ) (bits : List Bool) (i : ℕ) (rest : List Bool) → n ≤ i → RowTaken datas t n w bits i rest → (vs : Datums) × IsRow datas t n bits vs
row_is_whole datas t n w bits i rest past r = (datums_of r.values, row_ends datas t n w bits i r.values rest past r.read)

-- ---- fields

-- so many of the fields' values are there
pub record FieldsTaken (datas : List Data) (types : List TypeTree) (bits : List Bool) (i : ℕ) (rest : List Bool) : Type 0 where
  pub values : List Datum
  pub read : FieldsRead datas types ty_var bits i values rest

pub fields_start : (datas : List Data) (types : List TypeTree) (bits : List Bool) → FieldsWithin datas types ty_var (length bits) → FieldsTaken datas types bits 0 bits
fields_start datas types bits within = record { values = []; read = fields_begin datas types ty_var bits [] refl within }

as_put : {datas : List Data} {t : TypeTree} {w : ℕ} → HasWidth datas t w → HasWidth datas (sub t ty_var) w
as_put {datas} {t} {w} h = subst (λ u. HasWidth datas u w) (sym (sub_ids t)) h

pub field_part : (datas : List Data) (types : List TypeTree) (bits : List Bool) (i : ℕ) (rest : List Bool) (t : TypeTree) (w : ℕ) → i < length types → t ≡ get_or types i t → HasWidth datas t w
    → FieldsTaken datas types bits i rest → w ≤ length rest
field_part datas types bits i rest t w below at has r = field_room datas types ty_var bits i r.values rest t w below at (as_put has) r.read

pub fields_more : (datas : List Data) (types : List TypeTree) (bits : List Bool) (i : ℕ) (rest more : List Bool) (t : TypeTree) (w : ℕ) → i < length types → t ≡ get_or types i t → HasWidth datas t w
    → more ≡ drop w rest → IsEncoding datas t (take w rest) → FieldsTaken datas types bits i rest → FieldsTaken datas types bits (i + 1) more
fields_more datas types bits i rest more t w below at has is v r =
    let room = field_part datas types bits i rest t w below at has r in
    let join : rest ≡ take w rest ++ more = sym (take-append-drop w rest) ∙ ap (λ m. take w rest ++ m) (sym is) in
    record {
      values = r.values ++ v.0 ∷ [];
      read = fields_go_on datas types ty_var bits i r.values (r.values ++ v.0 ∷ []) rest (take w rest) more t w v.0 below at (as_put has) (length_first w rest room) join
          (subst (λ u. Encodes datas u v.0 (take w rest)) (sym (sub_ids t)) v.1) refl r.read;
    }

pub fields_stop : (datas : List Data) (types : List TypeTree) (bits : List Bool) (i : ℕ) (rest : List Bool) (t : TypeTree) (w : ℕ) → i < length types → t ≡ get_or types i t → HasWidth datas t w
    → (IsEncoding datas t (take w rest) → ⊥) → FieldsTaken datas types bits i rest → ((vs : Datums) × ArePadded datas types ty_var bits vs) → ⊥
fields_stop datas types bits i rest t w below at has none r all =
    let room = field_part datas types bits i rest t w below at has r in
    fields_fail datas types ty_var bits i r.values rest (take w rest) (drop w rest) t w below at (as_put has) (length_first w rest room) (sym (take-append-drop w rest))
    (λ v x. none (v, subst (λ u. Encodes datas u v (take w rest)) (sub_ids t) x)) r.read all.0 all.1

pub fields_end_zero : (datas : List Data) (types : List TypeTree) (bits : List Bool) (i : ℕ) (rest : List Bool) (judged : Bool) → length types ≤ i → (IsTrue judged ↔ (rest ≡ replicate (length rest) false))
    → FieldsTaken datas types bits i rest → IsTrue judged ↔ ((vs : Datums) × ArePadded datas types ty_var bits vs)
fields_end_zero datas types bits i rest judged past zeros r =
    whole_by_parts judged (rest ≡ replicate (length rest) false) ((vs : Datums) × ArePadded datas types ty_var bits vs) zeros
    (λ z. (datums_of r.values, fields_done datas types ty_var bits i r.values rest past z r.read))
    (λ none all. fields_not_zero datas types ty_var bits i r.values rest past none r.read all.0 all.1)

-- ---- fields with arguments put in

measured_closed : {datas : List Data} {σ : Substitution} {fs : List TypeTree} {m : Measure} → MeasuredFields datas fs σ m → MeasuredFields datas (fields_of fs σ) ty_var m
measured_closed no_fields_measured = no_fields_measured
measured_closed {datas} {σ} (field_measured {f = f} {m = m} first rest) = field_measured (subst (λ u. Measured datas u m) (sym (sub_ids (sub f σ))) first) (measured_closed rest)

closed_bits : {datas : List Data} {σ : Substitution} {fs : List TypeTree} {vs : Datums} {bits : List Bool} → EncodesFields datas fs σ vs bits → EncodesFields datas (fields_of fs σ) ty_var vs bits
closed_bits no_field_bits = no_field_bits
closed_bits {datas} {σ} (field_bits {f = f} {v = v} {bits = b} x xs) = field_bits (subst (λ u. Encodes datas u v b) (sym (sub_ids (sub f σ))) x) (closed_bits xs)

open_bits : {datas : List Data} (fs : List TypeTree) (σ : Substitution) {us : List TypeTree} {vs : Datums} {bits : List Bool} → us ≡ fields_of fs σ → EncodesFields datas us ty_var vs bits → EncodesFields datas fs σ vs bits
open_bits [] σ is no_field_bits = no_field_bits
open_bits [] σ is (field_bits x xs) = absurd (cc)
open_bits (g ∷ fs) σ is no_field_bits = absurd (cc)
open_bits {datas} (g ∷ fs) σ is (field_bits {f = f} {v = v} {bits = b} x xs) =
    let first : f ≡ sub g σ = cc in
    field_bits (subst (λ u. Encodes datas u v b) (sub_ids f ∙ first) x) (open_bits fs σ (cc) xs)

pub within_closed : (datas : List Data) (fs : List TypeTree) (σ : Substitution) (most : ℕ) → FieldsWithin datas fs σ most → FieldsWithin datas (fields_of fs σ) ty_var most
within_closed datas fs σ most w = record { width = w.width; measured = measured_closed w.measured; within = w.within; small = w.small }

padded_closed : (datas : List Data) (fs : List TypeTree) (σ : Substitution) (bits : List Bool) (vs : Datums) → ArePadded datas fs σ bits vs → ArePadded datas (fields_of fs σ) ty_var bits vs
padded_closed datas fs σ bits vs p = record { bits = p.bits; encoded = closed_bits p.encoded; is = p.is }

padded_open : (datas : List Data) (fs : List TypeTree) (σ : Substitution) (bits : List Bool) (vs : Datums) → ArePadded datas (fields_of fs σ) ty_var bits vs → ArePadded datas fs σ bits vs
padded_open datas fs σ bits vs p = record { bits = p.bits; encoded = open_bits fs σ refl p.encoded; is = p.is }

-- ---- the whole, by its shape

pub row_judged : (datas : List Data) (n t : TypeTree) (k : ℕ) (bits : List Bool) (judged : Bool) → k ≡ closed_value n → (IsTrue judged ↔ ((vs : Datums) × IsRow datas t k bits vs))
    → IsTrue judged ↔ IsEncoding datas (vector n t) bits
row_judged datas n t k bits judged is h =
    whole_by_parts judged ((vs : Datums) × IsRow datas t k bits vs) (IsEncoding datas (vector n t) bits) h
    (λ r. (elements r.0, vector_decoded datas n t k bits r.0 is r.1))
    (λ none v. vector_none datas n t k bits is (λ vs r. none (vs, r)) v.0 v.1)

pub choice_judged : (datas : List Data) (d k : ℕ) (ts : TypeTrees) (it : Data) (bits first rest : List Bool) (tag : ℕ) (c : ConDecl) (judged : Bool)
    → slice_get datas d ≡ Some it → HasWidth datas (data_of d ts) (length bits) → k ≡ tag_width (length it.cons) → length first ≡ k → bits ≡ first ++ rest → tag ≡ number_of first
    → slice_get it.cons tag ≡ Some c → (IsTrue judged ↔ ((vs : Datums) × ArePadded datas (fields_of c.fields (arguments ts)) ty_var rest vs)) → IsTrue judged ↔ IsEncoding datas (data_of d ts) bits
choice_judged datas d k ts it bits first rest tag c judged known own e l j is at h =
    let σ = arguments ts in
    whole_by_parts judged ((vs : Datums) × ArePadded datas (fields_of c.fields σ) ty_var rest vs) (IsEncoding datas (data_of d ts) bits) h
    (λ p. (
      built (first_constructor datas d + tag) p.0,
      data_decoded datas d k (first_constructor datas d + tag) ts it bits first rest tag c p.0 known own e l j is at refl (padded_open datas c.fields σ rest p.0 p.1),
    ))
    (λ none v. data_fails datas d k ts it bits first rest tag c bits_mean known e l j is at (λ vs p. none (vs, padded_closed datas c.fields σ rest vs p)) v.0 v.1)
