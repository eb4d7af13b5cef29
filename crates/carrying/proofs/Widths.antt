-- What is shown is as wide as the type.
use Rattle.std.specs.Prelude.{false, replicate, slice_get, ◌-◌, ◌*◌}
use Rattle.std.proofs.lemmas.List.{length-replicate}
use Rattle.std.proofs.Common.{◌≡◌, ◌≤◌, ℕ, suc, zero, ◌+◌, Bool, List, [], ◌++◌, length, Some, refl, sym, ap, ◌∙◌, subst, arith, length-append}
use Rattle.chw_base.specs.declared.limits.TheConstants.{DATA_BITS}
use Rattle.chw_bits.specs.Bits.{bits_of}
use Rattle.chw_types.specs.TypeTree.{TypeTree, data_of, TypeTrees}
use Rattle.chw_types.specs.TypeMoves.{Substitution}
use Rattle.chw_types.specs.Arguments.{arguments}
use Rattle.chw_terms.specs.Constructors.{Constructor, con_at}
use Rattle.chw_terms.specs.declared.program.Program.{Program}
use Rattle.chw_layout.specs.Encodes.{filled}
use Rattle.chw_layout.specs.Measured.{fits, tag_width, MeasuredFields, HasWidth}
use Rattle.chw_layout.proofs.Fitting.{scalar_width, element_width, cons_width, con_width, field_width}
use Rattle.chw_layout.proofs.Measures.{no_fields}
use Rattle.chw_meaning.specs.Values.{History, Value, Thunk, Thunks, count_of}
use Rattle.chw_meaning.specs.Eval.{Forces}
use Rattle.chw_meaning.proofs.Widths.{width_once}
use Rattle.chw_meaning.proofs.ZerosEncoded.{no_bits}
use Rattle.layout_laws.proofs.Numbering.{has_place}
use Rattle.carrying.specs.Carrying.{tag_of, Holds, holds_word, holds_elements, holds_built, Shows, shows_nothing, shows_bits, CarryEach, carry_none, carry_each, CarryFields, carry_no_field, carry_field}

pub bits_length : (w n : ℕ) → length (bits_of w n) ≡ w
bits_length zero n = refl
bits_length (suc w) n = ap suc (bits_length w n)

pub length_of_filled : (w : ℕ) (b : List Bool) → length b ≤ w → length (filled w b) ≡ w
length_of_filled w b l =
    length-append b (replicate (w - length b) false)
    ∙ ap (λ n. length b + n) (length-replicate (w - length b) false)
    ∙ (let e : length b + (w - length b) ≡ w = omega (arith, l) in e)

no_width : (s : ℕ) → fits s ≡ fits 0 → 0 ≡ s
no_width s e = cc

one_more : (n w : ℕ) → w + n * w ≡ suc n * w
one_more n w = omega arith

-- how wide the fields of a constructor of a data type are together, and the whole
pub record WholeWidth (p : Program) (it : Constructor) (ts : TypeTrees) (w : ℕ) : Type 0 where
  pub s : ℕ
  pub fields : MeasuredFields p.datas it.decl.fields (arguments ts) (fits s)
  pub small : s ≤ DATA_BITS
  pub within : tag_width (length it.it.cons) + s ≤ w

pub whole_width : (p : Program) (c d : ℕ) (it : Constructor) (ts : TypeTrees) (w : ℕ) → con_at p.datas c ≡ Some it → it.of ≡ d → HasWidth p.datas (data_of d ts) w → WholeWidth p it ts w
whole_width p c d it ts w at of has =
    let place = has_place p.datas c it at in
    let known : slice_get p.datas d ≡ Some it.it = subst (λ d. slice_get p.datas d ≡ Some it.it) of place.in_datas in
    let x = cons_width it.it known has in
    let y = con_width it.it.cons place.place it.decl place.in_cons x.cons in
    record {
      s = y.s;
      fields = y.fields;
      small = let p = x.is in let q = x.within in let r = y.within in omega arith;
      within = let p = x.is in let r = y.within in omega arith;
    }

mutual
  pub held_length : {p : Program} {t : TypeTree} {v : Value} {b : List Bool} {w : ℕ} → Holds p t v b → HasWidth p.datas t w → length b ≡ w
  held_length (holds_word l) d = l ∙ sym (scalar_width d)
  held_length (holds_elements {ths = ths} {b = b} l e) d =
      let x = element_width d in
      each_length e x.element ∙ ap (λ n. n * x.a) l ∙ sym x.is
  held_length {p} {w = w} (holds_built {d = i} {c = c} {w = width} {ts = ts} {it = it} {b = b} at of many fs own) d =
      let x = whole_width p c i it ts width at of own in
      let k = tag_width (length it.it.cons) in
      let s = fields_length fs x.fields x.small in
      let j = length-append (tag_of p.datas c it) b in
      let m : length (tag_of p.datas c it) ≡ k = bits_length k _ in
      length_of_filled width (tag_of p.datas c it ++ b) (let q = x.within in omega (arith, j, m, s, q)) ∙ width_once own d

  pub shown_length : {p : Program} {t : TypeTree} {th : Thunk} {h : History} {b : List Bool} {w : ℕ} → Shows p t th h b → HasWidth p.datas t w → length b ≡ w
  shown_length (shows_nothing z) d = width_once z d
  shown_length (shows_bits wide f v) d = held_length v d

  pub each_length : {p : Program} {t : TypeTree} {ths : Thunks} {b : List Bool} {w : ℕ} → CarryEach p t ths b → HasWidth p.datas t w → length b ≡ count_of ths * w
  each_length {w = w} carry_none d = let e : 0 ≡ 0 * w = omega arith in e
  each_length {w = w} (carry_each {ths = ths} {b = b} {more = more} f fs) d =
      length-append b more ∙ (λ i. shown_length (f []) d i + each_length fs d i) ∙ one_more (count_of ths) w

  pub fields_length : {p : Program} {fs : List TypeTree} {σ : Substitution} {ths : Thunks} {b : List Bool} {s : ℕ} → CarryFields p fs σ ths b → MeasuredFields p.datas fs σ (fits s) → s ≤ DATA_BITS → length b ≡ s
  fields_length {s = s} carry_no_field d l = no_width s (no_fields d)
  fields_length (carry_field {b = b} {more = more} at f fs) d l =
      let x = field_width l d in
      length-append b more ∙ (λ i. shown_length (f []) x.first i + fields_length fs x.rest (let p = x.is in omega arith) i) ∙ sym x.is

-- a thunk of a type with a width shows what its value holds
pub held_shows : {p : Program} {n : ℕ} {t : TypeTree} {th : Thunk} {h : History} {v : Value} {b : List Bool} (w : ℕ) → HasWidth p.datas t w → Forces p n th h v → Holds p t v b → Shows p t th h b
held_shows {p} {t = t} {th = th} {h = h} {b = b} zero has f held = subst (λ b. Shows p t th h b) (sym (no_bits b (held_length held has))) (shows_nothing has)
held_shows (suc w) has f held = shows_bits (w, has) f held
