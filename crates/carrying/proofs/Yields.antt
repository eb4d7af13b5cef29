-- What shows bits makes the data value that they encode.
use Rattle.std.specs.Prelude.{slice_get, ◌-◌}
use Rattle.std.proofs.Common.{◌≡◌, ℕ, suc, zero, ◌+◌, Bool, List, [], Some, refl, ap, ◌∙◌, subst, arith}
use Rattle.chw_types.specs.declared.declarations.Data.{Data}
use Rattle.chw_types.specs.TypeTree.{TypeTree}
use Rattle.chw_types.specs.TypeMoves.{Substitution}
use Rattle.chw_terms.specs.Constructors.{Constructor, con_at}
use Rattle.chw_terms.specs.declared.program.Program.{Program}
use Rattle.chw_layout.specs.Datum.{word, built, elements, Datums, no_data, datum_and}
use Rattle.chw_layout.specs.Encodes.{count_of as count_data, first_constructor, HaveConstructors, Encodes, scalar_bits, vector_bits, data_bits, EncodesElements, no_element_bits, element_bits, EncodesFields, no_field_bits, field_bits}
use Rattle.chw_layout.specs.Measured.{HasWidth}
use Rattle.chw_layout.proofs.Encodings.{BitsMean, encoded_once, encoded_same}
use Rattle.chw_meaning.specs.Values.{History, Value, Thunk, Thunks, count_of}
use Rattle.chw_meaning.specs.Eval.{plus}
use Rattle.chw_meaning.specs.Gives.{Yields, y_empty, y_value, v_word, v_elements, v_built, YieldEach, yield_none, yield_each, YieldFields, yield_no_field, yield_field}
use Rattle.chw_meaning.proofs.GivenOnce.{yields_once}
use Rattle.chw_meaning.proofs.ZerosEncoded.{zero_bits}
use Rattle.layout_laws.proofs.Numbering.{has_place, one_numbering}
use Rattle.layout_laws.specs.ZeroThere.{ZeroExists}
use Rattle.carrying.specs.Carrying.{Holds, holds_word, holds_elements, holds_built, Shows, shows_nothing, shows_bits, CarryEach, carry_none, carry_each, CarryFields, carry_no_field, carry_field}
use Rattle.carrying.specs.YieldLaws.{YieldedAt, Yielded, ValueYielded}
use Rattle.carrying.proofs.Widths.{bits_length}

-- a constructor's place among those of its data type
pub record PlaceOf (datas : List Data) (c : ℕ) (it : Constructor) : Type 0 where
  pub in_datas : slice_get datas it.of ≡ Some it.it
  pub number : c ≡ first_constructor datas it.of + (c - first_constructor datas it.of)
  pub in_cons : slice_get it.it.cons (c - first_constructor datas it.of) ≡ Some it.decl

pub place_of : (datas : List Data) (c : ℕ) (it : Constructor) → con_at datas c ≡ Some it → PlaceOf datas c it
place_of datas c it at =
    let place = has_place datas c it at in
    let first = one_numbering datas it.of in
    let number = place.number in
    let is : place.place ≡ c - first_constructor datas it.of = omega (arith, number, first) in
    record {
      in_datas = place.in_datas;
      number = omega (arith, number, first);
      in_cons = subst (λ i. slice_get it.it.cons i ≡ Some it.decl) is place.in_cons;
    }

pub shown_width : {p : Program} {t : TypeTree} {th : Thunk} {h : History} {b : List Bool} → Shows p t th h b → (w : ℕ) × HasWidth p.datas t w
shown_width (shows_nothing z) = (zero, z)
shown_width (shows_bits wide f v) = (suc wide.0, wide.1)

-- a data value at each history is one at all
pub at_all : {p : Program} {t : TypeTree} {th : Thunk} {b : List Bool} {w : ℕ} → BitsMean → HasWidth p.datas t w → ((h : History) → YieldedAt p t th h b) → Yielded p t th b
at_all {p} {t} {th} m has g =
    let x = g [] in
    record {
      datum = x.datum;
      encodes = x.encodes;
      yields = λ h.
          let y = g h in
          let same : y.datum ≡ x.datum = encoded_same bits_length m y.encodes x.encodes has refl in
          (y.turns, subst (λ d. Yields p y.turns t th h d) same y.yields);
    }

record EachYielded (p : Program) (t : TypeTree) (ths : Thunks) (b : List Bool) : Type 0 where
  data_values : Datums
  counts : count_data data_values ≡ count_of ths
  encode : EncodesElements p.datas t data_values b
  yields : (h : History) → (n : ℕ) × YieldEach p n t ths h data_values

record FieldsYielded (p : Program) (fs : List TypeTree) (σ : Substitution) (ths : Thunks) (b : List Bool) : Type 0 where
  data_values : Datums
  encode : EncodesFields p.datas fs σ data_values b
  yields : (h : History) → (n : ℕ) × YieldFields p n fs σ ths h data_values

mutual
  pub held_yielded : {p : Program} {t : TypeTree} {v : Value} {b : List Bool} → BitsMean → ZeroExists → HaveConstructors p.datas → Holds p t v b → ValueYielded p t v b
  held_yielded m z some (holds_word {b = b} l) = record { datum = word b; encodes = scalar_bits l; yields = λ h. (zero, v_word) }
  held_yielded m z some (holds_elements l fs) =
      let x = each_yielded m z some fs in
      record {
        datum = elements x.data_values;
        encodes = vector_bits (x.counts ∙ l) x.encode;
        yields = λ h. let y = x.yields h in (y.0, v_elements y.1);
      }
  held_yielded {p} m z some (holds_built {d = d} {c = c} {w = w} {ts = ts} {it = it} {b = b} at of many fs own) =
      let x = fields_yielded m z some fs in
      let place = place_of p.datas c it at in
      let i = c - first_constructor p.datas it.of in
      record {
        datum = built c x.data_values;
        encodes = data_bits i w it.it it.decl b
            (subst (λ d. slice_get p.datas d ≡ Some it.it) of place.in_datas)
            (subst (λ d. c ≡ first_constructor p.datas d + i) of place.number)
            place.in_cons x.encode own;
        yields = λ h. let y = x.yields h in (y.0, v_built at of y.1);
      }

  pub shown_yielded : {p : Program} {t : TypeTree} {th : Thunk} {h : History} {b : List Bool} → BitsMean → ZeroExists → HaveConstructors p.datas → Shows p t th h b → YieldedAt p t th h b
  shown_yielded {p} m z some (shows_nothing {t = t} has) =
      let x = z p.datas t zero some has in
      record { datum = x.0; encodes = zero_bits has x.1; turns = zero; yields = y_empty has x.1 }
  shown_yielded m z some (shows_bits {n = n} {h = h} wide f v) =
      let x = held_yielded m z some v in
      let y = x.yields h in
      record { datum = x.datum; encodes = x.encodes; turns = suc (plus n y.0); yields = y_value wide f y.1 }

  each_yielded : {p : Program} {t : TypeTree} {ths : Thunks} {b : List Bool} → BitsMean → ZeroExists → HaveConstructors p.datas → CarryEach p t ths b → EachYielded p t ths b
  each_yielded m z some carry_none = record { data_values = no_data; counts = refl; encode = no_element_bits; yields = λ h. (zero, yield_none) }
  each_yielded m z some (carry_each f fs) =
      let x = at_all m (shown_width (f [])).1 (λ h. shown_yielded m z some (f h)) in
      let y = each_yielded m z some fs in
      record {
        data_values = datum_and x.datum y.data_values;
        counts = ap suc y.counts;
        encode = element_bits x.encodes y.encode;
        yields = λ h. let a = x.yields h in let c = y.yields h in (plus a.0 c.0, yield_each a.1 c.1);
      }

  fields_yielded : {p : Program} {fs : List TypeTree} {σ : Substitution} {ths : Thunks} {b : List Bool} → BitsMean → ZeroExists → HaveConstructors p.datas → CarryFields p fs σ ths b → FieldsYielded p fs σ ths b
  fields_yielded m z some carry_no_field = record { data_values = no_data; encode = no_field_bits; yields = λ h. (zero, yield_no_field) }
  fields_yielded m z some (carry_field at f fs) =
      let x = at_all m (shown_width (f [])).1 (λ h. shown_yielded m z some (f h)) in
      let y = fields_yielded m z some fs in
      record {
        data_values = datum_and x.datum y.data_values;
        encode = field_bits x.encodes y.encode;
        yields = λ h. let a = x.yields h in let c = y.yields h in (plus a.0 c.0, yield_field at a.1 c.1);
      }

pub carried_yielded : {p : Program} {t : TypeTree} {th : Thunk} {b : List Bool} → BitsMean → ZeroExists → HaveConstructors p.datas → ((h : History) → Shows p t th h b) → Yielded p t th b
carried_yielded m z some f = at_all m (shown_width (f [])).1 (λ h. shown_yielded m z some (f h))

pub shown_once : {p : Program} {t : TypeTree} {th : Thunk} {h : History} {a b : List Bool} → BitsMean → ZeroExists → HaveConstructors p.datas → Shows p t th h a → Shows p t th h b → a ≡ b
shown_once {p} {t} {b = b} m z some s r =
    let x = shown_yielded m z some s in
    let y = shown_yielded m z some r in
    encoded_once x.encodes (subst (λ d. Encodes p.datas t d b) (yields_once y.yields x.yields) y.encodes)
