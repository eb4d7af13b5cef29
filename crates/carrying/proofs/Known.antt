-- A data value carries its encoding.
use Rattle.std.specs.Prelude.{slice_get, ◌-◌}
use Rattle.std.proofs.Common.{◌≡◌, ◌≤◌, ℕ, suc, ◌+◌, Bool, List, ◌++◌, length, Some, refl, ap, ◌∙◌, subst, arith}
use Rattle.chw_base.specs.declared.limits.TheConstants.{DATA_BITS}
use Rattle.chw_bits.specs.Bits.{bits_of}
use Rattle.chw_types.specs.declared.declarations.Data.{Data}
use Rattle.chw_types.specs.declared.declarations.ConDecl.{ConDecl}
use Rattle.chw_types.specs.TypeTree.{TypeTree, data_of, TypeTrees}
use Rattle.chw_types.specs.TypeMoves.{Substitution, sub}
use Rattle.chw_types.specs.Arguments.{arguments}
use Rattle.chw_terms.specs.Constructors.{Constructor, con_at}
use Rattle.chw_terms.specs.declared.program.Program.{Program}
use Rattle.chw_layout.specs.Datum.{Datum, Datums, no_data, datum_and}
use Rattle.chw_layout.specs.Encodes.{count_of as count_data, first_constructor, filled, Encodes, scalar_bits, vector_bits, data_bits, EncodesElements, no_element_bits, element_bits, EncodesFields, no_field_bits, field_bits}
use Rattle.chw_layout.specs.Measured.{fits, tag_width, MeasuredFields, HasWidth}
use Rattle.chw_layout.proofs.Fitting.{element_width, cons_width, con_width, field_width}
use Rattle.chw_meaning.specs.Values.{History, con_of, stream, known, Thunks, none, thunk_and, thunk_at, count_of, knowns, knowns_back, value_of, item_at}
use Rattle.chw_meaning.specs.Eval.{f_known, f_stream}
use Rattle.layout_laws.proofs.Numbering.{at_place, one_numbering}
use Rattle.carrying.specs.Carrying.{tag_of, Holds, holds_word, holds_elements, holds_built, Shows, CarryEach, carry_none, carry_each, CarryFields, carry_no_field, carry_field}
use Rattle.carrying.proofs.Widths.{held_shows}

count_knowns : (ds : Datums) → count_of (knowns ds) ≡ count_data ds
count_knowns no_data = refl
count_knowns (datum_and d ds) = ap suc (count_knowns ds)

count_back : (ds : Datums) (before : Thunks) → count_of (knowns_back ds before) ≡ count_data ds + count_of before
count_back no_data before = let e : count_of before ≡ 0 + count_of before = omega arith in e
count_back (datum_and d ds) before = let e = count_back ds (thunk_and (known d) before) in omega (arith, e)

back_past : (ds : Datums) (before : Thunks) (i : ℕ) → thunk_at (knowns_back ds before) (count_data ds + i) ≡ thunk_at before i
back_past no_data before i = let e : 0 + i ≡ i = omega arith in ap (thunk_at before) e
back_past (datum_and x ds) before i =
    let e : suc (count_data ds) + i ≡ count_data ds + suc i = omega arith in
    ap (thunk_at (knowns_back ds (thunk_and (known x) before))) e ∙ back_past ds (thunk_and (known x) before) (suc i)

back_at : (ds : Datums) (d : Datum) (before : Thunks) (n : ℕ) → count_data ds ≡ n → thunk_at (knowns_back ds (thunk_and (known d) before)) n ≡ Some (known d)
back_at ds d before n e =
    let here : n ≡ count_data ds + 0 = omega (arith, e) in
    ap (thunk_at (knowns_back ds (thunk_and (known d) before))) here ∙ back_past ds (thunk_and (known d) before) 0

as_many : {datas : List Data} {fs : List TypeTree} {σ : Substitution} {vs : Datums} {b : List Bool} → EncodesFields datas fs σ vs b → count_data vs ≡ length fs
as_many no_field_bits = refl
as_many (field_bits e es) = ap suc (as_many es)

-- data that are built with the constructor at this place of its data type
built_held : (p : Program) (d n i w : ℕ) (it : Data) (c : ConDecl) (ts : TypeTrees) (ths : Thunks) (b : List Bool) → slice_get p.datas d ≡ Some it → n ≡ first_constructor p.datas d + i → slice_get it.cons i ≡ Some c → count_of ths ≡ length c.fields → CarryFields p c.fields (arguments ts) ths b → HasWidth p.datas (data_of d ts) w → Holds p (data_of d ts) (con_of n ths) (filled w (bits_of (tag_width (length it.cons)) i ++ b))
built_held p d n i w it c ts ths b found number at many fields has =
    let con : Constructor = record { of = d; it = it; decl = c } in
    let place : con_at p.datas n ≡ Some con =
    at_place p.datas n con (record { place = i; in_datas = found; in_cons = at; number = number ∙ ap (λ k. k + i) (one_numbering p.datas d) }) in
    let same : n - first_constructor p.datas d ≡ i = omega (arith, number) in
    let tag : tag_of p.datas n con ≡ bits_of (tag_width (length it.cons)) i = ap (bits_of (tag_width (length it.cons))) same in
    subst (λ z. Holds p (data_of d ts) (con_of n ths) (filled w (z ++ b))) tag (holds_built place refl many fields has)

mutual
  known_held : {p : Program} {datas : List Data} {t : TypeTree} {d : Datum} {b : List Bool} {w : ℕ} → Encodes datas t d b → datas ≡ p.datas → HasWidth datas t w → Holds p t (value_of d) b
  known_held (scalar_bits l) same has = holds_word l
  known_held (vector_bits {vs = vs} l es) same has = holds_elements (count_knowns vs ∙ l) (known_each es same (element_width has).element)
  known_held {p} (data_bits {d = d} {n = n} i width it c {ts = ts} {vs = vs} b found number at es own) same has =
      let x = cons_width it found own in
      let y = con_width it.cons i c at x.cons in
      let count : count_of (knowns_back vs none) ≡ length c.fields = let e = count_back vs none in let f = as_many es in omega (arith, e, f) in
      let q = x.is in
      let r = x.within in
      let z = y.within in
      let fields = known_fields es same y.fields (omega (arith, q, r, z)) none in
      built_held p d n i width it c ts (knowns_back vs none) b (subst (λ ds. slice_get ds d ≡ Some it) same found)
      (number ∙ ap (λ ds. first_constructor ds d + i) same) at count fields (subst (λ ds. HasWidth ds (data_of d ts) width) same own)

  known_each : {p : Program} {datas : List Data} {t : TypeTree} {vs : Datums} {b : List Bool} {w : ℕ} → EncodesElements datas t vs b → datas ≡ p.datas → HasWidth datas t w → CarryEach p t (knowns vs) b
  known_each no_element_bits same has = carry_none
  known_each {t = t} {w = w} (element_bits e es) same has =
      carry_each (λ h. held_shows w (subst (λ ds. HasWidth ds t w) same has) f_known (known_held e same has)) (known_each es same has)

  known_fields : {p : Program} {datas : List Data} {fs : List TypeTree} {σ : Substitution} {vs : Datums} {b : List Bool} {s : ℕ} → EncodesFields datas fs σ vs b → datas ≡ p.datas → MeasuredFields datas fs σ (fits s) → s ≤ DATA_BITS → (before : Thunks) → CarryFields p fs σ (knowns_back vs before) b
  known_fields no_field_bits same m l before = carry_no_field
  known_fields {σ = σ} (field_bits {f = f} {fs = fs} {v = v} {vs = vs} e es) same m l before =
      let x = field_width l m in
      let q = x.is in
      carry_field (back_at vs v before (length fs) (as_many es))
      (λ h. held_shows x.a (subst (λ ds. HasWidth ds (sub f σ) x.a) same x.first) f_known (known_held e same x.first))
      (known_fields es same x.rest (omega (arith, q, l)) (thunk_and (known v) before))

pub known_shows : {p : Program} {t : TypeTree} {d : Datum} {b : List Bool} (w : ℕ) → HasWidth p.datas t w → Encodes p.datas t d b → (h : History) → Shows p t (known d) h b
known_shows w has e h = held_shows w has f_known (known_held e refl has)

pub stream_shows : {p : Program} {t : TypeTree} {ds : List Datum} {d : Datum} {h : History} {b : List Bool} (w : ℕ) → HasWidth p.datas t w → item_at ds h ≡ Some d → Encodes p.datas t d b → Shows p t (stream ds) h b
stream_shows w has at e = held_shows w has (f_stream at) (known_held e refl has)
