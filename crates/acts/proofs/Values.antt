-- Data values act as themselves.
use Rattle.std.specs.Prelude.{slice_get}
use Rattle.std.proofs.Common.{◌≡◌, ◌+◌, ℕ, suc, zero, Bool, false, List, [], ◌∷◌, ◌++◌, length, map, reverse, Some, refl, sym, ap, ◌∙◌, subst, arith}
use Rattle.std.proofs.lemmas.List.{append-nil, length-replicate}
use Rattle.chw_types.specs.declared.kind.Scalar.{Scalar}
use Rattle.chw_types.specs.declared.declarations.ConDecl.{ConDecl}
use Rattle.chw_types.specs.declared.declarations.Data.{Data}
use Rattle.chw_types.specs.TypeTree.{TypeTree, scalar, vector, data_of, TypeTrees}
use Rattle.chw_types.specs.TypeMoves.{Substitution, sub}
use Rattle.chw_types.specs.Arguments.{arguments}
use Rattle.chw_terms.specs.declared.program.Program.{Program}
use Rattle.chw_terms.specs.Constructors.{Constructor, cons_of, constructors_from, con_at}
use Rattle.chw_layout.specs.Measured.{closed_value}
use Rattle.chw_layout.specs.Datum.{Datum, word, built, elements, Datums, no_data, datum_and}
use Rattle.chw_layout.specs.Encodes.{first_constructor, IsValueOf, scalar_value, vector_value, data_value, AreElements, no_elements, element_and, AreFields, no_fields, field_and}
use Rattle.chw_typing.specs.HeadTypes.{fields_at}
use Rattle.chw_typing.proofs.Lists.{turned_onto}
use Rattle.chw_meaning.specs.Zeros.{IsZero, zero_scalar, zero_vector, zero_data, AreZeros, no_zeros, zeros_and, AreZeroFields, no_zero_field, zero_field_and}
use Rattle.chw_meaning.specs.Values.{Value, con_of, known, Thunks, none, thunk_and, knowns, knowns_back, value_of}
use Rattle.chw_meaning.specs.Eval.{f_known}
use Rattle.acts.specs.Levels.{Levels, later, thunk_has, ThunksAct}
use Rattle.acts.specs.Acts.{AllAct, EachAct, acts_from}
use Rattle.acts.proofs.Forms.{bits_act, vector_acts}
use Rattle.acts.proofs.Levels.{at_end, IsLevels, from_turns, at_levels, all_later}

mutual
  -- the data value has the form of values of the closed type, whatever its lengths
  pub data Fits (p : Program) : TypeTree → Datum → Type 0 where
    fits_word : {x : Scalar} {w : TypeTree} {b : List Bool} → length b ≡ closed_value w → Fits p (scalar x w) (word b)
    fits_elements : {n t : TypeTree} {ds : Datums} → FitsEach p t ds → Fits p (vector n t) (elements ds)
    fits_built : {d c : ℕ} {ts : TypeTrees} {it : Constructor} {ds : Datums} → con_at p.datas c ≡ Some it → it.of ≡ d → FitsFields p it.decl.fields (arguments ts) ds → Fits p (data_of d ts) (built c ds)

  pub data FitsEach (p : Program) : TypeTree → Datums → Type 0 where
    fits_none : {t : TypeTree} → FitsEach p t no_data
    fits_each : {t : TypeTree} {d : Datum} {ds : Datums} → Fits p t d → FitsEach p t ds → FitsEach p t (datum_and d ds)

  pub data FitsFields (p : Program) : List TypeTree → Substitution → Datums → Type 0 where
    fits_no_field : {σ : Substitution} → FitsFields p [] σ no_data
    fits_field : {f : TypeTree} {fs : List TypeTree} {σ : Substitution} {d : Datum} {ds : Datums} → Fits p (sub f σ) d → FitsFields p fs σ ds → FitsFields p (f ∷ fs) σ (datum_and d ds)

con_value : (p : Program) (n m : ℕ) (c d : ℕ) (it : Constructor) (ts : TypeTrees) (xs' xs : Thunks) (s : Value → Type 0) → con_at p.datas c ≡ Some it → it.of ≡ d → s (con_of c xs) → AllAct p (acts_from p n) (reverse (fields_at it ts)) xs' xs → later m (acts_from p n) zero (data_of d ts) (con_of c xs') s
unfolding acts_from
con_value p zero m c d it ts xs' xs s held of own h = at_end p m (data_of d ts) (con_of c xs') s
con_value p (suc n) zero c d it ts xs' xs s held of own h =
    record { tag = c; it = it; held = held; of_type = of; first = xs'; second = xs; is = refl; has_value = own; parts = all_later (from_turns p (suc n)) (suc zero) (reverse (fields_at it ts)) xs' xs h }
con_value p (suc n) (suc m) c d it ts xs' xs s held of own h =
    con_value p n m c d it ts xs' xs s held of own (all_later (from_turns p (suc n)) (suc zero) (reverse (fields_at it ts)) xs' xs h)

-- a constructor on fields that act so
pub built_acts : {p : Program} {r : Levels} → IsLevels p r → (m c d : ℕ) (it : Constructor) (ts : TypeTrees) (xs' xs : Thunks) (s : Value → Type 0) → con_at p.datas c ≡ Some it → it.of ≡ d → s (con_of c xs) → AllAct p r (reverse (fields_at it ts)) xs' xs → later m r zero (data_of d ts) (con_of c xs') s
built_acts {p} l m c d it ts xs' xs s held of own = at_levels l (λ q. AllAct p q (reverse (fields_at it ts)) xs' xs → later m q zero (data_of d ts) (con_of c xs') s) (λ n. con_value p n m c d it ts xs' xs s held of own)

-- a known data value, if the value acts as itself
known_from : {p : Program} (r : Levels) (t : TypeTree) (d : Datum) → ((m : ℕ) (s : Value → Type 0) → s (value_of d) → later m r zero t (value_of d) s) → ThunksAct p r t (known d) (known d)
known_from {p} r t d acts h' h m v al f_known = acts (suc zero) (thunk_has p (known d) h) (suc zero, f_known)

mutual
  pub value_acts : {p : Program} {r : Levels} {t : TypeTree} {d : Datum} → Fits p t d → IsLevels p r → (m : ℕ) (s : Value → Type 0) → s (value_of d) → later m r zero t (value_of d) s
  value_acts (fits_word {x = x} {w = w} {b = b} wide) l m s own = bits_act l m x w b s wide own
  value_acts (fits_elements {n = n} {t = t} {ds = ds} all) l m s own = vector_acts l m n t (knowns ds) (knowns ds) s own (knowns_act all l)
  value_acts {p} {r} (fits_built {d = d} {c = c} {ts = ts} {it = it} {ds = ds} held of all) l m s own =
      let fields = knowns_back_act all l [] none tt in
      built_acts l m c d it ts (knowns_back ds none) (knowns_back ds none) s held of own (subst (λ us. AllAct p r us (knowns_back ds none) (knowns_back ds none)) (append-nil (reverse (fields_at it ts))) fields)

  knowns_act : {p : Program} {r : Levels} {t : TypeTree} {ds : Datums} → FitsEach p t ds → IsLevels p r → EachAct p r t (knowns ds) (knowns ds)
  knowns_act fits_none l = tt
  knowns_act {r = r} {t = t} (fits_each {d = d} f all) l = (known_from r t d (λ m s own. value_acts f l m s own), knowns_act all l)

  knowns_back_act : {p : Program} {r : Levels} {fs : List TypeTree} {σ : Substitution} {ds : Datums} → FitsFields p fs σ ds → IsLevels p r → (us : List TypeTree) (before : Thunks) → AllAct p r us before before → AllAct p r (reverse (map (λ f. sub f σ) fs) ++ us) (knowns_back ds before) (knowns_back ds before)
  knowns_back_act fits_no_field l us before h = h
  knowns_back_act {p} {r} (fits_field {f = f} {fs = fs} {σ = σ} {d = d} {ds = ds} x all) l us before h =
      subst (λ vs. AllAct p r vs (knowns_back ds (thunk_and (known d) before)) (knowns_back ds (thunk_and (known d) before))) (sym (turned_onto (sub f σ) (map (λ f. sub f σ) fs) us))
      (knowns_back_act all l (sub f σ ∷ us) (thunk_and (known d) before) (known_from r (sub f σ) d (λ m s own. value_acts x l m s own), h))

pub known_acts : {p : Program} {r : Levels} {t : TypeTree} {d : Datum} → IsLevels p r → Fits p t d → ThunksAct p r t (known d) (known d)
known_acts {r = r} {t = t} {d = d} l fits = known_from r t d (λ m s own. value_acts fits l m s own)

found_among : (d : ℕ) (it : Data) (ks : List ConDecl) (others : List Constructor) (i : ℕ) (k : ConDecl) → slice_get ks i ≡ Some k → slice_get (cons_of d it ks others) i ≡ Some (record { of = d; it = it; decl = k })
found_among d it [] others i k e = cc
found_among d it (c ∷ ks) others zero k e = let is : c ≡ k = cc in ap (λ k. Some (record { of = d; it = it; decl = k })) is
found_among d it (c ∷ ks) others (suc i) k e = found_among d it ks others i k e

found_after : (d : ℕ) (it : Data) (ks : List ConDecl) (others : List Constructor) (c : ℕ) → slice_get (cons_of d it ks others) (length ks + c) ≡ slice_get others c
found_after d it [] others c = ap (slice_get others) (let e : zero + c ≡ c = omega arith in e)
found_after d it (k ∷ ks) others c = ap (slice_get (cons_of d it (k ∷ ks) others)) (let e : suc (length ks) + c ≡ suc (length ks + c) = omega arith in e) ∙ found_after d it ks others c

found_from : (b : ℕ) (datas : List Data) (d i : ℕ) (it : Data) (k : ConDecl) → slice_get datas d ≡ Some it → slice_get it.cons i ≡ Some k → slice_get (constructors_from b datas) (first_constructor datas d + i) ≡ Some (record { of = b + d; it = it; decl = k })
found_from b [] d i it k e f = cc
found_from b (x ∷ datas) zero i it k e f =
    let is : x ≡ it = cc in
    ap (slice_get (constructors_from b (x ∷ datas))) (let e : zero + i ≡ i = omega arith in e)
    ∙ found_among b x x.cons (constructors_from (suc b) datas) i k (ap (λ (x : Data). slice_get x.cons i) is ∙ f)
    ∙ ap (λ (x : Data). Some (record { of = b; it = x; decl = k })) is
    ∙ ap (λ b. Some (record { of = b; it = it; decl = k })) (let e : b ≡ b + zero = omega arith in e)
found_from b (x ∷ datas) (suc d) i it k e f =
    ap (slice_get (constructors_from b (x ∷ datas))) (let e : length x.cons + first_constructor datas d + i ≡ length x.cons + (first_constructor datas d + i) = omega arith in e)
    ∙ found_after b x x.cons (constructors_from (suc b) datas) (first_constructor datas d + i)
    ∙ found_from (suc b) datas d i it k e f
    ∙ ap (λ b. Some (record { of = b; it = it; decl = k })) (let e : suc b + d ≡ b + suc d = omega arith in e)

-- the constructor of a place of its data type
pub placed_con : (datas : List Data) (d i : ℕ) (it : Data) (k : ConDecl) → slice_get datas d ≡ Some it → slice_get it.cons i ≡ Some k → con_at datas (first_constructor datas d + i) ≡ Some (record { of = d; it = it; decl = k })
placed_con datas d i it k e f = found_from zero datas d i it k e f ∙ ap (λ b. Some (record { of = b; it = it; decl = k })) (let e : zero + d ≡ d = omega arith in e)

fits_placed : (p : Program) (datas : List Data) → datas ≡ p.datas → (d i : ℕ) (it : Data) (k : ConDecl) (ts : TypeTrees) (ds : Datums) → slice_get datas d ≡ Some it → slice_get it.cons i ≡ Some k → FitsFields p k.fields (arguments ts) ds → Fits p (data_of d ts) (built (first_constructor datas d + i) ds)
fits_placed p datas same d i it k ts ds e f all = fits_built placed_con_in refl all
  where
    placed_con_in : con_at p.datas (first_constructor datas d + i) ≡ Some (record { of = d; it = it; decl = k })
    placed_con_in = ap (λ xs. con_at xs (first_constructor datas d + i)) (sym same) ∙ placed_con datas d i it k e f

mutual
  value_fits_in : {p : Program} {datas : List Data} {t : TypeTree} {d : Datum} → IsValueOf datas t d → datas ≡ p.datas → Fits p t d
  value_fits_in (scalar_value e) same = fits_word e
  value_fits_in (vector_value e all) same = fits_elements (elements_fit all same)
  value_fits_in {p} {datas} (data_value {d = d} {n = n} i it k {ts = ts} {vs = vs} e l is g all) same = subst (λ n. Fits p (data_of d ts) (built n vs)) (sym is) (fits_placed p datas same d i it k ts vs e g (fields_fit all same))

  elements_fit : {p : Program} {datas : List Data} {t : TypeTree} {ds : Datums} → AreElements datas t ds → datas ≡ p.datas → FitsEach p t ds
  elements_fit no_elements same = fits_none
  elements_fit (element_and v more) same = fits_each (value_fits_in v same) (elements_fit more same)

  fields_fit : {p : Program} {datas : List Data} {fs : List TypeTree} {σ : Substitution} {ds : Datums} → AreFields datas fs σ ds → datas ≡ p.datas → FitsFields p fs σ ds
  fields_fit no_fields same = fits_no_field
  fields_fit (field_and v more) same = fits_field (value_fits_in v same) (fields_fit more same)

pub value_fits : (p : Program) {t : TypeTree} {d : Datum} → IsValueOf p.datas t d → Fits p t d
value_fits p v = value_fits_in v refl

mutual
  zero_fits_in : {p : Program} {datas : List Data} {t : TypeTree} {z : Datum} → IsZero datas t z → datas ≡ p.datas → Fits p t z
  zero_fits_in (zero_scalar {n = n}) same = fits_word (length-replicate (closed_value n) false)
  zero_fits_in (zero_vector all) same = fits_elements (zeros_fit all same)
  zero_fits_in {p} {datas} (zero_data {d = d} {it = it} {con = k} {ts = ts} {ds = ds} e g all) same =
      subst (λ n. Fits p (data_of d ts) (built n ds)) (let e : first_constructor datas d + zero ≡ first_constructor datas d = omega arith in e) (fits_placed p datas same d zero it k ts ds e g (zero_fields_fit all same))

  zeros_fit : {p : Program} {datas : List Data} {n : ℕ} {t : TypeTree} {ds : Datums} → AreZeros datas n t ds → datas ≡ p.datas → FitsEach p t ds
  zeros_fit no_zeros same = fits_none
  zeros_fit (zeros_and z more) same = fits_each (zero_fits_in z same) (zeros_fit more same)

  zero_fields_fit : {p : Program} {datas : List Data} {fs : List TypeTree} {σ : Substitution} {ds : Datums} → AreZeroFields datas fs σ ds → datas ≡ p.datas → FitsFields p fs σ ds
  zero_fields_fit no_zero_field same = fits_no_field
  zero_fields_fit (zero_field_and z more) same = fits_field (zero_fits_in z same) (zero_fields_fit more same)

pub zero_fits : (p : Program) {t : TypeTree} {z : Datum} → IsZero p.datas t z → Fits p t z
zero_fits p z = zero_fits_in z refl
