-- What a thunk yields, a thunk as which it acts yields too.
use Rattle.std.specs.Prelude.{slice_get}
use Rattle.std.proofs.Common.{◌≡◌, ◌<◌, ℕ, suc, zero, List, [], ◌∷◌, ◌++◌, length, map, reverse, Some, refl, sym, ap, ◌∙◌, subst, arith}
use Rattle.std.proofs.lemmas.List.{append-nil, length-reverse, length-map}
use Rattle.chw_types.specs.TypeTree.{TypeTree}
use Rattle.chw_types.specs.TypeMoves.{Substitution, sub}
use Rattle.chw_terms.specs.declared.program.Program.{Program}
use Rattle.chw_terms.specs.Constructors.{Constructor, con_at}
use Rattle.chw_layout.specs.Datum.{Datum, Datums}
use Rattle.chw_typing.specs.HeadTypes.{fields_at}
use Rattle.chw_typing.proofs.Lists.{turned_onto}
use Rattle.chw_meaning.specs.Values.{History, Value, bits, con_of, vec_of, Thunk, Thunks, none, thunk_and}
use Rattle.chw_meaning.specs.Eval.{plus, Forces}
use Rattle.chw_meaning.specs.Gives.{Yields, y_empty, y_value, ValueYields, v_word, v_elements, v_built, YieldEach, yield_none, yield_each, YieldFields, yield_no_field, yield_field}
use Rattle.chw_meaning.proofs.Once.{same_some}
use Rattle.acts.specs.Levels.{later, thunk_has, ThunksAct}
use Rattle.acts.specs.Acts.{AllAct, EachAct, act_step, acts_from}
use Rattle.acts.proofs.Levels.{alike_same}
use Rattle.acts.proofs.Numbers.{plus_is, left}
use Rattle.acts.proofs.Tied.{part_acts}

-- what the first thunk has at a history acts as what the second has there
abbrev pub ActsHere : Program → ℕ → TypeTree → Thunk → Thunk → History → Type 0
ActsHere p n t x' x h =
    (i : ℕ) (v : Value) → Forces p i x' h v → later i (acts_from p n) zero t v (thunk_has p x h)

pub at_once : {p : Program} (n : ℕ) {t : TypeTree} {x' x : Thunk} (h : History) → ThunksAct p (acts_from p n) t x' x → ActsHere p n t x' x h
at_once n {t = t} h acts i v f = acts h h i v (alike_same t h) f

slot_after : (xs : List TypeTree) (y : TypeTree) (zs : List TypeTree) → slice_get (xs ++ y ∷ zs) (length xs) ≡ Some y
slot_after [] y zs = refl
slot_after (x ∷ xs) y zs = slot_after xs y zs

-- the type of a field, counted from the last one
pub field_slot : (f : TypeTree) (fs : List TypeTree) (σ : Substitution) (rest : List TypeTree) → slice_get (reverse (map (λ f. sub f σ) (f ∷ fs)) ++ rest) (length fs) ≡ Some (sub f σ)
field_slot f fs σ rest =
    ap (λ us. slice_get us (length fs)) (turned_onto (sub f σ) (map (λ f. sub f σ) fs) rest)
    ∙ ap (slice_get (reverse (map (λ f. sub f σ) fs) ++ sub f σ ∷ rest)) (sym (length-reverse (map (λ f. sub f σ) fs) ∙ length-map fs (λ f. sub f σ)))
    ∙ slot_after (reverse (map (λ f. sub f σ) fs)) (sub f σ) rest

-- a value of the second side that yields the same
pub record AlsoYields (p : Program) (t : TypeTree) (s : Value → Type 0) (h : History) (d : Datum) : Type 0 where
  pub value : Value
  pub has_value : s value
  pub turns : ℕ
  pub yields : ValueYields p turns t value h d

mutual
  pub yields_act : {p : Program} {m : ℕ} {t : TypeTree} {x' : Thunk} {h : History} {d : Datum} → Yields p m t x' h d → (n : ℕ) (x : Thunk) → m < n → ActsHere p n t x' x h → (k : ℕ) × Yields p k t x h d
  yields_act (y_empty w z) n x l acts = (zero, y_empty w z)
  yields_act {p} {x' = x'} {h = h} (y_value {m = a} {k = b} {t = t} {v = v} w f y) n x l acts =
      let sum = plus_is a b in
      let at = left p n a t v (thunk_has p x h) (omega (arith, l, sum)) (acts a v f) in
      let one = value_yields_act y at.rest x (omega (arith, l, sum, at.is, plus_is a (suc at.rest))) at.asked in
      (suc (plus one.has_value.0 one.turns), y_value w one.has_value.1 one.yields)

  value_yields_act : {p : Program} {m : ℕ} {t : TypeTree} {v : Value} {h : History} {d : Datum} → ValueYields p m t v h d → (n : ℕ) (x : Thunk) → m < n → act_step p (acts_from p n) t v (thunk_has p x h) → AlsoYields p t (thunk_has p x h) h d
  value_yields_act {p} {h = h} (v_word {s = z} {n = w} {b = b}) n x l a =
      let same : a.0 ≡ b = let e = a.1 in cc in
      record { value = bits b; has_value = subst (λ b. thunk_has p x h (bits b)) same a.2; turns = zero; yields = v_word }
  value_yields_act {p} (v_elements {k = k} {t = t} {ths = ths} all) n x l a =
      let same : a.first ≡ ths = let e = a.is in cc in
      let rest = each_yields_act all n a.second l (subst (λ xs. EachAct p (acts_from p n) t xs a.second) same a.parts) in
      record { value = vec_of a.second; has_value = a.has_value; turns = rest.0; yields = v_elements rest.1 }
  value_yields_act {p} {h = h} (v_built {d = d} {c = c} {ts = ts} {it = it} {ths = ths} {ds = ds} held of all) n x l a =
      let first : a.first ≡ ths = let e = a.is in cc in
      let tag : a.tag ≡ c = let e = a.is in cc in
      let is : a.it ≡ it = same_some a.held (ap (λ c. con_at p.datas c) tag ∙ held) in
      let parts = subst (λ xs. AllAct p (acts_from p n) (reverse (fields_at a.it ts)) xs a.second) first a.parts in
      let typed = subst (λ (it : Constructor). AllAct p (acts_from p n) (reverse (fields_at it ts)) ths a.second) is parts in
      let rest = fields_yield_act all n a.second [] l (subst (λ us. AllAct p (acts_from p n) us ths a.second) (sym (append-nil (reverse (fields_at it ts)))) typed) in
      record { value = con_of c a.second; has_value = subst (λ c. thunk_has p x h (con_of c a.second)) tag a.has_value; turns = rest.0; yields = v_built held of rest.1 }

  each_yields_act : {p : Program} {m : ℕ} {t : TypeTree} {xs' : Thunks} {h : History} {ds : Datums} → YieldEach p m t xs' h ds → (n : ℕ) (xs : Thunks) → m < n → EachAct p (acts_from p n) t xs' xs → (k : ℕ) × YieldEach p k t xs h ds
  each_yields_act yield_none n none l acts = (zero, yield_none)
  each_yields_act yield_none n (thunk_and x xs) l acts = absurd acts
  each_yields_act (yield_each y ys) n none l acts = absurd acts
  each_yields_act {p} {h = h} (yield_each {m = a} {k = b} y ys) n (thunk_and x xs) l acts =
      let sum = plus_is a b in
      let one = yields_act y n x (omega (arith, l, sum)) (at_once n h acts.0) in
      let rest = each_yields_act ys n xs (omega (arith, l, sum)) acts.1 in
      (plus one.0 rest.0, yield_each one.1 rest.1)

  fields_yield_act : {p : Program} {m : ℕ} {fs : List TypeTree} {σ : Substitution} {xs' : Thunks} {h : History} {ds : Datums} → YieldFields p m fs σ xs' h ds → (n : ℕ) (xs : Thunks) (rest : List TypeTree) → m < n → AllAct p (acts_from p n) (reverse (map (λ f. sub f σ) fs) ++ rest) xs' xs → (k : ℕ) × YieldFields p k fs σ xs h ds
  fields_yield_act yield_no_field n xs rest l acts = (zero, yield_no_field)
  fields_yield_act {p} {σ = σ} {xs' = xs'} {h = h} (yield_field {m = a} {k = b} {f = f} {fs = fs} {th = x'} i y ys) n xs rest l acts =
      let sum = plus_is a b in
      let part = part_acts (reverse (map (λ f. sub f σ) (f ∷ fs)) ++ rest) xs' xs (length fs) (sub f σ) x' acts (field_slot f fs σ rest) i in
      let one = yields_act y n part.0 (omega (arith, l, sum)) (at_once n h part.2) in
      let more = fields_yield_act ys n xs (sub f σ ∷ rest) (omega (arith, l, sum)) (subst (λ us. AllAct p (acts_from p n) us xs' xs) (turned_onto (sub f σ) (map (λ f. sub f σ) fs) rest) acts) in
      (plus one.0 more.0, yield_field part.1 one.1 more.1)
