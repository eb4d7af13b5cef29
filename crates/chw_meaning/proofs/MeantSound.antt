-- The functions that compute what a term gives, and what a program means, give only what the relations have.
use Rattle.std.specs.Prelude.{slice_get, nat_lt, nat_eq, replicate, ◌&&◌, true}
use Rattle.std.specs.List.{list_all, AllByRecursion}
use Rattle.std.proofs.Common.{◌≡◌, ℕ, suc, zero, List, [], ◌∷◌, ◌++◌, length, Bool, Option, Some, None, refl, sym, ap, subst}
use Rattle.std.proofs.lemmas.Bool.{ltb-true, eqb-true}
use Rattle.chw_base.specs.declared.index.DomId.{DomId}
use Rattle.chw_clock.specs.declared.event.Event.{Event}
use Rattle.chw_clock.specs.declared.event.Port.{Port}
use Rattle.chw_clock.specs.declared.event.Ports.{Ports}
use Rattle.chw_clock.specs.Histories.{ticks, has_reset, HaveWidths, FitsEvent, FitsPorts}
use Rattle.chw_types.specs.declared.declarations.ConDecl.{ConDecl}
use Rattle.chw_types.specs.declared.declarations.Data.{Data}
use Rattle.type_ports.specs.declared.ports.Leaf.{Leaf}
use Rattle.chw_types.specs.declared.kind.Scalar.{Scalar}
use Rattle.chw_types.specs.TypeTree.{TypeTree, ty_var, nat_lit, nat_sum, nat_product, domain, scalar, vector, data_of, fun, signal, for_all, TypeTrees, no_types}
use Rattle.chw_types.specs.TypeMoves.{Substitution, sub}
use Rattle.chw_types.specs.Arguments.{list_of, arguments}
use Rattle.type_ports.specs.Ports.{leaf_of as port_leaf, Leaves, one_leaf, leaves_of_fields, LeavesOfAll, no_leaves, leaves_and}
use Rattle.chw_terms.specs.declared.program.Program.{Program}
use Rattle.chw_terms.specs.TermTree.{TermTree, global, con}
use Rattle.chw_terms.specs.Constructors.{Constructor, con_at}
use Rattle.chw_layout.specs.Datum.{Datum, word, built, elements, Datums, datum_and}
use Rattle.chw_layout.specs.Encodes.{first_constructor, IsValueOf, Encodes}
use Rattle.chw_layout.specs.EncodingPromises.{EncodedIsValue}
use Rattle.chw_layout.specs.Measured.{HasWidth}
use Rattle.chw_layout.specs.Refusals.{MeasuredIsRepresentable}
use Rattle.chw_meaning.specs.Values.{History, Value, bits, con_of, vec_of, closure, ty_closure, partial, Thunk, closed, applied, stream, known, Thunks, none, thunk_and, thunk_at}
use Rattle.chw_meaning.specs.Eval.{dom}
use Rattle.chw_meaning.specs.Gives.{Yields, y_empty, y_value, ValueYields, v_word, v_elements, v_built, YieldEach, yield_none, yield_each, YieldFields, yield_no_field, yield_field, Input, value_in, stream_in, at_types, PortGiven, given_stream, given_product, FieldsGiven, given_no_field, given_field, Given, given_value, given_port, OnInputs, on_all, on_next, LeafOf, leaf_of, PortLeaves, leaf_signal, leaves_product, FieldLeaves, no_field_leaves, field_leaves, HasLeaves, leaf_value, leaves_port, Gives}
use Rattle.chw_meaning.specs.Means.{LeadsFrom, leads_to, leads_from, PortsOf, no_ports, port_and, no_port_and, IsPortAt, port_here, port_later, port_past, IsTop, HasPorts, Decoded, decoded_none, decoded_and, Streams, no_streams, stream_and, stream_of_one, Fit, Means}
use Rattle.chw_meaning.specs.Run.{elements_in}
use Rattle.chw_meaning.specs.Meant.{first_there, word_in, Made, made_in, of_data, yields_by, yields_at, value_yields_by, yields_each_by, yields_fields_by, domain_in, fields_of_one, all_encoded_by, Supplied, supplied, port_given_by, product_given_by, fields_given_by, given_by, Arrow, arrow_in, on_inputs_by, port_leaves_by, product_leaves_by, field_leaves_by, leaves_by, gives_by, type_leaves_by, fields_types_by, all_leaves_by, Sides, sides, leads_by, TopFound, top_by, port_before, ports_of_by, top_ports_by, ports_by, all_decoded_by, stream_by, next_input, streams_by, bits_fit, event_fits, history_fits, fits_by, after_leaf, here_or, leaf_at_by, means_by}
use Rattle.chw_meaning.proofs.Holding.{Holds, nothing, one, turned, mapped, then, at_it, at_found, as_found, in_turns, If, if_none, if_some, if_so, if_changed, if_both, if_at, if_it, if_only}
use Rattle.chw_meaning.proofs.Sound.{zero_sound, force_sound, elements_found}
use Rattle.chw_meaning.proofs.LayoutsSound.{measured_sound, width_sound, encoded_sound, decoded_sound, both_true}

word_found : (v : Value) (y : Datum) → word_in v ≡ Some y → (b : List Bool) × (v ≡ bits b) × (word b ≡ y)
word_found (bits b) y e = (b, refl, cc)
word_found (con_of c ths) y e = cc
word_found (vec_of ths) y e = cc
word_found (closure t γ δ) y e = cc
word_found (ty_closure t γ δ) y e = cc
word_found (partial hd ts ths) y e = cc

value_yields_along : {p : Program} {k : ℕ} {t : TypeTree} {v w : Value} {h : History} {d : Datum} → v ≡ w → ValueYields p k t v h d → ValueYields p k t w h d
value_yields_along {p} {k} {t} {h = h} {d = d} e y = subst (λ v. ValueYields p k t v h d) e y

word_yields : {p : Program} {s : Scalar} {n : TypeTree} {v : Value} {h : History} {b : List Bool} {y : Datum} → v ≡ bits b → word b ≡ y → ValueYields p zero (scalar s n) v h y
word_yields {p} {s} {n} {v} {h} {b} e f = value_yields_along (sym e) (subst (λ y. ValueYields p zero (scalar s n) (bits b) h y) f v_word)

made_found : (v : Value) (m : Made) → made_in v ≡ Some m → v ≡ con_of m.tag m.fields
made_found (con_of c ths) m e = let same : record { tag = c; fields = ths } ≡ m = cc in ap (λ (m : Made). con_of m.tag m.fields) same
made_found (bits b) m e = cc
made_found (vec_of ths) m e = cc
made_found (closure t γ δ) m e = cc
made_found (ty_closure t γ δ) m e = cc
made_found (partial hd ts ths) m e = cc

of_data_sound : (i : ℕ) (o : Option Constructor) → If Constructor (λ k. (o ≡ Some k) × (k.of ≡ i)) (of_data i o)
of_data_sound i None = if_none
of_data_sound i (Some k) = if_only (nat_eq k.of i) (λ e. if_some (refl, eqb-true k.of i e))

mutual
  unfolding yields_by

  pub yields_sound : (d : ℕ) (p : Program) (t : TypeTree) (th : Thunk) (h : History) → Holds Datum (λ v n. Yields p n t th h v) (yields_by d p t th h)
  yields_sound zero p t th h = nothing
  yields_sound (suc d) p t th h = at_found (width_sound d p.datas t) (λ w own. yields_at_sound d p w t th h own)

  yields_at_sound : (d : ℕ) (p : Program) (w : ℕ) (t : TypeTree) (th : Thunk) (h : History) → HasWidth p.datas t w → Holds Datum (λ v n. Yields p n t th h v) (yields_at d p w t th h)
  yields_at_sound zero p w t th h own = nothing
  yields_at_sound (suc d) p zero t th h own = at_found (zero_sound d p.datas t) (λ z x. one (y_empty own x))
  yields_at_sound (suc d) p (suc w) t th h own = turned (then (force_sound d p th h) (λ v m f. mapped (value_yields_sound d p t v h) (λ y n all. y_value (w, own) f all)))

  value_yields_sound : (d : ℕ) (p : Program) (t : TypeTree) (v : Value) (h : History) → Holds Datum (λ y n. ValueYields p n t v h y) (value_yields_by d p t v h)
  value_yields_sound zero p t v h = nothing
  value_yields_sound (suc d) p (scalar s n) v h = at_it (word_in v) (λ y e. let q = word_found v y e in one (word_yields q.1 q.2))
  value_yields_sound (suc d) p (vector n t) v h =
      at_it (elements_in v) (λ ths e. as_found elements (yields_each_sound d p t ths h) (λ vs k all. value_yields_along (sym (elements_found v ths e)) (v_elements all)))
  value_yields_sound (suc d) p (data_of i ts) v h =
      at_it (made_in v) (λ c e. at_found (of_data_sound i (con_at p.datas c.tag)) (λ k x. as_found (built c.tag) (yields_fields_sound d p k.decl.fields (arguments ts) c.fields h) (λ vs n all. value_yields_along (sym (made_found v c e)) (v_built x.0 x.1 all))))
  value_yields_sound (suc d) p (ty_var x) v h = nothing
  value_yields_sound (suc d) p (nat_lit x) v h = nothing
  value_yields_sound (suc d) p (nat_sum a b) v h = nothing
  value_yields_sound (suc d) p (nat_product a b) v h = nothing
  value_yields_sound (suc d) p (domain x) v h = nothing
  value_yields_sound (suc d) p (fun a b) v h = nothing
  value_yields_sound (suc d) p (signal a b) v h = nothing
  value_yields_sound (suc d) p (for_all k t) v h = nothing

  yields_each_sound : (d : ℕ) (p : Program) (t : TypeTree) (ths : Thunks) (h : History) → Holds Datums (λ vs n. YieldEach p n t ths h vs) (yields_each_by d p t ths h)
  yields_each_sound zero p t ths h = nothing
  yields_each_sound (suc d) p t none h = one yield_none
  yields_each_sound (suc d) p t (thunk_and th ths) h = then (yields_sound d p t th h) (λ v m x. as_found (datum_and v) (yields_each_sound d p t ths h) (λ vs n xs. yield_each x xs))

  yields_fields_sound : (d : ℕ) (p : Program) (fs : List TypeTree) (σ : Substitution) (ths : Thunks) (h : History) → Holds Datums (λ vs n. YieldFields p n fs σ ths h vs) (yields_fields_by d p fs σ ths h)
  yields_fields_sound zero p fs σ ths h = nothing
  yields_fields_sound (suc d) p [] σ ths h = one yield_no_field
  yields_fields_sound (suc d) p (f ∷ fs) σ ths h = at_it (thunk_at ths (length fs)) (λ th i. then (yields_sound d p (sub f σ) th h) (λ v m x. as_found (datum_and v) (yields_fields_sound d p fs σ ths h) (λ vs n xs. yield_field i x xs)))

domain_sound : (a : TypeTree) → If ℕ (λ i. a ≡ domain i) (domain_in a)
domain_sound (domain i) = if_some refl
domain_sound (ty_var x) = if_none
domain_sound (nat_lit x) = if_none
domain_sound (nat_sum a b) = if_none
domain_sound (nat_product a b) = if_none
domain_sound (scalar s n) = if_none
domain_sound (vector n t) = if_none
domain_sound (data_of i ts) = if_none
domain_sound (fun a b) = if_none
domain_sound (signal a b) = if_none
domain_sound (for_all k t) = if_none

-- the one constructor that has fields
one_con : (ks : List ConDecl) (f : TypeTree) (fs : List TypeTree) → fields_of_one ks ≡ f ∷ fs → (k : ConDecl) × (ks ≡ k ∷ []) × (k.fields ≡ f ∷ fs)
one_con [] f fs e = cc
one_con (k ∷ []) f fs e = (k, refl, e)
one_con (k ∷ l ∷ ks) f fs e = cc

arrow_sound : (t : TypeTree) → If Arrow (λ a. t ≡ fun a.from a.to) (arrow_in t)
arrow_sound (fun a b) = if_some refl
arrow_sound (domain i) = if_none
arrow_sound (ty_var x) = if_none
arrow_sound (nat_lit x) = if_none
arrow_sound (nat_sum a b) = if_none
arrow_sound (nat_product a b) = if_none
arrow_sound (scalar s n) = if_none
arrow_sound (vector n t) = if_none
arrow_sound (data_of i ts) = if_none
arrow_sound (signal a b) = if_none
arrow_sound (for_all k t) = if_none

if_first : {A : Type 0} {P : A → Type 0} {o u : Option A} → If A P o → If A P u → If A P (first_there o u)
if_first {o = None} h k = k
if_first {o = Some x} h k = h

port_found : {datas : List Data} {leaf : Leaf} {leaves : List Leaf} {name : List ℕ} {names : List (List ℕ)} {ports : List Port} (w : ℕ) → HasWidth datas leaf.payload w → PortsOf datas leaves names ports → PortsOf datas (leaf ∷ leaves) (name ∷ names) (port_before name leaf w ports)
port_found zero own more = no_port_and own more
port_found (suc w) own more = port_and own more

ports_of_sound : (d : ℕ) (datas : List Data) (leaves : List Leaf) (names : List (List ℕ)) → If (List Port) (λ ports. PortsOf datas leaves names ports) (ports_of_by d datas leaves names)
ports_of_sound d datas [] [] = if_some no_ports
ports_of_sound d datas [] (name ∷ names) = if_none
ports_of_sound d datas (leaf ∷ leaves) [] = if_none
ports_of_sound d datas (leaf ∷ leaves) (name ∷ names) = if_both (port_before name leaf) (width_sound d datas leaf.payload) (ports_of_sound d datas leaves names) (λ w ports own more. port_found w own more)

-- the bits of an input that encode a value
record OneDecoded (datas : List Data) (t : TypeTree) (i : ℕ) (present : Event) (v : Datum) : Type 0 where
  pub b : List Bool
  pub at : slice_get present.inputs i ≡ Some b
  pub encodes : Encodes datas t v b

all_decoded_sound : (d : ℕ) (datas : List Data) (t : TypeTree) (i : ℕ) (h : History) → If (List Datum) (λ vs. Decoded datas t i h vs) (all_decoded_by d datas t i h)
all_decoded_sound d datas t i [] = if_some decoded_none
all_decoded_sound d datas t i (present ∷ past) =
    if_both {P = λ v. OneDecoded datas t i present v} (λ v vs. vs ++ (v ∷ [])) (if_at (slice_get present.inputs i) (λ b e. if_so (decoded_sound d datas t b) (λ v x. record { b = b; at = e; encodes = x }))) (all_decoded_sound d datas t i past) (λ v vs x xs. decoded_and x.at x.encodes xs)

-- the stream of a leaf before others
stream_found : (d : ℕ) (datas : List Data) (leaf : Leaf) (leaves : List Leaf) (w i : ℕ) (h : History) → HasWidth datas leaf.payload w → If (List Datum) (λ vs. (ins : List Input) → Streams datas leaves (next_input w i) h ins → Streams datas (leaf ∷ leaves) i h (stream_in vs ∷ ins)) (stream_by d datas w leaf.payload i h)
stream_found d datas leaf leaves zero i h own = if_changed (replicate (length h)) (zero_sound d datas leaf.payload) (λ z x ins more. stream_of_one own x more)
stream_found d datas leaf leaves (suc w) i h own = if_so (all_decoded_sound d datas leaf.payload i h) (λ vs x ins more. stream_and own x more)

streams_sound : (d : ℕ) (datas : List Data) (leaves : List Leaf) (i : ℕ) (h : History) → If (List Input) (λ ins. Streams datas leaves i h ins) (streams_by d datas leaves i h)
streams_sound d datas [] i h = if_some no_streams
streams_sound d datas (leaf ∷ leaves) i h =
    if_it (width_sound d datas leaf.payload) (λ w own. if_both (λ vs ins. stream_in vs ∷ ins) (stream_found d datas leaf leaves w i h own) (streams_sound d datas leaves (next_input w i) h) (λ vs ins x more. x ins more))

here_found : {datas : List Data} {leaf : Leaf} {leaves : List Leaf} (go : ℕ → Option ℕ) (w k : ℕ) → HasWidth datas leaf.payload w → ((j : ℕ) → If ℕ (λ i. IsPortAt datas leaves i j) (go j)) → If ℕ (λ i. IsPortAt datas (leaf ∷ leaves) i k) (here_or (after_leaf w k) go)
here_found go zero k own h = if_changed suc (h k) (λ i x. port_past own x)
here_found go (suc w) zero own h = if_some (port_here own)
here_found go (suc w) (suc k) own h = if_changed suc (h k) (λ i x. port_later own x)

leaf_at_sound : (d : ℕ) (datas : List Data) (leaves : List Leaf) (k : ℕ) → If ℕ (λ i. IsPortAt datas leaves i k) (leaf_at_by d datas leaves k)
leaf_at_sound d datas [] k = if_none
leaf_at_sound d datas (leaf ∷ leaves) k = if_it (width_sound d datas leaf.payload) (λ w own. here_found (leaf_at_by d datas leaves) w k own (leaf_at_sound d datas leaves))

-- each passes the test, so each has what the test is for
all_pass : {X : Type 0} {P : X → Type 0} (test : X → Bool) (xs : List X) → ((x : X) → test x ≡ true → P x) → list_all test xs ≡ true → AllByRecursion P xs
all_pass test [] g e = tt
all_pass test (x ∷ xs) g e = let q = both_true (test x) (list_all test xs) e in (g x q.0, all_pass test xs g q.1)

bits_fitting : (ports : List Port) (bs : List (List Bool)) → bits_fit ports bs ≡ true → HaveWidths ports bs
bits_fitting [] [] e = tt
bits_fitting [] (b ∷ bs) e = cc
bits_fitting (port ∷ ports) [] e = cc
bits_fitting (port ∷ ports) (b ∷ bs) e = let q = both_true (nat_eq (length b) port.width) (bits_fit ports bs) e in (eqb-true (length b) port.width q.0, bits_fitting ports bs q.1)

event_fitting : (ports : Ports) (event : Event) → event_fits ports event ≡ true → FitsEvent ports event
event_fitting ports event e =
    let q = both_true (some && known) (resets && inputs) e in
    let a = both_true some known q.0 in
    let b = both_true resets inputs q.1 in
    record {
      some_tick = ltb-true 0 (length event.ticks) a.0;
      known = all_pass (λ d. nat_lt d.number (length ports.domains)) event.ticks (λ d i. ltb-true d.number (length ports.domains) i) a.1;
      resets = all_pass (λ d. ticks event d && has_reset ports d) event.resets (λ d i. both_true (ticks event d) (has_reset ports d) i) b.0;
      inputs = bits_fitting ports.inputs event.inputs b.1;
    }
  where
    some : Bool
    some = nat_lt 0 (length event.ticks)

    known : Bool
    known = list_all (λ (d : DomId). nat_lt d.number (length ports.domains)) event.ticks

    resets : Bool
    resets = list_all (λ d. ticks event d && has_reset ports d) event.resets

    inputs : Bool
    inputs = bits_fit ports.inputs event.inputs

history_fitting : (ports : Ports) (h : History) → history_fits ports h ≡ true → FitsPorts ports h
history_fitting ports [] e = cc
history_fitting ports (event ∷ past) e = all_pass (event_fits ports) (event ∷ past) (event_fitting ports) e

module _ (represents : MeasuredIsRepresentable) (is_value : EncodedIsValue) where
  all_values_sound : (d : ℕ) (datas : List Data) (t : TypeTree) (vs : List Datum) → If (List (List Bool)) (λ bs. AllByRecursion (IsValueOf datas t) vs) (all_encoded_by d datas t vs)
  all_values_sound d datas t [] = if_some tt
  all_values_sound d datas t (v ∷ vs) = if_both ◌∷◌ (encoded_sound d datas t v) (all_values_sound d datas t vs) (λ b bs x xs. (is_value datas t v b x, xs))

  mutual
    unfolding port_given_by

    port_given_sound : (d : ℕ) (datas : List Data) (t : TypeTree) (ins : List Input) → If Supplied (λ r. PortGiven datas t ins r.thunk r.left) (port_given_by d datas t ins)
    port_given_sound zero datas t ins = if_none
    port_given_sound (suc d) datas (signal a t) (stream_in vs ∷ more) =
        if_it (domain_sound a) (λ i e. if_both (λ m bs. supplied (stream vs) more) (measured_sound d datas t) (all_values_sound d datas t vs) (λ m bs x xs. subst (λ a. PortGiven datas (signal a t) (stream_in vs ∷ more) (stream vs) more) (sym e) (given_stream (represents datas t m x) xs)))
    port_given_sound (suc d) datas (signal a t) [] = if_none
    port_given_sound (suc d) datas (signal a t) (value_in v ∷ more) = if_none
    port_given_sound (suc d) datas (data_of i ts) ins = if_at (slice_get datas i) (λ it e. product_given_sound d datas i ts it e (fields_of_one it.cons) refl ins)
    port_given_sound (suc d) datas (ty_var x) ins = if_none
    port_given_sound (suc d) datas (nat_lit x) ins = if_none
    port_given_sound (suc d) datas (nat_sum a b) ins = if_none
    port_given_sound (suc d) datas (nat_product a b) ins = if_none
    port_given_sound (suc d) datas (domain x) ins = if_none
    port_given_sound (suc d) datas (scalar s n) ins = if_none
    port_given_sound (suc d) datas (vector n t) ins = if_none
    port_given_sound (suc d) datas (fun a b) ins = if_none
    port_given_sound (suc d) datas (for_all k t) ins = if_none

    product_given_sound : (d : ℕ) (datas : List Data) (i : ℕ) (ts : TypeTrees) (it : Data) → slice_get datas i ≡ Some it → (fs : List TypeTree) → fields_of_one it.cons ≡ fs → (ins : List Input) → If Supplied (λ r. PortGiven datas (data_of i ts) ins r.thunk r.left) (product_given_by d datas i ts fs ins)
    product_given_sound zero datas i ts it e fs k ins = if_none
    product_given_sound (suc d) datas i ts it e [] k ins = if_none
    product_given_sound (suc d) datas i ts it e (f ∷ fs) k ins =
        let c = one_con it.cons f fs k in
        if_so (fields_given_sound d datas (f ∷ fs) (arguments ts) (closed (at_types (con (first_constructor datas i)) ts) none no_types) ins) (λ r x. given_product e c.1 c.2 x)

    fields_given_sound : (d : ℕ) (datas : List Data) (fs : List TypeTree) (σ : Substitution) (on : Thunk) (ins : List Input) → If Supplied (λ r. FieldsGiven datas fs σ on ins r.thunk r.left) (fields_given_by d datas fs σ on ins)
    fields_given_sound zero datas fs σ on ins = if_none
    fields_given_sound (suc d) datas [] σ on ins = if_some given_no_field
    fields_given_sound (suc d) datas (f ∷ fs) σ on ins =
        if_it (port_given_sound d datas (sub f σ) ins) (λ r x. if_so (fields_given_sound d datas fs σ (applied on r.thunk) r.left) (λ s y. given_field x y))

  given_sound : (d : ℕ) (datas : List Data) (t : TypeTree) (ins : List Input) → If Supplied (λ r. Given datas t ins r.thunk r.left) (given_by d datas t ins)
  given_sound d datas t (value_in v ∷ more) = if_both (λ m b. supplied (known v) more) (measured_sound d datas t) (encoded_sound d datas t v) (λ m b x y. given_value (represents datas t m x) (is_value datas t v b y))
  given_sound d datas t (stream_in vs ∷ more) = if_so (port_given_sound d datas t (stream_in vs ∷ more)) (λ r x. given_port x)
  given_sound d datas t [] = if_so (port_given_sound d datas t []) (λ r x. given_port x)

  on_inputs_sound : (d : ℕ) (datas : List Data) (t : TypeTree) (th : Thunk) (ins : List Input) → If LeafOf (λ r. OnInputs datas t th ins r.payload r.thunk) (on_inputs_by d datas t th ins)
  unfolding on_inputs_by
  on_inputs_sound zero datas t th ins = if_none
  on_inputs_sound (suc d) datas t th [] = if_some on_all
  on_inputs_sound (suc d) datas t th (i ∷ ins) =
      if_it (arrow_sound t) (λ a e. if_it (given_sound d datas a.from (i ∷ ins)) (λ r x. if_so (on_inputs_sound d datas a.to (applied th r.thunk) r.left) (λ s y. subst (λ t. OnInputs datas t th (i ∷ ins) s.payload s.thunk) (sym e) (on_next x y))))

  mutual
    unfolding port_leaves_by

    port_leaves_sound : (d : ℕ) (datas : List Data) (t : TypeTree) (th : Thunk) → If (List LeafOf) (λ ls. PortLeaves datas t th ls) (port_leaves_by d datas t th)
    port_leaves_sound zero datas t th = if_none
    port_leaves_sound (suc d) datas (signal a t) th =
        if_both (λ i m. leaf_of t th ∷ []) (domain_sound a) (measured_sound d datas t) (λ i m e x. subst (λ a. PortLeaves datas (signal a t) th (leaf_of t th ∷ [])) (sym e) (leaf_signal (represents datas t m x)))
    port_leaves_sound (suc d) datas (data_of i ts) th = if_at (slice_get datas i) (λ it e. product_leaves_sound d datas i ts it e (fields_of_one it.cons) refl th)
    port_leaves_sound (suc d) datas (ty_var x) th = if_none
    port_leaves_sound (suc d) datas (nat_lit x) th = if_none
    port_leaves_sound (suc d) datas (nat_sum a b) th = if_none
    port_leaves_sound (suc d) datas (nat_product a b) th = if_none
    port_leaves_sound (suc d) datas (domain x) th = if_none
    port_leaves_sound (suc d) datas (scalar s n) th = if_none
    port_leaves_sound (suc d) datas (vector n t) th = if_none
    port_leaves_sound (suc d) datas (fun a b) th = if_none
    port_leaves_sound (suc d) datas (for_all k t) th = if_none

    product_leaves_sound : (d : ℕ) (datas : List Data) (i : ℕ) (ts : TypeTrees) (it : Data) → slice_get datas i ≡ Some it → (fs : List TypeTree) → fields_of_one it.cons ≡ fs → (th : Thunk) → If (List LeafOf) (λ ls. PortLeaves datas (data_of i ts) th ls) (product_leaves_by d datas fs (arguments ts) th)
    product_leaves_sound zero datas i ts it e fs k th = if_none
    product_leaves_sound (suc d) datas i ts it e [] k th = if_none
    product_leaves_sound (suc d) datas i ts it e (f ∷ fs) k th =
        let c = one_con it.cons f fs k in
        if_so (field_leaves_sound d datas (f ∷ fs) (arguments ts) th) (λ ls x. leaves_product e c.1 c.2 x)

    field_leaves_sound : (d : ℕ) (datas : List Data) (fs : List TypeTree) (σ : Substitution) (th : Thunk) → If (List LeafOf) (λ ls. FieldLeaves datas fs σ th ls) (field_leaves_by d datas fs σ th)
    field_leaves_sound zero datas fs σ th = if_none
    field_leaves_sound (suc d) datas [] σ th = if_some no_field_leaves
    field_leaves_sound (suc d) datas (f ∷ fs) σ th = if_both ◌++◌ (port_leaves_sound d datas (sub f σ) _) (field_leaves_sound d datas fs σ th) (λ ls ms x y. field_leaves x y)

  leaves_sound : (d : ℕ) (datas : List Data) (t : TypeTree) (th : Thunk) → If (List LeafOf) (λ ls. HasLeaves datas t th ls) (leaves_by d datas t th)
  leaves_sound d datas t th =
      if_first (if_changed (λ m. leaf_of t th ∷ []) (measured_sound d datas t) (λ m x. leaf_value (represents datas t m x))) (if_so (port_leaves_sound d datas t th) (λ ls x. leaves_port x))

  pub gives_sound : (d : ℕ) (p : Program) (e : TermTree) (t : TypeTree) (ins : List Input) (h : History) (k : ℕ) → If Datum (λ v. Gives p e t ins h k v) (gives_by d p e t ins h k)
  gives_sound d p e t ins h k =
      if_it (on_inputs_sound d p.datas t (closed e none no_types) ins) (λ r x. if_it (leaves_sound d p.datas r.payload r.thunk) (λ ls y. if_at (slice_get ls k) (λ l at. if_so (in_turns (yields_sound d p l.payload l.thunk h)) (λ v z. record { result = r.payload; thunk = r.thunk; on_inputs = x; leaves = ls; are_leaves = y; leaf = l; is_leaf = at; turns = z.0; yields = z.1 }))))

  mutual
    unfolding type_leaves_by

    type_leaves_sound : (d : ℕ) (datas : List Data) (t : TypeTree) → If (List Leaf) (λ ls. Leaves datas t ls) (type_leaves_by d datas t)
    type_leaves_sound zero datas t = if_none
    type_leaves_sound (suc d) datas (signal a t) =
        if_both (λ i m. port_leaf (dom i) t ∷ []) (domain_sound a) (measured_sound d datas t) (λ i m e x. subst (λ a. Leaves datas (signal a t) (port_leaf (dom i) t ∷ [])) (sym e) (one_leaf {dom = dom i} (represents datas t m x)))
    type_leaves_sound (suc d) datas (data_of i ts) =
        if_at (slice_get datas i) (λ it e. if_only (nat_eq (length (list_of ts)) (length it.params)) (λ many. fields_types_sound d datas i ts it e (eqb-true (length (list_of ts)) (length it.params) many) (fields_of_one it.cons) refl))
    type_leaves_sound (suc d) datas (ty_var x) = if_none
    type_leaves_sound (suc d) datas (nat_lit x) = if_none
    type_leaves_sound (suc d) datas (nat_sum a b) = if_none
    type_leaves_sound (suc d) datas (nat_product a b) = if_none
    type_leaves_sound (suc d) datas (domain x) = if_none
    type_leaves_sound (suc d) datas (scalar s n) = if_none
    type_leaves_sound (suc d) datas (vector n t) = if_none
    type_leaves_sound (suc d) datas (fun a b) = if_none
    type_leaves_sound (suc d) datas (for_all k t) = if_none

    fields_types_sound : (d : ℕ) (datas : List Data) (i : ℕ) (ts : TypeTrees) (it : Data) → slice_get datas i ≡ Some it → length (list_of ts) ≡ length it.params → (fs : List TypeTree) → fields_of_one it.cons ≡ fs → If (List Leaf) (λ ls. Leaves datas (data_of i ts) ls) (fields_types_by d datas fs (arguments ts))
    fields_types_sound zero datas i ts it e many fs k = if_none
    fields_types_sound (suc d) datas i ts it e many [] k = if_none
    fields_types_sound (suc d) datas i ts it e many (f ∷ fs) k =
        let c = one_con it.cons f fs k in
        if_so (all_leaves_sound d datas (f ∷ fs) (arguments ts)) (λ ls x. leaves_of_fields e many c.1 c.2 x)

    all_leaves_sound : (d : ℕ) (datas : List Data) (fs : List TypeTree) (σ : Substitution) → If (List Leaf) (λ ls. LeavesOfAll datas fs σ ls) (all_leaves_by d datas fs σ)
    all_leaves_sound zero datas fs σ = if_none
    all_leaves_sound (suc d) datas [] σ = if_some no_leaves
    all_leaves_sound (suc d) datas (f ∷ fs) σ = if_both ◌++◌ (type_leaves_sound d datas (sub f σ)) (all_leaves_sound d datas fs σ) (λ ls ms x y. leaves_and x y)

  leads_sound : (d : ℕ) (datas : List Data) (t : TypeTree) → If Sides (λ s. LeadsFrom datas t s.ins s.outs) (leads_by d datas t)
  leads_sound d datas (fun a b) = if_both (λ ls r. sides (ls ++ r.ins) r.outs) (type_leaves_sound d datas a) (leads_sound d datas b) (λ ls r x y. leads_from x y)
  leads_sound d datas (signal a t) = if_changed (sides []) (type_leaves_sound d datas (signal a t)) (λ ls x. leads_to x)
  leads_sound d datas (data_of i ts) = if_changed (sides []) (type_leaves_sound d datas (data_of i ts)) (λ ls x. leads_to x)
  leads_sound d datas (ty_var x) = if_none
  leads_sound d datas (nat_lit x) = if_none
  leads_sound d datas (nat_sum a b) = if_none
  leads_sound d datas (nat_product a b) = if_none
  leads_sound d datas (domain x) = if_none
  leads_sound d datas (scalar s n) = if_none
  leads_sound d datas (vector n t) = if_none
  leads_sound d datas (for_all k t) = if_none

  top_sound : (d : ℕ) (p : Program) → If TopFound (λ top. IsTop p top.it top.leaves.ins top.leaves.outs) (top_by d p)
  top_sound d p =
      if_at (slice_get p.defs p.top.«def».number) (λ it e. if_changed (λ leaves. record { it = it; leaves = leaves }) (leads_sound d p.datas it.ty) (λ s x. record { held = e; leads = x }))

  -- the ports are the program's, and have the leaves that were found
  ports_from : (d : ℕ) (p : Program) (top : TopFound) → IsTop p top.it top.leaves.ins top.leaves.outs → If Ports (λ ports. (x : HasPorts p ports) × (x.ins ≡ top.leaves.ins)) (top_ports_by d p top)
  ports_from d p top x =
      if_both (λ ins outs. record { domains = p.domains; resets = p.resets; inputs = ins; outputs = outs }) (ports_of_sound d p.datas top.leaves.ins p.top.inputs) (ports_of_sound d p.datas top.leaves.outs p.top.outputs) (λ ins outs y z. (record { it = top.it; ins = top.leaves.ins; outs = top.leaves.outs; top = x; domains = refl; resets = refl; inputs = y; outputs = z }, refl))

  pub ports_sound : (d : ℕ) (p : Program) → If Ports (λ ports. HasPorts p ports) (ports_by d p)
  ports_sound d p = if_it (top_sound d p) (λ top x. if_so (ports_from d p top x) (λ ports y. y.0))

  pub fits_sound : (d : ℕ) (p : Program) (h : History) → If (List Input) (λ ins. Fit p h) (fits_by d p h)
  fits_sound d p h =
      if_it (top_sound d p) (λ top x. if_it (ports_from d p top x) (λ ports y. if_only (history_fits ports h) (λ e. if_so (streams_sound d p.datas top.leaves.ins zero h) (λ ins z. record { ports = ports; are_ports = y.0; fits = history_fitting ports h e; streams = ins; decode = subst (λ ls. Streams p.datas ls zero h ins) (sym y.1) z }))))

  pub means_sound : (d : ℕ) (p : Program) (h : History) (k : ℕ) → If Datum (λ v. Means p h k v) (means_by d p h k)
  means_sound d p h k =
      if_it (top_sound d p) (λ top x. if_it (streams_sound d p.datas top.leaves.ins zero h) (λ ins y. if_it (leaf_at_sound d p.datas top.leaves.outs k) (λ leaf z. if_so (gives_sound d p (global p.top.«def».number) top.it.ty ins h leaf) (λ v g. record { it = top.it; ins = top.leaves.ins; outs = top.leaves.outs; top = x; streams = ins; decode = y; leaf = leaf; is_port = z; gives = g }))))
