-- Kinds set in an order in which each data type stands after those in its fields.
use Rattle.std.proofs.Common.{◌≡◌, ◌≢◌, ℕ, zero, suc, ◌+◌, ◌<◌, ◌≤◌, inl, inr, true, List, [], ◌∷◌, length, map, get_or, set, Some, Vec, slice_get, refl, sym, ap, ◌∙◌, subst, arith}
use Rattle.std.specs.declared.alloc.Global.{Global}
use Rattle.std.proofs.lemmas.Bool.{cases_eq}
use Rattle.std.proofs.lemmas.List.{length-map}
use Rattle.std.proofs.lemmas.Option.{slice_get_within}
use Rattle.chw_types.specs.declared.kind.Kind.{Kind}
use Rattle.chw_types.specs.declared.kind.Kind.TheVariants.{Val, Cir}
use Rattle.chw_types.specs.declared.declarations.Data.{Data}
use Rattle.chw_types.specs.TypeTree.{TypeTree}
use Rattle.chw_terms.specs.References.{DataRefers, IsField, names_data}
use Rattle.chw_terms.specs.Tidy.{HasCircuit, HasItsKind}
use Rattle.graph_order.specs.Orders.{IsOrder, OfOrder}
use Rattle.graph_order.specs.declared.ordering.Ordering.{Ordering}
use Rattle.graph_order.specs.declared.ordering.Ordering.TheVariants.{Order}
use Rattle.graph_order.specs.References.{Refers, Leads, HasNoCycle, step, step_and}
use Rattle.data_kinds.specs.Kinds.{HaveTheirKinds, of_kind, SameButKinds, SetsKind}
use Rattle.data_kinds.specs.Named.{field_datas}
use Rattle.data_kinds.proofs.Agreeing.{Agree, field_stays, kind_moves}
use Rattle.data_kinds.proofs.Graphs.{data_steps}

-- an item where another was written, and elsewhere
get_written : {X : Type 0} (xs : List X) (n : ℕ) (x y : X) → slice_get xs n ≡ Some x → slice_get (set xs n y) n ≡ Some y
get_written [] n x y h = absurd (cc)
get_written (z ∷ zs) zero x y h = refl
get_written (z ∷ zs) (suc n) x y h = get_written zs n x y h

get_other : {X : Type 0} (xs : List X) (n d : ℕ) (y : X) → d ≢ n → slice_get (set xs n y) d ≡ slice_get xs d
get_other [] n d y h = refl
get_other (z ∷ zs) zero zero y h = absurd (h refl)
get_other (z ∷ zs) zero (suc d) y h = refl
get_other (z ∷ zs) (suc n) zero y h = refl
get_other (z ∷ zs) (suc n) (suc d) y h = get_other zs n d y (λ e. h (ap suc e))

-- a kind that is written changes kinds alone
written_same : (datas : List Data) (n : ℕ) (it : Data) (k : Kind) → slice_get datas n ≡ Some it → SameButKinds datas (set datas n (of_kind k it))
written_same [] n it k h = refl
written_same (x ∷ xs) zero it k h =
    let same : x ≡ it = cc in
    λ i. of_kind Val (sym same i) ∷ map (of_kind Val) xs
written_same (x ∷ xs) (suc n) it k h = ap (λ l. of_kind Val x ∷ l) (written_same xs n it k h)

-- what is listed of data types that are the same but for their kinds
without_kinds : (datas : List Data) → map field_datas (map (of_kind Val) datas) ≡ map field_datas datas
without_kinds [] = refl
without_kinds (x ∷ xs) = ap (λ l. field_datas x ∷ l) (without_kinds xs)

pub same_graph : (datas datas' : List Data) → SameButKinds datas datas' → map field_datas datas' ≡ map field_datas datas
same_graph datas datas' same = sym (without_kinds datas') ∙ ap (map field_datas) same ∙ without_kinds datas

-- each of them is in the other list too
pub same_item : (datas datas' : List Data) (d : ℕ) (it : Data) → SameButKinds datas datas' → slice_get datas d ≡ Some it
    → (it' : Data) × (slice_get datas' d ≡ Some it') × (of_kind Val it' ≡ of_kind Val it)
same_item [] datas' d it same h = absurd (cc)
same_item (x ∷ xs) [] d it same h = absurd (cc)
same_item (x ∷ xs) (y ∷ ys) zero it same h =
    let at : x ≡ it = cc in
    let head : of_kind Val y ≡ of_kind Val x = cc in
    (y, refl, head ∙ ap (of_kind Val) at)
same_item (x ∷ xs) (y ∷ ys) (suc d) it same h = let tail : map (of_kind Val) ys ≡ map (of_kind Val) xs = cc in same_item xs ys d it tail h

pub references_stay : (datas datas' : List Data) (from to : ℕ) → SameButKinds datas datas' → DataRefers datas from to → DataRefers datas' from to
references_stay datas datas' from to same r =
    let there = same_item datas datas' from r.0 same r.2 in
    (there.0, r.1, there.1, field_stays r.0 there.0 r.1 (ap (λ (it : Data). it.cons) there.2) r.3, r.4)

leads_stay : (datas datas' : List Data) {a b : ℕ} → SameButKinds datas datas' → Leads (DataRefers datas) a b → Leads (DataRefers datas') a b
leads_stay datas datas' same (step {a} {b} r) = step (references_stay datas datas' a b same r)
leads_stay datas datas' same (step_and {a} {b} {c} r more) = step_and (references_stay datas datas' a b same r) (leads_stay datas datas' same more)

-- where an order was found there is no cycle, whatever the kinds are
pub no_cycle_stays : (datas datas' : List Data) (r : Ordering) (v : Vec ℕ Global) → r ≡ Order v → OfOrder r (λ _. HasNoCycle (DataRefers datas)) → SameButKinds datas datas'
    → HasNoCycle (DataRefers datas')
no_cycle_stays datas datas' r v e h same a l =
    let none : HasNoCycle (DataRefers datas) = subst (λ (r : Ordering). OfOrder r (λ _. HasNoCycle (DataRefers datas))) e h in
    none a (leads_stay datas' datas (sym same) l)

-- the data types so far have their kinds
abbrev pub AreSettled : List Data → ℕ → List ℕ → ℕ → Type 0
AreSettled datas domains nodes i = (j : ℕ) (it : Data) → j < i → slice_get datas (get_or nodes j 0) ≡ Some it → HasItsKind datas domains it

pub record Sets (datas : List Data) (domains : ℕ) (nodes : List ℕ) (i : ℕ) (datas' : List Data) : Type 0 where
  pub same : SameButKinds datas datas'
  pub settled : AreSettled datas' domains nodes i

module _ (datas : List Data) (domains : ℕ) (nodes : List ℕ) (o : IsOrder (map field_datas datas) nodes) (i : ℕ) (l : i < length nodes) where
  -- no field of a data type up to this one names it
  not_named : (j : ℕ) (it : Data) (t : TypeTree) → j ≤ i → slice_get datas (get_or nodes j 0) ≡ Some it → IsField it t → names_data t (get_or nodes i 0) ≡ true → ⊥
  not_named j it t le h f n =
      let steps = data_steps datas in
      let r : Refers (map field_datas datas) (get_or nodes j 0) (get_or nodes i 0) =
      steps.from_step (get_or nodes j 0) (get_or nodes i 0) (o.within i l) (it, t, h, f, n) in
      let before = o.after j (get_or nodes i 0) (omega arith) r in
      let lt : before.0 < j = before.1 in
      let same : before.0 ≡ i = o.once before.0 i (omega arith) l before.2 in
      omega arith

  -- so that those in its fields stay as they are when its kind is written
  others_agree : (j : ℕ) (it : Data) (y : Data) → j ≤ i → slice_get datas (get_or nodes j 0) ≡ Some it → (t : TypeTree) → IsField it t → Agree datas (set datas (get_or nodes i 0) y) (names_data t)
  others_agree j it y le h t f d n =
      get_other datas (get_or nodes i 0) d y (λ e. not_named j it t le h f (subst (λ (m : ℕ). names_data t m ≡ true) e n))

  -- the data types so far keep their kinds
  kept : (y : Data) → AreSettled datas domains nodes i → (j : ℕ) (it : Data) → j < i → slice_get (set datas (get_or nodes i 0) y) (get_or nodes j 0) ≡ Some it
      → HasItsKind (set datas (get_or nodes i 0) y) domains it
  kept y settled j it lt h =
      let apart : get_or nodes j 0 ≢ get_or nodes i 0 = λ e. let same : j ≡ i = o.once j i (omega arith) l e in omega arith in
      let was : slice_get datas (get_or nodes j 0) ≡ Some it = sym (get_other datas (get_or nodes i 0) (get_or nodes j 0) y apart) ∙ h in
      let its = settled j it lt was in
      kind_moves domains datas (set datas (get_or nodes i 0) y) it it it.kind refl refl refl (others_agree j it y (omega arith) was) its.circuit its.values

  -- and this one has the kind that was written
  gained : (own : Data) (k : Kind) → slice_get datas (get_or nodes i 0) ≡ Some own → (HasCircuit datas domains own → k ≡ Cir) → ((HasCircuit datas domains own → ⊥) → k ≡ Val)
      → (it : Data) → slice_get (set datas (get_or nodes i 0) (of_kind k own)) (get_or nodes i 0) ≡ Some it → HasItsKind (set datas (get_or nodes i 0) (of_kind k own)) domains it
  gained own k is circuit values it h =
      let at : slice_get (set datas (get_or nodes i 0) (of_kind k own)) (get_or nodes i 0) ≡ Some (of_kind k own) = get_written datas (get_or nodes i 0) own (of_kind k own) is in
      let same : of_kind k own ≡ it = cc in
      subst (HasItsKind (set datas (get_or nodes i 0) (of_kind k own)) domains) same
      (kind_moves domains datas (set datas (get_or nodes i 0) (of_kind k own)) own (of_kind k own) k refl refl refl (others_agree i own (of_kind k own) (omega arith) is) circuit values)

  -- one more data type has its kind
  pub settled_next : (datas' : List Data) → AreSettled datas domains nodes i → SetsKind datas domains (get_or nodes i 0) datas' → Sets datas domains nodes (i + 1) datas'
  settled_next datas' settled s = record {
    same = subst (SameButKinds datas) (sym s.written) (written_same datas (get_or nodes i 0) s.it s.kind s.is_it);
    settled = subst (λ ds. AreSettled ds domains nodes (i + 1)) (sym s.written) (λ j it lt h. elim (cases_eq j i) [
      | inl e ↦ gained s.it s.kind s.is_it s.of_fields.0 s.of_fields.1 it (subst (λ (m : ℕ). slice_get (set datas (get_or nodes i 0) (of_kind s.kind s.it)) (get_or nodes m 0) ≡ Some it) e h)
      | inr n ↦ kept (of_kind s.kind s.it) settled j it (omega (arith, lt, n)) h
    ]);
  }

-- a step of the loop, from the data types as they were
pub sets_next : (first datas : List Data) (domains : ℕ) (nodes : List ℕ) (i : ℕ) (datas' : List Data) → IsOrder (map field_datas first) nodes → i < length nodes
    → Sets first domains nodes i datas → SetsKind datas domains (get_or nodes i 0) datas' → Sets first domains nodes (i + 1) datas'
sets_next first datas domains nodes i datas' o l before s =
    let order : IsOrder (map field_datas datas) nodes = subst (λ g. IsOrder g nodes) (sym (same_graph first datas before.same)) o in
    let next = settled_next datas domains nodes order i l datas' before.settled s in
    record { same = next.same ∙ before.same; settled = next.settled }

-- all data types have their kinds
pub all_set : (first datas : List Data) (domains : ℕ) (nodes : List ℕ) (i : ℕ) → IsOrder (map field_datas first) nodes → length nodes ≤ i → Sets first domains nodes i datas
    → HaveTheirKinds datas domains
all_set first datas domains nodes i o le sets d it h =
    let graph : length (map field_datas datas) ≡ length (map field_datas first) = ap length (same_graph first datas sets.same) in
    let size : length (map field_datas datas) ≡ length datas = length-map datas field_datas in
    let within : d < length datas = slice_get_within datas d it h in
    let at = o.all d (omega (arith, graph, size, within)) in
    sets.settled at.0 it (omega (arith, at.1)) (subst (λ (m : ℕ). slice_get datas m ≡ Some it) (sym at.2) h)
