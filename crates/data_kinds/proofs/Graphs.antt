-- Graphs that have the steps of a relation.
use Rattle.std.proofs.Common.{◌≡◌, ℕ, ◌<◌, true, List, length, map, Option, option_map, None, Some, Result, Ok, Err, IfOk, slice_get, Contains, refl, sym, ap, ◌∙◌, subst}
use Rattle.std.proofs.lemmas.List.{length-map}
use Rattle.std.proofs.lemmas.Option.{slice_get-map, slice_get_within}
use Rattle.chw_base.specs.declared.outcome.NoMemory.{NoMemory}
use Rattle.chw_types.specs.declared.declarations.Data.{Data}
use Rattle.chw_types.specs.TypeTree.{TypeTree}
use Rattle.chw_terms.specs.declared.program.Def.{Def}
use Rattle.chw_terms.specs.References.{DataRefers, DefRefers, IsField, names_data}
use Rattle.graph_order.specs.References.{Refers, Leads, HasNoCycle, step, step_and}
use Rattle.graph_order.specs.Orders.{IsCycle, IsOrder, OfOrder, OfCycle}
use Rattle.graph_order.specs.declared.ordering.Ordering.{Ordering}
use Rattle.graph_order.specs.declared.ordering.Ordering.TheVariants.{Order, Cycle}
use Rattle.data_kinds.specs.Cycles.{IsCycleOf}
use Rattle.data_kinds.specs.Named.{datas_in, con_datas, field_datas, body_defs}
use Rattle.data_kinds.proofs.Listing.{is_listed, datas_listed, defs_listed, is_contained, contained_is, listed_at, listed_where}

-- the references among the nodes are the steps, all of which begin at a node
pub record HasSteps (graph : List (List ℕ)) (Step : ℕ → ℕ → Type 0) : Type 0 where
  pub to_step : (a b : ℕ) → Refers graph a b → Step a b
  pub from_step : (a b : ℕ) → b < length graph → Step a b → Refers graph a b
  pub begins : (a b : ℕ) → Step a b → a < length graph

module _ {graph : List (List ℕ)} {Step : ℕ → ℕ → Type 0} (g : HasSteps graph Step) where
  start : {a b : ℕ} → Leads Step a b → a < length graph
  start (step {a} {b} s) = g.begins a b s
  start (step_and {a} {b} {c} s more) = g.begins a b s

  in_graph : {a b : ℕ} → b < length graph → Leads Step a b → Leads (Refers graph) a b
  in_graph l (step {a} {b} s) = step (g.from_step a b l s)
  in_graph l (step_and {a} {b} {c} s more) = step_and (g.from_step a b (start more) s) (in_graph l more)

  out_of_graph : {a b : ℕ} → Leads (Refers graph) a b → Leads Step a b
  out_of_graph (step {a} {b} r) = step (g.to_step a b r)
  out_of_graph (step_and {a} {b} {c} r more) = step_and (g.to_step a b r) (out_of_graph more)

  pub no_cycle : HasNoCycle (Refers graph) → HasNoCycle Step
  no_cycle none a l = none a (in_graph (start l) l)

  pub some_cycle : (HasNoCycle (Refers graph) → ⊥) → HasNoCycle Step → ⊥
  some_cycle some none = some (λ a l. none a (out_of_graph l))

  pub cycle : (nodes : List ℕ) → IsCycle graph nodes → IsCycleOf Step nodes
  cycle nodes c = record {
    some = c.some;
    once = c.once;
    next = λ i l. g.to_step _ _ (c.next i l);
    closes = λ i e. g.to_step _ _ (c.closes i e);
  }

-- what an order or a cycle of a graph tells of the steps
module _ {graph graph' : List (List ℕ)} {Step : ℕ → ℕ → Type 0} (g : HasSteps graph Step) (same : graph' ≡ graph) where
  pub order_told : (a : Result Ordering NoMemory) → IfOk a (λ r. OfOrder r (IsOrder graph')) → IfOk a (λ r. OfOrder r (IsOrder graph))
  order_told (Ok (Order v)) h = subst (λ (gr : List (List ℕ)). IsOrder gr v.items) same h
  order_told (Ok (Cycle v)) h = tt
  order_told (Err e) h = tt

  pub no_cycle_told : (a : Result Ordering NoMemory) → IfOk a (λ r. OfOrder r (λ _. HasNoCycle (Refers graph'))) → IfOk a (λ r. OfOrder r (λ _. HasNoCycle Step))
  no_cycle_told (Ok (Order v)) h = no_cycle g (subst (λ (gr : List (List ℕ)). HasNoCycle (Refers gr)) same h)
  no_cycle_told (Ok (Cycle v)) h = tt
  no_cycle_told (Err e) h = tt

  pub cycle_told : (a : Result Ordering NoMemory) → IfOk a (λ r. OfCycle r (IsCycle graph')) → IfOk a (λ r. OfCycle r (IsCycleOf Step))
  cycle_told (Ok (Order v)) h = tt
  cycle_told (Ok (Cycle v)) h = cycle g v.items (subst (λ (gr : List (List ℕ)). IsCycle gr v.items) same h)
  cycle_told (Err e) h = tt

  pub some_cycle_told : (a : Result Ordering NoMemory) → IfOk a (λ r. OfCycle r (λ _. HasNoCycle (Refers graph') → ⊥)) → IfOk a (λ r. OfCycle r (λ _. HasNoCycle Step → ⊥))
  some_cycle_told (Ok (Order v)) h = tt
  some_cycle_told (Ok (Cycle v)) h = some_cycle g (subst (λ (gr : List (List ℕ)). HasNoCycle (Refers gr) → ⊥) same h)
  some_cycle_told (Err e) h = tt

-- by what is listed of each item
module _ {X : Type 0} (listed : X → List ℕ) (items : List X) where
  lists : (a : ℕ) (it : X) → slice_get items a ≡ Some it → slice_get (map listed items) a ≡ Some (listed it)
  lists a it h = slice_get-map listed items a ∙ ap (option_map listed) h

  item : (a : ℕ) (names : List ℕ) → slice_get (map listed items) a ≡ Some names → (it : X) × (slice_get items a ≡ Some it) × (listed it ≡ names)
  item a names h = found (slice_get items a) refl
    where
      found : (o : Option X) → slice_get items a ≡ o → (it : X) × (slice_get items a ≡ Some it) × (listed it ≡ names)
      found None e = let no : slice_get (map listed items) a ≡ None = slice_get-map listed items a ∙ ap (option_map listed) e in absurd (cc)
      found (Some it) e = let there = lists a it e in (it, e, cc)

  -- an item refers to the nodes that are listed of it
  pub refers_by : (a b : ℕ) (it : X) → slice_get items a ≡ Some it → is_listed (listed it) b ≡ true → b < length (map listed items) → Refers (map listed items) a b
  refers_by a b it h l within = record {
    names = listed it;
    are_names = lists a it h;
    is_named = is_contained (listed it) b l;
    is_node = within;
  }

  pub listed_by : (a b : ℕ) → Refers (map listed items) a b → (it : X) × (slice_get items a ≡ Some it) × (is_listed (listed it) b ≡ true)
  listed_by a b r =
      let found = item a r.names r.are_names in
      (found.0, found.1, contained_is (listed found.0) b (subst (λ ns. Contains ns b) (sym found.2) r.is_named))

  pub item_within : (a : ℕ) (it : X) → slice_get items a ≡ Some it → a < length (map listed items)
  item_within a it h = let l = slice_get_within items a it h in subst (λ n. a < n) (sym (length-map items listed)) l

-- a data type that stands in a field is listed
field_listed : (it : Data) (t : TypeTree) (d : ℕ) → IsField it t → names_data t d ≡ true → is_listed (field_datas it) d ≡ true
field_listed it t d f n =
    listed_at con_datas it.cons f.con f.of d f.is_con
    (listed_at datas_in f.of.fields f.at t d f.is_field (sym (datas_listed t d) ∙ n))

listed_field : (it : Data) (d : ℕ) → is_listed (field_datas it) d ≡ true → (t : TypeTree) × IsField it t × (names_data t d ≡ true)
listed_field it d h =
    let c = listed_where con_datas it.cons d h in
    let t = listed_where datas_in c.1.fields d c.3 in
    (t.1, record { con = c.0; of = c.1; is_con = c.2; at = t.0; is_field = t.2 }, datas_listed t.1 d ∙ t.3)

-- the graph of the data types in fields
pub data_steps : (datas : List Data) → HasSteps (map field_datas datas) (DataRefers datas)
data_steps datas = record {
  to_step = λ a b r.
      let by = listed_by field_datas datas a b r in
      let f = listed_field by.0 b by.2 in
      (by.0, f.0, by.1, f.1, f.2);
  from_step = λ a b l s. refers_by field_datas datas a b s.0 s.2 (field_listed s.0 s.1 b s.3 s.4) l;
  begins = λ a b s. item_within field_datas datas a s.0 s.2;
}

-- the graph of the definitions in bodies
pub def_steps : (defs : List Def) → HasSteps (map body_defs defs) (DefRefers defs)
def_steps defs = record {
  to_step = λ a b r. let by = listed_by body_defs defs a b r in (by.0, by.1, defs_listed by.0.body b ∙ by.2);
  from_step = λ a b l s. refers_by body_defs defs a b s.0 s.1 (sym (defs_listed s.0.body b) ∙ s.2) l;
  begins = λ a b s. item_within body_defs defs a s.0 s.1;
}
