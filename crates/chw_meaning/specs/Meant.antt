-- The meaning of a program as functions, which compute up to a depth: what a term gives, the ports
-- of a program, the histories that fit them, and what an output is.
use Rattle.std.specs.Prelude.{ℕ, suc, zero, nat_lt, nat_eq, Bool, true, false, ◌&&◌, List, [], ◌∷◌, ◌++◌, length, replicate, Option, Some, None, slice_get}
use Rattle.std.specs.List.{list_all}
use Rattle.chw_clock.specs.declared.event.Event.{Event}
use Rattle.chw_clock.specs.declared.event.Port.{Port}
use Rattle.chw_clock.specs.declared.event.Ports.{Ports}
use Rattle.chw_clock.specs.Histories.{ticks, has_reset}
use Rattle.chw_types.specs.declared.declarations.ConDecl.{ConDecl}
use Rattle.chw_types.specs.declared.declarations.Data.{Data}
use Rattle.type_ports.specs.declared.ports.Leaf.{Leaf}
use Rattle.chw_types.specs.TypeTree.{TypeTree, domain, scalar, vector, data_of, fun, signal, TypeTrees, no_types}
use Rattle.chw_types.specs.TypeMoves.{Substitution, sub}
use Rattle.chw_types.specs.Arguments.{list_of, arguments}
use Rattle.type_ports.specs.Ports.{leaf_of as port_leaf}
use Rattle.chw_terms.specs.declared.program.Def.{Def}
use Rattle.chw_terms.specs.declared.program.Program.{Program}
use Rattle.chw_terms.specs.TermTree.{TermTree, global, con}
use Rattle.chw_terms.specs.Constructors.{Constructor, con_at}
use Rattle.chw_layout.specs.Datum.{Datum, word, built, elements, Datums, no_data, datum_and}
use Rattle.chw_layout.specs.Encodes.{first_constructor}
use Rattle.chw_meaning.specs.Values.{History, Value, bits, con_of, Thunk, closed, applied, field, stream, known, Thunks, none, thunk_and, thunk_at}
use Rattle.chw_meaning.specs.Eval.{dom}
use Rattle.chw_meaning.specs.Gives.{Input, value_in, stream_in, at_types, LeafOf, leaf_of}
use Rattle.chw_meaning.specs.Means.{port_of}
use Rattle.chw_meaning.specs.Run.{Found, found, turn, and_then, with_it, found_as, only_if, changed, elements_in, with_both, zero_by, force}
use Rattle.chw_meaning.specs.Layouts.{measured_by, width_by, encoded_by, decoded_by}

-- what is there first
abbrev pub first_there : {A : Type 0} → Option A → Option A → Option A
first_there (Some x) o = Some x
first_there None o = o

abbrev pub word_in : Value → Option Datum
word_in (bits b) = Some (word b)
word_in _ = None

-- a constructor by its number, on its fields
pub record Made : Type 0 where
  pub tag : ℕ
  pub fields : Thunks

abbrev pub made_in : Value → Option Made
made_in (con_of c ths) = Some (record { tag = c; fields = ths })
made_in _ = None

-- a constructor, if it is one of the data type of this number
abbrev pub of_data : ℕ → Option Constructor → Option Constructor
of_data i None = None
of_data i (Some k) = only_if (nat_eq k.of i) (Some k)

unfoldable mutual
  -- the data value that a thunk of the closed type makes at a history
  pub yields_by : ℕ → Program → TypeTree → Thunk → History → Option (Found Datum)
  yields_by zero p t th h = None
  yields_by (suc d) p t th h = with_it (width_by d p.datas t) (λ w. yields_at d p w t th h)

  -- the same where the type has this width
  pub yields_at : ℕ → Program → ℕ → TypeTree → Thunk → History → Option (Found Datum)
  yields_at zero p w t th h = None
  yields_at (suc d) p zero t th h = with_it (zero_by d p.datas t) (λ z. found z 0)
  yields_at (suc d) p (suc w) t th h =
      turn (and_then (force d p th h) (λ v. value_yields_by d p t v h))

  -- the data value that a value of the closed type makes at a history
  pub value_yields_by : ℕ → Program → TypeTree → Value → History → Option (Found Datum)
  value_yields_by zero p t v h = None
  value_yields_by (suc d) p (scalar s n) v h = with_it (word_in v) (λ y. found y 0)
  value_yields_by (suc d) p (vector n t) v h =
      with_it (elements_in v) (λ ths. found_as elements (yields_each_by d p t ths h))
  value_yields_by (suc d) p (data_of i ts) v h =
      with_it (made_in v) (λ m. with_it (of_data i (con_at p.datas m.tag)) (λ k.
      found_as (built m.tag) (yields_fields_by d p k.decl.fields (arguments ts) m.fields h)))
  value_yields_by (suc d) p _ v h = None

  -- the same of the elements of a vector
  pub yields_each_by : ℕ → Program → TypeTree → Thunks → History → Option (Found Datums)
  yields_each_by zero p t ths h = None
  yields_each_by (suc d) p t none h = found no_data 0
  yields_each_by (suc d) p t (thunk_and th ths) h =
      and_then (yields_by d p t th h) (λ v. found_as (datum_and v) (yields_each_by d p t ths h))

  -- the same of the last fields of a constructor, which have these types
  pub yields_fields_by : ℕ → Program → List TypeTree → Substitution → Thunks → History
      → Option (Found Datums)
  yields_fields_by zero p fs σ ths h = None
  yields_fields_by (suc d) p [] σ ths h = found no_data 0
  yields_fields_by (suc d) p (f ∷ fs) σ ths h =
      with_it (thunk_at ths (length fs)) (λ th. and_then (yields_by d p (sub f σ) th h)
      (λ v. found_as (datum_and v) (yields_fields_by d p fs σ ths h)))

abbrev pub domain_in : TypeTree → Option ℕ
domain_in (domain i) = Some i
domain_in _ = None

-- the fields of the one constructor; none where there are more constructors, or there is none
abbrev pub fields_of_one : List ConDecl → List TypeTree
fields_of_one (k ∷ []) = k.fields
fields_of_one _ = []

-- the bits of each of these values of a closed type
abbrev pub all_encoded_by : ℕ → List Data → TypeTree → List Datum → Option (List (List Bool))
all_encoded_by d datas t [] = Some []
all_encoded_by d datas t (v ∷ vs) =
    with_both (encoded_by d datas t v) (all_encoded_by d datas t vs) ◌∷◌

-- a thunk that is made of the first of the inputs, and those that are left
pub record Supplied : Type 0 where
  pub thunk : Thunk
  pub left : List Input

abbrev pub supplied : Thunk → List Input → Supplied
supplied th more = record { thunk = th; left = more }

unfoldable mutual
  -- what a parameter that is a port is given
  pub port_given_by : ℕ → List Data → TypeTree → List Input → Option Supplied
  port_given_by zero datas t ins = None
  port_given_by (suc d) datas (signal a t) (stream_in vs ∷ more) =
      with_it (domain_in a) (λ i.
      with_both (measured_by d datas t) (all_encoded_by d datas t vs)
      (λ m bs. supplied (stream vs) more))
  port_given_by (suc d) datas (data_of i ts) ins =
      with_it (slice_get datas i)
      (λ it. product_given_by d datas i ts (fields_of_one it.cons) ins)
  port_given_by (suc d) datas _ ins = None

  -- what a product of these fields is given
  pub product_given_by : ℕ → List Data → ℕ → TypeTrees → List TypeTree → List Input
      → Option Supplied
  product_given_by zero datas i ts fs ins = None
  product_given_by (suc d) datas i ts [] ins = None
  product_given_by (suc d) datas i ts (f ∷ fs) ins =
      fields_given_by d datas (f ∷ fs) (arguments ts)
      (closed (at_types (con (first_constructor datas i)) ts) none no_types) ins

  -- a thunk on what these fields are given
  pub fields_given_by : ℕ → List Data → List TypeTree → Substitution → Thunk → List Input
      → Option Supplied
  fields_given_by zero datas fs σ on ins = None
  fields_given_by (suc d) datas [] σ on ins = Some (supplied on ins)
  fields_given_by (suc d) datas (f ∷ fs) σ on ins =
      with_it (port_given_by d datas (sub f σ) ins)
      (λ r. fields_given_by d datas fs σ (applied on r.thunk) r.left)

-- what a parameter is given
abbrev pub given_by : ℕ → List Data → TypeTree → List Input → Option Supplied
given_by d datas t (value_in v ∷ more) =
    with_both (measured_by d datas t) (encoded_by d datas t v) (λ m b. supplied (known v) more)
given_by d datas t ins = port_given_by d datas t ins

-- what a function's type leads from, and to
pub record Arrow : Type 0 where
  pub from : TypeTree
  pub to : TypeTree

abbrev pub arrow_in : TypeTree → Option Arrow
arrow_in (fun a b) = Some (record { from = a; to = b })
arrow_in _ = None

-- a thunk of the closed type on all the inputs, with its type
unfoldable pub on_inputs_by : ℕ → List Data → TypeTree → Thunk → List Input → Option LeafOf
on_inputs_by zero datas t th ins = None
on_inputs_by (suc d) datas t th [] = Some (leaf_of t th)
on_inputs_by (suc d) datas t th (i ∷ ins) =
    with_it (arrow_in t) (λ a. with_it (given_by d datas a.from (i ∷ ins))
    (λ r. on_inputs_by d datas a.to (applied th r.thunk) r.left))

unfoldable mutual
  -- the leaves of a thunk whose closed type is a port
  pub port_leaves_by : ℕ → List Data → TypeTree → Thunk → Option (List LeafOf)
  port_leaves_by zero datas t th = None
  port_leaves_by (suc d) datas (signal a t) th =
      with_both (domain_in a) (measured_by d datas t) (λ i m. leaf_of t th ∷ [])
  port_leaves_by (suc d) datas (data_of i ts) th =
      with_it (slice_get datas i)
      (λ it. product_leaves_by d datas (fields_of_one it.cons) (arguments ts) th)
  port_leaves_by (suc d) datas _ th = None

  pub product_leaves_by : ℕ → List Data → List TypeTree → Substitution → Thunk
      → Option (List LeafOf)
  product_leaves_by zero datas fs σ th = None
  product_leaves_by (suc d) datas [] σ th = None
  product_leaves_by (suc d) datas (f ∷ fs) σ th = field_leaves_by d datas (f ∷ fs) σ th

  -- the leaves of the last fields of a thunk, which have these types
  pub field_leaves_by : ℕ → List Data → List TypeTree → Substitution → Thunk → Option (List LeafOf)
  field_leaves_by zero datas fs σ th = None
  field_leaves_by (suc d) datas [] σ th = Some []
  field_leaves_by (suc d) datas (f ∷ fs) σ th =
      with_both (port_leaves_by d datas (sub f σ) (field (length fs) th))
      (field_leaves_by d datas fs σ th) ◌++◌

-- the leaves of a thunk of the closed type
abbrev pub leaves_by : ℕ → List Data → TypeTree → Thunk → Option (List LeafOf)
leaves_by d datas t th =
    first_there (changed (λ m. leaf_of t th ∷ []) (measured_by d datas t))
    (port_leaves_by d datas t th)

-- what a closed term of the closed type gives on inputs at a history, at the leaf of this number
abbrev pub gives_by : ℕ → Program → TermTree → TypeTree → List Input → History → ℕ → Option Datum
gives_by d p e t ins h k =
    with_it (on_inputs_by d p.datas t (closed e none no_types) ins) (λ r.
    with_it (leaves_by d p.datas r.payload r.thunk) (λ ls.
    with_it (slice_get ls k) (λ l.
    changed (λ y. y.value) (yields_by d p l.payload l.thunk h))))

unfoldable mutual
  -- the leaves of a closed type that is a port
  pub type_leaves_by : ℕ → List Data → TypeTree → Option (List Leaf)
  type_leaves_by zero datas t = None
  type_leaves_by (suc d) datas (signal a t) =
      with_both (domain_in a) (measured_by d datas t) (λ i m. port_leaf (dom i) t ∷ [])
  type_leaves_by (suc d) datas (data_of i ts) =
      with_it (slice_get datas i) (λ it. only_if (nat_eq (length (list_of ts)) (length it.params))
      (fields_types_by d datas (fields_of_one it.cons) (arguments ts)))
  type_leaves_by (suc d) datas _ = None

  -- those of a product of these fields
  pub fields_types_by : ℕ → List Data → List TypeTree → Substitution → Option (List Leaf)
  fields_types_by zero datas fs σ = None
  fields_types_by (suc d) datas [] σ = None
  fields_types_by (suc d) datas (f ∷ fs) σ = all_leaves_by d datas (f ∷ fs) σ

  pub all_leaves_by : ℕ → List Data → List TypeTree → Substitution → Option (List Leaf)
  all_leaves_by zero datas fs σ = None
  all_leaves_by (suc d) datas [] σ = Some []
  all_leaves_by (suc d) datas (f ∷ fs) σ =
      with_both (type_leaves_by d datas (sub f σ)) (all_leaves_by d datas fs σ) ◌++◌

-- the leaves of a type's parameters, and of its result
pub record Sides : Type 0 where
  pub ins : List Leaf
  pub outs : List Leaf

abbrev pub sides : List Leaf → List Leaf → Sides
sides ins outs = record { ins = ins; outs = outs }

abbrev pub leads_by : ℕ → List Data → TypeTree → Option Sides
leads_by d datas (fun a b) =
    with_both (type_leaves_by d datas a) (leads_by d datas b) (λ ls r. sides (ls ++ r.ins) r.outs)
leads_by d datas (signal a t) = changed (sides []) (type_leaves_by d datas (signal a t))
leads_by d datas (data_of i ts) = changed (sides []) (type_leaves_by d datas (data_of i ts))
leads_by d datas _ = None

-- the top of a program: its definition, and the leaves of its type
pub record TopFound : Type 0 where
  pub it : Def
  pub leaves : Sides

abbrev pub top_by : ℕ → Program → Option TopFound
top_by d p =
    with_it (slice_get p.defs p.top.«def».number)
    (λ it. changed (λ leaves. record { it = it; leaves = leaves }) (leads_by d p.datas it.ty))

-- the port of a leaf of this width, before others; a leaf of width 0 has none
abbrev pub port_before : List ℕ → Leaf → ℕ → List Port → List Port
port_before name leaf zero ports = ports
port_before name leaf (suc w) ports = port_of name leaf (suc w) ∷ ports

-- the ports of leaves with these names
abbrev pub ports_of_by : ℕ → List Data → List Leaf → List (List ℕ) → Option (List Port)
ports_of_by d datas [] [] = Some []
ports_of_by d datas (leaf ∷ leaves) (name ∷ names) =
    with_both (width_by d datas leaf.payload) (ports_of_by d datas leaves names)
    (port_before name leaf)
ports_of_by d datas _ _ = None

-- the ports of a program, whose top was found
abbrev pub top_ports_by : ℕ → Program → TopFound → Option Ports
top_ports_by d p top =
    with_both (ports_of_by d p.datas top.leaves.ins p.top.inputs)
    (ports_of_by d p.datas top.leaves.outs p.top.outputs)
    (λ ins outs. record { domains = p.domains; resets = p.resets; inputs = ins; outputs = outs })

abbrev pub ports_by : ℕ → Program → Option Ports
ports_by d p = with_it (top_by d p) (top_ports_by d p)

-- the values of an input in a history, that of the first event first
abbrev pub all_decoded_by : ℕ → List Data → TypeTree → ℕ → History → Option (List Datum)
all_decoded_by d datas t i [] = Some []
all_decoded_by d datas t i (present ∷ past) =
    with_both (with_it (slice_get present.inputs i) (decoded_by d datas t))
    (all_decoded_by d datas t i past) (λ v vs. vs ++ (v ∷ []))

-- the stream of a leaf of this width, of which the input of this number is the port
abbrev pub stream_by : ℕ → List Data → (width : ℕ) → TypeTree → ℕ → History → Option (List Datum)
stream_by d datas zero t i h = changed (replicate (length h)) (zero_by d datas t)
stream_by d datas (suc w) t i h = all_decoded_by d datas t i h

-- the number of the next input, after a leaf of this width
abbrev pub next_input : (width : ℕ) → ℕ → ℕ
next_input zero i = i
next_input (suc w) i = suc i

-- the streams of leaves, of which the first that is a port is the input of this number
abbrev pub streams_by : ℕ → List Data → List Leaf → ℕ → History → Option (List Input)
streams_by d datas [] i h = Some []
streams_by d datas (leaf ∷ leaves) i h =
    with_it (width_by d datas leaf.payload) (λ w.
    with_both (stream_by d datas w leaf.payload i h)
    (streams_by d datas leaves (next_input w i) h) (λ vs ins. stream_in vs ∷ ins))

abbrev pub bits_fit : List Port → List (List Bool) → Bool
bits_fit [] [] = true
bits_fit (port ∷ ports) (b ∷ bs) = nat_eq (length b) port.width && bits_fit ports bs
bits_fit _ _ = false

-- whether an event is one of these ports
abbrev pub event_fits : Ports → Event → Bool
event_fits ports event =
    (nat_lt 0 (length event.ticks)
    && list_all (λ d. nat_lt d.number (length ports.domains)) event.ticks)
    && (list_all (λ d. ticks event d && has_reset ports d) event.resets
    && bits_fit ports.inputs event.inputs)

-- whether a history is one of these ports
abbrev pub history_fits : Ports → History → Bool
history_fits ports [] = false
history_fits ports (event ∷ past) = list_all (event_fits ports) (event ∷ past)

-- the streams of a history that fits a program
abbrev pub fits_by : ℕ → Program → History → Option (List Input)
fits_by d p h =
    with_it (top_by d p) (λ top. with_it (top_ports_by d p top) (λ ports.
    only_if (history_fits ports h) (streams_by d p.datas top.leaves.ins zero h)))

-- where the port of a number stands after a leaf of this width; none where the leaf is that port
abbrev pub after_leaf : (width : ℕ) → ℕ → Option ℕ
after_leaf zero k = Some k
after_leaf (suc w) zero = None
after_leaf (suc w) (suc k) = Some k

abbrev pub here_or : Option ℕ → (ℕ → Option ℕ) → Option ℕ
here_or None go = Some zero
here_or (Some k) go = changed suc (go k)

-- which of all leaves the port of a number is
abbrev pub leaf_at_by : ℕ → List Data → List Leaf → ℕ → Option ℕ
leaf_at_by d datas [] k = None
leaf_at_by d datas (leaf ∷ leaves) k =
    with_it (width_by d datas leaf.payload)
    (λ w. here_or (after_leaf w k) (leaf_at_by d datas leaves))

-- what the output of a number is at a history
abbrev pub means_by : ℕ → Program → History → ℕ → Option Datum
means_by d p h k =
    with_it (top_by d p) (λ top. with_it (streams_by d p.datas top.leaves.ins zero h) (λ ins.
    with_it (leaf_at_by d p.datas top.leaves.outs k) (λ leaf.
    gives_by d p (global p.top.«def».number) top.it.ty ins h leaf)))
