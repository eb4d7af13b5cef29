-- Values, thunks and environments.
use Rattle.std.specs.Prelude.{ℕ, suc, zero, Bool, List, [], ◌∷◌, Option, Some, None, length, slice_get}
use Rattle.chw_clock.specs.declared.event.Event.{Event}
use Rattle.chw_types.specs.TypeTree.{TypeTree, nat_lit, TypeTrees, no_types, type_and}
use Rattle.chw_types.specs.TypeMoves.{sub}
use Rattle.chw_prims.specs.declared.prim.Primitive.{Primitive as Prim}
use Rattle.chw_terms.specs.TermTree.{TermTree, Terms, no_terms, term_and, Group, no_bindings, bind}
use Rattle.chw_layout.specs.Datum.{Datum, word, built, elements, Datums, no_data, datum_and}

-- the events so far, the present one first
abbrev pub History : Type 0
History = List Event

-- what takes arguments: a constructor, by its number, or a primitive
pub data Head : Type 0 where
  con_head : ℕ → Head
  prim_head : Prim → Head

mutual
  pub data Value : Type 0 where
    -- a scalar
    bits : List Bool → Value
    -- a constructor on its fields, the last one first
    con_of : ℕ → Thunks → Value
    -- a vector of its elements, element 0 first
    vec_of : Thunks → Value
    -- a lambda, by its body, with its environment
    closure : TermTree → Thunks → TypeTrees → Value
    -- a type lambda, by its body, with its environment
    ty_closure : TermTree → Thunks → TypeTrees → Value
    -- a constructor or primitive with fewer arguments than it needs: types and thunks, the last
    -- one first
    partial : Head → TypeTrees → Thunks → Value

  -- what is evaluated only when it is needed
  pub data Thunk : Type 0 where
    -- a term in its environment
    closed : TermTree → Thunks → TypeTrees → Thunk
    -- a thunk applied to a thunk
    applied : Thunk → Thunk → Thunk
    -- the binding of this number, the first one 0, of a recursive group in its outer environment
    member : Group → ℕ → Thunks → TypeTrees → Thunk
    -- a field of a thunk; the last field is 0
    field : ℕ → Thunk → Thunk
    -- an element of a thunk
    element : ℕ → Thunk → Thunk
    -- a thunk with the history at which it is looked at
    sample : Thunk → History → Thunk
    -- a data value for each event, that of the first event first
    stream : List Datum → Thunk
    known : Datum → Thunk

  -- the thunks of an environment, that of variable 0 first; fields; elements
  pub data Thunks : Type 0 where
    none : Thunks
    thunk_and : Thunk → Thunks → Thunks

abbrev pub thunk_at : Thunks → ℕ → Option Thunk
thunk_at none i = None
thunk_at (thunk_and th more) zero = Some th
thunk_at (thunk_and th more) (suc i) = thunk_at more i

abbrev pub count_of : Thunks → ℕ
count_of none = zero
count_of (thunk_and th more) = suc (count_of more)

-- the closed types for the type variables, that of variable 0 first; past the end a type without
-- variables
abbrev pub type_at : TypeTrees → ℕ → TypeTree
type_at no_types x = nat_lit 0
type_at (type_and t more) zero = t
type_at (type_and t more) (suc x) = type_at more x

-- a type with the closed types of its environment put for its variables
abbrev pub closed_type : TypeTree → TypeTrees → TypeTree
closed_type t δ = sub t (type_at δ)

-- these thunks before the others
abbrev pub joined : Thunks → Thunks → Thunks
joined none more = more
joined (thunk_and th ths) more = thunk_and th (joined ths more)

-- the members of a group, from this number on, before the thunks; the last member is variable 0
abbrev pub members : Group → Group → ℕ → Thunks → TypeTrees → Thunks → Thunks
members all no_bindings i γ δ before = before
members all (bind t e g) i γ δ before =
    members all g (suc i) γ δ (thunk_and (member all i γ δ) before)

-- the environment inside a recursive group
abbrev pub in_group : Group → Thunks → TypeTrees → Thunks
in_group g γ δ = members g g zero γ δ γ

-- the right side of this number
abbrev pub body_at : Group → ℕ → Option TermTree
body_at no_bindings i = None
body_at (bind t e g) zero = Some e
body_at (bind t e g) (suc i) = body_at g i

-- so many fields of a thunk, from this number on, before the thunks
abbrev pub fields_from : ℕ → ℕ → Thunk → Thunks → Thunks
fields_from i zero th γ = γ
fields_from i (suc k) th γ = thunk_and (field i th) (fields_from (suc i) k th γ)

-- the terms in an environment
abbrev pub closed_all : Terms → Thunks → TypeTrees → Thunks
closed_all no_terms γ δ = none
closed_all (term_and e es) γ δ = thunk_and (closed e γ δ) (closed_all es γ δ)

-- data values as thunks, in their order, and the other way round before further ones
abbrev pub knowns : Datums → Thunks
knowns no_data = none
knowns (datum_and d ds) = thunk_and (known d) (knowns ds)

abbrev pub knowns_back : Datums → Thunks → Thunks
knowns_back no_data before = before
knowns_back (datum_and d ds) before = knowns_back ds (thunk_and (known d) before)

-- a data value as a value
abbrev pub value_of : Datum → Value
value_of (word b) = bits b
value_of (built c ds) = con_of c (knowns_back ds none)
value_of (elements ds) = vec_of (knowns ds)

-- the item of a stream at a history: that of the present event
abbrev pub item_at : List Datum → History → Option Datum
item_at ds [] = None
item_at ds (present ∷ past) = slice_get ds (length past)
