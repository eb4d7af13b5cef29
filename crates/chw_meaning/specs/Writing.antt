-- How examples are written: programs, histories and inputs, and what is shown of them.
use Rattle.std.specs.Prelude.{ℕ, suc, zero, List, [], ◌∷◌, ◌++◌, map, Option, Some}
use Rattle.chw_clock.specs.declared.event.Event.{Event}
use Rattle.chw_bits.specs.Bits.{bits_of}
use Rattle.chw_types.specs.declared.kind.Scalar.TheVariants.{U}
use Rattle.chw_types.specs.declared.declarations.Data.{Data}
use Rattle.chw_types.specs.TypeTree.{TypeTree, nat_lit, domain, scalar, signal, TypeTrees, no_types, type_and}
use Rattle.chw_types.specs.BuiltIn.{built_in}
use Rattle.chw_prims.specs.declared.prim.Primitive.{Primitive as Prim}
use Rattle.chw_prims.specs.declared.prim.Primitive.TheVariants.{Fmap, Ap, Pure, Register, UnsafeSynchronizer}
use Rattle.chw_terms.specs.declared.program.Program.{Program}
use Rattle.chw_terms.specs.declared.program.Def.{Def}
use Rattle.chw_terms.specs.declared.term.Pattern.TheVariants.{OfCon}
use Rattle.chw_terms.specs.TermTree.{TermTree, var, app, prim, con, lit, letrec, bind, no_bindings, case_of, no_alts, alt}
use Rattle.chw_layout.specs.Datum.{Datum, word, built, no_data, datum_and}
use Rattle.chw_meaning.specs.Gives.{at_types}
use Rattle.chw_meaning.specs.Values.{History, Value, bits, Thunk, closed, stream, none}
use Rattle.chw_meaning.specs.Eval.{dom}
use Rattle.chw_meaning.specs.Run.{changed, force}

abbrev pub types : List TypeTree → TypeTrees
types [] = no_types
types (t ∷ ts) = type_and t (types ts)

abbrev pub call : TermTree → List TermTree → TermTree
call f [] = f
call f (a ∷ more) = call (app f a) more

-- a primitive or a constructor on its type arguments and its arguments
abbrev pub prim_on : Prim → List TypeTree → List TermTree → TermTree
prim_on q ts as' = call (at_types (prim q) (types ts)) as'

abbrev pub con_on : ℕ → List TypeTree → List TermTree → TermTree
con_on c ts as' = call (at_types (con c) (types ts)) as'

abbrev pub nat : ℕ → TypeTree
nat n = nat_lit n

abbrev pub unsigned : ℕ → TypeTree
unsigned n = scalar U (nat_lit n)

-- signals in the domain of this number
abbrev pub signal_in : ℕ → TypeTree → TypeTree
signal_in d t = signal (domain d) t

-- an unsigned literal of a width
abbrev pub number : ℕ → ℕ → TermTree
number width n = lit U (bits_of width n)

abbrev pub fmap : (d a b : TypeTree) → (f s : TermTree) → TermTree
fmap d a b f s = prim_on Fmap (d ∷ a ∷ b ∷ []) (f ∷ s ∷ [])

abbrev pub ap_on : (d a b : TypeTree) → (u s : TermTree) → TermTree
ap_on d a b u s = prim_on Ap (d ∷ a ∷ b ∷ []) (u ∷ s ∷ [])

abbrev pub pure : (d a : TypeTree) → TermTree → TermTree
pure d a v = prim_on Pure (d ∷ a ∷ []) (v ∷ [])

abbrev pub register : (d a : TypeTree) → (i s : TermTree) → TermTree
register d a i s = prim_on Register (d ∷ a ∷ []) (i ∷ s ∷ [])

abbrev pub synchronised : (d e a : TypeTree) → TermTree → TermTree
synchronised d e a s = prim_on UnsafeSynchronizer (d ∷ e ∷ a ∷ []) (s ∷ [])

-- one binding of a letrec
abbrev pub let_one : TypeTree → (e body : TermTree) → TermTree
let_one t e body = letrec (bind t e no_bindings) body

-- a term whose evaluation never ends
abbrev pub endless : TypeTree → TermTree
endless t = let_one t (var 0) (var 0)

-- a case with one alternative, for a constructor with so many fields
abbrev pub case_one : TermTree → (c fields : ℕ) → TermTree → TermTree
case_one s c fields e = case_of s (alt (OfCon (record { number = c }) fields) e no_alts)

abbrev pub def_of : TypeTree → TermTree → Def
def_of t e = record { name = []; ty = t; body = e }

-- a program of these data types behind the built-in ones, and these definitions, with two domains,
-- none of which has a reset
abbrev pub program : List Data → List Def → Program
program datas defs =
    record {
      domains = [] ∷ [] ∷ [];
      resets = [];
      datas = built_in ++ datas;
      defs = defs;
      top = record { «def» = record { number = 0 }; inputs = []; outputs = [] };
    }

-- no data types and no definitions of its own
abbrev pub bare : Program
bare = program [] []

-- events with these domains ticking, the first one first, as a history
abbrev pub tick : List ℕ → Event
tick ds = record { ticks = map dom ds; resets = []; inputs = [] }

abbrev pub after_events : History → List (List ℕ) → History
after_events past [] = past
after_events past (ds ∷ more) = after_events (tick ds ∷ past) more

abbrev pub events : List (List ℕ) → History
events ds = after_events [] ds

-- an event in which these domains tick, and the resets of those are asserted
abbrev pub reset_tick : List ℕ → List ℕ → Event
reset_tick ds rs = record { ticks = map dom ds; resets = map dom rs; inputs = [] }

-- so many events of the domain 0, in each of which its reset is asserted
abbrev pub reset_ticks : ℕ → History
reset_ticks zero = []
reset_ticks (suc n) = reset_tick (0 ∷ []) (0 ∷ []) ∷ reset_ticks n

-- so many events of the domain 0
abbrev pub ticks : ℕ → History
ticks zero = []
ticks (suc n) = tick (0 ∷ []) ∷ ticks n

abbrev pub here : TermTree → Thunk
here e = closed e none no_types

-- unsigned words of a width, one for each event
abbrev pub words : ℕ → List ℕ → Thunk
words width ns = stream (map (λ n. word (bits_of width n)) ns)

abbrev pub pair_of : Datum → Datum → Datum
pair_of a b = built 4 (datum_and a (datum_and b no_data))

-- the value of a thunk at a history
abbrev pub shown : Program → Thunk → History → Option Value
shown p th h = changed (λ r. r.value) (force 1000 p th h)

-- an unsigned word of a width
abbrev pub is_word : ℕ → ℕ → Option Value
is_word width n = Some (bits (bits_of width n))
