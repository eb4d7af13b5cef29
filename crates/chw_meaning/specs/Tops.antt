-- Whole programs, with the names of their inputs and outputs, and events for them.
use Rattle.std.specs.Prelude.{ℕ, List, [], ◌∷◌, ◌++◌, length, map, reverse, take, Bool, codes}
use Rattle.chw_clock.specs.declared.event.Event.{Event}
use Rattle.chw_clock.specs.declared.event.Port.{Port}
use Rattle.chw_clock.specs.declared.event.Ports.{Ports}
use Rattle.chw_bits.specs.Bits.{bits_of}
use Rattle.chw_types.specs.declared.kind.Kind.TheVariants.{Dom, Val}
use Rattle.chw_types.specs.declared.declarations.Data.{Data}
use Rattle.chw_types.specs.TypeTree.{TypeTree, ty_var, vector, signal, data_of, fun, for_all, no_types}
use Rattle.chw_types.specs.BuiltIn.{constructor_of, built_in}
use Rattle.chw_prims.specs.Schemas.{maybe, pair}
use Rattle.chw_prims.specs.declared.prim.Primitive.TheVariants.{TruncU, BlockRam, VGet, VReplace, VConcat}
use Rattle.chw_terms.specs.declared.program.Def.{Def}
use Rattle.chw_terms.specs.declared.program.Program.{Program}
use Rattle.chw_terms.specs.TermTree.{TermTree, var, global, lam, vec_lit, no_terms, term_and}
use Rattle.chw_layout.specs.Datum.{Datum, word, built, elements, Datums, no_data, datum_and}
use Rattle.chw_meaning.specs.Gives.{at_types}
use Rattle.chw_meaning.specs.Values.{History}
use Rattle.chw_meaning.specs.Eval.{dom}
use Rattle.chw_meaning.specs.Writing.{types, call, prim_on, con_on, nat, unsigned, number, fmap, pure, register, endless, case_one, def_of, pair_of}
use Rattle.chw_meaning.specs.Designs.{byte, a_clock, b_clock, accumulator_from, first_of, second_of, mealy, twelve, multiply_add, sums_of, memory_of, pair_c, pair_c_of, pair_c_on, crossing_of, through_a_pair_of}

-- a program of these domains, of which these have a reset, of these data types behind the built-in
-- ones, and of these definitions, the last of which is the top, whose inputs and outputs have these
-- names
abbrev pub whole : (domains : List (List ℕ)) → (resets : List ℕ) → List Data → List Def → Def
    → (inputs outputs : List (List ℕ)) → Program
whole domains resets datas defs main inputs outputs =
    record {
      domains = domains;
      resets = map dom resets;
      datas = built_in ++ datas;
      defs = defs ++ (main ∷ []);
      top = record {
        «def» = record { number = length defs };
        inputs = inputs;
        outputs = outputs;
      };
    }

-- ports with these domains, of which these have a reset
abbrev pub ports_of : (domains : List (List ℕ)) → (resets : List ℕ) → (inputs outputs : List Port)
    → Ports
ports_of domains resets inputs outputs =
    record { domains = domains; resets = map dom resets; inputs = inputs; outputs = outputs }

abbrev pub port : List ℕ → (domain width : ℕ) → Port
port name domain width = record { name = name; dom = dom domain; width = width }

-- an event in which these domains tick, with the bits of the inputs
abbrev pub at_event : List ℕ → List (List Bool) → Event
at_event ds bs = record { ticks = map dom ds; resets = []; inputs = bs }

-- the same, where the resets of these domains are asserted
abbrev pub at_reset : (ticks resets : List ℕ) → List (List Bool) → Event
at_reset ds rs bs = record { ticks = map dom ds; resets = map dom rs; inputs = bs }

-- so many of the events, the first ones, as a history
abbrev pub after : ℕ → List Event → History
after n es = reverse (take n es)

abbrev pub one_domain : List (List ℕ)
one_domain = codes "Sys" ∷ []

abbrev pub in_a : TypeTree → TypeTree
in_a t = signal a_clock t

abbrev pub in_b : TypeTree → TypeTree
in_b t = signal b_clock t

-- def fst and def snd: forall (a : Val) . forall (b : Val) . Pair a b -> a, and -> b
abbrev pub first_def : Def
first_def =
    def_of (for_all Val (for_all Val (fun (pair (ty_var 1) (ty_var 0)) (ty_var 1)))) first_of

abbrev pub second_def : Def
second_def =
    def_of (for_all Val (for_all Val (fun (pair (ty_var 1) (ty_var 0)) (ty_var 0)))) second_of

-- def mealy : forall (d : Dom) . forall (s : Val) . forall (i : Val) . forall (o : Val) .
--   (s -> i -> Pair s o) -> s -> Signal d i -> Signal d o
abbrev pub mealy_def : Def
mealy_def =
    def_of (for_all Dom (for_all Val (for_all Val (for_all Val
    (fun (fun (ty_var 2) (fun (ty_var 1) (pair (ty_var 2) (ty_var 0))))
    (fun (ty_var 2) (fun (signal (ty_var 3) (ty_var 1)) (signal (ty_var 3) (ty_var 0)))))))))
    mealy

-- the sums of products of the two words of each input
abbrev pub summing : Program
summing =
    whole one_domain [] []
    (first_def ∷ second_def ∷ mealy_def
    ∷ def_of (fun twelve (fun (pair twelve twelve) (pair twelve twelve))) multiply_add ∷ [])
    (def_of (fun (in_a (pair twelve twelve)) (in_a twelve)) sums_of)
    (codes "x" ∷ []) (codes "o" ∷ [])

-- the inputs 1 and 1, 2 and 2, 3 and 3, 4 and 4
abbrev pub summing_events : List Event
summing_events =
    map (λ n. at_event (0 ∷ []) (bits_of 24 n ∷ []))
    (0x001001 ∷ 0x002002 ∷ 0x003003 ∷ 0x004004 ∷ [])

-- data Unit = Unit; behind data PairC
abbrev pub unit_data : Data
unit_data =
    record {
      name = codes "Unit";
      params = [];
      kind = Val;
      cons = constructor_of (codes "Unit") [] ∷ [];
    }

abbrev pub unit : TypeTree
unit = data_of 4 no_types

-- \(x : Signal Sys (Pair byte Unit)) . \(z : Signal Sys (Unsigned 0)) .
--   PairC (fmap (fst @byte @Unit) x) (pure Unit); top main (x, z) (o, q);
abbrev pub without_width : Program
without_width =
    whole one_domain [] (pair_c ∷ unit_data ∷ []) (first_def ∷ [])
    (def_of from_to
    (lam (in_a (pair byte unit)) (lam (in_a (unsigned 0)) (pair_c_on (in_a byte) (in_a unit)
    (fmap a_clock (pair byte unit) byte (at_types (global 0) (types (byte ∷ unit ∷ []))) (var 1))
    (pure a_clock unit (con_on 6 [] []))))))
    (codes "x" ∷ codes "z" ∷ []) (codes "o" ∷ codes "q" ∷ [])
  where
    from_to : TypeTree
    from_to =
        fun (in_a (pair byte unit)) (fun (in_a (unsigned 0)) (pair_c_of (in_a byte) (in_a unit)))

-- \(z : Signal Sys (Unsigned 0)) . \(x : Signal Sys (Pair Unit byte)) . PairC (pure ENDLESS)
--   (fmap (\(p : Pair Unit byte) . Pair @Unit @byte ENDLESS (case p of { Pair u b -> b; })) x);
-- top main (z, x) (q, o); where ENDLESS is a term of Unit whose evaluation never ends
abbrev pub endless_without_width : Program
endless_without_width =
    whole one_domain [] (pair_c ∷ unit_data ∷ []) [] (def_of from_to
    (lam (in_a (unsigned 0)) (lam (in_a (pair unit byte))
    (pair_c_on (in_a unit) (in_a (pair unit byte)) (pure a_clock unit (endless unit))
    (fmap a_clock (pair unit byte) (pair unit byte) again (var 0))))))
    (codes "z" ∷ codes "x" ∷ []) (codes "q" ∷ codes "o" ∷ [])
  where
    from_to : TypeTree
    from_to =
        fun (in_a (unsigned 0)) (fun (in_a (pair unit byte))
        (pair_c_of (in_a unit) (in_a (pair unit byte))))

    again : TermTree
    again =
        lam (pair unit byte)
        (con_on 4 (unit ∷ byte ∷ []) (endless unit ∷ case_one (var 0) 4 2 (var 0) ∷ []))

-- one event with the input 2a
abbrev pub one_byte : List Event
one_byte = at_event (0 ∷ []) (bits_of 8 0x2a ∷ []) ∷ []

-- the block RAM of the words 10, 20, 30, 40 and 50, in the first of two domains;
-- top main (r, w) (o);
abbrev pub remembering : Program
remembering =
    whole (codes "Sys" ∷ codes "B" ∷ []) [] [] []
    (def_of (fun (in_a (unsigned 3)) (fun (in_a writing) (in_a byte)))
    (lam (in_a (unsigned 3)) (lam (in_a writing) (call memory_of (var 1 ∷ var 0 ∷ [])))))
    (codes "r" ∷ codes "w" ∷ []) (codes "o" ∷ [])
  where
    writing : TypeTree
    writing = maybe (pair (unsigned 3) byte)

-- an event in which these domains tick, with a place to read and a write
abbrev pub reading : (ticks : List ℕ) → (place write : ℕ) → Event
reading ds r w = at_event ds (bits_of 3 r ∷ bits_of 12 w ∷ [])

-- reads at 1, 1, 1, 7, 0, 0 and 0, with a write of 99 at 1 at the second event, and of 1 at 7 at
-- the fifth
abbrev pub reads_and_writes : List Event
reads_and_writes =
    reading sys 1 0x000 ∷ reading sys 1 0x963 ∷ reading sys 1 0x000 ∷ reading sys 7 0x000
    ∷ reading sys 0 0xf01 ∷ reading sys 0 0x000 ∷ reading sys 0 0x000 ∷ []
  where
    sys : List ℕ
    sys = 0 ∷ []

-- reads at 1, with a write of 99 at 1 at the second event, in which these domains tick
abbrev pub reads_beside : List ℕ → List Event
reads_beside ds =
    reading (0 ∷ []) 1 0x000 ∷ reading ds 1 0x963 ∷ reading (0 ∷ []) 1 0x000
    ∷ reading (0 ∷ []) 1 0x000 ∷ []

-- a block RAM of pairs of a number and a truth value
abbrev pub bool : TypeTree
bool = data_of 0 no_types

abbrev pub flagged : TypeTree
flagged = pair (unsigned 3) bool

-- \(r : ..) . \(w : ..) . blockRam @Sys @2 @2 @flagged
--   (vec @flagged [Pair 0u3 False, Pair 1u3 True, Pair 2u3 False]) r w
abbrev pub remembering_pairs : Program
remembering_pairs =
    whole one_domain [] [] []
    (def_of (fun (in_a (unsigned 2)) (fun (in_a writing) (in_a flagged)))
    (lam (in_a (unsigned 2)) (lam (in_a writing)
    (prim_on BlockRam (a_clock ∷ nat 2 ∷ nat 2 ∷ flagged ∷ []) (content ∷ var 1 ∷ var 0 ∷ [])))))
    (codes "r" ∷ codes "w" ∷ []) (codes "o" ∷ [])
  where
    writing : TypeTree
    writing = maybe (pair (unsigned 2) flagged)

    flag : (n truth : ℕ) → TermTree
    flag n truth = con_on 4 (unsigned 3 ∷ bool ∷ []) (number 3 n ∷ con_on truth [] [] ∷ [])

    content : TermTree
    content =
        vec_lit flagged (term_and (flag 0 0) (term_and (flag 1 1) (term_and (flag 2 0) no_terms)))

abbrev pub pair_events : List Event
pair_events =
    reads 3 0x4e ∷ reads 2 0x73 ∷ reads 0 0x63 ∷ reads 3 0x63 ∷ reads 3 0x73 ∷ reads 3 0x63
    ∷ reads 1 0x00 ∷ reads 1 0x00 ∷ []
  where
    reads : ℕ → ℕ → Event
    reads r w = at_event (0 ∷ []) (bits_of 2 r ∷ bits_of 7 w ∷ [])

-- a pair of such a number and of the truth value with this constructor
abbrev pub flag_of : (n truth : ℕ) → Datum
flag_of n truth = pair_of (word (bits_of 3 n)) (built truth no_data)

-- domain A; domain B; a counter in A, and a register in B of it; top main () (p, o);
abbrev pub two_outputs : Program
two_outputs =
    whole (codes "A" ∷ codes "B" ∷ []) [] (pair_c ∷ []) []
    (def_of (pair_c_of (in_a byte) (in_b byte)) crossing_of) [] (codes "p" ∷ codes "o" ∷ [])

abbrev pub five_ticks : List Event
five_ticks =
    map (λ ds. at_event ds []) ((0 ∷ []) ∷ (1 ∷ []) ∷ (0 ∷ []) ∷ (0 ∷ 1 ∷ []) ∷ (1 ∷ []) ∷ [])

-- the pair of signals made of each other; top main () (p, o);
abbrev pub recursive_outputs : Program
recursive_outputs =
    whole one_domain [] (pair_c ∷ []) []
    (def_of (pair_c_of (in_a byte) (in_a byte)) through_a_pair_of) [] (codes "p" ∷ codes "o" ∷ [])

-- domain A; domain B reset;
-- \(p : PairC (PairC (Signal A byte) (Signal B Bool)) (Signal B (Unsigned 3))) .
--   case p of { PairC q c -> case q of { PairC a e -> PairC (register @B @(Unsigned 3) 5u3 c)
--   (PairC a (register @A @byte 1u8 a)); }; }; top main (x, y, z) (o, q, p);
abbrev pub products : Program
products =
    whole (codes "A" ∷ codes "B" ∷ []) (1 ∷ []) (pair_c ∷ []) []
    (def_of (fun input (pair_c_of (in_b (unsigned 3)) (pair_c_of (in_a byte) (in_a byte))))
    (lam input (case_one (var 0) 5 2 (case_one (var 1) 5 2
    (pair_c_on (in_b (unsigned 3)) (pair_c_of (in_a byte) (in_a byte))
    (register b_clock (unsigned 3) (number 3 5) (var 2))
    (pair_c_on (in_a byte) (in_a byte) (var 1) (register a_clock byte (number 8 1) (var 1))))))))
    (codes "x" ∷ codes "y" ∷ codes "z" ∷ []) (codes "o" ∷ codes "q" ∷ codes "p" ∷ [])
  where
    input : TypeTree
    input = pair_c_of (pair_c_of (in_a byte) (in_b bool)) (in_b (unsigned 3))

abbrev pub product_events : List Event
product_events =
    at_event both (xyz 0xc2 1 6) ∷ at_event both (xyz 0x47 1 2) ∷ at_event both (xyz 0x1d 1 2)
    ∷ at_event both (xyz 0x1d 1 2) ∷ at_event both (xyz 0x1d 1 2)
    ∷ at_reset both (1 ∷ []) (xyz 0xaa 1 5) ∷ at_reset (1 ∷ []) (1 ∷ []) (xyz 0x95 0 5)
    ∷ at_event both (xyz 0x5c 0 2) ∷ at_event (1 ∷ []) (xyz 0x12 1 2) ∷ []
  where
    both : List ℕ
    both = 0 ∷ 1 ∷ []

    xyz : ℕ → ℕ → ℕ → List (List Bool)
    xyz x y z = bits_of 8 x ∷ bits_of 1 y ∷ bits_of 3 z ∷ []

-- the vector of these bytes
abbrev pub bytes_of : List ℕ → Datum
bytes_of ns = elements (each ns)
  where
    each : List ℕ → Datums
    each [] = no_data
    each (n ∷ more) = datum_and (word (bits_of 8 n)) (each more)

abbrev pub three_bytes : TypeTree
three_bytes = vector (nat 3) byte

-- \(x : ..) . fmap (\(v : three_bytes) .
--   vreplace @3 @1 @byte v (truncU @1 @7 (vget @0 @2 @byte v)) 9u8) x
abbrev pub vectors : Program
vectors =
    whole one_domain [] [] [] (def_of (fun (in_a three_bytes) (in_a three_bytes))
    (lam (in_a three_bytes) (fmap a_clock three_bytes three_bytes with_nine (var 0))))
    (codes "x" ∷ []) (codes "o" ∷ [])
  where
    index : TermTree
    index =
        prim_on TruncU (nat 1 ∷ nat 7 ∷ [])
        (prim_on VGet (nat 0 ∷ nat 2 ∷ byte ∷ []) (var 0 ∷ []) ∷ [])

    with_nine : TermTree
    with_nine =
        lam three_bytes
        (prim_on VReplace (nat 3 ∷ nat 1 ∷ byte ∷ []) (var 0 ∷ index ∷ number 8 9 ∷ []))

abbrev pub vector_events : List Event
vector_events =
    map (λ n. at_event (0 ∷ []) (bits_of 24 n ∷ [])) (0xc0665b ∷ 0xbf4cfa ∷ 0x033ca8 ∷ [])

-- \(x : ..) . fmap (\(v : Vec 2 three_bytes) . vconcat @2 @3 @byte v) x
abbrev pub nested_vectors : Program
nested_vectors =
    whole one_domain [] [] [] (def_of (fun (in_a two) (in_a six))
    (lam (in_a two) (fmap a_clock two six
    (lam two (prim_on VConcat (nat 2 ∷ nat 3 ∷ byte ∷ []) (var 0 ∷ []))) (var 0))))
    (codes "x" ∷ []) (codes "o" ∷ [])
  where
    two : TypeTree
    two = vector (nat 2) three_bytes

    six : TypeTree
    six = vector (nat 6) byte

abbrev pub nested_events : List Event
nested_events = at_event (0 ∷ []) (bits_of 48 0x2ef09abbc702 ∷ []) ∷ []

-- domain Sys reset; and the accumulator from 3; top main (x) (o);
abbrev pub resetting : Program
resetting =
    whole one_domain (0 ∷ []) [] [] (def_of (fun (in_a byte) (in_a byte)) (accumulator_from 3))
    (codes "x" ∷ []) (codes "o" ∷ [])

-- the inputs 5, 7, 1 and 0, with a reset at the second event
abbrev pub reset_events : List Event
reset_events =
    at_event (0 ∷ []) (x 5) ∷ at_reset (0 ∷ []) (0 ∷ []) (x 7) ∷ at_event (0 ∷ []) (x 1)
    ∷ at_event (0 ∷ []) (x 0) ∷ []
  where
    x : ℕ → List (List Bool)
    x n = bits_of 8 n ∷ []
