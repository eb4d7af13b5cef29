-- What the whole programs show: their ports, events that fit them, and what their outputs are,
-- numbered from 0.
use Rattle.std.specs.Prelude.{ℕ, [], ◌∷◌, List, codes}
use Rattle.chw_clock.specs.declared.event.Event.{Event}
use Rattle.chw_clock.specs.declared.event.Ports.{Ports}
use Rattle.chw_bits.specs.Bits.{bits_of}
use Rattle.chw_types.specs.TypeTree.{TypeTree, fun}
use Rattle.chw_prims.specs.Schemas.{pair}
use Rattle.chw_terms.specs.declared.program.Program.{Program}
use Rattle.chw_terms.specs.TermTree.{global}
use Rattle.chw_layout.specs.Datum.{Datum, word, built, no_data}
use Rattle.chw_meaning.specs.Gives.{value_in, stream_in, Gives}
use Rattle.chw_meaning.specs.Means.{HasPorts, Fit, Means}
use Rattle.chw_meaning.specs.Writing.{bare, ticks, unsigned, pair_of}
use Rattle.chw_meaning.specs.Designs.{byte, plus_one, pair_c_of}
use Rattle.chw_meaning.specs.Tops.{ports_of, port, after, one_domain, in_a, summing, summing_events, unit, without_width, endless_without_width, one_byte, remembering, reads_and_writes, reads_beside, remembering_pairs, pair_events, flag_of, two_outputs, five_ticks, recursive_outputs, products, product_events, bytes_of, vectors, vector_events, nested_vectors, nested_events, resetting, reset_events}

-- at event n, counted from 1, output k is this value
abbrev pub Shows : Program → List Event → (n k : ℕ) → Datum → Type 0
Shows p es n k v = Means p (after n es) k v

-- the same of a word
abbrev pub ShowsWord : Program → List Event → (n k : ℕ) → (width number : ℕ) → Type 0
ShowsWord p es n k width number = Shows p es n k (word (bits_of width number))

-- a pair as an input: 0, 1, 5 and 14
abbrev pub PairInShown : Type 0
PairInShown =
    HasPorts summing (ports_of one_domain [] (port (codes "x") 0 24 ∷ []) (port (codes "o") 0 12 ∷ []))
    × Fit summing (after 4 summing_events)
    × ShowsWord summing summing_events 1 0 12 0
    × ShowsWord summing summing_events 2 0 12 1
    × ShowsWord summing summing_events 3 0 12 5
    × ShowsWord summing summing_events 4 0 12 14

-- only leaves with a width are ports
abbrev pub one_port_each : Ports
one_port_each = ports_of one_domain [] (port (codes "x") 0 8 ∷ []) (port (codes "o") 0 8 ∷ [])

-- an input and an output without width, behind those that have one
abbrev pub WithoutWidthShown : Type 0
WithoutWidthShown =
    HasPorts without_width one_port_each × Fit without_width (after 1 one_byte)
    × ShowsWord without_width one_byte 1 0 8 0x2a

-- an input and an output without width, before those that have one; a part without width that never
-- ends, as an output and within one
abbrev pub EndlessPartShown : Type 0
EndlessPartShown =
    HasPorts endless_without_width one_port_each × Fit endless_without_width (after 1 one_byte)
    × Shows endless_without_width one_byte 1 0 (pair_of the_unit (word (bits_of 8 0x2a)))
    × Gives endless_without_width (global 0) from_to
    (stream_in (word [] ∷ []) ∷ stream_in (pair_of the_unit (word (bits_of 8 0x2a)) ∷ []) ∷ [])
    (after 1 one_byte) 0 the_unit
  where
    the_unit : Datum
    the_unit = built 6 no_data

    from_to : TypeTree
    from_to =
        fun (in_a (unsigned 0)) (fun (in_a (pair unit byte))
        (pair_c_of (in_a unit) (in_a (pair unit byte))))

-- two inputs: first zeros; then 20, twice, since a read at the event of a write shows the word
-- before it; then 99; then zeros for the place 7, outside; and 10, twice, since the write at 7 did
-- nothing
abbrev pub TwoInputsShown : Type 0
TwoInputsShown =
    HasPorts remembering (ports_of (codes "Sys" ∷ codes "B" ∷ []) []
    (port (codes "r") 0 3 ∷ port (codes "w") 0 12 ∷ []) (port (codes "o") 0 8 ∷ []))
    × Fit remembering (after 7 reads_and_writes)
    × ShowsWord remembering reads_and_writes 1 0 8 0
    × ShowsWord remembering reads_and_writes 2 0 8 20
    × ShowsWord remembering reads_and_writes 3 0 8 20
    × ShowsWord remembering reads_and_writes 4 0 8 99
    × ShowsWord remembering reads_and_writes 5 0 8 0
    × ShowsWord remembering reads_and_writes 6 0 8 10
    × ShowsWord remembering reads_and_writes 7 0 8 10

-- a write at an event in which the RAM's domain doesn't tick does nothing
abbrev pub OtherTickShown : Type 0
OtherTickShown =
    Fit remembering (after 4 beside)
    × ShowsWord remembering beside 1 0 8 0
    × ShowsWord remembering beside 2 0 8 20
    × ShowsWord remembering beside 3 0 8 20
    × ShowsWord remembering beside 4 0 8 20
  where
    beside : List Event
    beside = reads_beside (1 ∷ [])

-- it counts where both domains tick
abbrev pub BothTickShown : Type 0
BothTickShown =
    Fit remembering (after 4 together)
    × ShowsWord remembering together 1 0 8 0
    × ShowsWord remembering together 2 0 8 20
    × ShowsWord remembering together 3 0 8 20
    × ShowsWord remembering together 4 0 8 99
  where
    together : List Event
    together = reads_beside (0 ∷ 1 ∷ [])

-- pairs as outputs, with their fields in order: zeros, twice, then 2 and False, 7 and False, and
-- 1 and True
abbrev pub PairOutShown : Type 0
PairOutShown =
    HasPorts remembering_pairs (ports_of one_domain []
    (port (codes "r") 0 2 ∷ port (codes "w") 0 7 ∷ []) (port (codes "o") 0 4 ∷ []))
    × Fit remembering_pairs (after 8 pair_events)
    × Shows remembering_pairs pair_events 1 0 (flag_of 0 0)
    × Shows remembering_pairs pair_events 2 0 (flag_of 0 0)
    × Shows remembering_pairs pair_events 3 0 (flag_of 2 0)
    × Shows remembering_pairs pair_events 4 0 (flag_of 7 0)
    × Shows remembering_pairs pair_events 8 0 (flag_of 1 1)

-- a product of signals in two domains as outputs, in the order of its fields: p is 0, 1 and 2 at
-- the events 1, 3 and 4, and o is 0, 1 and 2 at the events 2, 4 and 5
abbrev pub ProductOutShown : Type 0
ProductOutShown =
    HasPorts two_outputs (ports_of (codes "A" ∷ codes "B" ∷ []) [] []
    (port (codes "p") 0 8 ∷ port (codes "o") 1 8 ∷ []))
    × Fit two_outputs (after 5 five_ticks)
    × ShowsWord two_outputs five_ticks 1 0 8 0
    × ShowsWord two_outputs five_ticks 2 1 8 0
    × ShowsWord two_outputs five_ticks 3 0 8 1
    × ShowsWord two_outputs five_ticks 4 0 8 2
    × ShowsWord two_outputs five_ticks 4 1 8 1
    × ShowsWord two_outputs five_ticks 5 1 8 2

-- a product whose parts are made of each other: 0 and 0
abbrev pub RecursiveOutShown : Type 0
RecursiveOutShown =
    ShowsWord recursive_outputs five_ticks 1 0 8 0 × ShowsWord recursive_outputs five_ticks 1 1 8 0

-- a product of a product and a signal as the input, and another as the outputs o, q and p; the second
-- domain has a reset, which is asserted at the events 6 and 7
abbrev pub ProductInShown : Type 0
ProductInShown =
    HasPorts products (ports_of (codes "A" ∷ codes "B" ∷ []) (1 ∷ [])
    (port (codes "x") 0 8 ∷ port (codes "y") 1 1 ∷ port (codes "z") 1 3 ∷ [])
    (port (codes "o") 1 3 ∷ port (codes "q") 0 8 ∷ port (codes "p") 0 8 ∷ []))
    × Fit products (after 9 product_events)
    × ShowsAll 1 5 0xc2 0x01
    × ShowsAll 2 6 0x47 0xc2
    × ShowsAll 3 2 0x1d 0x47
    × ShowsAll 4 2 0x1d 0x1d
    × ShowsAll 5 2 0x1d 0x1d
    × ShowsAll 6 2 0xaa 0x1d
    × ShowsWord products product_events 7 0 3 5
    × ShowsAll 8 5 0x5c 0xaa
    × ShowsWord products product_events 9 0 3 2
  where
    ShowsAll : (n : ℕ) → (o q p : ℕ) → Type 0
    ShowsAll n o q p =
        ShowsWord products product_events n 0 3 o × ShowsWord products product_events n 1 8 q
        × ShowsWord products product_events n 2 8 p

-- vectors as inputs and outputs, with their elements in order
abbrev pub VectorOutShown : Type 0
VectorOutShown =
    HasPorts vectors (ports_of one_domain [] (port (codes "x") 0 24 ∷ []) (port (codes "o") 0 24 ∷ []))
    × Fit vectors (after 3 vector_events)
    × Shows vectors vector_events 1 0 (bytes_of (0x09 ∷ 0x66 ∷ 0x5b ∷ []))
    × Shows vectors vector_events 2 0 (bytes_of (0xbf ∷ 0x09 ∷ 0xfa ∷ []))
    × Shows vectors vector_events 3 0 (bytes_of (0x03 ∷ 0x09 ∷ 0xa8 ∷ []))

-- a vector of vectors as the input
abbrev pub NestedVectorShown : Type 0
NestedVectorShown =
    Fit nested_vectors (after 1 nested_events)
    × Shows nested_vectors nested_events 1 0
    (bytes_of (0x2e ∷ 0xf0 ∷ 0x9a ∷ 0xbb ∷ 0xc7 ∷ 0x02 ∷ []))

-- a data value as an input, and as the result: 5 and 1
abbrev pub ValueInShown : Type 0
ValueInShown =
    Gives bare plus_one (fun byte byte) (value_in (word (bits_of 8 5)) ∷ []) (ticks 1) 0
    (word (bits_of 8 6))

-- a domain that has a reset: the register is 3 after the event with the reset, and goes on from there
abbrev pub ResetShown : Type 0
ResetShown =
    HasPorts resetting
    (ports_of one_domain (0 ∷ []) (port (codes "x") 0 8 ∷ []) (port (codes "o") 0 8 ∷ []))
    × Fit resetting (after 4 reset_events)
    × ShowsWord resetting reset_events 1 0 8 3
    × ShowsWord resetting reset_events 2 0 8 8
    × ShowsWord resetting reset_events 3 0 8 3
    × ShowsWord resetting reset_events 4 0 8 4
