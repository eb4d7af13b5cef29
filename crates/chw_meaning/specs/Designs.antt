-- Small designs whose values are known from Clash's own simulation.
use Rattle.std.specs.Prelude.{ℕ, [], ◌∷◌, map, codes}
use Rattle.chw_bits.specs.Bits.{bits_of}
use Rattle.chw_types.specs.declared.kind.Kind.TheVariants.{Dom, Val, Cir}
use Rattle.chw_types.specs.declared.kind.Scalar.TheVariants.{S}
use Rattle.chw_types.specs.declared.declarations.Data.{Data}
use Rattle.chw_types.specs.TypeTree.{TypeTree, ty_var, nat_lit, domain, scalar, signal, data_of, fun, no_types, type_and}
use Rattle.chw_types.specs.BuiltIn.{constructor_of}
use Rattle.chw_prims.specs.Schemas.{pair}
use Rattle.chw_prims.specs.declared.prim.Primitive.TheVariants.{AddU, AddS, MulU, ShrS, BlockRam, VGenerate, VFoldlC, VZipWithC}
use Rattle.chw_terms.specs.declared.program.Program.{Program}
use Rattle.chw_terms.specs.TermTree.{TermTree, var, global, lam, ty_lam, letrec, lit, vec_lit, bind, no_bindings, no_terms, term_and}
use Rattle.chw_layout.specs.Datum.{Datum, word, built, no_data, datum_and}
use Rattle.chw_meaning.specs.Gives.{at_types}
use Rattle.chw_meaning.specs.Values.{Thunk, applied, field, stream}
use Rattle.chw_meaning.specs.Writing.{types, call, prim_on, con_on, nat, unsigned, number, fmap, ap_on, pure, register, synchronised, let_one, case_one, def_of, program, here, words, pair_of}

abbrev pub byte : TypeTree
byte = unsigned 8

-- the domains
abbrev pub a_clock : TypeTree
a_clock = domain 0

abbrev pub b_clock : TypeTree
b_clock = domain 1

abbrev pub plus_one : TermTree
plus_one = lam byte (prim_on AddU (nat 8 ∷ []) (var 0 ∷ number 8 1 ∷ []))

-- letrec { s : Signal d byte = register @d @byte 0u8 (fmap @d @byte @byte (\(x : byte) . addU @8 x 1u8) s); } in s
abbrev pub counter : TypeTree → TermTree
counter d = let_one (signal d byte) (register d byte (number 8 0) (fmap d byte byte plus_one (var 0))) (var 0)

-- \(x : Signal A byte) . letrec { s : Signal A byte = register @A @byte n t;
--   t : Signal A byte = ap @A @byte @byte (fmap @A @byte @(byte -> byte) (addU @8) s) x; } in s
abbrev pub accumulator_from : ℕ → TermTree
accumulator_from n =
    lam s (letrec (bind s (register a_clock byte (number 8 n) (var 0)) (bind s sums no_bindings))
    (var 1))
  where
    s : TypeTree
    s = signal a_clock byte

    sums : TermTree
    sums =
        ap_on a_clock byte byte
        (fmap a_clock byte (fun byte byte) (prim_on AddU (nat 8 ∷ []) []) (var 1)) (var 2)

-- the accumulator from 0
abbrev pub accumulator_of : TermTree
accumulator_of = accumulator_from 0

abbrev pub accumulator : Thunk
accumulator = applied (here accumulator_of) (words 8 (5 ∷ 7 ∷ 0 ∷ []))

-- /\(a : Val) . /\(b : Val) . \(p : Pair a b) . case p of { Pair x y -> x; }, and the same with y
abbrev pub first_of : TermTree
first_of = ty_lam Val (ty_lam Val (lam (pair (ty_var 1) (ty_var 0)) (case_one (var 0) 4 2 (var 1))))

abbrev pub second_of : TermTree
second_of =
    ty_lam Val (ty_lam Val (lam (pair (ty_var 1) (ty_var 0)) (case_one (var 0) 4 2 (var 0))))

-- letrec { st : Signal d s = register @d @s z (fmap @d @(Pair s o) @s (fst @s @o) r);
--   r : Signal d (Pair s o) = ap @d @i @(Pair s o) (fmap @d @s @(i -> Pair s o) f st) x; } in fmap @d @(Pair s o) @o (snd @s @o) r
abbrev pub mealy_body : (d s i o : TypeTree) → TermTree
mealy_body d s i o =
    letrec (bind (signal d s) (register d s (var 3) (fmap d (pair s o) s (at_types (global 0) (types (s ∷ o ∷ []))) (var 0))) (bind (signal d (pair s o)) (ap_on d i (pair s o) (fmap d s (fun i (pair s o)) (var 4) (var 1)) (var 2)) no_bindings)) (fmap d (pair s o) o (at_types (global 1) (types (s ∷ o ∷ []))) (var 0))

-- /\(d : Dom) . /\(s : Val) . /\(i : Val) . /\(o : Val) . \(f : s -> i -> Pair s o) . \(z : s) . \(x : Signal d i) . and the body
abbrev pub mealy : TermTree
mealy =
    ty_lam Dom (ty_lam Val (ty_lam Val (ty_lam Val (lam (fun (ty_var 2) (fun (ty_var 1) (pair (ty_var 2) (ty_var 0)))) (lam (ty_var 2) (lam (signal (ty_var 3) (ty_var 1)) (mealy_body (ty_var 3) (ty_var 2) (ty_var 1) (ty_var 0))))))))

abbrev pub twelve : TypeTree
twelve = unsigned 12

-- \(acc : twelve) . \(p : Pair twelve twelve) . case p of { Pair x y -> Pair @twelve @twelve (addU @12 acc (mulU @12 x y)) acc; }
abbrev pub multiply_add : TermTree
multiply_add =
    lam twelve (lam (pair twelve twelve) (case_one (var 0) 4 2 (con_on 4 (twelve ∷ twelve ∷ []) (prim_on AddU (nat 12 ∷ []) (var 3 ∷ prim_on MulU (nat 12 ∷ []) (var 1 ∷ var 0 ∷ []) ∷ []) ∷ var 3 ∷ []))))

-- the sums of products of the inputs so far, of the Clash tutorial
abbrev pub sums : Program
sums = program [] (def_of byte first_of ∷ def_of byte second_of ∷ def_of byte mealy ∷ def_of byte multiply_add ∷ [])

-- mealy @A @twelve @(Pair twelve twelve) @twelve multiply_add 0u12
abbrev pub sums_of : TermTree
sums_of =
    call (at_types (global 2) (types (a_clock ∷ twelve ∷ pair twelve twelve ∷ twelve ∷ [])))
    (global 3 ∷ number 12 0 ∷ [])

abbrev pub sums_of_products : Thunk
sums_of_products =
    applied (here sums_of) (stream (map (λ n. pair_of (word (bits_of 12 n)) (word (bits_of 12 n))) (1 ∷ 2 ∷ 3 ∷ 4 ∷ [])))

-- blockRam @A @4 @3 @byte (vgenerate @5 @8 @byte (\(i : byte) . mulU @8 (addU @8 i 1u8) 10u8)), whose words are 10, 20, 30, 40, 50
abbrev pub memory_of : TermTree
memory_of =
    prim_on BlockRam (a_clock ∷ nat 4 ∷ nat 3 ∷ byte ∷ []) (prim_on VGenerate (nat 5 ∷ nat 8 ∷ byte ∷ []) (lam byte (prim_on MulU (nat 8 ∷ []) (prim_on AddU (nat 8 ∷ []) (var 0 ∷ number 8 1 ∷ []) ∷ number 8 10 ∷ [])) ∷ []) ∷ [])

abbrev pub idle : Datum
idle = built 2 no_data

abbrev pub write : (place value : ℕ) → Datum
write place value =
    built 3 (datum_and (pair_of (word (bits_of 3 place)) (word (bits_of 8 value))) no_data)

-- reads at 1, 1, 1, 7, 0, 0 and 0, with a write of 99 at 1 at the second event and a write of 1
-- at 7, outside, at the fifth
abbrev pub memory : Thunk
memory =
    applied (applied (here memory_of) (words 3 (1 ∷ 1 ∷ 1 ∷ 7 ∷ 0 ∷ 0 ∷ 0 ∷ []))) (stream (idle ∷ write 1 99 ∷ idle ∷ idle ∷ write 7 1 ∷ idle ∷ idle ∷ []))

-- data PairC (a : Cir) (b : Cir) = PairC a b;
abbrev pub pair_c : Data
pair_c =
    record { name = codes "PairC"; params = Cir ∷ Cir ∷ []; kind = Cir; cons = constructor_of (codes "PairC") (ty_var 1 ∷ ty_var 0 ∷ []) ∷ [] }

abbrev pub two_signals : Program
two_signals = program (pair_c ∷ []) []

abbrev pub pair_c_of : TypeTree → TypeTree → TypeTree
pair_c_of a b = data_of 3 (type_and a (type_and b no_types))

abbrev pub pair_c_on : (a b : TypeTree) → (x y : TermTree) → TermTree
pair_c_on a b x y = con_on 5 (a ∷ b ∷ []) (x ∷ y ∷ [])

-- the two signals of a pair
abbrev pub left_of : Thunk → Thunk
left_of th = field 1 th

abbrev pub right_of : Thunk → Thunk
right_of th = field 0 th

-- a counter in A, and a register in B from 0 of the synchronised counter
abbrev pub crossing_of : TermTree
crossing_of =
    let_one (signal a_clock byte) (counter a_clock)
    (pair_c_on (signal a_clock byte) (signal b_clock byte) (var 0)
    (register b_clock byte (number 8 0) (synchronised a_clock b_clock byte (var 0))))

abbrev pub crossing : Thunk
crossing = here crossing_of

-- letrec { a = register @A @byte 1u8 (unsafeSynchronizer @B @A @byte b); b = register @B @byte 2u8 (unsafeSynchronizer @A @B @byte a); }
-- in PairC a b
abbrev pub swapping : Thunk
swapping =
    here (letrec (bind (signal a_clock byte) (register a_clock byte (number 8 1) (synchronised b_clock a_clock byte (var 0))) (bind (signal b_clock byte) (register b_clock byte (number 8 2) (synchronised a_clock b_clock byte (var 1))) no_bindings)) (pair_c_on (signal a_clock byte) (signal b_clock byte) (var 1) (var 0)))

-- letrec { p = PairC (case p of { PairC a b -> b; }) (register @A @byte 0u8 (case p of { PairC a b -> a; })); } in p
abbrev pub through_a_pair_of : TermTree
through_a_pair_of =
    let_one (pair_c_of (signal a_clock byte) (signal a_clock byte))
    (pair_c_on (signal a_clock byte) (signal a_clock byte) (case_one (var 0) 5 2 (var 0))
    (register a_clock byte (number 8 0) (case_one (var 0) 5 2 (var 1)))) (var 0)

abbrev pub through_a_pair : Thunk
through_a_pair = here through_a_pair_of

abbrev pub nibble : TypeTree
nibble = scalar S (nat_lit 4)

-- \(x : nibble) . addS @4 x 1s4, and \(x : nibble) . shrS @4 @2 x 1u2, on each sample of the inputs 7 and -3
abbrev pub signed_inputs : Thunk
signed_inputs = words 4 (7 ∷ 13 ∷ [])

abbrev pub signed_sum : Thunk
signed_sum =
    applied (here (lam (signal a_clock nibble) (fmap a_clock nibble nibble (lam nibble (prim_on AddS (nat 4 ∷ []) (var 0 ∷ lit S (bits_of 4 1) ∷ []))) (var 0)))) signed_inputs

abbrev pub signed_shift : Thunk
signed_shift =
    applied (here (lam (signal a_clock nibble) (fmap a_clock nibble nibble (lam nibble (prim_on ShrS (nat 4 ∷ nat 2 ∷ []) (var 0 ∷ number 2 1 ∷ []))) (var 0)))) signed_inputs

abbrev pub half : TypeTree
half = unsigned 16

-- \(s : Signal A half) . \(t : Signal A half) . ap @A @half @half (fmap @A @half @(half -> half) f s) t, for a primitive f on half
abbrev pub lifted : TermTree → TermTree
lifted f =
    lam (signal a_clock half) (lam (signal a_clock half) (ap_on a_clock half half (fmap a_clock half (fun half half) f (var 1)) (var 0)))

abbrev pub tap : TermTree → TermTree
tap s = register a_clock half (number 16 0) s

abbrev pub constant : ℕ → TermTree
constant n = pure a_clock half (number 16 n)

-- a filter of four taps: t0 is x and each next tap a register from 0; the sum of 1, 2, 3 and 4
-- times the taps, as a fold over a vector of signals from the constant signal 0
abbrev pub filter_of : TermTree
filter_of =
    lam s (letrec (bind s (var 4) (bind s (tap (var 3)) (bind s (tap (var 2)) (bind s (tap (var 1)) no_bindings)))) (prim_on VFoldlC (nat 4 ∷ s ∷ s ∷ []) (lifted (prim_on AddU (nat 16 ∷ []) []) ∷ constant 0 ∷ products ∷ [])))
  where
    s : TypeTree
    s = signal a_clock half

    products : TermTree
    products =
        prim_on VZipWithC (nat 4 ∷ s ∷ s ∷ s ∷ []) (lifted (prim_on MulU (nat 16 ∷ []) []) ∷ vec_lit s (term_and (constant 1) (term_and (constant 2) (term_and (constant 3) (term_and (constant 4) no_terms)))) ∷ vec_lit s (term_and (var 3) (term_and (var 2) (term_and (var 1) (term_and (var 0) no_terms)))) ∷ [])

abbrev pub filter : Thunk
filter = applied (here filter_of) (words 16 (1 ∷ 0 ∷ 0 ∷ 0 ∷ 0 ∷ []))
