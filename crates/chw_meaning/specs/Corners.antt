-- What small terms show, each of which tells two readings of the meaning apart.
use Rattle.std.specs.Prelude.{◌≡◌, ℕ, List, [], ◌∷◌, Option, Some}
use Rattle.chw_bits.specs.Bits.{bits_of}
use Rattle.chw_types.specs.declared.kind.Kind.TheVariants.{Val}
use Rattle.chw_types.specs.declared.kind.Scalar.TheVariants.{U, B}
use Rattle.chw_types.specs.TypeTree.{TypeTree, ty_var, scalar, vector, signal, fun, no_types, TypeTrees}
use Rattle.chw_prims.specs.Schemas.{maybe, pair}
use Rattle.chw_prims.specs.declared.prim.Primitive.{Primitive as Prim}
use Rattle.chw_prims.specs.declared.prim.Primitive.TheVariants.{AddU, SubU, XaddU, EqU, LtU, ExtU, Slice, Join, RedAnd, RedOr, BlockRam, VGet, VGetC, VAt, VReplace, VMap, VMapC, VZipWith, VFoldl, VFoldr, VGenerate, VReplicate, VAppend, VConcat, VTake, VDrop, VReverse, VRotl}
use Rattle.chw_terms.specs.declared.term.Pattern.TheVariants.{OfCon, OfLit, Default}
use Rattle.chw_terms.specs.TermTree.{TermTree, var, lam, app, ty_lam, letrec, lit, vec_lit, bind, no_bindings, Terms, no_terms, term_and, case_of, no_alts, alt}
use Rattle.chw_meaning.specs.Gives.{at_types}
use Rattle.chw_meaning.specs.Values.{Value, bits, con_of, Thunk, Thunks, applied, field, none, History}
use Rattle.chw_meaning.specs.Eval.{Evals}
use Rattle.chw_terms.specs.declared.program.Program.{Program}
use Rattle.chw_meaning.specs.Run.{found, eval}
use Rattle.chw_meaning.specs.Writing.{types, call, prim_on, con_on, nat, unsigned, number, fmap, ap_on, pure, register, endless, case_one, bare, here, ticks, words, shown, is_word}
use Rattle.chw_meaning.specs.Designs.{byte, a_clock, plus_one}

-- the value of a closed term at the first event
abbrev pub value : TermTree → Option Value
value e = shown bare (here e) (ticks 1)

abbrev pub is_byte : ℕ → Option Value
is_byte n = is_word 8 n

abbrev pub byte_of : ℕ → TermTree
byte_of n = number 8 n

-- a case on a type of one constructor looks at its scrutinee only where a field is evaluated, and
-- then only at that field
abbrev pub LazyCases : Type 0
LazyCases =
    (value (case_one (endless (pair byte byte)) 4 2 (byte_of 5)) ≡ is_byte 5)
    × (value (case_one (con_on 4 (byte ∷ byte ∷ []) (endless byte ∷ byte_of 7 ∷ [])) 4 2 (var 0)) ≡ is_byte 7)
    × (value (case_one (con_on 4 (byte ∷ byte ∷ []) (byte_of 6 ∷ endless byte ∷ [])) 4 2 (var 1)) ≡ is_byte 6)

-- case s of { Nothing -> 1; Just x -> e; }
abbrev pub maybe_case : TermTree → TermTree → TermTree
maybe_case s e = case_of s (alt (OfCon (record { number = 2 }) 0) (byte_of 1) (alt (OfCon (record { number = 3 }) 1) e no_alts))

-- a term that never ends has no value, and so a case that looks at one has none
abbrev pub EndlessHasNone : Type 0
EndlessHasNone = (p : Program) (t : TypeTree) (γ : Thunks) (δ : TypeTrees) (h : History) (n : ℕ) (v : Value) → Evals p n (endless t) γ δ h v → ⊥

abbrev pub LookedAtHasNone : Type 0
LookedAtHasNone = (t : TypeTree) (e : TermTree) (h : History) (n : ℕ) (v : Value) → Evals bare n (maybe_case (endless t) e) none no_types h v → ⊥

-- a default alone looks at nothing; another case looks at the constructor and at no field
abbrev pub OtherCases : Type 0
OtherCases =
    (value (case_of (endless byte) (alt Default (byte_of 5) no_alts)) ≡ is_byte 5)
    × (value (maybe_case (con_on 3 (byte ∷ []) (endless byte ∷ [])) (byte_of 3)) ≡ is_byte 3)
    × (value (maybe_case (con_on 3 (byte ∷ []) (byte_of 8 ∷ [])) (var 0)) ≡ is_byte 8)
    × (value (maybe_case (con_on 2 (byte ∷ []) []) (var 0)) ≡ is_byte 1)
    × (value (literal_case 2) ≡ is_byte 20)
    × (value (literal_case 3) ≡ is_byte 30)
  where
    -- case n of { 1u8 -> 10; 2u8 -> 20; _ -> 30; }
    literal_case : ℕ → TermTree
    literal_case n = case_of (byte_of n) (alt (OfLit U (bits_of 8 1)) (byte_of 10) (alt (OfLit U (bits_of 8 2)) (byte_of 20) (alt Default (byte_of 30) no_alts)))

-- the last name of a letrec is the innermost one; two registers that take each other's value change places at each tick
abbrev pub Recursion : Type 0
Recursion =
    (value (letrec (bind byte (byte_of 1) (bind byte (byte_of 2) no_bindings)) (var 1)) ≡ is_byte 1)
    × (value (letrec (bind byte (byte_of 1) (bind byte (byte_of 2) no_bindings)) (var 0)) ≡ is_byte 2)
    × (shown bare toggle (ticks 1) ≡ is_byte 0)
    × (shown bare toggle (ticks 2) ≡ is_byte 1)
    × (shown bare toggle (ticks 3) ≡ is_byte 0)
  where
    -- letrec { a = register @A @byte 0u8 b; b = register @A @byte 1u8 a; } in a
    toggle : Thunk
    toggle = here (letrec (bind (signal a_clock byte) (register a_clock byte (byte_of 0) (var 0)) (bind (signal a_clock byte) (register a_clock byte (byte_of 1) (var 1)) no_bindings)) (var 1))

-- /\(a : Val) . \(f : a -> a) . \(x : a) . f (f x), at bytes
abbrev pub Polymorphism : Type 0
Polymorphism =
    value (call (at_types twice (types (byte ∷ []))) (plus_one ∷ byte_of 5 ∷ [])) ≡ is_byte 7
  where
    twice : TermTree
    twice = ty_lam Val (lam (fun (ty_var 0) (ty_var 0)) (lam (ty_var 0) (app (var 1) (app (var 1) (var 0)))))

abbrev pub inputs : Thunk
inputs = words 8 (10 ∷ 20 ∷ 40 ∷ [])

-- a signal of functions: s - t; a register of functions, the first of which adds 1 and all later
-- ones 2; and functions that were made of an earlier sample keep it: at the second event 10 + 20,
-- at the third 20 + 40
abbrev pub SignalsOfFunctions : Type 0
SignalsOfFunctions =
    (shown bare (applied (applied (here difference) inputs) (words 8 (3 ∷ []))) (ticks 1) ≡ is_byte 7)
    × (shown bare (applied (here first_then) inputs) (ticks 1) ≡ is_byte 11)
    × (shown bare (applied (here first_then) inputs) (ticks 2) ≡ is_byte 22)
    × (shown bare (applied (here with_last) inputs) (ticks 1) ≡ is_byte 11)
    × (shown bare (applied (here with_last) inputs) (ticks 2) ≡ is_byte 30)
    × (shown bare (applied (here with_last) inputs) (ticks 3) ≡ is_byte 60)
  where
    functions : TypeTree
    functions = fun byte byte

    adding : TermTree → TermTree
    adding n = prim_on AddU (nat 8 ∷ []) (n ∷ [])

    -- \s . \t . ap (fmap (\x . \y . subU x y) s) t
    difference : TermTree
    difference = lam (signal a_clock byte) (lam (signal a_clock byte) (ap_on a_clock byte byte (fmap a_clock byte functions (lam byte (lam byte (prim_on SubU (nat 8 ∷ []) (var 1 ∷ var 0 ∷ [])))) (var 1)) (var 0)))

    -- \s . ap (register (addU 1) (pure (addU 2))) s
    first_then : TermTree
    first_then = lam (signal a_clock byte) (ap_on a_clock byte byte (register a_clock functions (adding (byte_of 1)) (pure a_clock functions (adding (byte_of 2)))) (var 0))

    -- \s . ap (register (addU 1) (fmap addU s)) s
    with_last : TermTree
    with_last = lam (signal a_clock byte) (ap_on a_clock byte byte (register a_clock functions (adding (byte_of 1)) (fmap a_clock byte functions (prim_on AddU (nat 8 ∷ []) []) (var 0))) (var 0))

-- a constructor with an argument missing, on each sample
abbrev pub PartialConstructors : Type 0
PartialConstructors =
    (shown bare (field 1 pairs) (ticks 2) ≡ is_byte 3)
    × (shown bare (field 0 pairs) (ticks 2) ≡ is_byte 20)
  where
    pairs : Thunk
    pairs = applied (here (lam (signal a_clock byte) (fmap a_clock byte (pair byte byte) (con_on 4 (byte ∷ byte ∷ []) (byte_of 3 ∷ [])) (var 0)))) inputs

-- `vec` of these bytes
abbrev pub bytes : List TermTree → TermTree
bytes es = vec_lit byte (terms es)
  where
    terms : List TermTree → Terms
    terms [] = no_terms
    terms (e ∷ more) = term_and e (terms more)

-- element i of a vector of bytes with so many elements behind it
abbrev pub element_of : (i behind : ℕ) → TermTree → TermTree
element_of i behind v = prim_on VGet (nat i ∷ nat behind ∷ byte ∷ []) (v ∷ [])

abbrev pub three : TermTree
three = bytes (byte_of 10 ∷ byte_of 20 ∷ byte_of 30 ∷ [])

-- an element of a vector of signals, each at its own history: the input, and the input a tick late
abbrev pub VectorsOfSignals : Type 0
VectorsOfSignals =
    (shown bare (applied (here (chosen 0 1)) inputs) (ticks 2) ≡ is_byte 21)
    × (shown bare (applied (here (chosen 1 0)) inputs) (ticks 2) ≡ is_byte 11)
  where
    s : TypeTree
    s = signal a_clock byte

    -- \x . vgetC (vmapC (fmap (\y . addU y 1)) (vec [x, register 0 x]))
    chosen : ℕ → ℕ → TermTree
    chosen i behind =
        lam s (prim_on VGetC (nat i ∷ nat behind ∷ s ∷ []) (prim_on VMapC (nat 2 ∷ s ∷ s ∷ []) (lam s (fmap a_clock byte byte plus_one (var 0)) ∷ vec_lit s (term_and (var 0) (term_and (register a_clock byte (byte_of 0) (var 0)) no_terms)) ∷ []) ∷ []))

-- only the element that is asked for is evaluated
abbrev pub OneElement : Type 0
OneElement =
    (value (element_of 1 1 (bytes (endless byte ∷ byte_of 20 ∷ endless byte ∷ []))) ≡ is_byte 20)
    × (value (element_of 1 1 (prim_on VMap (nat 3 ∷ byte ∷ byte ∷ []) (plus_one ∷ bytes (endless byte ∷ byte_of 20 ∷ endless byte ∷ []) ∷ []))) ≡ is_byte 21)

-- an index that isn't below the length names the last element; the index of the only element
-- isn't looked at, nor one of width 0
abbrev pub Indices : Type 0
Indices =
    (value (prim_on VAt (nat 2 ∷ nat 2 ∷ byte ∷ []) (three ∷ number 2 1 ∷ [])) ≡ is_byte 20)
    × (value (prim_on VAt (nat 2 ∷ nat 2 ∷ byte ∷ []) (three ∷ number 2 3 ∷ [])) ≡ is_byte 30)
    × (value (prim_on VAt (nat 0 ∷ nat 2 ∷ byte ∷ []) (bytes (byte_of 9 ∷ []) ∷ endless (unsigned 2) ∷ [])) ≡ is_byte 9)
    × (value (prim_on VAt (nat 2 ∷ nat 0 ∷ byte ∷ []) (three ∷ endless (unsigned 0) ∷ [])) ≡ is_byte 10)

-- one element is replaced; past the end nothing is; an element that no index of the width names
-- doesn't look at it, and an element that stays doesn't look at the new one
abbrev pub Replacing : Type 0
Replacing =
    (value (element_of 1 1 (with_new (number 2 1) (byte_of 99))) ≡ is_byte 99)
    × (value (element_of 2 0 (with_new (number 2 1) (endless byte))) ≡ is_byte 30)
    × (value (element_of 2 0 (with_new (number 2 3) (byte_of 99))) ≡ is_byte 30)
    × (value (element_of 2 0 (prim_on VReplace (nat 3 ∷ nat 1 ∷ byte ∷ []) (three ∷ endless (unsigned 1) ∷ byte_of 99 ∷ []))) ≡ is_byte 30)
  where
    with_new : TermTree → TermTree → TermTree
    with_new i x = prim_on VReplace (nat 3 ∷ nat 2 ∷ byte ∷ []) (three ∷ i ∷ x ∷ [])

-- (100 - 10) - 20 - 30 from the left, and 10 - (20 - (30 - 5)) from the right; element j of two
-- vectors together
abbrev pub Folds : Type 0
Folds =
    (value (prim_on VFoldl (nat 3 ∷ byte ∷ byte ∷ []) (minus ∷ byte_of 100 ∷ three ∷ [])) ≡ is_byte 40)
    × (value (prim_on VFoldr (nat 3 ∷ byte ∷ byte ∷ []) (minus ∷ byte_of 5 ∷ three ∷ [])) ≡ is_byte 15)
    × (value (element_of 1 1 (prim_on VZipWith (nat 3 ∷ byte ∷ byte ∷ byte ∷ []) (minus ∷ three ∷ bytes (byte_of 1 ∷ byte_of 2 ∷ byte_of 3 ∷ []) ∷ []))) ≡ is_byte 18)
  where
    minus : TermTree
    minus = prim_on SubU (nat 8 ∷ []) []

-- element 2 of three that are made from their places in one bit is made from 0; all elements of
-- one; the order of elements in joined, flattened, cut, reversed and turned vectors
abbrev pub Orders : Type 0
Orders =
    (value (element_of 2 0 (prim_on VGenerate (nat 3 ∷ nat 1 ∷ byte ∷ []) (prim_on ExtU (nat 1 ∷ nat 7 ∷ []) [] ∷ []))) ≡ is_byte 0)
    × (value (element_of 1 1 (prim_on VGenerate (nat 3 ∷ nat 1 ∷ byte ∷ []) (prim_on ExtU (nat 1 ∷ nat 7 ∷ []) [] ∷ []))) ≡ is_byte 1)
    × (value (element_of 2 0 (prim_on VReplicate (nat 3 ∷ byte ∷ []) (byte_of 4 ∷ []))) ≡ is_byte 4)
    × (value (element_of 3 1 (prim_on VAppend (nat 3 ∷ nat 2 ∷ byte ∷ []) (three ∷ bytes (byte_of 40 ∷ byte_of 50 ∷ []) ∷ []))) ≡ is_byte 40)
    × (value (element_of 4 1 (prim_on VConcat (nat 2 ∷ nat 3 ∷ byte ∷ []) (rows ∷ []))) ≡ is_byte 2)
    × (value (element_of 1 0 (prim_on VTake (nat 2 ∷ nat 1 ∷ byte ∷ []) (three ∷ []))) ≡ is_byte 20)
    × (value (element_of 1 0 (prim_on VDrop (nat 1 ∷ nat 2 ∷ byte ∷ []) (three ∷ []))) ≡ is_byte 30)
    × (value (element_of 0 2 (prim_on VReverse (nat 3 ∷ byte ∷ []) (three ∷ []))) ≡ is_byte 30)
    × (value (element_of 0 2 (prim_on VRotl (nat 3 ∷ nat 1 ∷ byte ∷ []) (three ∷ []))) ≡ is_byte 20)
    × (value (element_of 2 0 (prim_on VRotl (nat 3 ∷ nat 4 ∷ byte ∷ []) (three ∷ []))) ≡ is_byte 10)
  where
    rows : TermTree
    rows = vec_lit (vector (nat 3) byte) (term_and three (term_and (bytes (byte_of 1 ∷ byte_of 2 ∷ byte_of 3 ∷ [])) no_terms))

abbrev pub is_true : Option Value
is_true = Some (con_of 1 none)

abbrev pub is_false : Option Value
is_false = Some (con_of 0 none)

-- scalars of width 0 aren't looked at: they are equal, none is below another, all of their no
-- bits are set and none is; a case on one takes its literal, and a block RAM of one word is read
-- without an address
abbrev pub WidthZero : Type 0
WidthZero =
    (value (prim_on EqU (nat 0 ∷ []) (empty ∷ empty ∷ [])) ≡ is_true)
    × (value (prim_on LtU (nat 0 ∷ []) (empty ∷ empty ∷ [])) ≡ is_false)
    × (value (prim_on RedAnd (nat 0 ∷ []) (endless (scalar B (nat 0)) ∷ [])) ≡ is_true)
    × (value (prim_on RedOr (nat 0 ∷ []) (endless (scalar B (nat 0)) ∷ [])) ≡ is_false)
    × (value (prim_on ExtU (nat 0 ∷ nat 8 ∷ []) (empty ∷ [])) ≡ is_byte 0)
    × (value (case_of empty (alt (OfLit U []) (byte_of 5) (alt Default (byte_of 6) no_alts))) ≡ is_byte 5)
    × (shown bare (here one_word) (ticks 2) ≡ is_byte 9)
  where
    empty : TermTree
    empty = endless (unsigned 0)

    -- blockRam @A @0 @0 @byte (vec [9]) r (pure Nothing), where the reading r never ends
    one_word : TermTree
    one_word = prim_on BlockRam (a_clock ∷ nat 0 ∷ nat 0 ∷ byte ∷ []) (bytes (byte_of 9 ∷ []) ∷ endless (signal a_clock (unsigned 0)) ∷ pure a_clock (maybe (pair (unsigned 0) byte)) (con_on 2 (pair (unsigned 0) byte ∷ []) []) ∷ [])

-- a sum wraps, and an exact sum has a further bit; the 2 bits above the lowest one of 0110; the
-- left word is the upper one
abbrev pub Words : Type 0
Words =
    (value (prim_on AddU (nat 8 ∷ []) (byte_of 255 ∷ byte_of 1 ∷ [])) ≡ is_byte 0)
    × (value (prim_on XaddU (nat 8 ∷ []) (byte_of 255 ∷ byte_of 1 ∷ [])) ≡ is_word 9 256)
    × (value (prim_on Slice (nat 1 ∷ nat 2 ∷ nat 1 ∷ []) (lit B (bits_of 4 6) ∷ [])) ≡ is_word 2 3)
    × (value (prim_on Join (nat 1 ∷ nat 2 ∷ []) (lit B (bits_of 1 1) ∷ lit B (bits_of 2 0) ∷ [])) ≡ is_word 3 4)

-- a literal takes a turn; a lambda on it takes one for itself, one for the application, one for
-- the step into the body, one for the variable and one for the literal
abbrev pub Turns : Type 0
Turns =
    (eval 100 bare (byte_of 5) none no_types (ticks 1) ≡ found (bits (bits_of 8 5)) 1)
    × (eval 100 bare (app (lam byte (var 0)) (byte_of 5)) none no_types (ticks 1) ≡ found (bits (bits_of 8 5)) 5)
