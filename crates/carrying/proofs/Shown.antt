-- The examples.
use Rattle.std.proofs.Common.{◌≡◌, ℕ, Bool, List, [], ◌∷◌, length, Some, refl, sym, ap, ◌∙◌, subst, arith, suc}
use Rattle.chw_bits.specs.Bits.{bits_of, number_of}
use Rattle.std.specs.Prelude.{codes}
use Rattle.chw_types.specs.declared.kind.Kind.TheVariants.{Val}
use Rattle.chw_types.specs.declared.kind.Scalar.TheVariants.{U}
use Rattle.chw_types.specs.Arguments.{arguments}
use Rattle.chw_types.specs.BuiltIn.{constructor_of, data_type_of}
use Rattle.chw_types.specs.TypeMoves.{sub, rename, up}
use Rattle.chw_types.specs.SamePromises.{natural_value}
use Rattle.chw_types.specs.TypeTree.{TypeTree, nat_lit, ty_var, type_and, no_types}
use Rattle.chw_prims.specs.Schemas.{maybe}
use Rattle.chw_terms.specs.Constructors.{Constructor, con_at}
use Rattle.chw_terms.specs.declared.program.Program.{Program}
use Rattle.chw_layout.specs.Measured.{HasWidth, measured_scalar, measured_data, con_measured, no_cons_measured, field_measured, no_fields_measured}
use Rattle.chw_meaning.specs.Values.{History, bits, Thunk, none, thunk_and, Value, con_of}
use Rattle.chw_meaning.specs.Eval.{Forces, plus, f_closed, e_lit}
use Rattle.chw_meaning.specs.Writing.{bare, here, ticks, number, shown, is_word}
use Rattle.chw_meaning.specs.Designs.{byte, a_clock, counter}
use Rattle.chw_meaning.proofs.DesignsShown.{counter_shown}
use Rattle.chw_meaning.proofs.Once.{forces_once, same_some}
use Rattle.chw_meaning.proofs.ShownSound.{shown_is_so}
use Rattle.chw_meaning.proofs.Widths.{width_once}
use Rattle.chw_meaning.specs.Gives.{Yields, y_value, ValueYields, v_word, v_built, yield_no_field, yield_field}
use Rattle.chw_meaning.specs.Run.{zero_by, eval}
use Rattle.chw_terms.specs.Evaluated.{evaluated}
use Rattle.carrying.specs.Carrying.{holds_word, holds_built, Shows, shows_nothing, shows_bits, CarryFields, carry_field, Carries, Holds}
use Rattle.carrying.specs.Examples.{just_zero, zero_in_just, SameDataMove, CounterShows, JustCarries, JustOfCounter}
use Rattle.carrying.specs.DataLaws.{carry_nothing, carry_next}
use Rattle.carrying.proofs.Data.{constructor_carries}
use Rattle.carrying.proofs.Terms.{literal_carries, sample_shows}
use Rattle.carrying.proofs.Widths.{held_shows}
use Rattle.carrying.proofs.Words.{held_bits}

byte_width : HasWidth bare.datas byte 8
unfolding natural_value
byte_width = measured_scalar

-- what a word's thunk of this width has at a history
word_forced : {th : Thunk} {h : History} {b : List Bool} → Shows bare byte th h b → (n : ℕ) × Forces bare n th h (bits b)
word_forced (shows_nothing z) = let bad : 0 ≡ 8 = width_once z byte_width in absurd (omega (arith, bad))
word_forced {th} {h} (shows_bits {n = n} wide f held) = (n, subst (λ v. Forces bare n th h v) (held_bits held) f)

bits_same : {a b : List Bool} → bits a ≡ bits b → a ≡ b
bits_same e = cc

-- the counter shows only what it has
counter_has : (n m : ℕ) (b : List Bool) → shown bare (here (counter a_clock)) (ticks n) ≡ is_word 8 m → Shows bare byte (here (counter a_clock)) (ticks n) b → b ≡ bits_of 8 m
counter_has n m b e s =
    let one = shown_is_so bare (here (counter a_clock)) (ticks n) (bits (bits_of 8 m)) e in
    let other = word_forced s in
    bits_same (forces_once other.1 one.1).1

counter_moves : (b : List Bool) → Carries bare byte (here (counter a_clock)) b → ⊥
counter_moves b c =
    let first = counter_has 1 0 b counter_shown.0 (c (ticks 1)) in
    let second = counter_has 2 1 b counter_shown.1 (c (ticks 2)) in
    let bad : 0 ≡ 1 = ap number_of (sym first ∙ second) in
    absurd (omega (arith, bad))

eight : length (bits_of 8 1) ≡ natural_value (λ x. 0) (nat_lit 8)
unfolding natural_value
eight = refl

pub counter_shows : CounterShows
counter_shows =
    let at_second : Shows bare byte (here (counter a_clock)) (ticks 2) (bits_of 8 1) =
    held_shows 8 byte_width (shown_is_so bare (here (counter a_clock)) (ticks 2) (bits (bits_of 8 1)) counter_shown.1).1 (holds_word eight) in
    record { shows = at_second; moves = counter_moves; stays = λ h. sample_shows at_second h }

maybe_width : HasWidth bare.datas (maybe byte) 9
unfolding natural_value sub
maybe_width = measured_data refl refl (con_measured no_fields_measured (con_measured (field_measured measured_scalar no_fields_measured) no_cons_measured))

abbrev just : Constructor
just =
    record {
      of = 1;
      it = data_type_of (codes "Maybe") (Val ∷ []) (constructor_of (codes "Nothing") [] ∷ constructor_of (codes "Just") (ty_var 0 ∷ []) ∷ []);
      decl = constructor_of (codes "Just") (ty_var 0 ∷ []);
    }

pub just_carries : JustCarries
unfolding sub
just_carries = constructor_carries bare 3 just (type_and byte no_types) 9 (byte ∷ []) (number 8 1 ∷ []) none no_types (bits_of 8 1) refl maybe_width refl
    (carry_next (λ h. literal_carries bare U (nat_lit 8) (bits_of 8 1) none no_types h byte_width) carry_nothing)

-- the field of `Just` carries the bits behind the tag
field_of_just : {p : Program} {f : TypeTree} {th : Thunk} {b : List Bool} → CarryFields p (f ∷ []) (arguments (type_and byte no_types)) (thunk_and th none) b → (x : List Bool) × Carries p (sub f (arguments (type_and byte no_types))) th x
field_of_just {p} {f} (carry_field {b = b} at c cs) = (b, subst (λ th. Carries p (sub f (arguments (type_and byte no_types))) th b) (same_some at refl) c)

counter_fields : {it : Constructor} {b : List Bool} → con_at bare.datas 3 ≡ Some it → CarryFields bare it.decl.fields (arguments (type_and byte no_types)) (thunk_and (here (counter a_clock)) none) b → (x : List Bool) × Carries bare byte (here (counter a_clock)) x
unfolding sub
counter_fields {it} {b} at fs =
    let same : just ≡ it = same_some refl at in
    field_of_just (subst (λ (it : Constructor). CarryFields bare it.decl.fields (arguments (type_and byte no_types)) (thunk_and (here (counter a_clock)) none) b) (sym same) fs)

pub just_of_counter : JustOfCounter
just_of_counter b (holds_built at of many fs own) = let x = counter_fields at fs in counter_moves x.0 x.1

-- the counter's thunk as a field
abbrev moving : Value
moving = con_of 3 (thunk_and (here (counter a_clock)) none)

abbrev still : Value
still = con_of 3 (thunk_and (here (number 8 0)) none)

first_value : shown bare (here just_zero) (ticks 1) ≡ Some moving
unfolding eval zero_by sub rename up natural_value evaluated
first_value = refl

second_value : shown bare (here just_zero) (ticks 2) ≡ Some still
unfolding eval zero_by sub rename up natural_value evaluated
second_value = refl

-- `Just` on a thunk that has the word 0
zero_yields : (th : Thunk) (h : History) (n : ℕ) → Forces bare n th h (bits (bits_of 8 0)) → (k : ℕ) × ValueYields bare k (maybe byte) (con_of 3 (thunk_and th none)) h zero_in_just
unfolding sub
zero_yields th h n f = (_, v_built {it = just} refl refl (yield_field refl (y_value (7, byte_width) f v_word) yield_no_field))

just_yields : (th : Thunk) (h : History) (n : ℕ) → shown bare (here just_zero) h ≡ Some (con_of 3 (thunk_and th none)) → Forces bare n th h (bits (bits_of 8 0)) → (k : ℕ) × Yields bare k (maybe byte) (here just_zero) h zero_in_just
just_yields th h n e f =
    let whole = shown_is_so bare (here just_zero) h (con_of 3 (thunk_and th none)) e in
    let part = zero_yields th h n f in
    (suc (plus whole.0 part.0), y_value (8, maybe_width) whole.1 part.1)

just_moves : (b : List Bool) → Shows bare (maybe byte) (here just_zero) (ticks 1) b → ⊥
just_moves b (shows_nothing z) = let bad : 0 ≡ 9 = width_once z maybe_width in absurd (omega (arith, bad))
just_moves b (shows_bits {v = v} wide f held) =
    let one = shown_is_so bare (here just_zero) (ticks 1) moving first_value in
    just_of_counter b (subst (λ v. Holds bare (maybe byte) v b) (forces_once f one.1).1 held)

pub same_data_move : SameDataMove
same_data_move =
    let zero_first = shown_is_so bare (here (counter a_clock)) (ticks 1) (bits (bits_of 8 0)) counter_shown.0 in
    record {
      first = just_yields (here (counter a_clock)) (ticks 1) zero_first.0 first_value zero_first.1;
      second = just_yields (here (number 8 0)) (ticks 2) 1 second_value (f_closed e_lit);
      moves = λ b c. just_moves b (c (ticks 1));
    }
