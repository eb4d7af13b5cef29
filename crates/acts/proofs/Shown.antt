-- The examples.
use Rattle.std.proofs.Common.{◌≡◌, ℕ, suc, zero, Bool, List, [], ◌∷◌, length, Some, refl, sym, subst, arith}
use Rattle.chw_bits.specs.Bits.{bits_of}
use Rattle.chw_types.specs.declared.kind.Scalar.{Scalar}
use Rattle.chw_types.specs.TypeTree.{TypeTree, scalar, signal, no_types}
use Rattle.chw_types.specs.TypeMoves.{rename, up, sub}
use Rattle.chw_types.specs.SamePromises.{natural_value}
use Rattle.chw_terms.specs.declared.program.Program.{Program}
use Rattle.chw_terms.specs.Evaluated.{evaluated}
use Rattle.chw_terms.specs.TermTree.{TermTree, var, lam, app}
use Rattle.chw_meaning.specs.Values.{History, bits, none}
use Rattle.chw_meaning.specs.Eval.{e_var, e_lam, e_app, e_lit, f_closed, a_closure}
use Rattle.chw_meaning.specs.Run.{zero_by, eval}
use Rattle.chw_meaning.specs.Writing.{bare, here, ticks, shown, number, pure}
use Rattle.chw_meaning.specs.Designs.{byte, a_clock, counter}
use Rattle.chw_meaning.proofs.Once.{evals_once, forces_once}
use Rattle.chw_meaning.proofs.ShownSound.{shown_is_so}
use Rattle.acts.specs.Levels.{later, thunk_has, term_has}
use Rattle.acts.specs.Acts.{acts_from}
use Rattle.acts.specs.Terms.{ActsAs}
use Rattle.acts.specs.Examples.{InOtherTurns, OnEachArgument, AtEachHistory, AtItsWidth, InEachWord, memory_with}
use Rattle.acts.proofs.Forms.{TermsAct, bits_act, lit_acts, app_acts, thunk_acts}
use Rattle.acts.proofs.Globals.{no_names}
use Rattle.acts.proofs.Levels.{from_turns, from_signal}
use Rattle.acts.proofs.Numbers.{left}
use Rattle.acts.proofs.Steps.{bits_left}

abbrev one : TermTree
one = number 8 1

abbrev one_again : TermTree
one_again = app (lam byte (var 0)) one

forth : ActsAs bare byte one one_again
unfolding sub natural_value
forth n δ γ' γ known names h' h m v al e_lit = bits_act (from_turns bare n) (suc zero) _ _ (bits_of 8 1) _ refl (5, e_app e_lam (a_closure (e_var refl (f_closed e_lit))))

-- what a term of scalars has, a term as which it acts has
scalar_differs : (p : Program) (x : Scalar) (w : TypeTree) (e' e : TermTree) (h : History) (b' b : List Bool) → ((n : ℕ) → TermsAct p (acts_from p n) (scalar x w) e' none no_types e none no_types) → shown p (here e') h ≡ Some (bits b') → shown p (here e) h ≡ Some (bits b) → bits b' ≡ bits b
scalar_differs p x w e' e h b' b acts first second =
    let d = shown_is_so p (here e') h (bits b') first in
    let f = shown_is_so p (here e) h (bits b) second in
    let there = bits_left p (suc d.0) d.0 x w b' (thunk_has p (here e) h) (omega arith) (thunk_acts (from_turns p (suc d.0)) (scalar x w) e' e none none no_types no_types (acts (suc d.0)) h h d.0 (bits b') tt d.1) in
    (forces_once there.1 f.1).1

-- so has a term of signals of scalars
signal_differs : (p : Program) (c : TypeTree) (x : Scalar) (w : TypeTree) (e' e : TermTree) (h : History) (b' b : List Bool) → ((n : ℕ) → TermsAct p (acts_from p n) (signal c (scalar x w)) e' none no_types e none no_types) → shown p (here e') h ≡ Some (bits b') → shown p (here e) h ≡ Some (bits b) → bits b' ≡ bits b
signal_differs p c x w e' e h b' b acts first second =
    let d = shown_is_so p (here e') h (bits b') first in
    let f = shown_is_so p (here e) h (bits b) second in
    let at = thunk_acts (from_turns p (suc d.0)) (signal c (scalar x w)) e' e none none no_types no_types (acts (suc d.0)) h h d.0 (bits b') refl d.1 in
    let there = bits_left p (suc d.0) d.0 x w b' (thunk_has p (here e) h) (omega arith) (from_signal (from_turns p (suc d.0)) d.0 c (scalar x w) (bits b') (thunk_has p (here e) h) at) in
    (forces_once there.1 f.1).1

one_is_not_zero : bits (bits_of 8 1) ≡ bits (bits_of 8 0) → ⊥
one_is_not_zero e = cc

one_is_not_two : bits (bits_of 8 1) ≡ bits (bits_of 8 2) → ⊥
one_is_not_two e = cc

pub on_each_argument : OnEachArgument
unfolding sub eval natural_value
on_each_argument acts =
    one_is_not_zero (scalar_differs bare _ _ (app (lam byte (var 0)) one) (app (lam byte (number 8 0)) one) [] (bits_of 8 1) (bits_of 8 0)
    (λ n. app_acts (from_turns bare n) byte byte (lam byte (var 0)) (lam byte (number 8 0)) one one none none no_types no_types (acts n no_types none none tt (no_names bare (acts_from bare n) (λ x. x) (λ x. x) no_types none none)) (lit_acts (from_turns bare n) _ (bits_of 8 1) _ refl none none no_types no_types))
    refl refl)

pub at_each_history : AtEachHistory
unfolding eval zero_by sub rename up natural_value evaluated
at_each_history acts =
    one_is_not_zero (signal_differs bare a_clock _ _ (counter a_clock) (pure a_clock byte (number 8 0)) (ticks 2) (bits_of 8 1) (bits_of 8 0)
    (λ n. acts n no_types none none tt (no_names bare (acts_from bare n) (λ x. x) (λ x. x) no_types none none)) refl refl)

pub in_each_word : InEachWord
unfolding eval zero_by sub rename up natural_value evaluated
in_each_word acts =
    one_is_not_two (signal_differs bare a_clock _ _ (memory_with 1) (memory_with 2) (ticks 2) (bits_of 8 1) (bits_of 8 2)
    (λ n. acts n no_types none none tt (no_names bare (acts_from bare n) (λ x. x) (λ x. x) no_types none none)) refl refl)

back : ActsAs bare byte one_again one
unfolding sub natural_value
back n δ γ' γ known names h' h m v al d =
    let q = evals_once d (e_app e_lam (a_closure (e_var refl (f_closed e_lit)))) in
    subst (λ v. later m (acts_from bare n) zero byte v (term_has bare one γ δ h)) (sym q.1) (bits_act (from_turns bare n) m _ _ (bits_of 8 1) (term_has bare one γ δ h) refl (1, e_lit))

two_bits_differ : (b : List Bool) → bits (bits_of 2 0) ≡ bits b → length b ≡ 1 → ⊥
two_bits_differ [] e wide = cc
two_bits_differ (x ∷ []) e wide = cc
two_bits_differ (x ∷ (y ∷ b)) e wide = absurd (let bad : ⊥ = omega (arith, wide) in bad)

pub at_its_width : AtItsWidth
unfolding sub natural_value
at_its_width acts =
    let found = (left bare 2 1 _ (bits (bits_of 2 0)) (term_has bare (number 2 0) none no_types []) (omega arith) (acts 2 no_types none none tt (no_names bare (acts_from bare 2) (λ x. x) (λ x. x) no_types none none) [] [] 1 (bits (bits_of 2 0)) tt e_lit)).asked in
    two_bits_differ found.0 found.1 found.3

pub in_other_turns : InOtherTurns
in_other_turns = record { forth = forth; back = back }
