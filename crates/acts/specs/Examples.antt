-- Worked examples of terms that act as others, and of terms that don't.
use Rattle.std.specs.Prelude.{ℕ, [], ◌∷◌}
use Rattle.chw_types.specs.TypeTree.{fun}
use Rattle.chw_prims.specs.Schemas.{maybe, pair}
use Rattle.chw_prims.specs.declared.prim.Primitive.TheVariants.{BlockRam}
use Rattle.chw_terms.specs.TermTree.{TermTree, var, lam, app, vec_lit, no_terms, term_and}
use Rattle.chw_meaning.specs.Writing.{bare, nat, unsigned, number, signal_in, pure, prim_on, con_on}
use Rattle.chw_meaning.specs.Designs.{byte, a_clock, counter}
use Rattle.acts.specs.Terms.{ActsAs}

-- `1u8` acts as `(\(x : byte) . x) 1u8`, and this acts as that, though they take other turns
pub record InOtherTurns : Type 0 where
  pub forth : ActsAs bare byte (number 8 1) (app (lam byte (var 0)) (number 8 1))
  pub back : ActsAs bare byte (app (lam byte (var 0)) (number 8 1)) (number 8 1)

-- `\(x : byte) . x` doesn't act as `\(x : byte) . 0u8`, though they agree on 0
abbrev pub OnEachArgument : Type 0
OnEachArgument =
    ActsAs bare (fun byte byte) (lam byte (var 0)) (lam byte (number 8 0)) → ⊥

-- a counter doesn't act as a signal that is always 0, though both are 0 at the first event
abbrev pub AtEachHistory : Type 0
AtEachHistory =
    ActsAs bare (signal_in 0 byte) (counter a_clock) (pure a_clock byte (number 8 0)) → ⊥

-- a word of two bits doesn't act as itself at a type of one bit
abbrev pub AtItsWidth : Type 0
AtItsWidth = ActsAs bare (unsigned 1) (number 2 0) (number 2 0) → ⊥

-- a memory of 0 and this byte, which is read at 1 and never written
abbrev pub memory_with : ℕ → TermTree
memory_with n =
    prim_on BlockRam (a_clock ∷ nat 1 ∷ nat 1 ∷ byte ∷ [])
    (vec_lit byte (term_and (number 8 0) (term_and (number 8 n) no_terms))
    ∷ pure a_clock (unsigned 1) (number 1 1)
    ∷ pure a_clock (maybe (pair (unsigned 1) byte)) (con_on 2 (pair (unsigned 1) byte ∷ []) [])
    ∷ [])

-- it doesn't act as one with another byte, though their first bytes are the same
abbrev pub InEachWord : Type 0
InEachWord = ActsAs bare (signal_in 0 byte) (memory_with 1) (memory_with 2) → ⊥
