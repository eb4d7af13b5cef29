use Rattle.std.proofs.Common.{ℕ, ◌+◌, ◌-◌, List, length, take, drop, is_ok, sym, ap, subst, arith}
use Rattle.std.proofs.ResultArms.{chosen}
use Rattle.std.proofs.lemmas.List.{take_rest}
use Rattle.chw_lexer.specs.Tokens.{TokensFrom}
use Rattle.chw_lexer.specs.Scanning.{IsPiece}
use Rattle.chw_lexer.specs.declared.piece.Piece.{Piece}
use Rattle.chw_lexer.specs.declared.piece.Piece.TheVariants.{Space, LastComment, Word, Nothing}
use Rattle.chw_lexer.proofs.Splits.{SplitsBefore, space_step, word_step, last_step, end_step, fault_step}
use Rattle.chw_lexer.proofs.Uniqueness.{in_order}
use Rattle.chw_lexer.proofs.splitting.lex.Goals as goal

piece_of_rest : (text : List ℕ) (at : ℕ) (piece : Piece) → IsPiece (take (length text - at) (drop at text)) piece → IsPiece (drop at text) piece
piece_of_rest text at piece = let P : List ℕ → Type 0 = λ rest. IsPiece rest piece in subst P (take_rest text at)

pub loop-at-preserved-in-Space : goal.loop-at-preserved-in-Space
loop-at-preserved-in-Space c =
    let space = piece_of_rest c.args.text.now c.loop-at.at (Space c.in-Space.len) c.in-Space.ensures in
    space_step c.args.text.now c.loop-at.at c.loop-at.tokens.items c.loop-at.invariant c.in-Space.len space.1 space.2

pub loop-at-preserved : goal.loop-at-preserved
loop-at-preserved c =
    let found = piece_of_rest c.args.text.now c.loop-at.at (Word c.in-Word.sort c.in-Word.len) c.in-Word.ensures in
    let pushed = chosen _ _ _ _ c.push.ensures.items (ap is_ok c.in_ok-push-in-Word.was) in
    subst (SplitsBefore c.args.text.now (c.loop-at.at + c.in-Word.len)) (sym pushed)
    (word_step c.args.text.now c.loop-at.at c.loop-at.tokens.items c.loop-at.invariant c.in-Word.sort c.in-Word.len found)

pub returns-in-LastComment-clause-tokens : goal.returns-in-LastComment-clause-tokens
returns-in-LastComment-clause-tokens c =
    let last = piece_of_rest c.args.text.now c.loop-at.at LastComment c.in-LastComment.ensures in
    let tokens = last_step c.args.text.now c.loop-at.at c.loop-at.tokens.items c.loop-at.invariant last in
    subst (TokensFrom 0 c.args.text.now) (sym c.into.ensures) tokens

pub returns-in-LastComment-clause-in_order : goal.returns-in-LastComment-clause-in_order
returns-in-LastComment-clause-in_order c = in_order (returns-in-LastComment-clause-tokens c) _ (omega arith)

pub returns-in-Nothing-clause-fault : goal.returns-in-Nothing-clause-fault
returns-in-Nothing-clause-fault c =
    let fault = piece_of_rest c.args.text.now c.loop-at.at Nothing c.in-Nothing.ensures in
    fault_step c.args.text.now c.loop-at.at c.loop-at.tokens.items c.loop-at.invariant fault

pub returns-clause-tokens : goal.returns-clause-tokens
returns-clause-tokens c =
    let tokens = end_step c.args.text.now c.loop-at.at c.loop-at.tokens.items c.loop-at.invariant c.loop-at-test.false in
    subst (TokensFrom 0 c.args.text.now) (sym c.into-2.ensures) tokens

pub returns-clause-in_order : goal.returns-clause-in_order
returns-clause-in_order c = in_order (returns-clause-tokens c) _ (omega arith)
