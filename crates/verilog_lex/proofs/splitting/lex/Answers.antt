use Rattle.std.proofs.Common.{ℕ, ◌+◌, ◌-◌, List, length, take, drop, is_ok, sym, ap, subst, ◌∙◌}
use Rattle.std.proofs.ResultArms.{chosen}
use Rattle.std.proofs.lemmas.List.{map-append, take_rest}
use Rattle.verilog_lex.specs.Scanning.{IsPiece}
use Rattle.verilog_lex.specs.Shown.{placed, placed_of, token_of}
use Rattle.verilog_lex.specs.declared.piece.Piece.{Piece}
use Rattle.verilog_lex.specs.declared.piece.Piece.TheVariants.{LastComment, Nothing, Space, Word}
use Rattle.verilog_lex.proofs.Splits.{SplitsBefore, end_step, fault_step, last_step, space_step, token_step}
use Rattle.verilog_lex.proofs.splitting.lex.Goals as goal

piece_of_rest : (text : List ℕ) (at : ℕ) (piece : Piece) → IsPiece (take (length text - at) (drop at text)) piece → IsPiece (drop at text) piece
piece_of_rest text at piece = let P : List ℕ → Type 0 = λ rest. IsPiece rest piece in subst P (take_rest text at)

pub loop-at-preserved-in-Space : goal.loop-at-preserved-in-Space
loop-at-preserved-in-Space c =
    let space = piece_of_rest c.args.text.now c.loop-at.at (Space c.in-Space.len) c.in-Space.ensures in
    space_step c.args.text.now c.loop-at.at (placed c.loop-at.tokens.items) c.loop-at.invariant c.in-Space.len space.1 space.2

pub loop-at-preserved : goal.loop-at-preserved
loop-at-preserved c =
    let found = piece_of_rest c.args.text.now c.loop-at.at (Word c.in-Word.token c.in-Word.len) c.in-Word.ensures in
    let pushed = chosen _ _ _ _ c.push.ensures.items (ap is_ok c.in_ok-push-in-Word.was) in
    let shown = ap placed pushed ∙ map-append placed_of c.loop-at.tokens.items _ in
    subst (SplitsBefore c.args.text.now (c.loop-at.at + c.in-Word.len)) (sym shown)
    (token_step c.args.text.now c.loop-at.at (placed c.loop-at.tokens.items) c.loop-at.invariant (token_of c.in-Word.token) c.in-Word.len found)

pub returns-in-LastComment-clause-tokens : goal.returns-in-LastComment-clause-tokens
returns-in-LastComment-clause-tokens c =
    let last = piece_of_rest c.args.text.now c.loop-at.at LastComment c.in-LastComment.ensures in
    last_step c.args.text.now c.loop-at.at (placed c.loop-at.tokens.items) c.loop-at.invariant last

pub returns-in-Nothing-clause-fault : goal.returns-in-Nothing-clause-fault
returns-in-Nothing-clause-fault c =
    let fault = piece_of_rest c.args.text.now c.loop-at.at Nothing c.in-Nothing.ensures in
    fault_step c.args.text.now c.loop-at.at (placed c.loop-at.tokens.items) c.loop-at.invariant fault

pub returns-clause-tokens : goal.returns-clause-tokens
returns-clause-tokens c =
    end_step c.args.text.now c.loop-at.at (placed c.loop-at.tokens.items) c.loop-at.invariant c.loop-at-test.false
