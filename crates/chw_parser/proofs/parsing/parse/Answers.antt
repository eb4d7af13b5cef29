use Rattle.std.proofs.Common.{refl, arith, ap, ◌∙◌}
use Rattle.std.proofs.lemmas.List.Elements.{All-get_or}
use Rattle.chw_lexer.specs.Words.{LiesIn}
use Rattle.chw_grammar.specs.Lexemes.{terminal_of}
use Rattle.chw_parser.specs.Faults.{bracketed}
use Rattle.chw_parser.proofs.Whole.{state_first, progress_next, progress_last, token_wrong, too_deep, end_early, tree_at_end, low_tree, too_high}
use Rattle.chw_parser.proofs.parsing.parse.Goals as goal

pub loop-token-init : goal.loop-token-init
loop-token-init c = record { state = state_first _ _ _ c.in_ok-push.ensures c.new-stack.ensures c.new-parts.ensures; count = refl; few = omega arith; shallow = tt }

pub loop-token-preserved : goal.loop-token-preserved
loop-token-preserved c =
    progress_next c.args.text.now c.args.tokens.now c.loop-token.token-index _ c.loop-token.stack c.read.new.stack c.loop-token.parts c.read.new.parts c.in_ok-read.field-0
    c.loop-token.opened c.bracketed-opened.result c.loop-token-test.true c.loop-token.invariant c.in_ok-read.ensures c.if-not-branch.false
    (c.bracketed-opened.ensures ∙ ap (bracketed c.loop-token.opened) (c.of-terminal.ensures ∙ ap (terminal_of _) c.word.ensures)) c.if-opened-gt-NESTING.false

pub returns-then-opened-gt-NESTING-clause-fault : goal.returns-then-opened-gt-NESTING-clause-fault
returns-then-opened-gt-NESTING-clause-fault c =
    too_deep c.args.text.now c.args.tokens.now c.loop-token.token-index _ c.loop-token.stack c.read.new.stack c.loop-token.parts c.read.new.parts c.in_ok-read.field-0
    c.loop-token.opened c.bracketed-opened.result c.loop-token-test.true c.loop-token.invariant c.in_ok-read.ensures c.if-not-branch.false
    (c.bracketed-opened.ensures ∙ ap (bracketed c.loop-token.opened) (c.of-terminal.ensures ∙ ap (terminal_of _) c.word.ensures)) c.if-opened-gt-NESTING.true

pub read-requires : goal.read-requires
read-requires c =
    All-get_or (LiesIn c.args.text.now) c.args.tokens.now c.loop-token.token-index _ c.loop-token-test.true
    (c.tokens_lie_in.ensures c.args.text.now c.args.tokens.now c.requires.split)

pub returns-then-not-branch-clause-fault : goal.returns-then-not-branch-clause-fault
returns-then-not-branch-clause-fault c =
    token_wrong c.args.text.now _ c.args.tokens.now c.loop-token.token-index _ c.loop-token.stack c.read.new.stack c.loop-token.parts c.read.new.parts c.in_ok-read.field-0
    c.loop-token-test.true c.loop-token.invariant.state c.in_ok-read.ensures c.if-not-branch.true c.loop-token.invariant.shallow

pub returns-in_default : goal.returns-in_default
returns-in_default c =
    let st = progress_last c.args.text.now c.args.tokens.now c.loop-token.token-index c.loop-token.stack c.loop-token.parts c.loop-token.opened c.loop-token-test.false c.loop-token.invariant in
    record {
      tree = tt;
      shallow = tt;
      low = tt;
      fault = end_early _ _ _ c.loop-token.stack c.advance.new.stack c.loop-token.parts c.advance.new.parts c.in_ok-advance.field-0 st.state
          c.in_ok-advance.ensures c.in_default.not-Nothing st.shallow refl;
    }

pub returns-in-Some-clause-tree : goal.returns-in-Some-clause-tree
returns-in-Some-clause-tree c =
    let st = progress_last c.args.text.now c.args.tokens.now c.loop-token.token-index c.loop-token.stack c.loop-token.parts c.loop-token.opened c.loop-token-test.false c.loop-token.invariant in
    let t = tree_at_end _ c.loop-token.stack c.advance.new.stack c.loop-token.parts c.advance.new.parts c.in_ok-advance.field-0 st.state c.in_ok-advance.ensures c.in-Nothing.is in
    (low_tree _ c.in-Some.tree c.advance.new.parts t c.in-Some.ensures).0

pub returns-in-Some-clause-low : goal.returns-in-Some-clause-low
returns-in-Some-clause-low c =
    let st = progress_last c.args.text.now c.args.tokens.now c.loop-token.token-index c.loop-token.stack c.loop-token.parts c.loop-token.opened c.loop-token-test.false c.loop-token.invariant in
    let t = tree_at_end _ c.loop-token.stack c.advance.new.stack c.loop-token.parts c.advance.new.parts c.in_ok-advance.field-0 st.state c.in_ok-advance.ensures c.in-Nothing.is in
    (low_tree _ c.in-Some.tree c.advance.new.parts t c.in-Some.ensures).1

pub returns-in-Some-clause-shallow : goal.returns-in-Some-clause-shallow
returns-in-Some-clause-shallow c =
    let st = progress_last c.args.text.now c.args.tokens.now c.loop-token.token-index c.loop-token.stack c.loop-token.parts c.loop-token.opened c.loop-token-test.false c.loop-token.invariant in
    st.shallow

pub returns-clause-fault : goal.returns-clause-fault
returns-clause-fault c =
    let st = progress_last c.args.text.now c.args.tokens.now c.loop-token.token-index c.loop-token.stack c.loop-token.parts c.loop-token.opened c.loop-token-test.false c.loop-token.invariant in
    let t = tree_at_end _ c.loop-token.stack c.advance.new.stack c.loop-token.parts c.advance.new.parts c.in_ok-advance.field-0 st.state c.in_ok-advance.ensures c.in-Nothing.is in
    too_high _ t.0 t.1 st.shallow (c.in-None.ensures t.0 t.2)
