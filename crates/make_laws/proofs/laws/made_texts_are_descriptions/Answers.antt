use Rattle.std.specs.Prelude.{◌≡◌, ◌≤◌, ℕ, List}
use Rattle.std.proofs.Common.{subst, sym}
use Rattle.chw_base.specs.declared.limits.TheConstants.{NESTING}
use Rattle.chw_lexer.specs.Tokens.{Tokens}
use Rattle.chw_lexer.specs.declared.token.Token.{Token}
use Rattle.chw_grammar.specs.Grammar.{Reads}
use Rattle.chw_grammar.specs.Height.{tree_height}
use Rattle.chw_grammar.specs.Lexemes.{lexemes_of}
use Rattle.chw_grammar.specs.Text.{Text}
use Rattle.chw_grammar.specs.declared.program.Tree.{Tree}
use Rattle.chw_parser.specs.Faults.{Shallow}
use Rattle.make_text.specs.MakeText.{make_text}
use Rattle.make_text.specs.MakeTree.{make_tree}
use Rattle.make_laws.proofs.Low.{made_low}
use Rattle.make_laws.proofs.laws.made_texts_are_descriptions.Goals as goal

pub returns : goal.returns
returns c = λ taps small.
    let text : List ℕ = make_text taps in
    let read = c.made_texts_are_read.ensures taps small in
    let tree = read.1 in
    let others = c.canonical_text_splits.ensures text read.0 tree read.2 read.3 in
    let again = c.canonical_text_reads_back.ensures text read.0 others.0 tree read.2 read.3 others.1 in
    let low : tree_height tree ≤ NESTING = subst (λ (n : ℕ). n ≤ NESTING) (sym (c.places_have_no_height.ensures tree (make_tree taps) read.4)) (made_low taps) in
    let shallow = c.canonical_text_is_shallow.ensures text read.0 others.0 tree read.2 read.3 low others.1 in
    let again_low : tree_height again.0 ≤ NESTING = subst (λ (n : ℕ). n ≤ NESTING) (sym (c.places_have_no_height.ensures again.0 tree again.2)) low in
    let texts_are : Text tree ≡ text = c.places_do_not_show.ensures tree (make_tree taps) read.4 in
    subst (λ (z : List ℕ). (tokens : List Token) × (t : Tree) × Tokens z tokens × Reads (lexemes_of z tokens) t × Shallow (lexemes_of z tokens) × (tree_height t ≤ NESTING)) texts_are
    (others.0, again.0, others.1, again.1, shallow, again_low)
