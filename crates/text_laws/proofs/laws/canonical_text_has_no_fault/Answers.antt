use Rattle.std.specs.Prelude.{◌≤◌, length}
use Rattle.std.proofs.Common.{arith}
use Rattle.chw_grammar.specs.Height.{tree_height}
use Rattle.chw_grammar.specs.Lexemes.{lexemes_of}
use Rattle.chw_grammar.specs.Text.{Text}
use Rattle.text_laws.proofs.Heights.{same_height}
use Rattle.text_laws.proofs.NoFault.{no_fault}
use Rattle.text_laws.proofs.laws.canonical_text_has_no_fault.Goals as goal

pub returns : goal.returns
returns c = λ text tokens others tree fault split read low others_split found.
    let again = c.canonical_text_reads_back.ensures text tokens others tree split read others_split in
    let shallow = c.canonical_text_is_shallow.ensures text tokens others tree split read low others_split in
    let as_low : tree_height again.0 ≤ 200 = omega (arith, same_height again.0 tree again.2, low) in
    no_fault (length (Text tree)) (lexemes_of (Text tree) others) again.0 fault again.1 shallow as_low (c.one_tree.ensures (lexemes_of (Text tree) others)) found
