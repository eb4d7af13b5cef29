use Rattle.chw_grammar.proofs.TreesBack.{tree_back}
use Rattle.chw_grammar.proofs.laws.canonical_tokens_read_back.Goals as goal

pub returns : goal.returns
returns c = tree_back
