use Rattle.bit_nodes.specs.Standing.{name_of}
use Rattle.blif_text.proofs.Printing.{word_written}
use Rattle.blif_text.proofs.words.put_word.Goals as goal

pub returns : goal.returns
returns c = word_written c.args.out.now.items (name_of c.args.flat.now c.args.name) _ _ c.in_ok-put.ensures c.in_ok-put_name.ensures
