use Rattle.std.proofs.Common.{[], ◌∷◌}
use Rattle.bit_nodes.specs.Standing.{name_of}
use Rattle.blif_text.proofs.Printing.{words_written}
use Rattle.blif_text.proofs.words.put_three.Goals as goal

pub returns : goal.returns
returns c =
    let flat = c.args.flat.now in
    words_written c.args.out.now.items (name_of flat c.args.a ∷ name_of flat c.args.b ∷ []) (name_of flat c.args.c ∷ []) _ _
    c.in_ok-put_two.ensures c.in_ok-put_word.ensures
