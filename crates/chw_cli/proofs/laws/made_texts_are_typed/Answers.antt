use Rattle.chw_cli.proofs.MakeRefusals.{made_texts_typed}
use Rattle.chw_cli.proofs.laws.made_texts_are_typed.Goals as goal

pub returns : goal.returns
returns c =
    made_texts_typed c.made_texts_are_descriptions.ensures c.made_texts_have_the_tree.ensures c.made_names_are_known.ensures
    c.made_programs_are_there.ensures c.made_programs_are_typed.ensures
