use Rattle.std.proofs.Common.{length, reverse, map}
use Rattle.std.specs.Prelude.{zip}
use Rattle.net_built.specs.Data.{last_of}
use Rattle.net_built.specs.Words.{only}
use Rattle.net_pieces.proofs.Choosing.{behind_no_choice}
use Rattle.net_pieces.proofs.choices.chosen.Goals as goal

pub returns-then-width-eq0 : goal.returns-then-width-eq0
returns-then-width-eq0 c =
    behind_no_choice c.args.into.now c.args.width
    (reverse (zip c.args.tested.now (map only c.args.results.now)))
    (only (last_of c.args.results.now)) (length c.args.into.now.widths) c.if-width-eq0.true
