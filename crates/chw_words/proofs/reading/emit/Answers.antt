use Rattle.clap.specs.Matches.{found_of}
use Rattle.clap.specs.Walk.{rows_of}
use Rattle.chw_words.specs.Parsing.{emit}
use Rattle.chw_words.proofs.reading.emit.Goals as goal

pub returns-clause-command : goal.returns-clause-command
returns-clause-command c = emit (rows_of (found_of c.args.matches.now)) _ _ c.in_ok-file.ensures.budgeted
