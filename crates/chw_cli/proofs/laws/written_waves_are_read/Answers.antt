use Rattle.chw_cli.proofs.WavesRead.{written_waves_are_read}
use Rattle.chw_cli.proofs.laws.written_waves_are_read.Goals as goal

pub returns : goal.returns
returns c = written_waves_are_read c.words_are_one_command.ensures c.one_program.ensures c.waves_are_read.ensures
