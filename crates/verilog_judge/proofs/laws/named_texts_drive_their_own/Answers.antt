use Rattle.verilog_judge.proofs.Driving.{drive_their_own}
use Rattle.verilog_judge.proofs.laws.named_texts_drive_their_own.Goals as goal

pub returns : goal.returns
returns c = drive_their_own
