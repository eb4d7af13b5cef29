use Rattle.wave_text.proofs.NoBoth.{one_wave as shown}
use Rattle.wave_text.proofs.laws.one_wave.Goals as goal

pub returns : goal.returns
returns c = shown
