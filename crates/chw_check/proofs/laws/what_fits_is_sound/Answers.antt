use Rattle.chw_check.proofs.FittingPrograms.{fits_sound}
use Rattle.chw_check.proofs.laws.what_fits_is_sound.Goals as goal

pub returns : goal.returns
returns c p tidy fits = fits_sound p tidy fits
