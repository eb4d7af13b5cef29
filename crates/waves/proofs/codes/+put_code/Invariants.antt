-- the number falls
use Rattle.waves.proofs.codes.+put_code.Given as goal

abbrev pub decreases-put_code : goal.decreases-put_code
decreases-put_code l = l.number
