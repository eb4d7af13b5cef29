-- the rows so far, with those that are left
use Rattle.std.proofs.Common.{◌≡◌, ◌++◌, drop}
use Rattle.blif_text.specs.BlifText.{first_rows}
use Rattle.blif_read.specs.Shown.{all_said}
use Rattle.blif_read.proofs.bitnet.first_rows.Given as goal

abbrev pub invariant-loop-it : goal.invariant-loop-it
invariant-loop-it l = l.rows.items ++ first_rows (all_said (drop l.it-index l.others)) ≡ first_rows (all_said l.others)
