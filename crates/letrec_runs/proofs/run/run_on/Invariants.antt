-- so many steps are made, and there is room for the looks of one that isn't
use Rattle.std.proofs.Common.{◌≡◌, ◌*◌}
use Rattle.rewriting.specs.Origins.{origins_of}
use Rattle.rewriting.specs.Spots.{spot_of}
use Rattle.open_letrec.specs.Opened.{whole}
use Rattle.letrec_runs.specs.Runs.{Runs}
use Rattle.letrec_runs.specs.Rush.{place_in, IsResting}
use Rattle.letrec_runs.proofs.run.run_on.Given as goal

abbrev pub invariant-loop : goal.invariant-loop
invariant-loop g l = record {
  runs :
      Runs (origins_of l.scene) (spot_of l.place) (2 * l.counter) l.most l.top.made.number l.top.path.now (whole l.fn.rush.apart) (whole l.rush.apart)
      l.fn.trace.items l.trace.items (g.R.Looks.looks l.fn.rules) (g.R.Looks.looks l.rules) 0;
  rests : IsResting (origins_of l.scene) (spot_of l.place) l.most l.rush.apart;
  stands : l.rush.place ≡ place_in l.place l.rush.apart;
}
