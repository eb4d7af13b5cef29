use Rattle.std.proofs.Common.{refl, sym, subst, IfOk}
use Rattle.trials.specs.Trials.{built}
use Rattle.step_search.specs.Finding.{Suits}
use Rattle.step_search.specs.FoundSteps.{FindsNext}
use Rattle.step_search.specs.Seen.{LooksFrom}
use Rattle.chw_norm.proofs.Between.{scene_is_typed}
use Rattle.chw_norm.proofs.progress.Progress.next.Goals as goal

pub next-found-requires-clause-typed : goal.next-found-requires-clause-typed
next-found-requires-clause-typed g c =
    scene_is_typed (record { program = c.args.self.now.program; made = c.list.result })
    c.args.self.now refl c.list.ensures c.requires.between

pub next-found-requires-clause-suits : goal.next-found-requires-clause-suits
next-found-requires-clause-suits g c =
    subst (λ ms. Suits c.args.self.now.program.now ms c.args.finder.now) (sym c.list.ensures)
    c.requires.suits

pub returns : goal.returns
returns g c =
    let p = c.args.self.now.program.now in
    let finder = c.args.finder.now in
    record {
      first = subst (λ ms. IfOk c.next-found.result (FindsNext built p ms)) c.list.ensures
          c.next-found.ensures.first;
      moves = c.next-found.ensures.moves;
      looks =
          subst (λ ms. LooksFrom built p ms finder.made.number finder.path.items
          (g.R.Looks.looks c.args.rules.now) (g.R.Looks.looks c.next-found.new.rules))
          c.list.ensures c.next-found.ensures.looks;
    }
