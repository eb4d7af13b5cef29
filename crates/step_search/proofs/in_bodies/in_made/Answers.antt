use Rattle.std.proofs.Common.{◌≡◌, ◌∙◌, [], refl, reverse, sym, subst, IfOk}
use Rattle.chw_typing.specs.Scopes.{setting_in}
use Rattle.rewriting.specs.Named.{mode_of}
use Rattle.rewriting.specs.Origins.{origins_of}
use Rattle.trials.specs.Trials.{built}
use Rattle.step_search.specs.First.{adds_to, FindsFirst}
use Rattle.step_search.specs.FoundSteps.{LeadsToTyped}
use Rattle.step_search.specs.Lambdas.{under_lambdas}
use Rattle.step_search.specs.SeenPaths.{LooksAtPaths}
use Rattle.step_search.proofs.in_bodies.in_made.Goals as goal

pub under_lambdas-requires : goal.under_lambdas-requires
under_lambdas-requires g c =
    let s = setting_in c.args.ground.now.scene.now in
    let it = c.args.it.now in
    let empty : c.of.result ≡ [] = c.of.ensures ∙ c.new.ensures.items in
    record {
      ground = c.requires.ground;
      same = c.requires.same;
      result = refl;
      typed =
          subst (λ m. LeadsToTyped s m (reverse c.of.result) it.body it.ty) (sym c.mode_of.ensures)
          (subst (λ vs. LeadsToTyped s (mode_of it.sort) (reverse vs) it.body it.ty) (sym empty) c.requires.typed);
    }

pub returns : goal.returns
returns g c =
    let o = origins_of c.args.ground.now.scene.now in
    let it = c.args.it.now in
    let empty : c.of.result ≡ [] = c.of.ensures ∙ c.new.ensures.items in
    record {
      first =
          subst (λ vs. IfOk c.under_lambdas.result (FindsFirst built o (adds_to c.args.ground.now.scene.now) (under_lambdas o (mode_of it.sort) (reverse vs) it.body it.ty) c.args.from.now)) empty
          (subst (λ m. IfOk c.under_lambdas.result (FindsFirst built o (adds_to c.args.ground.now.scene.now) (under_lambdas o m (reverse c.of.result) it.body it.ty) c.args.from.now)) c.mode_of.ensures
          c.under_lambdas.ensures.first);
      looks =
          subst (λ vs. LooksAtPaths built o (under_lambdas o (mode_of it.sort) (reverse vs) it.body it.ty) c.args.from.now (g.R.Looks.looks c.args.rules.now) (g.R.Looks.looks c.under_lambdas.new.rules)) empty
          (subst (λ m. LooksAtPaths built o (under_lambdas o m (reverse c.of.result) it.body it.ty) c.args.from.now (g.R.Looks.looks c.args.rules.now) (g.R.Looks.looks c.under_lambdas.new.rules)) c.mode_of.ensures
          c.under_lambdas.ensures.looks);
    }
