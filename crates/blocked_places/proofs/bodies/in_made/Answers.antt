use Rattle.std.proofs.Common.{◌≡◌, ◌∙◌, [], refl, reverse, sym, subst, IfOk}
use Rattle.chw_typing.specs.Scopes.{setting_in}
use Rattle.rewriting.specs.Named.{mode_of}
use Rattle.rewriting.specs.Origins.{origins_of}
use Rattle.blocked_places.specs.Walks.{FindsFirst, InBody, LeadsToTyped}
use Rattle.blocked_places.proofs.bodies.in_made.Goals as goal

pub in_lambdas-requires : goal.in_lambdas-requires
in_lambdas-requires c =
    let s = setting_in c.args.ground.now.scene.now in
    let it = c.args.it.now in
    let empty : c.of.result ≡ [] = c.of.ensures ∙ c.new.ensures.items in
    record {
      ground = c.requires.ground;
      result = refl;
      typed =
          subst (λ m. LeadsToTyped s m (reverse c.of.result) it.body it.ty) (sym c.mode_of.ensures)
          (subst (λ vs. LeadsToTyped s (mode_of it.sort) (reverse vs) it.body it.ty) (sym empty) c.requires.typed);
      widths = c.requires.widths;
    }

pub returns-clause-first : goal.returns-clause-first
returns-clause-first c =
    let o = origins_of c.args.ground.now.scene.now in
    let it = c.args.it.now in
    let empty : c.of.result ≡ [] = c.of.ensures ∙ c.new.ensures.items in
    subst (λ vs. IfOk c.in_lambdas.result (FindsFirst (InBody o (mode_of it.sort) (reverse vs) it.body it.ty))) empty
    (subst (λ m. IfOk c.in_lambdas.result (FindsFirst (InBody o m (reverse c.of.result) it.body it.ty))) c.mode_of.ensures
    c.in_lambdas.ensures.first)
