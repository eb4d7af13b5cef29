use Rattle.std.proofs.Common.{◌≡◌, ◌∙◌, [], ap, refl, reverse, sym, subst, true}
use Rattle.rewriting.specs.Named.{mode_of}
use Rattle.step_search.specs.FoundSteps.{LeadsToTyped}
use Rattle.chw_norm.specs.GoingOn.{IsEntered}
use Rattle.chw_norm.proofs.Topmost.{top_there}
use Rattle.chw_norm.proofs.top.top_of.Goals as goal

pub enter_top-requires : goal.enter_top-requires
enter_top-requires c =
    let it = c.args.it.now in
    let empty : c.of.result ≡ [] = c.of.ensures ∙ c.new.ensures.items in
    let s = c.requires.typed.0 in record {
      typed = (
        s,
        subst (λ m. LeadsToTyped s m (reverse c.of.result) it.body it.ty) (sym c.mode_of.ensures)
            (subst (λ vs. LeadsToTyped s (mode_of it.sort) (reverse vs) it.body it.ty) (sym empty) c.requires.typed.1),
      );
    }

pub returns : goal.returns
returns c =
    let it = c.args.it.now in
    let empty : c.of.result ≡ [] = c.of.ensures ∙ c.new.ensures.items in
    top_there it (record { mode = c.mode_of.result; result = true; vars = c.of.result })
    c.enter_top.new.place c.enter_top.new.path.items c.mode_of.ensures refl (ap reverse empty)
    (subst (λ q. IsEntered (record { mode = c.mode_of.result; result = true; vars = c.of.result })
    c.enter_top.new.place q c.enter_top.new.path.items it.body it.ty) c.new-path.ensures.items
    c.in_ok-joined.ensures)
