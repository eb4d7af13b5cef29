use Rattle.std.proofs.Common.{◌≡◌, ◌∙◌, ◌∷◌, ◌++◌, ap, sym, subst, List, ℕ}
use Rattle.std.proofs.lemmas.Result.{on_ok_weaker}
use Rattle.net_build.specs.Tasks.{AreUsesOf, in_turn, visits}
use Rattle.net_build.specs.declared.order.Task.TheVariants.{Place}
use Rattle.net_build.proofs.Tasks.{next_task}
use Rattle.net_build.proofs.order.open_uses.Goals as goal

pub returns : goal.returns
returns c =
    let made = c.args.made.now in
    let m = c.args.m in
    let old = c.args.todo.now.items in
    let uses = c.deref.result.now in
    let placed : in_turn c.push.new.self.items ≡ Place m ∷ in_turn old = ap in_turn c.in_ok-push.ensures.items ∙ next_task old (Place m) in
    on_ok_weaker c.push_visits.result
    (λ are. record {
      uses = uses;
      of = subst (λ (us : List ℕ). AreUsesOf made m us) (sym c.deref.ensures.value) c.in_ok-uses.ensures;
      are = are ∙ (λ i. visits uses ++ placed i);
    })
    c.push_visits.ensures
