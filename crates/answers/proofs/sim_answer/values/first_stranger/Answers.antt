use Rattle.std.proofs.Common.{◌≡◌, ◌<◌, length, map, sym, subst, ◌∙◌}
use Rattle.std.specs.List.{AllByRecursion}
use Rattle.std.specs.Prelude.{IfOk, IfSome, IfNone}
use Rattle.data_forms.specs.Forms.{AreForms, type_at}
use Rattle.data_forms.proofs.Tables.{no_forms}
use Rattle.answers.specs.SimAnswer.Simulation.{HasValues}
use Rattle.answers.specs.SimAnswer.Types.{AllAreSized, IsFirstStranger}
use Rattle.answers.proofs.sim_answer.values.first_stranger.Goals as goal

pub put_forms-requires-clause-forms : goal.put_forms-requires-clause-forms
put_forms-requires-clause-forms c = no_forms c.args.datas.now c.new-forms.result.items c.new-forms.ensures.items

pub first_untaken-found-requires : goal.first_untaken-found-requires
first_untaken-found-requires c =
    let datas = c.args.datas.now in
    let at = c.in_ok-places.ensures.at in
    let forms = c.deref.ensures.value in
    let places = c.deref-2.ensures.value in
    let types : map (type_at c.deref.result.now) c.deref-2.result.now ≡ c.args.types.now = (λ i. map (type_at (forms i)) (places i)) ∙ at.are in
    record {
      order = c.requires.order;
      forms = subst (AreForms datas) (sym forms) c.in_ok-places.ensures.forms;
      places = subst (λ fs. AllByRecursion (λ n. n < length fs) c.deref-2.result.now) (sym forms)
          (subst (AllByRecursion (λ n. n < length c.put_forms.new.forms.items)) (sym places) at.below);
      widths = subst (λ ts. AllAreSized datas ts c.args.events.now) (sym types) c.requires.widths;
    }

pub returns : goal.returns
returns c =
    let datas = c.args.datas.now in
    let events = c.args.events.now in
    let forms = c.deref.ensures.value in
    let places = c.deref-2.ensures.value in
    let types : map (type_at c.deref.result.now) c.deref-2.result.now ≡ c.args.types.now = (λ i. map (type_at (forms i)) (places i)) ∙ c.in_ok-places.ensures.at.are in
    record {
      some = subst (λ ts. IfOk c.first_untaken-found.result (λ r. IfSome r (IsFirstStranger datas ts events))) types c.first_untaken-found.ensures.some;
      none = subst (λ ts. IfOk c.first_untaken-found.result (λ r. IfNone r (AllByRecursion (HasValues datas ts) events))) types c.first_untaken-found.ensures.none;
    }
