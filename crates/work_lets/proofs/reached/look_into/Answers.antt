use Rattle.std.proofs.Common.{get_or, subst}
use Rattle.std.proofs.lemmas.Option.{get_or_from_slice_get}
use Rattle.std.proofs.lemmas.Result.{on_ok_weaker}
use Rattle.chw_terms.specs.declared.term.Binding.{Binding}
use Rattle.chw_terms.specs.Occurs.{occurs}
use Rattle.work_lets.specs.Searching.{Noted}
use Rattle.work_lets.proofs.reached.look_into.Goals as goal

pub returns : goal.returns
returns c =
    let bs = c.args.bindings.now in
    let x = c.index-bindings-place.result in
    on_ok_weaker c.look_at.result
    (λ (n : Noted c.args.search.now (occurs (get_or bs c.args.place x).body) c.look_at.new.search) b at.
    subst (λ (b : Binding). Noted c.args.search.now (occurs b.body) c.look_at.new.search) (get_or_from_slice_get bs c.args.place b x at) n)
    c.look_at.ensures
