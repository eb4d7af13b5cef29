use Rattle.std.proofs.Common.{◌∙◌, ◌++◌, ap}
use Rattle.chw_terms.specs.TermMoves.{rename}
use Rattle.open_letrec.specs.Places.{index_of}
use Rattle.open_letrec.specs.Stored.{shown}
use Rattle.open_letrec.proofs.Stored.{closed, stored_for, shown_stored_term}
use Rattle.open_letrec.proofs.opened.OpenLetrec.close.Goals as goal

pub returns-clause-group : goal.returns-clause-group
returns-clause-group c =
    let o = c.self.inside in
    let f = stored_for o c.args.self c.self.invariant c.self.view_is in
    c.in_ok-move_group.ensures
    ∙ ap (shown o.places) (c.in_ok-append.ensures.items ∙ ap (λ xs. o.settled.items ++ xs) c.turn.ensures)
    ∙ closed o.places o.settled.items o.waiting.items o.body c.args.self f.stored

pub returns-clause-body : goal.returns-clause-body
returns-clause-body c =
    let o = c.self.inside in
    let f = stored_for o c.args.self c.self.invariant c.self.view_is in
    c.in_ok-move_term.ensures ∙ ap (λ e. rename e (index_of o.places)) f.stored.body ∙ shown_stored_term o.places f.stored.agrees c.args.self.body
