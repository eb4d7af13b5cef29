use Rattle.std.proofs.Common.{◌≡◌, length, sym, ap, ◌∙◌, subst, eqb-true, arith}
use Rattle.std.specs.Vec.{vec_len}
use Rattle.chw_terms.specs.TermView.{tree_of, applied}
use Rattle.chw_typing.specs.Scopes.{setting_in}
use Rattle.term_frames.specs.Numbers.{IsNumberFound}
use Rattle.term_frames.proofs.Numbered.{no_items}
use Rattle.term_frames.proofs.numbering.number_of_term.Goals as goal

pub returns-then-is_empty : goal.returns-then-is_empty
returns-then-is_empty c scene h =
    let head = tree_of c.term.inside.head in
    let args = c.term.inside.args in
    let counted : vec_len args ≡ length args.items = omega (arith, args.ok.0) in
    let none = no_items args.items (sym counted ∙ eqb-true (vec_len args) 0 (sym c.is_empty.ensures ∙ c.if-is_empty.true)) in
    let is : head ≡ c.args.term.now = sym (ap (applied head) none) ∙ c.term.view_is in
    subst (IsNumberFound (setting_in scene) c.args.signature.now.numbering.types c.number_of_head.result) is (c.number_of_head.ensures scene h)
