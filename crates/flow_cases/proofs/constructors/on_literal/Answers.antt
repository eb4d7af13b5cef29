use Rattle.std.proofs.Common.{◌∙◌, sym, refl, length, eqb-true}
use Rattle.std.proofs.lemmas.List.{nil_from_length}
use Rattle.chw_terms.specs.TermView.{alts_of}
use Rattle.flow_cases.specs.Taken.{branch_of}
use Rattle.flow_cases.proofs.Inversions.{bare_literal_taken, literal_applied}
use Rattle.flow_cases.proofs.Makings.{bare_literal_made, not_empty}
use Rattle.flow_cases.proofs.constructors.on_literal.Goals as goal

pub returns-then-not-is_empty : goal.returns-then-not-is_empty
returns-then-not-is_empty c o at e' m =
    let args = c.args.args.now in
    literal_applied o at c.args.sort c.args.bits.now args (alts_of c.args.alts.now) e' (λ any. c.requires any.0 any.1)
    (not_empty args (length args) refl (sym c.is_empty.ensures ∙ c.if-not-is_empty.true)) m

pub returns-in_ok-copy-in-Some : goal.returns-in_ok-copy-in-Some
returns-in_ok-copy-in-Some c o at =
    let args = c.args.args.now in
    bare_literal_made o at c.args.sort c.args.bits.now args (alts_of c.args.alts.now) (branch_of c.in-Some.alt.now) c.in_ok-copy-in-Some.field-0
    (nil_from_length _ (eqb-true (length args) 0 (sym c.is_empty.ensures ∙ c.if-not-is_empty.false))) c.in-Some.ensures c.in_ok-copy-in-Some.ensures

pub returns-in-None : goal.returns-in-None
returns-in-None c o at e' m =
    let args = c.args.args.now in
    let taken = bare_literal_taken o at c.args.sort c.args.bits.now args (alts_of c.args.alts.now) e' (λ any. c.requires any.0 any.1)
    (nil_from_length _ (eqb-true (length args) 0 (sym c.is_empty.ensures ∙ c.if-not-is_empty.false))) m in
    c.in-None.ensures taken.0 taken.1
