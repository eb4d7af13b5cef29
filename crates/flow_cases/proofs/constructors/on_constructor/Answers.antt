use Rattle.std.proofs.Common.{◌≡◌, ◌∙◌, ap, sym, subst, length, Some, None}
use Rattle.chw_terms.specs.Constructors.{Constructor, con_at}
use Rattle.chw_terms.specs.declared.term.Pattern.TheVariants.{OfCon}
use Rattle.chw_terms.specs.TermView.{alts_of}
use Rattle.con_places.specs.Constructing.{constructor_of}
use Rattle.rewriting.specs.Shapes.{IsTakenBy, with_fields}
use Rattle.flow_cases.specs.Given.{AreJust, types_in, terms_in}
use Rattle.flow_cases.specs.Moves.{fields_put}
use Rattle.flow_cases.specs.Taken.{branch_of}
use Rattle.flow_cases.proofs.Inversions.{constructed}
use Rattle.flow_cases.proofs.Just.{just_given}
use Rattle.flow_cases.proofs.Makings.{constructor_made}
use Rattle.flow_cases.proofs.constructors.on_constructor.Goals as goal

pub returns-in_default : goal.returns-in_default
returns-in_default c o at is e' m =
    let h = constructed o at c.args.at.number c.args.args.now (alts_of c.args.alts.now) e' (λ any. c.requires any.0 any.1) m in
    let none : con_at o.program.datas c.args.at.number ≡ None = subst (λ ds. con_at ds c.args.at.number ≡ None) (sym is) c.in_default.ensures in
    let some = h.at in
    absurd cc

pub returns-then-not-are_just : goal.returns-then-not-are_just
returns-then-not-are_just c o at is e' m =
    let it = c.in-Some.it in
    let args = c.args.args.now in
    let h = constructed o at c.args.at.number args (alts_of c.args.alts.now) e' (λ any. c.requires any.0 any.1) m in
    let there : con_at o.program.datas c.args.at.number ≡ Some (constructor_of it) = subst (λ ds. con_at ds c.args.at.number ≡ Some (constructor_of it)) (sym is) c.in-Some.ensures.is in
    let same : h.it ≡ constructor_of it = let found = h.at in cc in
    let just : AreJust c.len.result (length c.as_slice-fields.result.now) args =
    just_given args h.types h.es c.len.result (length c.as_slice-fields.result.now) h.are
    (h.on_types ∙ ap (λ (it : Constructor). length it.it.params) same ∙ sym c.len.ensures)
    (h.on_terms ∙ ap (λ (it : Constructor). length it.decl.fields) same ∙ sym (ap length c.as_slice-fields.ensures)) in
    let yes = c.are_just.ensures.1 just in
    let no = c.if-not-are_just.true in
    absurd cc

pub returns-in_default-first_taking : goal.returns-in_default-first_taking
returns-in_default-first_taking c o at is e' m =
    let it = c.in-Some.it in
    let alts = alts_of c.args.alts.now in
    let h = constructed o at c.args.at.number c.args.args.now alts e' (λ any. c.requires any.0 any.1) m in
    let there : con_at o.program.datas c.args.at.number ≡ Some (constructor_of it) = subst (λ ds. con_at ds c.args.at.number ≡ Some (constructor_of it)) (sym is) c.in-Some.ensures.is in
    let same : h.it ≡ constructor_of it = let found = h.at in cc in
    let count = h.on_terms ∙ ap (λ (it : Constructor). length it.decl.fields) same ∙ sym (ap length c.as_slice-fields.ensures) in
    c.in_default-first_taking.ensures h.branch (subst (λ n. IsTakenBy (OfCon c.args.at n) alts h.branch) count h.taken)

pub returns : goal.returns
returns c o at is =
    let it = c.in-Some.it in
    let args = c.args.args.now in
    let alts = alts_of c.args.alts.now in
    let alt = c.in-Some-first_taking.alt.now in
    let there : con_at o.program.datas c.args.at.number ≡ Some (constructor_of it) = subst (λ ds. con_at ds c.args.at.number ≡ Some (constructor_of it)) (sym is) c.in-Some.ensures.is in
    let found : AreJust c.len.result (length c.as_slice-fields.result.now) args = c.are_just.ensures.0 c.if-not-are_just.false in
    let fields = ap length c.as_slice-fields.ensures in
    let just = subst (λ m. AreJust (length it.it.now.params) m args) fields (subst (λ n. AreJust n (length c.as_slice-fields.result.now) args) c.len.ensures found) in
    let taken = subst (λ n. IsTakenBy (OfCon c.args.at n) alts (branch_of alt)) fields c.in-Some-first_taking.ensures in
    constructor_made o at c.args.at (constructor_of it) args alts (branch_of alt) c.in_ok-with_fields.field-0 there just taken
    (c.in_ok-with_fields.ensures found.on_terms ∙ ap (λ fs. with_fields alt.pattern (fields_put fs (types_in args)) (terms_in args) alt.body) c.as_slice-fields.ensures)
