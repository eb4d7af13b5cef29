use Rattle.std.proofs.Common.{◌-◌, ◌<◌, ◌≤◌, refl, sym, ◌∙◌, subst, length}
use Rattle.std.proofs.lemmas.Bool.{false≢true}
use Rattle.chw_terms.specs.TermView.{alts_of}
use Rattle.chw_typing.specs.Alternatives.{IsFor}
use Rattle.chw_check.proofs.Numbered.{one_more, missing_at, none_missing}
use Rattle.chw_check.proofs.cases.missing.first_missing.Goals as goal

pub returns-then-not-contains : goal.returns-then-not-contains
returns-then-not-contains c =
    let con = c.in-Some.con in
    let number = c.in_ok-number.number in
    missing_at c.args.constructors.now c.args.at.number con (alts_of c.args.alts.now) (c.args.at.number - con.place) c.loop-place.place number c.in-Some.ensures refl
    (subst (λ ks. c.loop-place.place < length ks) c.as_slice-cons.ensures c.loop-place-test.true) c.in_ok-number.ensures.narrow c.loop-place.invariant
    (λ f. false≢true (sym c.if-not-contains.true ∙ c.contains.ensures ∙ (c.in_ok-handled.ensures number).1 f))

pub loop-place-preserved : goal.loop-place-preserved
loop-place-preserved c =
    let alts = alts_of c.args.alts.now in
    let number = c.in_ok-number.number in
    one_more (c.args.at.number - c.in-Some.con.place) alts c.loop-place.place c.loop-place.invariant
    (subst (λ n. IsFor n alts) c.in_ok-number.ensures.narrow ((c.in_ok-handled.ensures number).0 (sym c.contains.ensures ∙ c.if-not-contains.false)))

pub returns : goal.returns
returns c =
    let con = c.in-Some.con in
    none_missing c.args.constructors.now c.args.at.number con (alts_of c.args.alts.now) (c.args.at.number - con.place) c.loop-place.place c.in-Some.ensures refl
    (subst (λ ks. length ks ≤ c.loop-place.place) c.as_slice-cons.ensures c.loop-place-test.false) c.loop-place.invariant
