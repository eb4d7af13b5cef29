use Rattle.std.proofs.Common.{◌∙◌, ap, sym, arith, Some}
use Rattle.std.proofs.lemmas.Option.{slice_get-get_or, slice_get_within}
use Rattle.flow_cases.specs.Taken.{pattern_of}
use Rattle.flow_cases.proofs.Branches.{taken_at, none_takes, none_more}
use Rattle.flow_cases.proofs.alternatives.first_taking.Goals as goal

pub returns-then-takes : goal.returns-then-takes
returns-then-takes c =
    let alts = c.args.alts.now in
    let i = c.loop-alt.alt-index in
    let a = c.alt-item.result in
    taken_at (pattern_of c.args.known) alts i a c.loop-alt.invariant (slice_get-get_or alts i a c.loop-alt-test.true ∙ ap Some (sym c.alt-item.is)) (c.takes.ensures.0 c.if-takes.true)

pub loop-alt-preserved : goal.loop-alt-preserved
loop-alt-preserved c =
    let alts = c.args.alts.now in
    let i = c.loop-alt.alt-index in
    let a = c.alt-item.result in
    none_more (pattern_of c.args.known) alts i a c.loop-alt.invariant (slice_get-get_or alts i a c.loop-alt-test.true ∙ ap Some (sym c.alt-item.is))
    (λ h. let t = c.takes.ensures.1 h in let f = c.if-takes.false in absurd cc)

pub returns : goal.returns
returns c =
    let alts = c.args.alts.now in
    none_takes (pattern_of c.args.known) alts
    (λ k a q h. let l = slice_get_within alts k a q in let m = c.loop-alt-test.false in c.loop-alt.invariant k a (omega (arith, l, m)) q h)
