use Rattle.std.proofs.Common.{◌<◌, ◌≤◌, ◌++◌, drop, get_or, length, map, set, ap, ◌∙◌, arith}
use Rattle.std.proofs.lemmas.List.{append-nil, drop_all, get_or_default, take_all}
use Rattle.std.proofs.lemmas.List.Edits.{map_over_more}
use Rattle.wire_classes.specs.Steps.{relabelled}
use Rattle.wire_classes.proofs.steps.relabel.Goals as goal

pub loop-w-preserved : goal.loop-w-preserved
loop-w-preserved c =
    let f = relabelled c.args.from c.args.to in
    let old = c.args.of.now in
    let ys = c.loop-w.of in
    let w = c.loop-w.w in
    let within : w < length ys = omega arith in
    ap (set ys w) c.relabelled.ensures
    ∙ map_over_more f old ys w (get_or ys w 0) (omega arith) c.loop-w.invariant (get_or_default ys w 0 (get_or ys w 0) within)

pub returns : goal.returns
returns c =
    let f = relabelled c.args.from c.args.to in
    let old = c.args.of.now in
    let w = c.loop-w.w in
    let past : length old ≤ w = omega arith in
    c.loop-w.invariant ∙ ap (λ l. map f l ++ drop w old) (take_all w old past) ∙ ap (λ l. map f old ++ l) (drop_all w old past)
    ∙ append-nil (map f old)
