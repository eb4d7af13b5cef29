use Rattle.std.proofs.Common.{◌-◌, length, drop, take, ap, subst, ◌∙◌}
use Rattle.std.proofs.lemmas.List.{take_rest}
use Rattle.wire_classes.specs.Keys.{KeysAgree, KeysClash}
use Rattle.wire_classes.proofs.AlikeCells.{cells_hold, cells_merged}
use Rattle.wire_classes.proofs.Closing.{none_at, some_at}
use Rattle.wire_classes.proofs.cells.keys_step.Goals as goal

pub returns-in-Some-clause-some : goal.returns-in-Some-clause-some
returns-in-Some-clause-some c =
    let flat = c.args.flat.now in
    let of = c.args.of.now in
    let n = c.len-inputs.result in
    let labels = take (length of - n) (drop n of) in
    let clash = some_at c.in_ok-p.field-0 (λ p. KeysClash c.deref.result.now labels p.0 p.1) (c.in-Some.p, c.in-Some.q) c.in-Some.is c.in_ok-p.ensures.some in
    let keys = c.deref.ensures.value ∙ c.in_ok-keys.ensures in
    let rest = take_rest of n ∙ ap (λ m. drop m of) c.len-inputs.ensures in
    cells_merged flat of c.requires.labels c.args.known.now c.in-Some.p c.in-Some.q c.wire_at.result c.wire_at-in-Some.result c.wire_at.ensures
    c.wire_at-in-Some.ensures
    (subst (λ k. KeysClash k (drop (length flat.ports.inputs) of) c.in-Some.p c.in-Some.q) keys
    (subst (λ l. KeysClash c.deref.result.now l c.in-Some.p c.in-Some.q) rest clash))

pub returns-clause-none : goal.returns-clause-none
returns-clause-none c =
    let flat = c.args.flat.now in
    let of = c.args.of.now in
    let n = c.len-inputs.result in
    let labels = take (length of - n) (drop n of) in
    let agree = none_at c.in_ok-p.field-0 (KeysAgree c.deref.result.now labels) c.in-None.is c.in_ok-p.ensures.none in
    let keys = c.deref.ensures.value ∙ c.in_ok-keys.ensures in
    let rest = take_rest of n ∙ ap (λ m. drop m of) c.len-inputs.ensures in
    cells_hold flat of c.requires.labels
    (subst (λ k. KeysAgree k (drop (length flat.ports.inputs) of)) keys (subst (KeysAgree c.deref.result.now) rest agree))
