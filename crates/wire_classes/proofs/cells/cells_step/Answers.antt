use Rattle.std.proofs.Common.{◌-◌, length, map, drop, take, ap, subst, ◌∙◌}
use Rattle.std.proofs.lemmas.List.{take_rest}
use Rattle.wire_classes.specs.Keys.{KeysAgree, KeysClash, cell_key}
use Rattle.wire_classes.specs.Seen.{Finds}
use Rattle.wire_classes.proofs.AlikeCells.{cells_hold, cells_merged, clash_within}
use Rattle.wire_classes.proofs.Closing.{none_at, some_at}
use Rattle.wire_classes.proofs.cells.cells_step.Goals as goal

pub returns-in_default-clause-none : goal.returns-in_default-clause-none
returns-in_default-clause-none c =
    let flat = c.args.flat.now in
    let of = c.args.of.now in
    let n = c.len-inputs.result in
    let keys = map (cell_key of) flat.cells in
    let labels = take (length of - n) (drop n of) in
    let rest = take_rest of n ∙ ap (λ m. drop m of) c.len-inputs.ensures in
    cells_hold flat of c.requires.labels
    (subst (KeysAgree keys) rest (none_at c.in_ok-found.field-0 (KeysAgree keys labels) c.in_default.is c.in_ok-found.ensures.none))

pub wire_at-requires-clause-within : goal.wire_at-requires-clause-within
wire_at-requires-clause-within c =
    let flat = c.args.flat.now in
    let of = c.args.of.now in
    let n = c.len-inputs.result in
    let keys = map (cell_key of) flat.cells in
    let labels = take (length of - n) (drop n of) in
    let found = some_at c.in_ok-found.field-0 (Finds keys labels) c.in-Some.found c.in-Some.is c.in_ok-found.ensures.some in
    (clash_within flat of c.requires.labels c.in-Apart.p c.in-Apart.q labels (subst (Finds keys labels) c.in-Apart.is found)).0

pub wire_at-requires-in-Apart-clause-within : goal.wire_at-requires-in-Apart-clause-within
wire_at-requires-in-Apart-clause-within c =
    let flat = c.args.flat.now in
    let of = c.args.of.now in
    let n = c.len-inputs.result in
    let keys = map (cell_key of) flat.cells in
    let labels = take (length of - n) (drop n of) in
    let found = some_at c.in_ok-found.field-0 (Finds keys labels) c.in-Some.found c.in-Some.is c.in_ok-found.ensures.some in
    (clash_within flat of c.requires.labels c.in-Apart.p c.in-Apart.q labels (subst (Finds keys labels) c.in-Apart.is found)).1

pub returns-in-Apart-clause-some : goal.returns-in-Apart-clause-some
returns-in-Apart-clause-some c =
    let flat = c.args.flat.now in
    let of = c.args.of.now in
    let n = c.len-inputs.result in
    let keys = map (cell_key of) flat.cells in
    let labels = take (length of - n) (drop n of) in
    let found = some_at c.in_ok-found.field-0 (Finds keys labels) c.in-Some.found c.in-Some.is c.in_ok-found.ensures.some in
    let rest = take_rest of n ∙ ap (λ m. drop m of) c.len-inputs.ensures in
    cells_merged flat of c.requires.labels c.args.known.now c.in-Apart.p c.in-Apart.q c.wire_at.result c.wire_at-in-Apart.result c.wire_at.ensures
    c.wire_at-in-Apart.ensures
    (subst (λ l. KeysClash keys l c.in-Apart.p c.in-Apart.q) rest (subst (Finds keys labels) c.in-Apart.is found))
