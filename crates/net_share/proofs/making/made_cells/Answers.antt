use Rattle.std.proofs.Common.{◌≡◌, ◌+◌, ◌<◌, ◌∷◌, ◌++◌, [], ℕ, List, length, get_or, take, sym, ap, subst, arith}
use Rattle.std.proofs.lemmas.List.{length-take-le, take_all, take_more}
use Rattle.std.proofs.lemmas.Option.{slice_get-get_or}
use Rattle.netlist.specs.declared.net.Cell.{Cell}
use Rattle.net_share.specs.Making.{AreMade}
use Rattle.net_share.proofs.Made.{made_more}
use Rattle.net_share.proofs.making.made_cells.Goals as goal

pub loop-k-init : goal.loop-k-init
loop-k-init c =
    subst (λ (cells : List Cell). AreMade c.args.flat.now c.args.classes.now c.args.names.now c.args.first [] cells) (sym c.new-cells.ensures.items) tt

pub overflow_cast-number : goal.overflow_cast-number
overflow_cast-number c = omega (arith, c.requires.numbers, c.loop-k-test.true)

pub overflow_add-number : goal.overflow_add-number
overflow_add-number c = omega (arith, c.requires.numbers, c.loop-k-test.true)

pub made_cell-requires-clause-wire : goal.made_cell-requires-clause-wire
made_cell-requires-clause-wire c =
    let kept = c.args.kept.now in
    c.requires.wires (get_or kept c.loop-k.k 0) (c.loop-k.k, slice_get-get_or kept c.loop-k.k 0 c.loop-k-test.true)

pub made_cell-requires-clause-after : goal.made_cell-requires-clause-after
made_cell-requires-clause-after c =
    let kept = c.args.kept.now in
    c.requires.after (get_or kept c.loop-k.k 0) (c.loop-k.k, slice_get-get_or kept c.loop-k.k 0 c.loop-k-test.true)

pub loop-k-preserved : goal.loop-k-preserved
loop-k-preserved c =
    let flat = c.args.flat.now in
    let classes = c.args.classes.now in
    let names = c.args.names.now in
    let first = c.args.first in
    let kept = c.args.kept.now in
    let k = c.loop-k.k in
    let w = get_or kept k 0 in
    let less : k < length kept = c.loop-k-test.true in
    let cells = c.loop-k.cells.items in
    let place : first + k ≡ first + length (take k kept) = ap (λ (n : ℕ). first + n) (sym (length-take-le k kept (omega (arith, less)))) in
    subst (λ (ws : List ℕ). AreMade flat classes names first ws c.push.new.self.items) (sym (take_more kept k 0 less))
    (subst (λ (cs : List Cell). AreMade flat classes names first (take k kept ++ w ∷ []) cs) (sym c.in_ok-push.ensures.items)
    (made_more flat classes names first (first + k) (take k kept) cells w _ c.loop-k.invariant place c.in_ok-made_cell.ensures))

pub returns : goal.returns
returns c =
    let all = take_all c.loop-k.k c.args.kept.now c.loop-k-test.false in
    subst (λ (ws : List ℕ). AreMade c.args.flat.now c.args.classes.now c.args.names.now c.args.first ws c.loop-k.cells.items) all c.loop-k.invariant
