use Rattle.std.proofs.Common.{◌≡◌, ◌<◌, length, arith, Some, None}
use Rattle.chw_terms.specs.TermView.{tree_of}
use Rattle.chw_typing.proofs.PartPlaces.{leads_to_child, leads_to_argument, match_map}
use Rattle.chw_typing.proofs.finding.below.Goals as goal

pub returns-then-left-eq0 : goal.returns-then-left-eq0
returns-then-left-eq0 c =
    let all : c.args.zeros ≡ length c.args.args.now = omega (arith, c.requires.within) in
    match_map c.child.result _ _ _ _
    (λ none. leads_to_child c.args.head.now c.args.args.now c.args.zeros c.args.i None all none)
    (λ x some. leads_to_child c.args.head.now c.args.args.now c.args.zeros c.args.i (Some x.now) all some)
    c.child.ensures

pub returns-else-left-eq0 : goal.returns-else-left-eq0
returns-else-left-eq0 c =
    let some : c.args.zeros < length c.args.args.now = omega (arith, c.requires.within) in
    let other = c.requires.ends some in
    let later : 0 < c.args.i = omega (arith, other) in
    let e = tree_of c.args.head.now in
    match_map c.argument.result _ _ _ _
    (λ none. leads_to_argument e c.args.args.now c.args.zeros c.args.i c.index-args-place.result None some later c.index-args-place.is none)
    (λ x found. leads_to_argument e c.args.args.now c.args.zeros c.args.i c.index-args-place.result (Some x.now) some later c.index-args-place.is found)
    c.argument.ensures
