-- What is promised of rules on groups of bindings: what they make of a typed term acts as the term.
use Rattle.std.specs.Prelude.{◌≡◌, suc, Bool, false, List, reverse}
use Rattle.chw_types.specs.TypeTree.{TypeTree}
use Rattle.chw_terms.specs.Occurs.{occurs}
use Rattle.chw_terms.specs.TermMoves.{rename, rename_group, shift, sub, sub_group}
use Rattle.chw_terms.specs.TermMoves.{in_place_of, lowered}
use Rattle.chw_terms.specs.TermTree.{TermTree, letrec, Group, bind, size_of}
use Rattle.chw_typing.specs.Groups.{joined}
use Rattle.rewriting.specs.Shapes.{or_body, shift_group, marked, closed_up}
use Rattle.rewriting.specs.Lets.{side_joined, MarksReached}
use Rattle.act_rules.specs.RuleLaws.{KeepsMeaning}

-- `letrec { g } in letrec { cs } in x` becomes `letrec { g cs } in x`
abbrev pub LetInLetActs : Type 0
LetInLetActs =
    (g cs : Group) (x : TermTree)
    → KeepsMeaning
    (letrec (joined (shift_group g 0 (size_of cs)) cs) x) (letrec g (letrec cs x))

-- `letrec { front y = letrec { cs } in x; back } in e` becomes
-- `letrec { front cs y = x; back } in e`
abbrev pub LetInSideActs : Type 0
LetInSideActs =
    (front : Group) (t : TypeTree) (cs : Group) (x : TermTree) (back : Group) (e : TermTree)
    → KeepsMeaning
    (letrec (side_joined front t cs x back) (shift e (suc (size_of back)) (size_of cs)))
    (letrec (joined front (bind t (letrec cs x) back)) e)

-- bindings that the body doesn't reach may go
abbrev pub DeadActs : Type 0
DeadActs =
    (g : Group) (e : TermTree) (marks : List Bool)
    → MarksReached g e marks
    → KeepsMeaning
    (or_body (rename_group (marked marks g) (closed_up (reverse marks)))
    (rename e (closed_up (reverse marks))))
    (letrec g e)

-- `letrec { front y = x; back } in e`, where y doesn't occur in x, becomes
-- `letrec { front back } in e` with x put for y
abbrev pub InlineActs : Type 0
InlineActs =
    (front : Group) (t : TypeTree) (x : TermTree) (back : Group) (e : TermTree)
    → occurs x (size_of back) ≡ false
    → KeepsMeaning
    (let put = in_place_of (size_of back) (rename x (lowered (size_of back))) in
    or_body (sub_group (joined front back) put) (sub e put))
    (letrec (joined front (bind t x back)) e)
