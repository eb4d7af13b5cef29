-- What rules make of a letrec. At the head of a value or of a circuit they make nothing.
use Rattle.std.specs.Prelude.{◌≡◌, ◌↔◌, ℕ, suc, ◌+◌, ◌<◌, ◌⊎◌, Bool, true, false}
use Rattle.std.specs.Prelude.{List, length, reverse, Contains, Some}
use Rattle.std.specs.List.{slice_get}
use Rattle.chw_types.specs.declared.declarations.Data.{Data}
use Rattle.chw_types.specs.TypeTree.{TypeTree}
use Rattle.chw_terms.specs.declared.rule.Rule.{Rule}
use Rattle.chw_terms.specs.declared.rule.Rule.TheVariants.{Flat, Dead, Inline}
use Rattle.chw_terms.specs.declared.scene.Mode.{Mode}
use Rattle.chw_terms.specs.Occurs.{occurs}
use Rattle.chw_terms.specs.TermMoves.{rename, rename_group, shift, sub, sub_group}
use Rattle.chw_terms.specs.TermMoves.{in_place_of, lowered, exchanged}
use Rattle.chw_terms.specs.TermTree.{TermTree, letrec, Group, no_bindings, bind, size_of}
use Rattle.chw_typing.specs.Groups.{joined, Reached}
use Rattle.rewriting.specs.Named.{IsNamed}
use Rattle.rewriting.specs.Origins.{Origins}
use Rattle.rewriting.specs.Spots.{Spot}
use Rattle.rewriting.specs.Shapes.{IsOfHead, NoLetIn, or_body, shift_group, marked, closed_up}

-- the letrec `cs` in x, which is a right side with the type t, has joined the bindings around it:
-- n of these, its own among them, come after those that join
abbrev pub side_joined : Group → TypeTree → Group → TermTree → Group → Group
side_joined front t cs x back =
    let n = suc (size_of back) in
    let swap = exchanged (size_of cs) n in
    joined (shift_group front n (size_of cs))
    (joined (rename_group cs swap)
    (bind t (rename x swap) (shift_group back n (size_of cs))))

-- the letrec without the binding between these two groups: for its name its right side x is put
abbrev pub inlined : Group → TermTree → Group → TermTree → TermTree
inlined front x back e =
    let put = in_place_of (size_of back) (rename x (lowered (size_of back))) in
    or_body (sub_group (joined front back) put) (sub e put)

-- the bindings that are marked; the variables of the others don't occur in these and in e
abbrev pub kept : List Bool → Group → TermTree → TermTree
kept marks g e =
    let close = closed_up (reverse marks) in
    or_body (rename_group (marked marks g) close) (rename e close)

-- the marks are those of the bindings that the body reaches
pub record MarksReached (g : Group) (e : TermTree) (marks : List Bool) : Type 0 where
  pub each_one : length marks ≡ size_of g
  pub reached : (i : ℕ) → i < size_of g → (slice_get marks i ≡ Some true ↔ Reached g e i)

-- each of these bindings, behind which so many more stand, has a named type or occurs in its own
-- right side
abbrev pub EachStays : List Data → Mode → Group → ℕ → Type 0
EachStays datas mode no_bindings after = Unit {0}
EachStays datas mode (bind t e g) after =
    (IsNamed datas mode t ⊎ (occurs e (size_of g + after) ≡ true)) × EachStays datas mode g after

pub data OfLets (o : Origins) (at : Spot) : Rule → TermTree → TermTree → Type 0 where
  -- the first letrec that is a right side joins the letrec around it
  flat_side : (front : Group) (t : TypeTree) (cs : Group) (x : TermTree) (back : Group)
      {e : TermTree}
      → (IsOfHead at.mode → ⊥) → NoLetIn front
      → OfLets o at Flat
      (letrec (joined front (bind t (letrec cs x) back)) e)
      (letrec (side_joined front t cs x back) (shift e (suc (size_of back)) (size_of cs)))
  -- where there is none, a letrec that is the body
  flat_body : {g cs : Group} {x : TermTree}
      → (IsOfHead at.mode → ⊥) → NoLetIn g
      → OfLets o at Flat
      (letrec g (letrec cs x)) (letrec (joined (shift_group g 0 (size_of cs)) cs) x)
  -- bindings that the body doesn't reach go; so does a letrec without bindings
  dead : {g : Group} {e : TermTree} {marks : List Bool}
      → (IsOfHead at.mode → ⊥) → MarksReached g e marks
      → ((g ≡ no_bindings) ⊎ Contains marks false)
      → OfLets o at Dead
      (letrec g e) (kept marks g e)
  -- the first binding of a type that isn't named, and that doesn't occur in its own right side, is
  -- put for its name
  inline : (front : Group) (t : TypeTree) (x : TermTree) (back : Group) {e : TermTree}
      → (IsOfHead at.mode → ⊥) → (IsNamed o.program.datas at.mode t → ⊥)
      → occurs x (size_of back) ≡ false
      → EachStays o.program.datas at.mode front (suc (size_of back))
      → OfLets o at Inline
      (letrec (joined front (bind t x back)) e)
      (inlined front x back e)
