-- What rules make of a letrec keeps complete terms complete.
use Rattle.std.proofs.Common.{◌<◌, ◌∷◌, ◌≡◌, ◌≢◌, ◌≤◌, ◌⊎◌, Bool, List, [], arith, false, inl, inr, reverse, subst, suc, sym, true, ℕ}
use Rattle.std.proofs.lemmas.Bool.{cases_eq, cases_lt}
use Rattle.chw_types.specs.TypeMoves.{raised}
use Rattle.chw_types.specs.declared.declarations.Data.{Data}
use Rattle.chw_terms.proofs.Renumbered.{in_place_above, in_place_below, in_place_here}
use Rattle.chw_terms.specs.TermMoves.{exchanged, in_place_of, lowered, rename, rename_group, sub, sub_group}
use Rattle.chw_terms.specs.TermTree.{Group, TermTree, bind, letrec, no_bindings, size_of}
use Rattle.chw_terms.specs.declared.rule.Rule.{Rule}
use Rattle.chw_typing.specs.Programs.{GroupIsComplete, IsComplete}
use Rattle.chw_typing.specs.Groups.{joined}
use Rattle.rewriting.specs.Origins.{Origins}
use Rattle.rewriting.specs.Spots.{Spot}
use Rattle.rewriting.specs.Lets.{OfLets, dead, flat_body, flat_side, inline}
use Rattle.rewriting.specs.Shapes.{closed_up, marked, shift_group}
use Rattle.rule_types.proofs.Complete.{EachComplete, first_complete, joined_complete, or_body_complete, put_complete, put_group_complete, renamed_complete, renamed_group_complete, second_complete}

marked_complete : (datas : List Data) (marks : List Bool) (g : Group) → GroupIsComplete datas g → GroupIsComplete datas (marked marks g)
marked_complete datas [] no_bindings h = tt
marked_complete datas [] (bind t e g) h = tt
marked_complete datas (true ∷ marks) no_bindings h = tt
marked_complete datas (false ∷ marks) no_bindings h = tt
marked_complete datas (true ∷ marks) (bind t e g) h = (h.0, marked_complete datas marks g h.1)
marked_complete datas (false ∷ marks) (bind t e g) h = marked_complete datas marks g h.1

-- what is put for one variable
in_place_complete : (datas : List Data) (v : ℕ) (a : TermTree) → IsComplete datas a → EachComplete datas (in_place_of v a)
in_place_complete datas v a h x = at (cases_lt x v) (cases_eq x v)
  where
    at : (x < v) ⊎ (v ≤ x) → (x ≡ v) ⊎ (x ≢ v) → IsComplete datas (in_place_of v a x)
    at _ (inl is) = subst (IsComplete datas) (sym (in_place_here v x a is)) h
    at (inl below) (inr other) = subst (IsComplete datas) (sym (in_place_below v x a below)) tt
    at (inr above) (inr other) = subst (IsComplete datas) (sym (in_place_above v x a (omega (arith, above, other)))) tt

pub lets_keep_complete : (o : Origins) (at : Spot) {r : Rule} {e e' : TermTree} → OfLets o at r e e' → IsComplete o.program.datas e → IsComplete o.program.datas e'
unfolding rename_group
lets_keep_complete o at (flat_side front u cs x back {e = e} no_head no_let) h =
    let datas = o.program.datas in
    let m = size_of cs in
    let n = suc (size_of back) in
    let side = second_complete datas front (bind u (letrec cs x) back) h.0 in
    let swap = exchanged m n in
    let last = bind u (rename x swap) (shift_group back n m) in (
      joined_complete datas (shift_group front n m) (joined (rename_group cs swap) last)
          (renamed_group_complete datas front (raised n m) (first_complete datas front (bind u (letrec cs x) back) h.0))
          (joined_complete datas (rename_group cs swap) last (renamed_group_complete datas cs swap side.0.0) (renamed_complete datas x swap side.0.1, renamed_group_complete datas back (raised n m) side.1)),
      renamed_complete datas e (raised n m) h.1,
    )
lets_keep_complete o at (flat_body {g = g} {cs = cs} no_head no_let) h =
    let datas = o.program.datas in
    let m = size_of cs in
    (joined_complete datas (shift_group g 0 m) cs (renamed_group_complete datas g (raised 0 m) h.0) h.1.0, h.1.1)
lets_keep_complete o at (dead {g = g} {e = e} {marks = marks} no_head reached some) h =
    let datas = o.program.datas in
    let close = closed_up (reverse marks) in
    or_body_complete datas (rename_group (marked marks g) close) (rename e close) (renamed_group_complete datas (marked marks g) close (marked_complete datas marks g h.0)) (renamed_complete datas e close h.1)
lets_keep_complete o at (inline front u x back {e = e} no_head unnamed absent stay) h =
    let datas = o.program.datas in
    let a = rename x (lowered (size_of back)) in
    let put = in_place_of (size_of back) a in
    let side = second_complete datas front (bind u x back) h.0 in
    let each = in_place_complete datas (size_of back) a (renamed_complete datas x (lowered (size_of back)) side.0) in
    or_body_complete datas (sub_group (joined front back) put) (sub e put)
    (put_group_complete datas (joined front back) put each (joined_complete datas front back (first_complete datas front (bind u x back) h.0) side.1))
    (put_complete datas e put each h.1)
