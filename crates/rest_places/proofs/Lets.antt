-- Letrecs at rest: their bindings have named types, and none of their parts is a letrec.
use Rattle.std.proofs.Common.{◌≡◌, ◌⊎◌, ◌<◌, ◌+◌, ◌-◌, inl, inr, refl, sym, ap, subst, ℕ, suc, Bool, true, false, List, [], ◌∷◌, Some, arith}
use Rattle.std.specs.List.{AllByRecursion}
use Rattle.chw_types.specs.declared.declarations.Data.{Data}
use Rattle.chw_types.specs.TypeTree.{TypeTree}
use Rattle.chw_terms.specs.Occurs.{occurs}
use Rattle.chw_terms.specs.TermTree.{TermTree, letrec, Group, no_bindings, bind, size_of}
use Rattle.chw_terms.specs.declared.rule.Rule.TheVariants.{Flat, Dead, Inline}
use Rattle.chw_terms.specs.declared.scene.Mode.{Mode}
use Rattle.chw_terms.specs.declared.scene.Mode.TheVariants.{V, C, HV, HC, K}
use Rattle.chw_typing.specs.Groups.{joined, binding_at}
use Rattle.chw_typing.specs.Scopes.{declared}
use Rattle.chw_typing.proofs.GroupParts.{size_joined}
use Rattle.graph_order.specs.References.{HasNoCycle, Leads, step, step_and}
use Rattle.normal_forms.specs.Blocked.{recursion, by_recursion, LeadsThrough}
use Rattle.normal_forms.specs.Values.{BindingRefers}
use Rattle.rewriting.specs.Lets.{EachStays, flat_side, flat_body, dead, inline}
use Rattle.rewriting.specs.Named.{IsNamed}
use Rattle.rewriting.specs.Origins.{Origins}
use Rattle.rewriting.specs.SceneLaws.{NamedIsDecided}
use Rattle.rewriting.specs.Shapes.{IsOfHead, IsLet, NoLetIn}
use Rattle.rewriting.specs.Spots.{Spot, HasLets}
use Rattle.rest_places.specs.Rest.{IsRestPlace}
use Rattle.rest_places.proofs.Steps.{no_core, no_block}

-- where letrecs build there is no head
pub lets_no_head : (m : Mode) → HasLets m → IsOfHead m → ⊥
lets_no_head V l h = h
lets_no_head C l h = h
lets_no_head HV l h = l
lets_no_head HC l h = l
lets_no_head K l h = l

pub constant_no_head : {m : Mode} → m ≡ K → IsOfHead m → ⊥
constant_no_head k h = subst IsOfHead k h

-- a binding moves from the others to those before it
pub moved_before : (front : Group) (t : TypeTree) (x : TermTree) (back : Group) → joined (joined front (bind t x no_bindings)) back ≡ joined front (bind t x back)
moved_before no_bindings t x back = refl
moved_before (bind u y front) t x back = ap (bind u y) (moved_before front t x back)

-- bindings of named types stay
named_stay : (datas : List Data) (mode : Mode) (g : Group) (behind : ℕ) → AllByRecursion (IsNamed datas mode) (declared g) → EachStays datas mode g behind
named_stay datas mode no_bindings behind n = tt
named_stay datas mode (bind t x g) behind n = (inl n.0, named_stay datas mode g behind n.1)

-- one more after these
one_more_named : (datas : List Data) (mode : Mode) (g : Group) (t : TypeTree) (x : TermTree) → AllByRecursion (IsNamed datas mode) (declared g) → IsNamed datas mode t → AllByRecursion (IsNamed datas mode) (declared (joined g (bind t x no_bindings)))
one_more_named datas mode no_bindings t x n k = (k, tt)
one_more_named datas mode (bind u y g) t x n k = (n.0, one_more_named datas mode g t x n.1 k)

-- a binding refers to itself
itself_referred : (front : Group) (t : TypeTree) (x : TermTree) (back : Group) → occurs x (size_of back) ≡ true → BindingRefers (joined front (bind t x back)) (size_of front) (size_of front)
itself_referred front t x back q = ((t, x), there front, within, subst (λ n. occurs x n ≡ true) (sym number) q)
  where
    there : (front : Group) → binding_at (joined front (bind t x back)) (size_of front) ≡ Some (t, x)
    there no_bindings = refl
    there (bind u y g) = there g

    size : size_of (joined front (bind t x back)) ≡ size_of front + suc (size_of back)
    size = size_joined front (bind t x back)

    within : size_of front < size_of (joined front (bind t x back))
    within = omega (arith, size)

    number : size_of (joined front (bind t x back)) - 1 - size_of front ≡ size_of back
    number = omega (arith, size)

-- the first binding of a type that isn't named: its cycle blocks, or it is put for its name
no_unnamed : {o : Origins} {at : Spot} {e : TermTree} {u : TypeTree} (front : Group) (t : TypeTree) (x : TermTree) (back : Group) → (IsOfHead at.mode → ⊥) → AllByRecursion (IsNamed o.program.datas at.mode) (declared front) → (IsNamed o.program.datas at.mode t → ⊥) → IsRestPlace o at (letrec (joined front (bind t x back)) e) u → ⊥
unfolding itself_referred
no_unnamed {o} {at} {e} front t x back head before unnamed p = by (occurs x (size_of back)) refl
  where
    by : (b : Bool) → occurs x (size_of back) ≡ b → ⊥
    by true q =
        let itself = itself_referred front t x back q in
        no_block (recursion (size_of front ∷ [])) (by_recursion (size_of front) [] itself (inr ((itself.0, itself.1, unnamed), tt))) p
    by false q =
        no_core Inline (letrec (joined front (bind t x back)) e) _ [] (inline front t x back head unnamed q (named_stay o.program.datas at.mode front (suc (size_of back)) before)) p

-- where values and circuits are built each binding has a named type
pub bindings_named : NamedIsDecided → (o : Origins) (at : Spot) (g : Group) (e : TermTree) (u : TypeTree) → HasLets at.mode → IsRestPlace o at (letrec g e) u → AllByRecursion (IsNamed o.program.datas at.mode) (declared g)
bindings_named decided o at g e u l p = from no_bindings g tt p
  where
    from : (front back : Group) → AllByRecursion (IsNamed o.program.datas at.mode) (declared front) → IsRestPlace o at (letrec (joined front back) e) u → AllByRecursion (IsNamed o.program.datas at.mode) (declared back)
    from front no_bindings n p = tt
    from front (bind t x back) n p = elim (decided o.program.datas at.mode t p.acyclic) [
      | inl k ↦ (k, from (joined front (bind t x no_bindings)) back (one_more_named o.program.datas at.mode front t x n k) (subst (λ g. IsRestPlace o at (letrec g e) u) (sym (moved_before front t x back)) p))
      | inr k ↦ absurd (no_unnamed front t x back (lets_no_head at.mode l) n k p)
    ]

-- in constants there is no letrec
pub no_constant_letrec : (o : Origins) (at : Spot) (g : Group) (e : TermTree) (u : TypeTree) → at.mode ≡ K → IsRestPlace o at (letrec g e) u → ⊥
no_constant_letrec o at no_bindings e u k p =
    no_core Dead (letrec no_bindings e) _ [] (dead {marks = []} (constant_no_head k) (record { each_one = refl; reached = λ i l. absurd (omega (arith, l)) }) (inl refl)) p
no_constant_letrec o at (bind t x back) e u k p =
    no_unnamed no_bindings t x back (constant_no_head k) tt (λ n. subst (λ m. IsNamed o.program.datas m t) k n) p

-- no right side is a letrec
no_let_one_more : (front : Group) (t : TypeTree) (x : TermTree) → NoLetIn front → (IsLet x → ⊥) → NoLetIn (joined front (bind t x no_bindings))
no_let_one_more no_bindings t x n l = (l, tt)
no_let_one_more (bind u y g) t x n l = (n.0, no_let_one_more g t x n.1 l)

pub no_let_in_sides : (o : Origins) (at : Spot) (g : Group) (e : TermTree) (u : TypeTree) → (IsOfHead at.mode → ⊥) → IsRestPlace o at (letrec g e) u → NoLetIn g
no_let_in_sides o at g e u head p = from no_bindings g tt p
  where
    no_side : (front : Group) (t : TypeTree) (x : TermTree) (back : Group) → NoLetIn front → IsRestPlace o at (letrec (joined front (bind t x back)) e) u → IsLet x → ⊥
    no_side front t (letrec cs y) back n p l = no_core Flat (letrec (joined front (bind t (letrec cs y) back)) e) _ [] (flat_side front t cs y back head n) p
    no_side front t _ back n p l = l

    from : (front back : Group) → NoLetIn front → IsRestPlace o at (letrec (joined front back) e) u → NoLetIn back
    from front no_bindings n p = tt
    from front (bind t x back) n p =
        let no = no_side front t x back n p in
        (no, from (joined front (bind t x no_bindings)) back (no_let_one_more front t x n no) (subst (λ g. IsRestPlace o at (letrec g e) u) (sym (moved_before front t x back)) p))

-- nor is the body
pub no_let_in_body : (o : Origins) (at : Spot) (g : Group) (e : TermTree) (u : TypeTree) → (IsOfHead at.mode → ⊥) → IsRestPlace o at (letrec g e) u → IsLet e → ⊥
no_let_in_body o at g (letrec cs x) u head p l = no_core Flat (letrec g (letrec cs x)) _ [] (flat_body head (no_let_in_sides o at g (letrec cs x) u head p)) p
no_let_in_body o at g _ u head p l = l

-- where values are built no binding leads back to itself
leads_through : {Step : ℕ → ℕ → Type 0} {a b : ℕ} → Leads Step a b → (more : List ℕ) × LeadsThrough Step a more b
leads_through (step s) = ([], s)
leads_through (step_and {b = b} s r) = let rest = leads_through r in (b ∷ rest.0, (s, rest.1))

pub no_cycle : (o : Origins) (at : Spot) (g : Group) (e : TermTree) (u : TypeTree) → (at.mode ≡ V) ⊎ (at.mode ≡ K) → IsRestPlace o at (letrec g e) u → HasNoCycle (BindingRefers g)
no_cycle o at g e u m p a r =
    let through = leads_through r in
    no_block (recursion (a ∷ through.0)) (by_recursion a through.0 through.1 (inl m)) p
