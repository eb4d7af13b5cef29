-- What keeps the rules on letrecs from one.
use Rattle.std.proofs.Common.{◌≡◌, ◌∙◌, sym, refl, subst, inl, inr, ℕ, zero, suc, ◌<◌, Bool, true, false, List, [], ◌∷◌, get_or, Some, slice_get, Contains}
use Rattle.std.specs.List.{AllByRecursion}
use Rattle.chw_types.specs.TypeTree.{TypeTree}
use Rattle.chw_terms.specs.declared.rule.Rule.{Rule}
use Rattle.chw_terms.specs.declared.rule.Rule.TheVariants.{Flat, Dead, Inline}
use Rattle.chw_terms.specs.TermTree.{TermTree, letrec, Group, no_bindings, bind, size_of}
use Rattle.chw_typing.specs.Groups.{joined}
use Rattle.chw_typing.specs.Scopes.{declared}
use Rattle.rewriting.specs.Lets.{OfLets, flat_side, flat_body, dead, inline, MarksReached}
use Rattle.rewriting.specs.Named.{IsNamed}
use Rattle.rewriting.specs.Origins.{Origins}
use Rattle.rewriting.specs.Shapes.{IsLet, NoLetIn}
use Rattle.rewriting.specs.Spots.{Spot}
use Rattle.kept_letrecs.specs.Laws.{NoFlat, NoDead, NoInline, RestingLetrecs}
use Rattle.kept_letrecs.specs.Resting.{IsOnLetrecs, AllReached, AllNamed, IsAtRest}
use Rattle.kept_letrecs.proofs.Bare.{bare_instance}

-- where a right side is a letrec, there isn't none
side_found : (front back cs : Group) (t : TypeTree) (x : TermTree) → NoLetIn (joined front (bind t (letrec cs x) back)) → ⊥
side_found no_bindings back cs t x n = n.0 tt
side_found (bind u e g) back cs t x n = side_found g back cs t x n.1

none_joins : {o : Origins} {at : Spot} {r : Rule} {f new : TermTree} → OfLets o at r f new → r ≡ Flat → (g : Group) (e : TermTree) → f ≡ letrec g e → NoLetIn g → (IsLet e → ⊥) → ⊥
none_joins (flat_side front t cs x back m n) k g e q sides body =
    let groups : joined front (bind t (letrec cs x) back) ≡ g = cc in
    side_found front back cs t x (subst NoLetIn (sym groups) sides)
none_joins (flat_body {cs = cs} {x = x} m n) k g e q sides body =
    let inner : letrec cs x ≡ e = cc in
    body (subst IsLet inner tt)
none_joins (dead m d u) k g e q sides body = absurd cc
none_joins (inline front t x back m n d s) k g e q sides body = absurd cc

-- a mark that is set isn't unset
set_and_unset : (marks : List Bool) (i : ℕ) → slice_get marks i ≡ Some true → get_or marks i false ≡ false → ⊥
set_and_unset [] i s u = cc
set_and_unset (m ∷ marks) zero s u =
    let set : m ≡ true = cc in
    let unset : m ≡ false = u in
    cc
set_and_unset (m ∷ marks) (suc i) s u = set_and_unset marks i s u

all_marked : (g : Group) (e : TermTree) (marks : List Bool) → MarksReached g e marks → AllReached g e → Contains marks false → ⊥
all_marked g e marks m all c =
    let within : c.0 < size_of g = subst (λ n. c.0 < n) m.each_one c.1 in
    set_and_unset marks c.0 ((m.reached c.0 within).1 (all c.0 within)) c.2

none_goes : {o : Origins} {at : Spot} {r : Rule} {f new : TermTree} → OfLets o at r f new → r ≡ Dead → (g : Group) (e : TermTree) → f ≡ letrec g e → (g ≡ no_bindings → ⊥) → AllReached g e → ⊥
none_goes (flat_side front t cs x back m n) k g e q some all = absurd cc
none_goes (flat_body m n) k g e q some all = absurd cc
none_goes (dead {g = h} {e = y} {marks = marks} m d u) k g e q some all =
    let groups : h ≡ g = cc in
    let body : y ≡ e = cc in
    let reached : AllReached h y = subst (λ h. AllReached h y) (sym groups) (subst (AllReached g) (sym body) all) in
    elim u [
      | inl none ↦ some (sym groups ∙ none)
      | inr unset ↦ all_marked h y marks d reached unset
    ]
none_goes (inline front t x back m n d s) k g e q some all = absurd cc

-- a binding's type is among those that are declared
holds_of_binding : (P : TypeTree → Type 0) (front : Group) (t : TypeTree) (x : TermTree) (back : Group) → AllByRecursion P (declared (joined front (bind t x back))) → P t
holds_of_binding P no_bindings t x back h = h.0
holds_of_binding P (bind u y g) t x back h = holds_of_binding P g t x back h.1

none_put : {o : Origins} {at : Spot} {r : Rule} {f new : TermTree} → OfLets o at r f new → r ≡ Inline → (g : Group) (e : TermTree) → f ≡ letrec g e → AllNamed o.program.datas at.mode g → ⊥
none_put (flat_side front t cs x back m n) k g e q named = absurd cc
none_put (flat_body m n) k g e q named = absurd cc
none_put (dead m d u) k g e q named = absurd cc
none_put {o} {at} (inline front t x back m n d s) k g e q named =
    let groups : joined front (bind t x back) ≡ g = cc in
    n (holds_of_binding (IsNamed o.program.datas at.mode) front t x back (subst (AllNamed o.program.datas at.mode) (sym groups) named))

-- so of instances
pub no_flat : NoFlat
no_flat o at g e new sides body h = none_joins (bare_instance h g e refl).1 refl g e refl sides body

pub no_dead : NoDead
no_dead o at g e new some all h = none_goes (bare_instance h g e refl).1 refl g e refl some all

pub no_inline : NoInline
no_inline o at g e new named h = none_put (bare_instance h g e refl).1 refl g e refl named

rests : (o : Origins) (at : Spot) (r : Rule) (g : Group) (e new : TermTree) → IsOnLetrecs r → OfLets o at r (letrec g e) new → (g ≡ no_bindings → ⊥) → IsAtRest o.program.datas at.mode g e → ⊥
rests o at Flat g e new k m some h = none_joins m refl g e refl h.sides h.body
rests o at Dead g e new k m some h = none_goes m refl g e refl some h.reached
rests o at Inline g e new k m some h = none_put m refl g e refl h.named
rests o at _ g e new k m some h = k

pub resting : RestingLetrecs
resting o at r g e new some h i = let is = bare_instance i g e refl in rests o at r g e new is.0 is.1 some h
