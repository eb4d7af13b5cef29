-- What the rule makes of a letrec, and that it makes nothing else.
use Rattle.std.proofs.Common.{◌≡◌, suc, sym, refl, subst, List, Option, None, Some, Result, Ok, Err, IfOk}
use Rattle.std.specs.Option.{option_map}
use Rattle.chw_types.specs.TypeTree.{TypeTree}
use Rattle.chw_terms.specs.declared.rule.Rule.{Rule}
use Rattle.chw_terms.specs.declared.rule.Rule.TheVariants.{Flat}
use Rattle.chw_terms.specs.declared.term.Arg.{Arg}
use Rattle.chw_terms.specs.declared.term.Head.{Head}
use Rattle.chw_terms.specs.TermMoves.{shift}
use Rattle.chw_terms.specs.TermTree.{TermTree, letrec, Group, no_bindings, bind, size_of}
use Rattle.chw_terms.specs.TermView.{tree_of, applied}
use Rattle.chw_typing.specs.Groups.{joined}
use Rattle.rewriting.specs.Origins.{Origins}
use Rattle.rewriting.specs.Spots.{Spot}
use Rattle.rewriting.specs.Lets.{OfLets, flat_side, flat_body, dead, inline, side_joined}
use Rattle.rewriting.specs.Shapes.{IsOfHead, IsLet, NoLetIn, shift_group}
use Rattle.rewriting.proofs.Spines.{IsBare}
use Rattle.rule_parts.specs.Cores.{of_core}
use Rattle.rule_parts.proofs.Heads.{bare, of_head}
use Rattle.flow_lets.specs.Flat.{AnswersFlat, AnswersLetrec}
use Rattle.flow_lets.specs.Parts.{IsParted}

-- a right side that is a letrec joins
pub of_side : (g front : Group) (t : TypeTree) (cs : Group) (x : TermTree) (back : Group) (e : TermTree) → IsParted g front t cs x back → AnswersLetrec (letrec g e) (Some (letrec (side_joined front t cs x back) (shift e (suc (size_of back)) (size_of cs))))
of_side g front t cs x back e p o at h =
    subst (λ g. OfLets o at Flat (letrec g e) (letrec (side_joined front t cs x back) (shift e (suc (size_of back)) (size_of cs)))) (sym p.whole) (flat_side front t cs x back h p.first)

-- a body that is one joins
pub of_body : (g cs : Group) (x e : TermTree) → NoLetIn g → e ≡ letrec cs x → AnswersLetrec (letrec g e) (Some (letrec (joined (shift_group g 0 (size_of cs)) cs) x))
of_body g cs x e n q o at h =
    subst (λ e. OfLets o at Flat (letrec g e) (letrec (joined (shift_group g 0 (size_of cs)) cs) x)) (sym q) (flat_body h n)

-- where a right side is a letrec, there isn't none
side_found : (front back cs : Group) (t : TypeTree) (x : TermTree) → NoLetIn (joined front (bind t (letrec cs x) back)) → ⊥
side_found no_bindings back cs t x n = n.0 tt
side_found (bind u e g) back cs t x n = side_found g back cs t x n.1

made_of_none : {o : Origins} {at : Spot} {r : Rule} {l e' : TermTree} (g : Group) (e : TermTree) → NoLetIn g → (IsLet e → ⊥) → OfLets o at r l e' → r ≡ Flat → l ≡ letrec g e → ⊥
made_of_none g e n b (flat_side front t cs x back h m) k q =
    let groups : joined front (bind t (letrec cs x) back) ≡ g = cc in
    side_found front back cs t x (subst NoLetIn (sym groups) n)
made_of_none g e n b (flat_body {g = h} {cs = cs} {x = x} m l) k q =
    let body : letrec cs x ≡ e = cc in b (subst IsLet body tt)
made_of_none g e n b (dead m d u) k q = absurd cc
made_of_none g e n b (inline front t x back m d s w) k q = absurd cc

-- where there is no letrec inside, nothing joins
pub of_none : (g : Group) (e : TermTree) → NoLetIn g → (IsLet e → ⊥) → AnswersLetrec (letrec g e) None
of_none g e n b o at h e' m = made_of_none g e n b m refl refl

-- the rule is on letrecs
pub bare_lets : (o : Origins) (at : Spot) (e e' : TermTree) → OfLets o at Flat e e' → IsBare e
bare_lets o at e e' m = bare m
  where
    bare : {r : Rule} {e e' : TermTree} → OfLets o at r e e' → IsBare e
    bare (flat_side front t cs x back h m) = record { itself = refl; alone = refl }
    bare (flat_body h n) = record { itself = refl; alone = refl }
    bare (dead h m d) = record { itself = refl; alone = refl }
    bare (inline front t x back h n d s) = record { itself = refl; alone = refl }

pub is_let : (o : Origins) (at : Spot) (r : Rule) (e e' : TermTree) → OfLets o at r e e' → IsLet e
is_let o at r e e' (flat_side front t cs x back h m) = tt
is_let o at r e e' (flat_body h n) = tt
is_let o at r e e' (dead h m d) = tt
is_let o at r e e' (inline front t x back h n d s) = tt

no_head : {o : Origins} {at : Spot} {r : Rule} {e e' : TermTree} → OfLets o at r e e' → IsOfHead at.mode → ⊥
no_head (flat_side front t cs x back h m) i = h i
no_head (flat_body h n) i = h i
no_head (dead h m d) i = h i
no_head (inline front t x back h n d s) i = h i

-- at a head it makes nothing
pub at_head : (at : Spot) (e : TermTree) → IsOfHead at.mode → AnswersFlat at e None
at_head at e i o e' (of_core core core' rest m) = no_head m i

-- nor of another head
pub of_other : (at : Spot) (h : Head) (args : List Arg) → (IsLet (tree_of h) → ⊥) → AnswersFlat at (applied (tree_of h) args) None
of_other at h args n o =
    of_head o at Flat (tree_of h) args None bare_lets (bare h) (λ e' m. n (is_let o at Flat (tree_of h) e' m))

-- of a letrec with arguments it makes what it makes of the letrec, with them behind it
pub of_letrec : (at : Spot) (g : Group) (e : TermTree) (args : List Arg) (answer : Option TermTree) → (IsOfHead at.mode → ⊥) → AnswersLetrec (letrec g e) answer → AnswersFlat at (applied (letrec g e) args) (option_map (λ e. applied e args) answer)
of_letrec at g e args answer h m o =
    of_head o at Flat (letrec g e) args answer bare_lets (record { itself = refl; alone = refl }) (m o at h)

-- what a result says says more, where its answer does
pub ok_more : {A E : Type 0} (r : Result A E) (P Q : A → Type 0) → ((x : A) → P x → Q x) → IfOk r P → IfOk r Q
ok_more (Ok x) P Q f h = f x h
ok_more (Err e) P Q f h = tt
