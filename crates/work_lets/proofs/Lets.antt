-- What is made of a letrec alone.
use Rattle.std.proofs.Common.{◌≡◌, ap, refl, List, [], ◌∷◌, ◌++◌}
use Rattle.chw_terms.specs.declared.rule.Rule.{Rule}
use Rattle.chw_terms.specs.declared.rule.Rule.TheVariants.{TyBeta, Beta, AppLet, AppCase, CaseCon, CaseLet, CaseCase, Proj, PrimLet, PrimCase, Flat, Dead, Inline, Unfold, Unroll, Elem, Delta, ApPure, Eta, Spec, Anf}
use Rattle.chw_terms.specs.declared.term.Binding.{Binding}
use Rattle.chw_terms.specs.TermTree.{TermTree, letrec, Group, bind}
use Rattle.chw_terms.specs.TermView.{group_of}
use Rattle.chw_typing.specs.Groups.{joined}
use Rattle.rewriting.specs.Origins.{Origins}
use Rattle.rewriting.specs.Spots.{Spot}
use Rattle.rewriting.specs.Lets.{OfLets, flat_side, flat_body, dead, inline}
use Rattle.rewriting.specs.Shapes.{IsOfHead, or_body}
use Rattle.rewriting.proofs.Spines.{IsBare}
use Rattle.rule_parts.proofs.Heads.{IsOfBare}
use Rattle.work_lets.specs.Rules.{IsOfWorkLets}

-- a letrec, at no head
pub record IsLetHere (at : Spot) (f : TermTree) : Type 0 where
  pub group : Group
  pub body : TermTree
  pub is : f ≡ letrec group body
  pub no_head : IsOfHead at.mode → ⊥

pub let_here : {o : Origins} {at : Spot} {r : Rule} {f a : TermTree} → OfLets o at r f a → IsLetHere at f
let_here (flat_side front t cs x back m n) = record { group = _; body = _; is = refl; no_head = m }
let_here (flat_body m n) = record { group = _; body = _; is = refl; no_head = m }
let_here (dead m k d) = record { group = _; body = _; is = refl; no_head = m }
let_here (inline front t x back m n d s) = record { group = _; body = _; is = refl; no_head = m }

-- two lists of bindings as groups
pub group_of_both : (xs ys : List Binding) → group_of (xs ++ ys) ≡ joined (group_of xs) (group_of ys)
group_of_both [] ys = refl
group_of_both (b ∷ xs) ys = ap (bind b.ty b.body) (group_of_both xs ys)

-- where something is bound the letrec stays
pub or_body_some : (bs : List Binding) (e : TermTree) → (bs ≡ [] → ⊥) → letrec (group_of bs) e ≡ or_body (group_of bs) e
or_body_some [] e h = absurd (h refl)
or_body_some (b ∷ bs) e h = refl

-- a letrec is no application
bare_let : {o : Origins} {at : Spot} {r : Rule} {f a : TermTree} → OfLets o at r f a → IsBare f
bare_let (flat_side front t cs x back m n) = record { itself = refl; alone = refl }
bare_let (flat_body m n) = record { itself = refl; alone = refl }
bare_let (dead m k d) = record { itself = refl; alone = refl }
bare_let (inline front t x back m n d s) = record { itself = refl; alone = refl }

pub of_bare : (r : Rule) → IsOfWorkLets r → IsOfBare r
of_bare Dead i = λ o at e e' m. bare_let m
of_bare Inline i = λ o at e e' m. bare_let m
of_bare TyBeta i = absurd i
of_bare Beta i = absurd i
of_bare AppLet i = absurd i
of_bare AppCase i = absurd i
of_bare CaseCon i = absurd i
of_bare CaseLet i = absurd i
of_bare CaseCase i = absurd i
of_bare Proj i = absurd i
of_bare PrimLet i = absurd i
of_bare PrimCase i = absurd i
of_bare Flat i = absurd i
of_bare Unfold i = absurd i
of_bare Unroll i = absurd i
of_bare Elem i = absurd i
of_bare Delta i = absurd i
of_bare ApPure i = absurd i
of_bare Eta i = absurd i
of_bare Spec i = absurd i
of_bare Anf i = absurd i
