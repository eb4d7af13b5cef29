-- What the rule on elements makes of a primitive on these arguments.
use Rattle.std.proofs.Common.{◌≡◌, ◌∙◌, sym, refl, subst, inl, inr, ◌⊎◌, List, Option, Some, None, MatchOption}
use Rattle.chw_prims.specs.declared.prim.Primitive.{Primitive as Prim}
use Rattle.chw_prims.specs.declared.prim.Primitive.TheVariants.{VGet, VGetC, VAt}
use Rattle.chw_terms.specs.declared.rule.Rule.TheVariants.{Elem}
use Rattle.chw_terms.specs.declared.scene.Mode.TheVariants.{K}
use Rattle.chw_terms.specs.declared.term.Arg.{Arg}
use Rattle.chw_terms.specs.TermTree.{TermTree, prim}
use Rattle.chw_terms.specs.TermView.{applied}
use Rattle.rewriting.specs.Origins.{Origins}
use Rattle.rewriting.specs.Spots.{Spot}
use Rattle.rewriting.specs.Primitives.{OfPrimitives, elem, elem_at}
use Rattle.rule_parts.specs.Cores.{AnswersCore}
use Rattle.work_prims.specs.Elements.{IsElement, IsElementAt}
use Rattle.work_prims.proofs.Inverted.{taken_of}

-- by a number of the type
pub number_answer : (o : Origins) (at : Spot) (p : Prim) (args : List Arg) (r : Option TermTree) → (p ≡ VGet) ⊎ (p ≡ VGetC) → MatchOption r ((e : TermTree) → IsElement args e → ⊥) (λ e. IsElement args e) → AnswersCore o at Elem (applied (prim p) args) r
number_answer o at p args (Some e) w h =
    subst (λ args. OfPrimitives o at Elem (applied (prim p) args) e) (sym h.are) (elem w h.number h.within h.is)
number_answer o at p args None w none = λ e m. elim (taken_of p args m refl refl).way [
  | inl x ↦ none e x.1
  | inr x ↦ elim w [ inl q ↦ other (sym q ∙ x.0) | inr q ↦ other_circuit (sym q ∙ x.0) ]
]
  where
    other : VGet ≡ VAt → ⊥
    other q = cc

    other_circuit : VGetC ≡ VAt → ⊥
    other_circuit q = cc

-- by a literal in a constant
pub word_answer : (o : Origins) (at : Spot) (p : Prim) (args : List Arg) (r : Option TermTree) → p ≡ VAt → MatchOption r ((e : TermTree) → at.mode ≡ K → IsElementAt args e → ⊥) (λ e. (at.mode ≡ K) × IsElementAt args e) → AnswersCore o at Elem (applied (prim p) args) r
word_answer o at p args (Some e) w h =
    subst (λ p. OfPrimitives o at Elem (applied (prim p) args) e) (sym w)
    (subst (λ args. OfPrimitives o at Elem (applied (prim VAt) args) e) (sym h.1.are) (elem_at h.0 h.1.number h.1.within h.1.is))
word_answer o at p args None w none = λ e m. elim (taken_of p args m refl refl).way [
  | inl x ↦ elim x.0 [ inl q ↦ absurd (other (sym w ∙ q)) | inr q ↦ absurd (other_circuit (sym w ∙ q)) ]
  | inr x ↦ none e x.1 x.2
]
  where
    other : VAt ≡ VGet → ⊥
    other q = cc

    other_circuit : VAt ≡ VGetC → ⊥
    other_circuit q = cc

-- no other primitive takes an element
pub other_answer : (o : Origins) (at : Spot) (p : Prim) (args : List Arg) → (p ≡ VGet → ⊥) → (p ≡ VGetC → ⊥) → (p ≡ VAt → ⊥) → AnswersCore o at Elem (applied (prim p) args) None
other_answer o at p args f g h = λ e m. elim (taken_of p args m refl refl).way [
  | inl x ↦ elim x.0 [ inl q ↦ f q | inr q ↦ g q ]
  | inr x ↦ h x.0
]
