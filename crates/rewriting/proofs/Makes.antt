-- A rule has one instance at most.
use Rattle.std.proofs.Common.{◌≡◌, ◌∙◌, sym, ap, refl, subst, List, map}
use Rattle.chw_prims.specs.declared.prim.Primitive.TheVariants.{Fmap}
use Rattle.chw_terms.specs.declared.rule.Rule.{Rule}
use Rattle.chw_terms.specs.declared.rule.Rule.TheVariants.{TyBeta, Beta, AppLet, AppCase, CaseCon, CaseLet, CaseCase, Proj, PrimLet, PrimCase, Flat, Dead, Inline, Unfold, Unroll, Elem, Delta, ApPure, Eta, Spec, Anf}
use Rattle.chw_terms.specs.declared.term.Arg.{Arg}
use Rattle.chw_terms.specs.declared.term.Arg.TheVariants.{OfTerm}
use Rattle.chw_terms.specs.FreeVariables.{free_in}
use Rattle.chw_terms.specs.TermMoves.{shift}
use Rattle.chw_terms.specs.TermTree.{TermTree, var, global, made, letrec, prim, no_bindings, bind}
use Rattle.chw_terms.specs.TermView.{applied}
use Rattle.rewriting.specs.Origins.{Origins}
use Rattle.rewriting.specs.Spots.{Spot}
use Rattle.rewriting.specs.Calls.{OfWhole, spec_call, anf_call, anf_result, call_origin}
use Rattle.rewriting.specs.Instances.{Makes, HasInstance, on_core, on_whole}
use Rattle.rewriting.specs.Numbers.{IsNumberOf}
use Rattle.rewriting.specs.Operands.{anf, with_name}
use Rattle.rewriting.specs.Shapes.{fmap_of}
use Rattle.rewriting.specs.Signals.{spec_function}
use Rattle.rewriting.proofs.CaseMakes.{one_function, one_case, one_type_found}
use Rattle.rewriting.proofs.Cores.{one_core, core_of}
use Rattle.rewriting.proofs.LetMakes.{one_let}
use Rattle.rewriting.proofs.Lists.{somes_same, one_number}
use Rattle.rewriting.proofs.Named.{one_operand, one_first_of_call, no_call}
use Rattle.rewriting.proofs.Primitives.{one_name, one_demanded, one_primitive}
use Rattle.rewriting.proofs.Signals.{one_signal}
use Rattle.rewriting.proofs.Spines.{head_of, head_applied}

pub one_makes : (o : Origins) (at : Spot) (r : Rule) (e f a b : TermTree) → Makes o at r e a → Makes o at r f b → e ≡ f → a ≡ b
one_makes o at TyBeta e f a b m n q = one_function m n refl q
one_makes o at Beta e f a b m n q = one_function m n refl q
one_makes o at AppLet e f a b m n q = one_function m n refl q
one_makes o at AppCase e f a b m n q = one_function m n refl q
one_makes o at CaseCon e f a b m n q = one_case m n refl q
one_makes o at CaseLet e f a b m n q = one_case m n refl q
one_makes o at CaseCase e f a b m n q = one_case m n refl q
one_makes o at Proj e f a b m n q = one_case m n refl q
one_makes o at PrimLet e f a b m n q = one_demanded m n refl q
one_makes o at PrimCase e f a b m n q = one_demanded m n refl q
one_makes o at Flat e f a b m n q = one_let m n refl q
one_makes o at Dead e f a b m n q = one_let m n refl q
one_makes o at Inline e f a b m n q = one_let m n refl q
one_makes o at Unfold e f a b m n q = one_name m n refl q
one_makes o at Unroll e f a b m n q = one_primitive m n refl q
one_makes o at Elem e f a b m n q = one_primitive m n refl q
one_makes o at Delta e f a b m n q = one_primitive m n refl q
one_makes o at ApPure e f a b m n q = one_signal m n refl q
one_makes o at Eta e f a b m n q = one_signal m n refl q
one_makes o at Spec e f a b m n q = one_signal m n refl q
one_makes o at Anf e f a b m n q = one_operand m n refl q

pub one_of_whole : {o : Origins} {at : Spot} {r : Rule} {e a b : TermTree} → OfWhole o at r e a → OfWhole o at r e b → a ≡ b
one_of_whole {o} {at} {e = e} (spec_call {ts = ts} {m = m} l c n) (spec_call {ts = ts'} {m = m'} l' c' n') =
    let types = somes_same ts ts' (sym c.free ∙ c'.free) in
    let number = one_number o (call_origin o ts e) m m' n (subst (λ ts. IsNumberOf o (call_origin o ts e) m') (sym types) n') in
    λ i. applied (made (number i)) (map (λ x. OfTerm (var x)) (free_in e))
one_of_whole {e = e} (anf_call h d) (anf_call g c) =
    let same = one_first_of_call h g in
    let type = one_type_found d c same.term in
    λ i. with_name e (same.path i) (type i) (same.term i)
one_of_whole (anf_call {x = x} {path = p} h d) (anf_result l r v w n c) = absurd (n.in_call p x h.is)
one_of_whole (anf_result l r v w n c) (anf_call {x = x} {path = p} h d) = absurd (n.in_call p x h.is)
one_of_whole {e = e} (anf_result l r v w n d) (anf_result l' r' v' w' n' d') =
    let type = one_type_found d d' refl in
    λ i. letrec (bind (type i) (shift e 0 1) no_bindings) (var 0)

-- what acts on a head with its arguments doesn't act on the whole
apart : (o : Origins) (at : Spot) (r : Rule) (e f a b : TermTree) (rest : List Arg) → Makes o at r e a → OfWhole o at r f b → applied e rest ≡ f → ⊥
apart o at TyBeta e f a b rest m w q = elim w [ ]
apart o at Beta e f a b rest m w q = elim w [ ]
apart o at AppLet e f a b rest m w q = elim w [ ]
apart o at AppCase e f a b rest m w q = elim w [ ]
apart o at CaseCon e f a b rest m w q = elim w [ ]
apart o at CaseLet e f a b rest m w q = elim w [ ]
apart o at CaseCase e f a b rest m w q = elim w [ ]
apart o at Proj e f a b rest m w q = elim w [ ]
apart o at PrimLet e f a b rest m w q = elim w [ ]
apart o at PrimCase e f a b rest m w q = elim w [ ]
apart o at Flat e f a b rest m w q = elim w [ ]
apart o at Dead e f a b rest m w q = elim w [ ]
apart o at Inline e f a b rest m w q = elim w [ ]
apart o at Unfold e f a b rest m w q = elim w [ ]
apart o at Unroll e f a b rest m w q = elim w [ ]
apart o at Elem e f a b rest m w q = elim w [ ]
apart o at Delta e f a b rest m w q = elim w [ ]
apart o at ApPure e f a b rest m w q = elim w [ ]
apart o at Eta e f a b rest m w q = elim w [ ]
apart o at Spec e f a' b' rest (spec_function {d = d} {a = a} {b = b} {g = g} {s = s} l h n i) (spec_call k c j) q =
    let heads : prim Fmap ≡ global c.of = sym (head_applied rest (fmap_of d a b g s)) ∙ ap head_of (q ∙ c.is) ∙ head_applied c.args (global c.of) in absurd cc
apart o at Anf e f a b rest (anf h d) (anf_call g c) q = no_call rest h.is.0 g.is.0 q
apart o at Anf e f a b rest (anf {x = x} {path = p} h d) (anf_result l r v w n c) q = n.in_core e rest p x (sym q) h.is

one_of_same : {o : Origins} {at : Spot} {r : Rule} {e f a b : TermTree} → OfWhole o at r e a → OfWhole o at r f b → e ≡ f → a ≡ b
one_of_same {o} {at} {r} {b = b} w v q = one_of_whole w (subst (λ e. OfWhole o at r e b) (sym q) v)

pub one_instance : {o : Origins} {at : Spot} {r : Rule} {e f a b : TermTree} → HasInstance o at r e a → HasInstance o at r f b → e ≡ f → a ≡ b
one_instance {o} {at} {r} (on_core c c' us m h) (on_core d d' vs n g) q =
    let same = one_core o r c d us vs (core_of o at r c c' m) (core_of o at r d d' n) q in
    let made = one_makes o at r c d c' d' m n same.core in
    λ i. applied (made i) (same.rest i)
one_instance {o} {at} {r} {f = f} {b = b} (on_core c c' us m h) (on_whole w g) q = absurd (apart o at r c f c' b us m w q)
one_instance {o} {at} {r} {e = e} {a = a} (on_whole w h) (on_core c c' us m g) q = absurd (apart o at r c e c' a us m w (sym q))
one_instance (on_whole w h) (on_whole v g) q = one_of_same w v q
