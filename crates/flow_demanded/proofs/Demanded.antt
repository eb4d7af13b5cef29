-- What the rules make of a primitive on the arguments that it names, and that they make nothing else.
use Rattle.std.proofs.Common.{◌≡◌, ℕ, sym, refl, subst, List, length, Option, None, Some, IfSome, is_some, true}
use Rattle.chw_prims.specs.declared.prim.Primitive.{Primitive as Prim}
use Rattle.chw_prims.specs.Schemas.{schema_type}
use Rattle.chw_terms.specs.declared.rule.Rule.{Rule}
use Rattle.chw_terms.specs.declared.rule.Rule.TheVariants.{PrimLet, PrimCase}
use Rattle.chw_terms.specs.declared.term.Arg.{Arg}
use Rattle.chw_terms.specs.TermTree.{TermTree, letrec, prim, case_of, Group, size_of, Alts}
use Rattle.chw_terms.specs.TermView.{applied}
use Rattle.chw_typing.specs.Groups.{each_body}
use Rattle.rewriting.specs.Origins.{Origins}
use Rattle.rewriting.specs.Spots.{Spot, asked_for}
use Rattle.rewriting.specs.Active.{Demands}
use Rattle.rewriting.specs.Demanded.{OfDemanded, prim_let, prim_case, DemandsLet, DemandsCase}
use Rattle.rewriting.proofs.Spines.{head_is, args_are}
use Rattle.rule_parts.specs.Cores.{AnswersCore}
use Rattle.flow_demanded.specs.Demanding.{DemandsForm, IsFirstOfForm, NoneOfForm}
use Rattle.flow_demanded.specs.declared.forms.Form.TheVariants.{Letrec, Case}
use Rattle.flow_demanded.specs.Moves.{on_arg}
use Rattle.flow_demanded.proofs.Parts.{let_parts}

-- a primitive on arguments
pub record SameCall (p p' : Prim) (args args' : List Arg) : Type 0 where
  pub prims : p ≡ p'
  pub given : args ≡ args'

pub same_call : (p p' : Prim) (args args' : List Arg) → applied (prim p) args ≡ applied (prim p') args' → SameCall p p' args args'
same_call p p' args args' q =
    let head : prim p ≡ prim p' = head_is (prim p) (prim p') args args' (record { itself = refl; alone = refl }) (record { itself = refl; alone = refl }) q in
    let number : p ≡ p' = cc in
    record { prims = number; given = args_are (prim p) (prim p') args args' (record { itself = refl; alone = refl }) (record { itself = refl; alone = refl }) q }

-- what is demanded of a primitive and arguments is demanded of the same
demands_same : {o : Origins} {at : Spot} {p p' : Prim} {args args' : List Arg} {i : ℕ} {a : TermTree} → SameCall p p' args args' → Demands o at p args i a → Demands o at p' args' i a
demands_same {o} {at} {p} {args' = args'} {i} {a} s d = subst (λ q. Demands o at q args' i a) s.prims (subst (λ args. Demands o at p args i a) s.given d)

demands_back : {o : Origins} {at : Spot} {p p' : Prim} {args args' : List Arg} {i : ℕ} {a : TermTree} → SameCall p p' args args' → Demands o at p' args' i a → Demands o at p args i a
demands_back {o} {at} {p} {args' = args'} {i} {a} s d = subst (λ args. Demands o at p args i a) (sym s.given) (subst (λ q. Demands o at q args' i a) (sym s.prims) d)

let_of_form : {o : Origins} {at : Spot} {p : Prim} {args : List Arg} {j : ℕ} → DemandsLet o at p args j → DemandsForm o at p args Letrec j
let_of_form d = (letrec d.0 d.1, d.2, tt)

case_of_form : {o : Origins} {at : Spot} {p : Prim} {args : List Arg} {j : ℕ} → DemandsCase o at p args j → DemandsForm o at p args Case j
case_of_form d = (case_of d.0 d.1, d.2, tt)

-- the first letrec moves out
pub of_let : {o : Origins} {at : Spot} {p : Prim} {args : List Arg} {i : ℕ} {a : TermTree} (g : Group) (e : TermTree) → length args ≡ asked_for (schema_type p) → IsFirstOfForm o at p args Letrec i a → a ≡ letrec g e → AnswersCore o at PrimLet (applied (prim p) args) (Some (letrec g (on_arg p args i (size_of g) e)))
of_let {o} {at} {p} {args} {i} {a} g e n f q =
    prim_let n (subst (λ a. Demands o at p args i a) q f.demands) (λ j l d. f.first j l (let_of_form d))

made_of_no_let : {o : Origins} {at : Spot} {r : Rule} {p : Prim} {args : List Arg} {e e' : TermTree} → NoneOfForm o at p args Letrec → OfDemanded o at r e e' → r ≡ PrimLet → e ≡ applied (prim p) args → ⊥
made_of_no_let {p = p} {args = args} none (prim_let {p = p'} {args = args'} {i = i} {g = g} {e = e} n d f) k q =
    none i (letrec g e, demands_same (same_call p' p args' args q) d, tt)
made_of_no_let none (prim_case n d f c) k q = absurd cc

-- where there is none, nothing does
pub of_no_let : {o : Origins} {at : Spot} {p : Prim} {args : List Arg} → NoneOfForm o at p args Letrec → AnswersCore o at PrimLet (applied (prim p) args) None
of_no_let none e' m = made_of_no_let none m refl refl

-- the first case moves out where there is no letrec
pub of_case : {o : Origins} {at : Spot} {p : Prim} {args : List Arg} {i : ℕ} {a : TermTree} (e : TermTree) (alts : Alts) → length args ≡ asked_for (schema_type p) → NoneOfForm o at p args Letrec → IsFirstOfForm o at p args Case i a → a ≡ case_of e alts → AnswersCore o at PrimCase (applied (prim p) args) (Some (case_of e (each_body (λ n f. on_arg p args i n f) alts)))
of_case {o} {at} {p} {args} {i} {a} e alts n none f q =
    prim_case n (subst (λ a. Demands o at p args i a) q f.demands) (λ j l d. f.first j l (case_of_form d)) (λ j d. none j (let_of_form d))

made_of_no_case : {o : Origins} {at : Spot} {r : Rule} {p : Prim} {args : List Arg} {e e' : TermTree} → NoneOfForm o at p args Case → OfDemanded o at r e e' → r ≡ PrimCase → e ≡ applied (prim p) args → ⊥
made_of_no_case none (prim_let n d f) k q = absurd cc
made_of_no_case {p = p} {args = args} none (prim_case {p = p'} {args = args'} {i = i} {e = e} {alts = alts} n d f c) k q =
    none i (case_of e alts, demands_same (same_call p' p args' args q) d, tt)

pub of_no_case : {o : Origins} {at : Spot} {p : Prim} {args : List Arg} → NoneOfForm o at p args Case → AnswersCore o at PrimCase (applied (prim p) args) None
of_no_case none e' m = made_of_no_case none m refl refl

made_beside_let : {o : Origins} {at : Spot} {r : Rule} {p : Prim} {args : List Arg} {e e' : TermTree} (i : ℕ) → DemandsLet o at p args i → OfDemanded o at r e e' → r ≡ PrimCase → e ≡ applied (prim p) args → ⊥
made_beside_let i l (prim_let n d f) k q = absurd cc
made_beside_let {p = p} {args = args} i l (prim_case {p = p'} {args = args'} n d f c) k q =
    c i (l.0, l.1, demands_back (same_call p' p args' args q) l.2)

-- nor does a case where there is one
pub beside_let : {o : Origins} {at : Spot} {p : Prim} {args : List Arg} {i : ℕ} {a : TermTree} → IsFirstOfForm o at p args Letrec i a → AnswersCore o at PrimCase (applied (prim p) args) None
beside_let {o} {at} {p} {args} {i} {a} f e' m =
    let parts = let_parts a f.of_form in
    made_beside_let i (parts.group, parts.body, subst (λ a. Demands o at p args i a) parts.is f.demands) m refl refl

pub beside_some : {X : Type 0} {o : Origins} {at : Spot} (p : Prim) (args : List Arg) (r : Option X) (n : X → ℕ) (t : X → TermTree) → is_some r ≡ true → IfSome r (λ it. IsFirstOfForm o at p args Letrec (n it) (t it)) → AnswersCore o at PrimCase (applied (prim p) args) None
beside_some p args (Some it) n t q h = beside_let h
beside_some p args None n t q h = absurd cc
