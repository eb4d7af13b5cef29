-- What the parts of the test find says which terms are written out, lifted, and quiet.
use Rattle.std.proofs.Common.{◌≡◌, ◌↔◌, inl, inr, sym, ap, refl, subst, ℕ, zero, suc, List, [], ◌∷◌, Some}
use Rattle.std.specs.List.{slice_get}
use Rattle.chw_types.specs.TypeTree.{TypeTree}
use Rattle.chw_prims.specs.declared.prim.Primitive.{Primitive as Prim}
use Rattle.chw_prims.specs.declared.prim.Primitive.TheVariants.{Fmap, Ap}
use Rattle.chw_terms.specs.declared.term.Alt.{Alt}
use Rattle.chw_terms.specs.declared.term.Arg.{Arg}
use Rattle.chw_terms.specs.declared.term.Arg.TheVariants.{OfTerm, OfType}
use Rattle.chw_terms.specs.declared.term.Head.{Head}
use Rattle.chw_terms.specs.declared.term.Head.TheVariants.{Var, Global, Made, Lam, TyLam, LetRec, Con, PrimOf, Lit, VecLit, Case}
use Rattle.chw_terms.specs.TermTree.{TermTree, var, made, prim, case_of}
use Rattle.chw_terms.specs.TermView.{tree_of, terms_of, alts_of, applied}
use Rattle.chw_typing.specs.Paths.{element_at, Branch, branch_at}
use Rattle.rewriting.specs.Shapes.{IsVariable, IsMade}
use Rattle.quiet_sides.specs.Quiet.{EachTerm, IsWritten, written_literal, written_constructor, written_vector, IsPlainArgument, IsLifted, lifted_on_one, lifted_on_more, IsChoice, IsQuiet, of_variable, of_literal, of_call, of_constructor, of_vector, of_prim, of_lifted, of_case}
use Rattle.quiet_sides.specs.Tests.{EachItem, IfTerm, LiftsOn, IsLifting, QuietAlternatives, WrittenHead, QuietHead, GiveVariables}
use Rattle.quiet_sides.proofs.Forms.{back_applied, on_applied}
use Rattle.quiet_sides.proofs.Heads.{bare}
use Rattle.quiet_sides.proofs.Spines.{LiftsBy, by_fmap, by_ap, Lifts, plain, lifting, QuietAlts, SpineIs, QuietSpine, WrittenSpine, lifted_spine, quiet_spine, written_spine, prim_bare}

-- lists as they are in memory
each_item : (P : ℕ → TermTree → Type 0) (args : List Arg) → EachTerm P args → EachItem (λ i x. IfTerm (P i) x) args
each_item P args h i (OfTerm a) g = h i a g
each_item P args h i (OfType t) g = tt

element_back : (es : List TermTree) (i : ℕ) (a : TermTree) → element_at (terms_of es) i ≡ Some a → slice_get es i ≡ Some a
element_back [] i a q = absurd cc
element_back (e ∷ es) zero a q = q
element_back (e ∷ es) (suc i) a q = element_back es i a q

element_there : (es : List TermTree) (i : ℕ) (a : TermTree) → slice_get es i ≡ Some a → element_at (terms_of es) i ≡ Some a
element_there [] i a q = absurd cc
element_there (e ∷ es) zero a q = q
element_there (e ∷ es) (suc i) a q = element_there es i a q

branch_there : (alts : List Alt) (i : ℕ) (x : Alt) → slice_get alts i ≡ Some x → branch_at (alts_of alts) i ≡ Some (record { pattern = x.pattern; body = x.body })
branch_there [] i x q = absurd cc
branch_there (a ∷ alts) zero x q = let is : a ≡ x = cc in ap (λ (x : Alt). Some (record { pattern = x.pattern; body = x.body })) is
branch_there (a ∷ alts) (suc i) x q = branch_there alts i x q

-- each alternative gives a variable
names_given : (alts : List Alt) → GiveVariables alts → (i : ℕ) (b : Branch) → branch_at (alts_of alts) i ≡ Some b → IsVariable b.body
names_given [] h i b q = absurd cc
names_given (a ∷ alts) h zero b q = let is : a.body ≡ b.body = cc in subst IsVariable is (h 0 a refl)
names_given (a ∷ alts) h (suc i) b q = names_given alts (λ k x g. h (suc k) x g) i b q

given_names : (alts : List Alt) → IsChoice (alts_of alts) → GiveVariables alts
given_names alts c i x g = c.names i (record { pattern = x.pattern; body = x.body }) (branch_there alts i x g)

-- constants that are written out
to_written : (h : Head) (args : List Arg) → WrittenHead h args → IsWritten (applied (tree_of h) args)
to_written (Lit s b) args q = subst (λ xs. IsWritten (applied (tree_of (Lit s b)) xs)) (sym q) written_literal
to_written (Con c) args q = written_constructor c.number args (λ i a g. q i (OfTerm a) g)
to_written (VecLit t es) args q =
    subst (λ xs. IsWritten (applied (tree_of (VecLit t es)) xs)) (sym q.0) (written_vector (λ i a g. q.1 i a (element_back es.items i a g)))
to_written _ args q = absurd q

written_head : (h : Head) (args : List Arg) → WrittenSpine (tree_of h) args → WrittenHead h args
written_head (Lit s b) args q = q
written_head (Con c) args q = each_item (λ i a. IsWritten a) args q
written_head (VecLit t es) args q = (q.0, λ i a g. q.1 i a (element_there es.items i a g))
written_head _ args q = absurd q

pub written_is : (h : Head) (args : List Arg) → WrittenHead h args ↔ IsWritten (applied (tree_of h) args)
written_is h args = (to_written h args, λ w. written_head h args (on_applied WrittenSpine (tree_of h) args (bare h) (written_spine w)))

-- lifted definitions
record LiftsParts (P : TermTree → Type 0) (args : List Arg) : Type 0 where
  d : TypeTree
  a : TypeTree
  b : TypeTree
  f : TermTree
  s : TermTree
  are : args ≡ OfType d ∷ OfType a ∷ OfType b ∷ OfTerm f ∷ OfTerm s ∷ []
  function : P f
  name : IsVariable s

lifts_parts : (P : TermTree → Type 0) (args : List Arg) → LiftsOn P args → LiftsParts P args
lifts_parts P (OfType d ∷ OfType a ∷ OfType b ∷ OfTerm f ∷ OfTerm s ∷ []) h =
    record { d = d; a = a; b = b; f = f; s = s; are = refl; function = h.0; name = h.1 }
lifts_parts P _ h = absurd h

on_one : (d a b : TypeTree) (f s : TermTree) → IsMade f → IsVariable s → IsLifted (applied (prim Fmap) (OfType d ∷ OfType a ∷ OfType b ∷ OfTerm f ∷ OfTerm s ∷ []))
on_one d a b (made m) (var x) h v = lifted_on_one
on_one d a b (made m) _ h v = absurd v
on_one d a b _ s h v = absurd h

on_more : (d a b : TypeTree) (f s : TermTree) → IsLifted f → IsVariable s → IsLifted (applied (prim Ap) (OfType d ∷ OfType a ∷ OfType b ∷ OfTerm f ∷ OfTerm s ∷ []))
on_more d a b f (var x) h v = lifted_on_more h
on_more d a b f _ h v = absurd v

pub to_lifted : (p : Prim) (args : List Arg) → IsLifting p args → IsLifted (applied (prim p) args)
to_lifted Fmap args h =
    let l = lifts_parts IsMade args h in
    subst (λ xs. IsLifted (applied (prim Fmap) xs)) (sym l.are) (on_one l.d l.a l.b l.f l.s l.function l.name)
to_lifted Ap args h =
    let l = lifts_parts IsLifted args h in
    subst (λ xs. IsLifted (applied (prim Ap) xs)) (sym l.are) (on_more l.d l.a l.b l.f l.s l.function l.name)
to_lifted _ args h = absurd h

to_lifting : {p : Prim} {args : List Arg} → Lifts p args → IsLifting p args
to_lifting {p} {args} l = by l.by
  where
    by : LiftsBy p l.function → IsLifting p args
    by (by_fmap e h) = subst (λ p. IsLifting p args) (sym e) (subst (LiftsOn IsMade) (sym l.are) (h, l.name))
    by (by_ap e h) = subst (λ p. IsLifting p args) (sym e) (subst (LiftsOn IsLifted) (sym l.are) (h, l.name))

-- by the head and the arguments
abbrev LiftsSpine : TermTree → List Arg → Type 0
LiftsSpine (prim p) args = Lifts p args
LiftsSpine _ args = ⊥

lifts_spine : {e : TermTree} → IsLifted e → SpineIs LiftsSpine e
lifts_spine {e} l =
    let at = lifted_spine l in
    subst (SpineIs LiftsSpine) (sym at.2) (back_applied LiftsSpine (prim at.0) at.1 (prim_bare at.0) at.3)

pub lifted_is : (p : Prim) (args : List Arg) → IsLifting p args ↔ IsLifted (applied (prim p) args)
lifted_is p args = (to_lifted p args, λ l. to_lifting (on_applied LiftsSpine (prim p) args (prim_bare p) (lifts_spine l)))

pub lifted_other : (h : Head) → ((p : _) → h ≡ PrimOf p → ⊥) → (args : List Arg) → IsLifted (applied (tree_of h) args) → ⊥
lifted_other h none args l = by h none (on_applied LiftsSpine (tree_of h) args (bare h) (lifts_spine l))
  where
    by : (h : Head) → ((p : _) → h ≡ PrimOf p → ⊥) → LiftsSpine (tree_of h) args → ⊥
    by (PrimOf p) none k = none p refl
    by (Var x) none k = k
    by (Global d) none k = k
    by (Made m) none k = k
    by (Lam t e) none k = k
    by (TyLam t e) none k = k
    by (LetRec bs e) none k = k
    by (Con c) none k = k
    by (Lit s b) none k = k
    by (VecLit t es) none k = k
    by (Case e alts) none k = k

-- quiet terms
case_quiet : (e : TermTree) (alts : List Alt) → IsVariable e → QuietAlternatives alts → IsQuiet (case_of e (alts_of alts))
case_quiet (var x) alts v (inl p) = of_case (inl p)
case_quiet (var x) alts v (inr c) = of_case (inr (record { many = c.0; names = names_given alts c.1 }))
case_quiet _ alts v q = absurd v

to_quiet : (h : Head) (args : List Arg) → QuietHead h args → IsQuiet (applied (tree_of h) args)
to_quiet (Var x) args q = subst (λ xs. IsQuiet (applied (tree_of (Var x)) xs)) (sym q) of_variable
to_quiet (Lit s b) args q = subst (λ xs. IsQuiet (applied (tree_of (Lit s b)) xs)) (sym q) of_literal
to_quiet (Made m) args q = of_call m.number args (λ i a g. q i (OfTerm a) g)
to_quiet (Con c) args q = of_constructor c.number args (λ i a g. q i (OfTerm a) g)
to_quiet (PrimOf p) args (inl l) = of_lifted (to_lifted p args l)
to_quiet (PrimOf p) args (inr r) = of_prim p args r.0 (λ i a g. r.1 i (OfTerm a) g)
to_quiet (VecLit t es) args q =
    subst (λ xs. IsQuiet (applied (tree_of (VecLit t es)) xs)) (sym q.0) (of_vector (λ i a g. q.1 i a (element_back es.items i a g)))
to_quiet (Case e alts) args q =
    subst (λ xs. IsQuiet (applied (tree_of (Case e alts)) xs)) (sym q.0) (case_quiet e.value alts.items q.1.0 q.1.1)
to_quiet _ args q = absurd q

quiet_alternatives : (alts : List Alt) → QuietAlts (alts_of alts) → QuietAlternatives alts
quiet_alternatives alts (inl p) = inl p
quiet_alternatives alts (inr c) = inr (c.many, given_names alts c)

quiet_head : (h : Head) (args : List Arg) → QuietSpine (tree_of h) args → QuietHead h args
quiet_head (Var x) args q = q
quiet_head (Lit s b) args q = q
quiet_head (Made m) args q = each_item (λ i a. IsVariable a) args q
quiet_head (Con c) args q = each_item (λ i a. IsVariable a) args q
quiet_head (PrimOf p) args (plain r h) = inr (r, each_item (IsPlainArgument p) args h)
quiet_head (PrimOf p) args (lifting l) = inl (to_lifting l)
quiet_head (VecLit t es) args q = (q.0, λ i a g. q.1 i a (element_there es.items i a g))
quiet_head (Case e alts) args q = (q.0, (q.1, quiet_alternatives alts.items q.2))
quiet_head _ args q = absurd q

pub quiet_is : (h : Head) (args : List Arg) → QuietHead h args ↔ IsQuiet (applied (tree_of h) args)
quiet_is h args = (to_quiet h args, λ k. quiet_head h args (on_applied QuietSpine (tree_of h) args (bare h) (quiet_spine k)))
