-- The arguments of quiet primitives.
use Rattle.std.proofs.Common.{◌≡◌, ◌∙◌, ◌⊎◌, inl, inr, sym, ap, refl, subst, ℕ, zero, suc, List, [], ◌∷◌, ◌++◌, arith, Some, None}
use Rattle.std.specs.List.{slice_get}
use Rattle.chw_types.specs.TypeTree.{TypeTree}
use Rattle.chw_prims.specs.declared.prim.Primitive.{Primitive as Prim}
use Rattle.chw_prims.specs.declared.prim.Primitive.TheVariants.{Fmap, Pure, Register, BlockRam}
use Rattle.chw_prims.specs.declared.row.Row.{Row}
use Rattle.chw_prims.specs.declared.row.Row.TheVariants.{Binary, WideSum, WideProduct, Unary, Shift, Compare, Extend, Truncate, Cut, Joined, Reduce, Packed, Unpacked, Constant, Delay, Memory, Crossing, Element}
use Rattle.chw_prims.specs.Schemas.{row_of}
use Rattle.chw_terms.specs.declared.term.Arg.{Arg}
use Rattle.chw_terms.specs.declared.term.Arg.TheVariants.{OfTerm, OfType}
use Rattle.chw_terms.specs.TermTree.{TermTree, made, con, prim}
use Rattle.chw_terms.specs.Unrolled.{body_of}
use Rattle.rewriting.specs.Operands.{IsSignal}
use Rattle.rewriting.specs.Shapes.{IsVariable, IsMade}
use Rattle.rewriting.specs.Spots.{LooksAt, IsOnWords, TakesElement}
use Rattle.quiet_sides.specs.Quiet.{IsWritten, written_literal, written_constructor, written_vector, IsContent, IsPlainRow, IsLifted}
use Rattle.quiet_sides.proofs.Acts.{Moves}
use Rattle.quiet_sides.proofs.Forms.{Form, a_variable, a_name, a_binder, a_constructor, a_primitive, a_literal, a_vector, a_case, form_of, form_applied, variable_form}
use Rattle.quiet_sides.proofs.Spines.{LiftsBy, by_fmap, by_ap, Lifts, QuietPrim, plain, lifting, QuietArgument, named, content, function, lifted_spine}

-- behind others stand the same
pub got_front : {X : Type 0} (xs ys : List X) (i : ℕ) (x : X) → slice_get xs i ≡ Some x → slice_get (xs ++ ys) i ≡ Some x
got_front [] ys i x q = absurd cc
got_front (y ∷ xs) ys zero x q = q
got_front (y ∷ xs) ys (suc i) x q = got_front xs ys i x q

-- of what lifts, the terms among the arguments
pub lift_argument : (d a b : TypeTree) (f s : TermTree) (i : ℕ) (x : TermTree) → slice_get (OfType d ∷ OfType a ∷ OfType b ∷ OfTerm f ∷ OfTerm s ∷ []) i ≡ Some (OfTerm x) → ((i ≡ 3) × (x ≡ f)) ⊎ ((i ≡ 4) × (x ≡ s))
lift_argument d a b f s zero x q = absurd cc
lift_argument d a b f s (suc zero) x q = absurd cc
lift_argument d a b f s (suc (suc zero)) x q = absurd cc
lift_argument d a b f s (suc (suc (suc zero))) x q = inl (refl, cc)
lift_argument d a b f s (suc (suc (suc (suc zero)))) x q = inr (refl, cc)
lift_argument d a b f s (suc (suc (suc (suc (suc i))))) x q = absurd cc

pub quiet_argument : {p : Prim} {args : List Arg} → QuietPrim p args → (i : ℕ) (a : TermTree) → slice_get args i ≡ Some (OfTerm a) → QuietArgument p i a
quiet_argument (plain r h) i a g = content r (h i a g)
quiet_argument {p} (lifting l) i a g = by (lift_argument l.dom l.from l.to l.function l.signal i a (subst (λ xs. slice_get xs i ≡ Some (OfTerm a)) l.are g))
  where
    by : ((i ≡ 3) × (a ≡ l.function)) ⊎ ((i ≡ 4) × (a ≡ l.signal)) → QuietArgument p i a
    by (inl q) = function q.0 (subst (LiftsBy p) (sym q.1) l.by)
    by (inr q) = named (subst IsVariable (sym q.1) l.name)

pub lifts_parts : {p : Prim} {d a b : TypeTree} {f s : TermTree} {rest : List Arg} → Lifts p (OfType d ∷ OfType a ∷ OfType b ∷ OfTerm f ∷ OfTerm s ∷ rest) → LiftsBy p f × IsVariable s
lifts_parts {p} {f = f} {s = s} l =
    let are = l.are in
    let first : f ≡ l.function = cc in
    let second : s ≡ l.signal = cc in
    (subst (LiftsBy p) (sym first) l.by, subst IsVariable (sym second) l.name)

-- the forms of these arguments
pub lifted_form : {e : TermTree} → IsLifted e → form_of e ≡ a_primitive
lifted_form l = let at = lifted_spine l in ap form_of at.2 ∙ form_applied at.1 (prim at.0)

made_form : (e : TermTree) → IsMade e → form_of e ≡ a_name
made_form (made m) h = refl
made_form _ h = absurd h

other_moves : (f : Form) (x : TermTree) → form_of x ≡ f → (f ≡ a_binder → ⊥) → (f ≡ a_case → ⊥) → Moves x → ⊥
other_moves f x q b c (inl m) = b (sym q ∙ m)
other_moves f x q b c (inr m) = c (sym q ∙ m)

written_stays : {a : TermTree} → IsWritten a → Moves a → ⊥
written_stays {a} written_literal m = other_moves a_literal a refl (λ q. cc) (λ q. cc) m
written_stays {a} (written_constructor c args h) m = other_moves a_constructor a (form_applied args (con c)) (λ q. cc) (λ q. cc) m
written_stays {a} (written_vector h) m = other_moves a_vector a refl (λ q. cc) (λ q. cc) m

variable_stays : (a : TermTree) → IsVariable a → Moves a → ⊥
variable_stays a v m = other_moves a_variable a (variable_form a v) (λ q. cc) (λ q. cc) m

pub argument_stays : {p : Prim} {i : ℕ} {a : TermTree} → QuietArgument p i a → Moves a → ⊥
argument_stays {a = a} (named v) m = variable_stays a v m
argument_stays {a = a} (content r (inl v)) m = variable_stays a v m
argument_stays (content r (inr w)) m = written_stays w.1 m
argument_stays {a = a} (function q (by_fmap e h)) m = other_moves a_name a (made_form a h) (λ q. cc) (λ q. cc) m
argument_stays {a = a} (function q (by_ap e l)) m = other_moves a_primitive a (lifted_form l) (λ q. cc) (λ q. cc) m

-- a content is no operand, and no rule looks at it
pub content_no_operand : (p : Prim) (i : ℕ) → IsContent p i → IsOnWords p ⊎ (TakesElement p ⊎ IsSignal p i) → ⊥
content_no_operand Pure i q (inl w) = w
content_no_operand Pure i q (inr (inl t)) = t
content_no_operand Pure i q (inr (inr s)) = s
content_no_operand Register i q (inl w) = w
content_no_operand Register i q (inr (inl t)) = t
content_no_operand Register i q (inr (inr s)) = omega (arith, q, s)
content_no_operand BlockRam i q (inl w) = w
content_no_operand BlockRam i q (inr (inl t)) = t
content_no_operand BlockRam i q (inr (inr (inl s))) = omega (arith, q, s)
content_no_operand BlockRam i q (inr (inr (inr s))) = omega (arith, q, s)
content_no_operand _ i q k = absurd q

pub content_not_seen : (p : Prim) (i : ℕ) → IsContent p i → LooksAt p i → ⊥
content_not_seen Pure i q l = l
content_not_seen Register i q l = l
content_not_seen BlockRam i q l = l
content_not_seen _ i q l = absurd q

-- the function that is lifted is no operand
fmap_operand : (i : ℕ) → i ≡ 3 → IsOnWords Fmap ⊎ (TakesElement Fmap ⊎ IsSignal Fmap i) → ⊥
fmap_operand i q (inl w) = w
fmap_operand i q (inr (inl t)) = t
fmap_operand i q (inr (inr s)) = omega (arith, q, s)

pub lifted_no_operand : (p : Prim) (i : ℕ) → p ≡ Fmap → i ≡ 3 → IsOnWords p ⊎ (TakesElement p ⊎ IsSignal p i) → ⊥
lifted_no_operand p i e q k = fmap_operand i q (subst (λ p. IsOnWords p ⊎ (TakesElement p ⊎ IsSignal p i)) e k)

-- what isn't written out
pub plain_not_unrolled : (row : Row) (ts : List TypeTree) → IsPlainRow row → body_of row ts ≡ None
plain_not_unrolled (Binary x) ts r = refl
plain_not_unrolled (WideSum x) ts r = refl
plain_not_unrolled (WideProduct x) ts r = refl
plain_not_unrolled (Unary x) ts r = refl
plain_not_unrolled (Shift x) ts r = refl
plain_not_unrolled (Compare x) ts r = refl
plain_not_unrolled (Extend x) ts r = refl
plain_not_unrolled (Truncate x) ts r = refl
plain_not_unrolled Cut ts r = refl
plain_not_unrolled Joined ts r = refl
plain_not_unrolled Reduce ts r = refl
plain_not_unrolled (Packed x) ts r = refl
plain_not_unrolled (Unpacked x) ts r = refl
plain_not_unrolled Constant ts r = refl
plain_not_unrolled Delay ts r = refl
plain_not_unrolled Memory ts r = refl
plain_not_unrolled Crossing ts r = refl
plain_not_unrolled (Element k) ts r = refl
plain_not_unrolled _ ts r = absurd r

lifts_not_unrolled : {p : Prim} {f : TermTree} (ts : List TypeTree) → LiftsBy p f → body_of (row_of p) ts ≡ None
lifts_not_unrolled ts (by_fmap e h) = ap (λ p. body_of (row_of p) ts) e
lifts_not_unrolled ts (by_ap e l) = ap (λ p. body_of (row_of p) ts) e

pub quiet_not_unrolled : {p : Prim} {args : List Arg} (ts : List TypeTree) → QuietPrim p args → body_of (row_of p) ts ≡ None
quiet_not_unrolled {p} ts (plain r h) = plain_not_unrolled (row_of p) ts r
quiet_not_unrolled ts (lifting l) = lifts_not_unrolled ts l.by
