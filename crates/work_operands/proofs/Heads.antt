-- The answers of heads on arguments.
use Rattle.std.proofs.Common.{◌≡◌, inl, inr, ◌∙◌, sym, subst, ℕ, List, length, Option, Some}
use Rattle.std.proofs.Common.{None, Result, Ok, Err}
use Rattle.std.specs.Prelude.{IfOk}
use Rattle.chw_prims.specs.declared.prim.Primitive.{Primitive as Prim}
use Rattle.chw_prims.specs.Schemas.{schema_type}
use Rattle.chw_terms.specs.Constructors.{Constructor, con_at}
use Rattle.chw_terms.specs.declared.term.Arg.{Arg}
use Rattle.chw_terms.specs.TermTree.{TermTree, prim, con}
use Rattle.chw_terms.specs.TermView.{applied}
use Rattle.chw_typing.specs.HeadTypes.{con_type}
use Rattle.rewriting.specs.Origins.{Origins}
use Rattle.rewriting.specs.Spots.{Spot, HasLets, asked_for}
use Rattle.work_operands.specs.declared.operands.Operands.TheVariants.{Each, OfPrim}
use Rattle.work_operands.specs.Firsts.{AnswersArguments, AnswersOperand, NoneNamed, IsName}
use Rattle.work_operands.proofs.Spines.{prim_needs_none, con_needs_none, call_needs_none}
use Rattle.work_operands.proofs.Spines.{prim_named, con_named, call_named}

prim_answer : (o : Origins) (at : Spot) (p : Prim) (args : List Arg) (r : Option TermTree)
    → AnswersArguments o at (OfPrim p) (prim p) args (asked_for (schema_type p)) r
    → AnswersOperand o at (applied (prim p) args) r
prim_answer o at p args None none = prim_needs_none o at p args none
prim_answer o at p args (Some e) f = inl (prim_named p args f)

pub prim_answers : {E : Type 0} (o : Origins) (at : Spot) (p : Prim) (args : List Arg)
    (h : TermTree) (n : ℕ) (r : Result (Option TermTree) E) → h ≡ prim p
    → n ≡ asked_for (schema_type p) → IfOk r (AnswersArguments o at (OfPrim p) h args n)
    → IfOk r (AnswersOperand o at (applied (prim p) args))
prim_answers o at p args h n (Err e) q m a = tt
prim_answers o at p args h n (Ok r) q m a =
    prim_answer o at p args r
    (subst (λ n. AnswersArguments o at (OfPrim p) (prim p) args n r) m
    (subst (λ h. AnswersArguments o at (OfPrim p) h args n r) q a))

con_answer : (o : Origins) (at : Spot) (c : ℕ) (it : Constructor) (args : List Arg)
    (r : Option TermTree) → HasLets at.mode → con_at o.program.datas c ≡ Some it
    → AnswersArguments o at Each (con c) args (asked_for (con_type it)) r
    → AnswersOperand o at (applied (con c) args) r
con_answer o at c it args None m k none =
    con_needs_none o at c args (λ it' m' k'.
    let both : Some it ≡ Some it' = sym k ∙ k' in
    let same : it ≡ it' = cc in
    subst (λ it. NoneNamed o at Each args (asked_for (con_type it))) same none)
con_answer o at c it args (Some e) m k f = inl (con_named c it args m k f)

pub con_answers : {E : Type 0} (o : Origins) (at : Spot) (c : ℕ) (it : Constructor)
    (args : List Arg) (h : TermTree) (n : ℕ) (r : Result (Option TermTree) E) → HasLets at.mode
    → con_at o.program.datas c ≡ Some it → h ≡ con c → n ≡ asked_for (con_type it)
    → IfOk r (AnswersArguments o at Each h args n)
    → IfOk r (AnswersOperand o at (applied (con c) args))
con_answers o at c it args h n (Err e) l k q m a = tt
con_answers o at c it args h n (Ok r) l k q m a =
    con_answer o at c it args r l k
    (subst (λ n. AnswersArguments o at Each (con c) args n r) m
    (subst (λ h. AnswersArguments o at Each h args n r) q a))

-- a constructor that isn't there, or in a head
pub con_stays : (o : Origins) (at : Spot) (c : ℕ) (args : List Arg)
    → ((it : Constructor) → HasLets at.mode → con_at o.program.datas c ≡ Some it → ⊥)
    → AnswersOperand o at (applied (con c) args) None
con_stays o at c args none = con_needs_none o at c args (λ it m k. absurd (none it m k))

call_answer : (o : Origins) (at : Spot) (h : TermTree) (args : List Arg) (r : Option TermTree)
    → IsName h → HasLets at.mode → AnswersArguments o at Each h args (length args) r
    → AnswersOperand o at (applied h args) r
call_answer o at h args None name m none = call_needs_none o at h args name (λ m. none)
call_answer o at h args (Some e) name m f = inr (call_named h args name m f)

pub call_answers : {E : Type 0} (o : Origins) (at : Spot) (h : TermTree) (args : List Arg)
    (r : Result (Option TermTree) E) → IsName h → HasLets at.mode
    → IfOk r (AnswersArguments o at Each h args (length args))
    → IfOk r (AnswersOperand o at (applied h args))
call_answers o at h args (Err e) name l a = tt
call_answers o at h args (Ok r) name l a = call_answer o at h args r name l a

pub call_stays : (o : Origins) (at : Spot) (h : TermTree) (args : List Arg) → IsName h
    → (HasLets at.mode → ⊥) → AnswersOperand o at (applied h args) None
call_stays o at h args name none = call_needs_none o at h args name (λ m. absurd (none m))
