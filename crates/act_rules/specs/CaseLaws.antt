-- What is promised of rules on cases: what they make of a typed term acts as the term. The types
-- that they write in a letrec don't matter.
use Rattle.std.specs.Prelude.{◌≡◌, ℕ, Bool, List, length, Some, slice_get, set}
use Rattle.chw_base.specs.declared.index.ConId.{ConId}
use Rattle.chw_types.specs.declared.kind.Kind.{Kind}
use Rattle.chw_types.specs.declared.kind.Scalar.{Scalar}
use Rattle.type_ports.specs.Ports.{IsPort}
use Rattle.chw_types.specs.TypeTree.{TypeTree}
use Rattle.chw_prims.specs.declared.prim.Primitive.{Primitive as Prim}
use Rattle.chw_terms.specs.Constructors.{Constructor, con_at}
use Rattle.chw_terms.specs.declared.program.Program.{Program}
use Rattle.chw_terms.specs.declared.term.Arg.{Arg}
use Rattle.chw_terms.specs.declared.term.Arg.TheVariants.{OfTerm}
use Rattle.chw_terms.specs.declared.term.Pattern.TheVariants.{OfCon, OfLit, Default}
use Rattle.chw_terms.specs.TermMoves.{shift}
use Rattle.chw_terms.specs.TermTree.{TermTree, var, app, ty_app, letrec, con, prim, lit}
use Rattle.chw_terms.specs.TermTree.{Group, no_bindings, bind, size_of, case_of, Alts, no_alts, alt}
use Rattle.chw_terms.specs.TermView.{applied}
use Rattle.chw_terms.specs.Unrolled.{named}
use Rattle.chw_typing.specs.HeadTypes.{PatternOf}
use Rattle.chw_typing.specs.Scopes.{AreTermTypes}
use Rattle.chw_typing.specs.Typing.{HasType}
use Rattle.chw_typing.specs.Groups.{each_body}
use Rattle.chw_typing.specs.Paths.{Branch}
use Rattle.chw_typing.specs.Given.{types_then}
use Rattle.rewriting.specs.Shapes.{IsTakenBy, shift_alts, shift_args, with_fields}
use Rattle.rewriting.specs.Shapes.{or_body, projections}
use Rattle.acts.specs.Terms.{ActsUnder, setting_with}
use Rattle.rewriting.specs.Origins.{with_origins}
use Rattle.act_rules.specs.RuleLaws.{HasOrigins, KeepsMeaning}

-- where the second term is typed in this program, the first acts as it
abbrev pub KeepsMeaningIn : Program → TermTree → TermTree → Type 0
KeepsMeaningIn p e' e =
    (types : List TypeTree) (o : ℕ → TermTree)
    (kinds : List Kind) (vars : List TypeTree) (t : TypeTree)
    → HasOrigins p types o
    → AreTermTypes (setting_with p types) kinds vars → HasType (setting_with p types) kinds vars e t
    → ActsUnder p kinds vars (with_origins o e') (with_origins o e) t

-- `(case e of { p -> f; .. }) a` becomes `letrec { x : t = a; } in case e of { p -> f x; .. }`
abbrev pub CaseAppActs : Type 0
CaseAppActs =
    (t : TypeTree) (e a : TermTree) (alts : Alts)
    → KeepsMeaning
    (letrec (bind t (shift a 0 1) no_bindings)
    (case_of (shift e 0 1) (each_body (λ n f. app f (var n)) (shift_alts alts 0 1))))
    (app (case_of e alts) a)

-- `(case e of { p -> f; .. }) @a` becomes `case e of { p -> f @a; .. }`
abbrev pub CaseTypeAppActs : Type 0
CaseTypeAppActs =
    (e : TermTree) (alts : Alts) (a : TypeTree)
    → KeepsMeaning
    (case_of e (each_body (λ n f. ty_app f a) alts)) (ty_app (case_of e alts) a)

-- `case (case e of { p -> f; .. }) of alts` becomes `case e of { p -> case f of alts; .. }`
abbrev pub CaseCaseActs : Type 0
CaseCaseActs =
    (e : TermTree) (inner alts : Alts)
    → KeepsMeaning
    (case_of e (each_body (λ n f. case_of f (shift_alts alts 0 n)) inner))
    (case_of (case_of e inner) alts)

-- `case c @.. e .. of { .. c x .. -> f; .. }` becomes `letrec { x : u = e; .. } in f`, by the first
-- alternative that takes c; where it binds nothing, f
abbrev pub CaseConActs : Type 0
CaseConActs =
    (p : Program) (c : ℕ) (it : Constructor) (us types : List TypeTree) (es : List TermTree)
    (alts : Alts) (b : Branch)
    → con_at p.datas c ≡ Some it
    → length types ≡ length it.it.params → length es ≡ length it.decl.fields
    → length us ≡ length es
    → IsTakenBy (OfCon (record { number = c }) (length es)) alts b
    → KeepsMeaningIn p
    (with_fields b.pattern us es b.body) (case_of (applied (con c) (types_then types es)) alts)

-- a case of a literal becomes the body of the first alternative that takes it
abbrev pub CaseLitActs : Type 0
CaseLitActs =
    (r : Scalar) (bits : List Bool) (alts : Alts) (b : Branch)
    → IsTakenBy (OfLit r bits) alts b
    → KeepsMeaning b.body (case_of (lit r bits) alts)

-- `case e of { _ -> f; }` becomes f
abbrev pub CaseDefaultActs : Type 0
CaseDefaultActs =
    (e f : TermTree) → KeepsMeaning f (case_of e (alt Default f no_alts))

-- where x is a port, `case x of { c y .. -> e; .. }` becomes
-- `letrec { y = case x of { c y .. -> y; }; .. } in e`; where it binds nothing, e
abbrev pub ProjectionsAct : Type 0
ProjectionsAct =
    (p : Program) (t : TypeTree) (fields : List TypeTree) (x n : ℕ) (c : ConId)
    (e : TermTree) (more : Alts)
    → IsPort p.datas t → PatternOf p.datas t (OfCon c n) fields
    → KeepsMeaningIn p
    (or_body (named fields (projections c n x)) e) (case_of (var x) (alt (OfCon c n) e more))

-- `q .. (letrec { g } in e) ..` becomes `letrec { g } in q .. e ..`
abbrev pub PrimLetActs : Type 0
PrimLetActs =
    (q : Prim) (args : List Arg) (i : ℕ) (g : Group) (e : TermTree)
    → slice_get args i ≡ Some (OfTerm (letrec g e))
    → KeepsMeaning
    (letrec g (applied (prim q) (set (shift_args args 0 (size_of g)) i (OfTerm e))))
    (applied (prim q) args)

-- `q .. (case e of { p -> f; .. }) ..` becomes `case e of { p -> q .. f ..; .. }`
abbrev pub PrimCaseActs : Type 0
PrimCaseActs =
    (q : Prim) (args : List Arg) (i : ℕ) (e : TermTree) (alts : Alts)
    → slice_get args i ≡ Some (OfTerm (case_of e alts))
    → KeepsMeaning
    (case_of e (each_body (λ n f. applied (prim q) (set (shift_args args 0 n) i (OfTerm f))) alts))
    (applied (prim q) args)
