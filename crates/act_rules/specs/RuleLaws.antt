-- What is promised of rules: what they make of a typed term acts as the term.
use Rattle.std.specs.Prelude.{ℕ, List}
use Rattle.chw_types.specs.declared.kind.Kind.{Kind}
use Rattle.chw_types.specs.TypeTree.{TypeTree}
use Rattle.chw_types.specs.TypeMoves.{raised}
use Rattle.chw_terms.specs.declared.program.Program.{Program}
use Rattle.chw_terms.specs.Evaluated.{put_type_in}
use Rattle.chw_terms.specs.TermMoves.{shift, rename_alts}
use Rattle.chw_terms.specs.TermTree.{TermTree, lam, app, ty_lam, ty_app, letrec}
use Rattle.chw_terms.specs.TermTree.{Group, no_bindings, bind, size_of, case_of, Alts}
use Rattle.chw_terms.specs.Tidy.{IsTidy}
use Rattle.chw_typing.specs.Scopes.{AreTermTypes}
use Rattle.chw_typing.specs.Programs.{IsTyped, AreClosed, setting_of}
use Rattle.chw_typing.specs.Typing.{HasType}
use Rattle.rewriting.specs.Origins.{with_origins}
use Rattle.acts.specs.Terms.{ActsUnder, OriginsTyped, setting_with}

-- a typed program, and closed terms of these types for its made definitions
pub record HasOrigins (p : Program) (types : List TypeTree) (o : ℕ → TermTree) : Type 0 where
  pub tidy : IsTidy p
  pub typed : IsTyped p
  pub closed : AreClosed (setting_of p) types
  pub have_types : OriginsTyped p types o

-- where the second term is typed, the first acts as it, with the terms for the made definitions
abbrev pub KeepsMeaning : TermTree → TermTree → Type 0
KeepsMeaning e' e =
    (p : Program) (types : List TypeTree) (o : ℕ → TermTree)
    (kinds : List Kind) (vars : List TypeTree) (t : TypeTree)
    → HasOrigins p types o
    → AreTermTypes (setting_with p types) kinds vars → HasType (setting_with p types) kinds vars e t
    → ActsUnder p kinds vars (with_origins o e') (with_origins o e) t

-- `(/\a . e) @b` becomes e with b put for a
abbrev pub TypeBetaActs : Type 0
TypeBetaActs =
    (k : Kind) (e : TermTree) (a : TypeTree)
    → KeepsMeaning (put_type_in e a) (ty_app (ty_lam k e) a)

-- `(\(x : t) . e) a` becomes `letrec { x : t = a; } in e`
abbrev pub BetaActs : Type 0
BetaActs =
    (t : TypeTree) (e a : TermTree)
    → KeepsMeaning (letrec (bind t (shift a 0 1) no_bindings) e) (app (lam t e) a)

-- `(letrec { g } in e) a` becomes `letrec { g } in e a`
abbrev pub LetAppActs : Type 0
LetAppActs =
    (g : Group) (e a : TermTree)
    → KeepsMeaning (letrec g (app e (shift a 0 (size_of g)))) (app (letrec g e) a)

-- `(letrec { g } in e) @a` becomes `letrec { g } in e @a`
abbrev pub LetTypeAppActs : Type 0
LetTypeAppActs =
    (g : Group) (e : TermTree) (a : TypeTree)
    → KeepsMeaning (letrec g (ty_app e a)) (ty_app (letrec g e) a)

-- `case (letrec { g } in e) of alts` becomes `letrec { g } in case e of alts`
abbrev pub CaseLetActs : Type 0
CaseLetActs =
    (g : Group) (e : TermTree) (alts : Alts)
    → KeepsMeaning
    (letrec g (case_of e (rename_alts alts (raised 0 (size_of g)))))
    (case_of (letrec g e) alts)
