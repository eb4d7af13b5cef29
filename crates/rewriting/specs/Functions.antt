-- What rules make of a lambda, a letrec and a case that are applied.
use Rattle.std.specs.Prelude.{[]}
use Rattle.chw_types.specs.declared.kind.Kind.{Kind}
use Rattle.chw_types.specs.TypeTree.{TypeTree}
use Rattle.chw_terms.specs.declared.rule.Rule.{Rule}
use Rattle.chw_terms.specs.declared.rule.Rule.TheVariants.{TyBeta, Beta, AppLet, AppCase}
use Rattle.chw_terms.specs.Evaluated.{put_type_in}
use Rattle.chw_terms.specs.TermMoves.{shift}
use Rattle.chw_terms.specs.TermTree.{TermTree, var, lam, app, ty_lam, ty_app, letrec, case_of}
use Rattle.chw_terms.specs.TermTree.{Group, no_bindings, bind, size_of, Alts}
use Rattle.chw_typing.specs.Finding.{Finds}
use Rattle.chw_typing.specs.Groups.{each_body}
use Rattle.rewriting.specs.Origins.{Origins, setting_at}
use Rattle.rewriting.specs.Spots.{Spot}
use Rattle.rewriting.specs.Shapes.{shift_alts}

pub data OfFunctions (o : Origins) (at : Spot) : Rule → TermTree → TermTree → Type 0 where
  -- a type lambda gets its type, and closed naturals are evaluated
  ty_beta : {k : Kind} {e : TermTree} {a : TypeTree}
      → OfFunctions o at TyBeta (ty_app (ty_lam k e) a) (put_type_in e a)
  -- a lambda becomes a let
  beta : {t : TypeTree} {e a : TermTree}
      → OfFunctions o at Beta (app (lam t e) a) (letrec (bind t (shift a 0 1) no_bindings) e)
  -- an argument moves into a letrec
  app_let : {g : Group} {e a : TermTree}
      → OfFunctions o at AppLet
      (app (letrec g e) a) (letrec g (app e (shift a 0 (size_of g))))
  app_let_type : {g : Group} {e : TermTree} {a : TypeTree}
      → OfFunctions o at AppLet (ty_app (letrec g e) a) (letrec g (ty_app e a))
  -- an argument gets a name and moves into a case; a type moves as it is
  app_case : {e a : TermTree} {alts : Alts} {t : TypeTree}
      → Finds (setting_at o) [] at.vars a t
      → OfFunctions o at AppCase
      (app (case_of e alts) a)
      (letrec (bind t (shift a 0 1) no_bindings)
      (case_of (shift e 0 1) (each_body (λ n f. app f (var n)) (shift_alts alts 0 1))))
  app_case_type : {e : TermTree} {alts : Alts} {a : TypeTree}
      → OfFunctions o at AppCase
      (ty_app (case_of e alts) a) (case_of e (each_body (λ n f. ty_app f a) alts))
