-- Arguments that move into letrecs and cases.
use Rattle.std.proofs.Common.{◌≡◌, ap, refl, List, [], ◌∷◌, map}
use Rattle.chw_types.specs.TypeMoves.{raised}
use Rattle.chw_types.specs.TypeTree.{TypeTree}
use Rattle.chw_terms.specs.declared.rule.Rule.TheVariants.{AppLet}
use Rattle.chw_terms.specs.declared.term.Alt.{Alt}
use Rattle.chw_terms.specs.declared.term.Arg.{Arg}
use Rattle.chw_terms.specs.declared.term.Arg.TheVariants.{OfTerm, OfType}
use Rattle.chw_terms.specs.TermMoves.{rename, rename_alts}
use Rattle.chw_terms.specs.TermTree.{TermTree, var, app, ty_app, letrec, Group, size_of, alt, binders}
use Rattle.chw_terms.specs.TermView.{alts_of, applied_to}
use Rattle.chw_terms.proofs.ShiftLaws.{raised_is}
use Rattle.chw_typing.specs.Groups.{each_body, rename_arg}
use Rattle.rewriting.specs.Origins.{Origins}
use Rattle.rewriting.specs.Spots.{Spot}
use Rattle.rewriting.specs.Functions.{OfFunctions, app_let, app_let_type}
use Rattle.rewriting.specs.Shapes.{shift_alts}
use Rattle.flow_functions.specs.Moves.{at_type, at_name}

-- an argument of a letrec
pub moves_in : (o : Origins) (at : Spot) (g : Group) (e : TermTree) (a : Arg) → OfFunctions o at AppLet (applied_to (letrec g e) a) (letrec g (applied_to e (rename_arg (raised 0 (size_of g)) a)))
moves_in o at g e (OfTerm a) = app_let
moves_in o at g e (OfType t) = app_let_type

-- the alternatives at a type
pub all_at_type : (t : TypeTree) (alts : List Alt) → alts_of (map (at_type t) alts) ≡ each_body (λ n f. ty_app f t) (alts_of alts)
all_at_type t [] = refl
all_at_type t (it ∷ alts) = ap (λ more. alt it.pattern (ty_app it.body t) more) (all_at_type t alts)

-- the alternatives at a new variable
pub all_at_name : (alts : List Alt) → alts_of (map at_name alts) ≡ each_body (λ n f. app f (var n)) (shift_alts (alts_of alts) 0 1)
unfolding rename rename_alts
all_at_name [] = refl
all_at_name (it ∷ alts) =
    λ i. alt it.pattern (app (rename it.body (raised_is (binders it.pattern) 1 i)) (var (binders it.pattern))) (all_at_name alts i)
