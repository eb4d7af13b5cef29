-- A term with arguments acts so where the term does.
use Rattle.std.proofs.Common.{ℕ, List, [], ◌∷◌}
use Rattle.chw_types.specs.declared.kind.Kind.{Kind}
use Rattle.chw_types.specs.TypeTree.{TypeTree}
use Rattle.chw_terms.specs.declared.program.Program.{Program}
use Rattle.chw_terms.specs.declared.term.Arg.{Arg}
use Rattle.chw_terms.specs.declared.term.Arg.TheVariants.{OfTerm, OfType}
use Rattle.chw_terms.specs.TermTree.{TermTree, app, ty_app}
use Rattle.chw_terms.specs.TermView.{applied_to, applied}
use Rattle.chw_typing.specs.Scopes.{AreTermTypes}
use Rattle.chw_typing.specs.Around.{here, in_function, in_ty_app}
use Rattle.acts.specs.Terms.{setting_with}
use Rattle.act_rules.specs.RuleLaws.{HasOrigins}
use Rattle.act_rules.specs.ContextLaws.{ActsAtTypes, PlugActs}

module _ (plug : PlugActs) (p : Program) (types : List TypeTree) (o : ℕ → TermTree) (kinds : List Kind) (vars : List TypeTree) (h : HasOrigins p types o) (g : AreTermTypes (setting_with p types) kinds vars) where
  applied_to_acts : (e' e : TermTree) (a : Arg) → ActsAtTypes p types o kinds vars e' e → ActsAtTypes p types o kinds vars (applied_to e' a) (applied_to e a)
  applied_to_acts e' e (OfTerm x) f u d = plug p types o kinds kinds vars vars (app e x) e' e u (0 ∷ []) h.tidy h.typed h.closed h.have_types g d (in_function here) f
  applied_to_acts e' e (OfType t) f u d = plug p types o kinds kinds vars vars (ty_app e t) e' e u (0 ∷ []) h.tidy h.typed h.closed h.have_types g d (in_ty_app here) f

  pub applied_acts : (e' e : TermTree) (rest : List Arg) → ActsAtTypes p types o kinds vars e' e → ActsAtTypes p types o kinds vars (applied e' rest) (applied e rest)
  applied_acts e' e [] f = f
  applied_acts e' e (a ∷ rest) f = applied_acts (applied_to e' a) (applied_to e a) rest (applied_to_acts e' e a f)
