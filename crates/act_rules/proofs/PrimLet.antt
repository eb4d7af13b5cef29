-- A primitive on a letrec.
use Rattle.std.specs.Prelude.{slice_get}
use Rattle.std.proofs.Common.{◌≡◌, ℕ, List, set, Some, sym, subst}
use Rattle.chw_types.specs.declared.kind.Kind.{Kind}
use Rattle.chw_types.specs.TypeTree.{TypeTree}
use Rattle.chw_types.specs.TypeMoves.{raised}
use Rattle.chw_prims.specs.declared.prim.Primitive.{Primitive as Prim}
use Rattle.chw_terms.specs.declared.program.Program.{Program}
use Rattle.chw_terms.specs.declared.term.Arg.{Arg}
use Rattle.chw_terms.specs.declared.term.Arg.TheVariants.{OfTerm}
use Rattle.chw_terms.specs.TermTree.{TermTree, letrec, prim, Group, size_of}
use Rattle.chw_terms.specs.TermView.{applied}
use Rattle.chw_typing.specs.Scopes.{AreTermTypes}
use Rattle.chw_typing.specs.Programs.{AreClosed, IsSound, IsTyped, setting_of}
use Rattle.chw_typing.specs.Typing.{HasType, h_letrec}
use Rattle.rewriting.specs.Shapes.{shift_args}
use Rattle.chw_meaning.specs.Values.{closed_type, in_group}
use Rattle.acts.specs.Acts.{acts_from}
use Rattle.acts.specs.Terms.{ActsUnder, OriginsTyped, setting_with}
use Rattle.rewriting.specs.Origins.{with_origins, with_origins_group}
use Rattle.acts.proofs.Forms.{TermsAct}
use Rattle.acts.proofs.Levels.{from_turns}
use Rattle.act_rules.proofs.Lets.{size_with_origins, tied_past, body_acts, in_let_acts}
use Rattle.act_rules.proofs.Arguments.{prim_acts, before_origins}

module _ (p : Program) (sound : IsSound (setting_of p)) (typed : IsTyped p) (types : List TypeTree) (o : ℕ → TermTree) (are_closed : AreClosed (setting_of p) types) (have : OriginsTyped p types o) where
  pub prim_let : {kinds : List Kind} {vars : List TypeTree} {t : TypeTree} (q : Prim) (args : List Arg) (i : ℕ) (b : Group) (e : TermTree) → slice_get args i ≡ Some (OfTerm (letrec b e)) → AreTermTypes (setting_with p types) kinds vars → HasType (setting_with p types) kinds vars (applied (prim q) args) t → ActsUnder p kinds vars (with_origins o (letrec b (applied (prim q) (set (shift_args args 0 (size_of b)) i (OfTerm e))))) (with_origins o (applied (prim q) args)) t
  prim_let {kinds} {vars} {t} q args i b e is g d n δ γ' γ known names =
      let Γ = in_group (with_origins_group o b) γ' δ in
      let r = acts_from p n in
      in_let_acts p sound typed types o are_closed have t b (applied (prim q) (set (shift_args args 0 (size_of b)) i (OfTerm e))) (applied (prim q) args) n δ γ' γ
      (subst (λ e'. TermsAct p r (closed_type t δ) e' Γ δ (with_origins o (applied (prim q) args)) γ δ) (sym (before_origins p sound typed types o are_closed have q args i e (raised 0 (size_of b))))
      (prim_acts p sound typed types o are_closed have q args i (with_origins o e) (letrec b e) is g d r (from_turns p n) (raised 0 (size_of b)) δ Γ γ known (tied_past vars (with_origins_group o b) (size_of b) δ δ γ' γ (size_with_origins o b) names) inside))
    where
      inside : (u : TypeTree) → HasType (setting_with p types) kinds vars (letrec b e) u → TermsAct p (acts_from p n) (closed_type u δ) (with_origins o e) (in_group (with_origins_group o b) γ' δ) δ (with_origins o (letrec b e)) γ δ
      inside u (h_letrec de kt bs) = body_acts p sound typed types o are_closed have vars g de bs n δ γ' γ known names
