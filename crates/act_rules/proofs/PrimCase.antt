-- A primitive on a case.
use Rattle.std.specs.Prelude.{slice_get}
use Rattle.std.proofs.Common.{◌≡◌, ℕ, List, map, set, Some, sym, ap, ◌∙◌, subst}
use Rattle.chw_types.specs.declared.kind.Kind.{Kind}
use Rattle.chw_types.specs.TypeTree.{TypeTree}
use Rattle.chw_types.specs.TypeMoves.{raised}
use Rattle.chw_prims.specs.declared.prim.Primitive.{Primitive as Prim}
use Rattle.chw_terms.specs.declared.program.Program.{Program}
use Rattle.chw_terms.specs.declared.term.Arg.{Arg}
use Rattle.chw_terms.specs.declared.term.Arg.TheVariants.{OfTerm}
use Rattle.chw_terms.specs.TermMoves.{rename_alts}
use Rattle.chw_terms.specs.TermTree.{TermTree, prim, case_of, Alts}
use Rattle.chw_terms.specs.TermView.{applied}
use Rattle.chw_terms.proofs.Renamed.{rename_ids_alts}
use Rattle.chw_typing.specs.Scopes.{AreTermTypes}
use Rattle.chw_typing.specs.Programs.{AreClosed, IsSound, IsTyped, setting_of}
use Rattle.chw_typing.specs.Typing.{HasType}
use Rattle.chw_typing.specs.Groups.{each_body, rename_arg}
use Rattle.rewriting.specs.Shapes.{shift_args}
use Rattle.chw_meaning.specs.Values.{Thunks, count_of, closed_type, joined}
use Rattle.acts.specs.Levels.{Levels, later, term_has}
use Rattle.acts.specs.Acts.{acts_from}
use Rattle.acts.specs.Terms.{ActsUnder, OriginsTyped, setting_with}
use Rattle.rewriting.specs.Origins.{with_origins, with_origins_alts}
use Rattle.acts.proofs.Forms.{TermsAct}
use Rattle.acts.proofs.Levels.{IsLevels, from_turns, at_later}
use Rattle.acts.proofs.Tied.{tied_later}
use Rattle.act_rules.proofs.RuleMoves.{same_term_acts}
use Rattle.act_rules.proofs.Frames.{ScrutineeActs, framed_acts}
use Rattle.act_rules.proofs.CaseMoves.{origins_each, tied_beyond}
use Rattle.act_rules.proofs.CaseSpines.{origins_arg, argument_typed}
use Rattle.act_rules.proofs.Arguments.{prim_acts, before_origins}

module _ (p : Program) (sound : IsSound (setting_of p)) (typed : IsTyped p) (types : List TypeTree) (o : ℕ → TermTree) (are_closed : AreClosed (setting_of p) types) (have : OriginsTyped p types o) where
  pub prim_case : {kinds : List Kind} {vars : List TypeTree} {t : TypeTree} (q : Prim) (args : List Arg) (i : ℕ) (e : TermTree) (alts : Alts) → slice_get args i ≡ Some (OfTerm (case_of e alts)) → AreTermTypes (setting_with p types) kinds vars → HasType (setting_with p types) kinds vars (applied (prim q) args) t → ActsUnder p kinds vars (with_origins o (case_of e (each_body (λ n f. applied (prim q) (set (shift_args args 0 n) i (OfTerm f))) alts))) (with_origins o (applied (prim q) args)) t
  unfolding with_origins
  prim_case {kinds} {vars} {t} q args i e alts is g d n δ γ' γ known names =
      subst (λ bs. TermsAct p r (closed_type t δ) (case_of (with_origins o e) bs) γ' δ (with_origins o (applied (prim q) args)) γ δ) bodies
      (framed_acts p sound typed types o are_closed have g (argument_typed (setting_with p types) kinds vars (prim q) args t i (case_of e alts) d is).1 (λ x. x) n δ γ' γ known names (with_origins o e) (with_origins o e)
      (λ u du. same_term_acts p sound typed types o are_closed have g du r l δ γ' γ known names)
      F (closed_type t δ) (term_has p (with_origins o (applied (prim q) args)) γ δ) frame)
    where
      r : Levels
      r = acts_from p n

      l : IsLevels p (acts_from p n)
      l = from_turns p n

      F : ℕ → TermTree → TermTree
      F m f = applied (prim q) (set (map (origins_arg o) (map (rename_arg (raised 0 m)) args)) i (OfTerm f))

      frame : (k m : ℕ) (f : TermTree) (xs : Thunks) → count_of xs ≡ m → ScrutineeActs p sound typed types o are_closed have kinds vars (case_of e alts) (later k r) δ f (joined xs γ') (with_origins o (case_of e alts)) γ → TermsAct p (later k r) (closed_type t δ) (F m f) (joined xs γ') δ (with_origins o (applied (prim q) args)) γ δ
      frame k m f xs counts acts =
          prim_acts p sound typed types o are_closed have q args i f (case_of e alts) is g d (later k r) (at_later k l) (raised 0 m) δ (joined xs γ') γ known
          (tied_later l k vars (raised 0 m) (λ x. x) δ (joined xs γ') γ (tied_beyond vars xs m δ γ' γ counts names)) acts

      bodies : each_body F (with_origins_alts o (rename_alts alts (λ x. x))) ≡ with_origins_alts o (each_body (λ n f. applied (prim q) (set (shift_args args 0 n) i (OfTerm f))) alts)
      bodies = ap (λ bs. each_body F (with_origins_alts o bs)) (rename_ids_alts alts) ∙ sym (origins_each o (λ n f. applied (prim q) (set (shift_args args 0 n) i (OfTerm f))) F (λ m f. before_origins p sound typed types o are_closed have q args i f (raised 0 m)) alts)
