-- A case of a case.
use Rattle.std.proofs.Common.{◌≡◌, ℕ, List, refl, sym, ap, ◌∙◌, subst}
use Rattle.chw_types.specs.declared.kind.Kind.{Kind}
use Rattle.chw_types.specs.TypeTree.{TypeTree}
use Rattle.chw_types.specs.TypeMoves.{raised}
use Rattle.chw_terms.specs.declared.program.Program.{Program}
use Rattle.chw_terms.specs.TermMoves.{rename_alts}
use Rattle.chw_terms.specs.TermTree.{TermTree, case_of, Alts}
use Rattle.chw_terms.proofs.Renamed.{rename_ids_alts}
use Rattle.chw_typing.specs.Scopes.{AreTermTypes, Setting}
use Rattle.chw_typing.specs.Programs.{AreClosed, IsSound, IsTyped, setting_of}
use Rattle.chw_typing.specs.Typing.{HasType, h_case}
use Rattle.chw_typing.specs.Groups.{each_body}
use Rattle.rewriting.specs.Shapes.{shift_alts}
use Rattle.chw_meaning.specs.Values.{Thunks, count_of, closed_type, joined}
use Rattle.acts.specs.Levels.{Levels, later, term_has}
use Rattle.acts.specs.Acts.{acts_from}
use Rattle.acts.specs.Terms.{TiedBy, ActsUnder, OriginsTyped, setting_with}
use Rattle.rewriting.specs.Origins.{with_origins, with_origins_alts}
use Rattle.acts.proofs.Forms.{TermsAct}
use Rattle.acts.proofs.Levels.{IsLevels, from_turns, at_levels, at_later}
use Rattle.acts.proofs.Tied.{tied_later}
use Rattle.act_rules.proofs.RuleMoves.{same_term_acts}
use Rattle.act_rules.proofs.Scrutinees.{other_scrutinee}
use Rattle.act_rules.proofs.Frames.{ScrutineeActs, framed_acts}
use Rattle.act_rules.proofs.CaseMoves.{origins_each, tied_beyond}

pub scrutinee_typed : {s : Setting} {kinds : List Kind} {vars : List TypeTree} {e : TermTree} {alts : Alts} {t : TypeTree} → HasType s kinds vars (case_of e alts) t → (u : TypeTree) × HasType s kinds vars e u
scrutinee_typed (h_case {u = u} d looked ku bs da hk fs rest hidden) = (u, d)

module _ (p : Program) (sound : IsSound (setting_of p)) (typed : IsTyped p) (types : List TypeTree) (o : ℕ → TermTree) (are_closed : AreClosed (setting_of p) types) (have : OriginsTyped p types o) where
  pub case_case : {kinds : List Kind} {vars : List TypeTree} {t : TypeTree} {e : TermTree} {inner alts : Alts} → AreTermTypes (setting_with p types) kinds vars → HasType (setting_with p types) kinds vars (case_of (case_of e inner) alts) t → ActsUnder p kinds vars (with_origins o (case_of e (each_body (λ n f. case_of f (shift_alts alts 0 n)) inner))) (with_origins o (case_of (case_of e inner) alts)) t
  unfolding with_origins
  case_case {kinds} {vars} {t} {e} {inner} {alts} g d n δ γ' γ known names = inside
    where
      r : Levels
      r = acts_from p n

      l : IsLevels p (acts_from p n)
      l = from_turns p n

      scrutinee : TermTree
      scrutinee = with_origins o (case_of e inner)

      F : ℕ → TermTree → TermTree
      F n f = case_of f (with_origins_alts o (rename_alts alts (raised 0 n)))

      frame : (k q : ℕ) (f : TermTree) (xs : Thunks) → count_of xs ≡ q → ScrutineeActs p sound typed types o are_closed have kinds vars (case_of e inner) (later k r) δ f (joined xs γ') scrutinee γ → TermsAct p (later k r) (closed_type t δ) (F q f) (joined xs γ') δ (with_origins o (case_of (case_of e inner) alts)) γ δ
      frame k q f xs counts acts =
          at_levels (at_later k l) (λ s. TiedBy p s vars (raised 0 q) (λ x. x) δ (joined xs γ') γ → ScrutineeActs p sound typed types o are_closed have kinds vars (case_of e inner) s δ f (joined xs γ') scrutinee γ → TermsAct p s (closed_type t δ) (F q f) (joined xs γ') δ (with_origins o (case_of (case_of e inner) alts)) γ δ)
          (λ i tied inner_acts. other_scrutinee p sound typed types o are_closed have g d (raised 0 q) i δ (joined xs γ') γ known tied f scrutinee inner_acts)
          (tied_later l k vars (raised 0 q) (λ x. x) δ (joined xs γ') γ (tied_beyond vars xs q δ γ' γ counts names)) acts

      bodies : each_body F (with_origins_alts o (rename_alts inner (λ x. x))) ≡ with_origins_alts o (each_body (λ n f. case_of f (shift_alts alts 0 n)) inner)
      bodies = ap (λ bs. each_body F (with_origins_alts o bs)) (rename_ids_alts inner) ∙ sym (origins_each o (λ n f. case_of f (shift_alts alts 0 n)) F (λ n f. refl) inner)

      inside : TermsAct p r (closed_type t δ) (with_origins o (case_of e (each_body (λ n f. case_of f (shift_alts alts 0 n)) inner))) γ' δ (with_origins o (case_of (case_of e inner) alts)) γ δ
      inside =
          subst (λ bs. TermsAct p r (closed_type t δ) (case_of (with_origins o e) bs) γ' δ (with_origins o (case_of (case_of e inner) alts)) γ δ) bodies
          (framed_acts p sound typed types o are_closed have g (scrutinee_typed d).1 (λ x. x) n δ γ' γ known names (with_origins o e) (with_origins o e)
          (λ u du. same_term_acts p sound typed types o are_closed have g du r l δ γ' γ known names)
          F (closed_type t δ) (term_has p (with_origins o (case_of (case_of e inner) alts)) γ δ) frame)
