-- A primitive on vectors, unrolled, acts as the primitive on its arguments.
use Rattle.std.specs.Prelude.{Option, Some, None}
use Rattle.std.specs.Option.{option_map}
use Rattle.std.proofs.Common.{◌≡◌, ℕ, List, length, map, reverse, refl, sym, ap, ◌∙◌, subst, arith}
use Rattle.chw_types.specs.declared.kind.Kind.{Kind}
use Rattle.chw_types.specs.TypeTree.{TypeTree}
use Rattle.chw_prims.specs.declared.prim.Primitive.{Primitive as Prim}
use Rattle.chw_prims.specs.Schemas.{row_of, schema_type}
use Rattle.chw_terms.specs.declared.program.Program.{Program}
use Rattle.chw_terms.specs.Evaluated.{evaluated}
use Rattle.chw_terms.specs.TermMoves.{shift}
use Rattle.chw_terms.specs.TermTree.{TermTree, letrec, prim, Group}
use Rattle.chw_terms.specs.TermView.{applied}
use Rattle.chw_terms.specs.Unrolled.{CanUnroll, unrolled, body_of, parameters, at_types, named}
use Rattle.chw_typing.specs.Scopes.{HasKind, AreTermTypes}
use Rattle.chw_typing.specs.Programs.{AreClosed, IsSound, IsTyped, setting_of}
use Rattle.chw_typing.specs.Typing.{HasType}
use Rattle.chw_typing.proofs.Kinded.{type_kinded}
use Rattle.chw_typing.specs.Given.{types_then, IsSaturated}
use Rattle.chw_typing.proofs.Saturated.{prim_at_arguments}
use Rattle.chw_meaning.specs.Values.{Thunks, none, closed_type, in_group}
use Rattle.chw_meaning.specs.Steps.{by_row}
use Rattle.rewriting.specs.Origins.{with_origins, with_origins_group}
use Rattle.acts.specs.Levels.{term_runs, term_has}
use Rattle.acts.specs.Acts.{acts_from}
use Rattle.acts.specs.Terms.{ActsUnder, OriginsTyped, setting_with}
use Rattle.acts.proofs.Forms.{TermsAct}
use Rattle.acts.proofs.Globals.{sound_with}
use Rattle.acts.proofs.Levels.{from_turns, runs_more}
use Rattle.acts.proofs.SameActs.{same_acts}
use Rattle.acts.proofs.Telescopes.{step_has}
use Rattle.act_rules.proofs.Lets.{in_let_acts}
use Rattle.act_rules.proofs.CasePlaces.{onto}
use Rattle.act_rules.proofs.Called.{prim_has}
use Rattle.act_rules.proofs.PrimElements.{TermSteps}
use Rattle.act_rules.proofs.Given.{given_at, thunks_of}
use Rattle.act_rules.proofs.Lines.{Line, line}
use Rattle.act_rules.proofs.Names.{NamesAct, names_act}
use Rattle.act_rules.proofs.Parameters.{AllKinded, schema_parts, part_same}

-- what was mapped
mapped_some : {A B : Type 0} (f : A → B) (o : Option A) (y : B) → option_map f o ≡ Some y → (x : A) × (o ≡ Some x) × (f x ≡ y)
mapped_some f (Some x) y e = (x, refl, cc)
mapped_some f None y e = absurd (cc)

module _ (p : Program) (sound : IsSound (setting_of p)) (typed : IsTyped p) (types : List TypeTree) (o : ℕ → TermTree) (are_closed : AreClosed (setting_of p) types) (have : OriginsTyped p types o) where
  pub unrolls : {kinds : List Kind} {vars : List TypeTree} {t : TypeTree} (q : Prim) (ts : List TypeTree) (es : List TermTree) (e : TermTree) → CanUnroll q ts es → unrolled q ts es ≡ Some e → AreTermTypes (setting_with p types) kinds vars → HasType (setting_with p types) kinds vars (applied (prim q) (types_then ts es)) t → ActsUnder p kinds vars (with_origins o e) (with_origins o (applied (prim q) (types_then ts es))) t
  unrolls {kinds} {vars} {t} q ts es e can is scope d n δ γ' γ known names =
      subst (λ e. TermsAct p (acts_from p n) (closed_type t δ) (with_origins o e) γ' δ (with_origins o call) γ δ) body.2
      (in_let_acts p sound typed types o are_closed have t group body.0 call n δ γ' γ inside)
    where
      call : TermTree
      call = applied (prim q) (types_then ts es)

      group : Group
      group = named (map (at_types ts) (parameters (schema_type q))) (map (λ e. shift e 0 (length es)) es)

      body : (x : TermTree) × (body_of (row_of q) (map evaluated ts) ≡ Some x) × (letrec group x ≡ e)
      body = mapped_some (letrec group) (body_of (row_of q) (map evaluated ts)) e is

      of : Line p (row_of q) ts body.0
      of = line p sound (row_of q) ts body.0 body.1 (record { short = can.short; narrow = can.narrow })

      many : length es ≡ length of.params
      many = can.on_terms ∙ ap length of.asks

      saturated : IsSaturated (setting_with p types) kinds vars of.kinds of.params of.result ts es t
      saturated = prim_at_arguments (setting_with p types) kinds vars q of.kinds of.params of.result ts es t (sound_with p types sound are_closed) scope of.is of.on_types many d

      parts : AllKinded (setting_of p) (reverse of.kinds) of.params × ((j : Kind) × HasKind (setting_of p) (reverse of.kinds) of.result j)
      parts = schema_parts (setting_of p) q sound of.kinds of.params of.result of.is

      named_so : NamesAct p o ts n δ γ' γ (map (at_types ts) (parameters (schema_type q))) of.params es
      named_so =
          subst (λ ps. NamesAct p o ts n δ γ' γ (map (at_types ts) ps) of.params es) (sym of.asks)
          (names_act p sound typed types o are_closed have vars scope ts saturated.have n δ γ' γ known names of.params es many of.some of.few parts.0 saturated.args_given)

      env : Thunks
      env = in_group (with_origins_group o group) γ' δ

      steps : TermSteps p (acts_from p n) (closed_type of.result (given_at δ ts)) (with_origins o body.0) env δ (by_row (row_of q) q (given_at δ ts) (onto (thunks_of o γ δ es) none))
      steps = of.acts q o n env δ (onto (thunks_of o γ δ es) none) named_so

      inside : TermsAct p (acts_from p n) (closed_type t δ) (with_origins o body.0) env δ (with_origins o call) γ δ
      inside =
          let l = from_turns p n in
          let kind = type_kinded d (sound_with p types sound are_closed) scope in
          same_acts sound l (part_same p δ known sound ts saturated.have parts.1.1 kind.has saturated.gives) (term_runs p (with_origins o body.0) env δ) (term_has p (with_origins o call) γ δ)
          (runs_more l (closed_type of.result (given_at δ ts)) (term_runs p (with_origins o body.0) env δ) (step_has p (by_row (row_of q) q (given_at δ ts) (onto (thunks_of o γ δ es) none))) (term_has p (with_origins o call) γ δ)
          (λ h v run. prim_has p q o γ δ h ts es v (of.on_types ∙ sym of.asks_types) (omega (arith, many, of.some)) (many ∙ sym of.asks_thunks) run) steps)
