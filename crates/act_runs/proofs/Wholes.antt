-- A made definition as a whole acts as its origin.
use Rattle.std.specs.Prelude.{slice_get}
use Rattle.std.proofs.Common.{◌≡◌, ℕ, Bool, true, false, List, Some, refl, sym, ap, ◌∙◌, subst}
use Rattle.chw_types.specs.TypeTree.{TypeTree}
use Rattle.chw_terms.specs.declared.program.Program.{Program}
use Rattle.chw_terms.specs.declared.scene.Made.{Made}
use Rattle.chw_terms.specs.TermTree.{TermTree}
use Rattle.chw_typing.specs.Laws.{TypedIsSound}
use Rattle.chw_typing.proofs.Lists.{found_before_map}
use Rattle.rewriting.specs.SceneLaws.{NoMadeKeepsType}
use Rattle.rewriting.specs.Origins.{MadeOf, made_of, origin_at, setting_at, with_origins}
use Rattle.rewriting.specs.Steps.{origins_in}
use Rattle.rule_types.specs.States.{IsTypedState}
use Rattle.normal_forms.specs.Uses.{names_made, WholeOf, whole_of}
use Rattle.act_runs.specs.States.{TypedChain, typed_end}
use Rattle.act_runs.proofs.Chains.{chain_joined}
use Rattle.act_runs.proofs.States.{OriginOf, origin_found, state_has_origins, declared_type}
use Rattle.act_runs.specs.Laws.{BodiesAct, WholesAct}
use Rattle.act_runs.proofs.Mixed.{mixed_chain}
use Rattle.act_runs.proofs.Used.{put_where}

abbrev used_or : Bool → TermTree → TermTree → TermTree
used_or true whole origin = whole
used_or false whole origin = origin

module _ (law : TypedIsSound) (alone : NoMadeKeepsType) (p : Program) (state : List Made) (h : IsTypedState p state) (bodies : BodiesAct p state) where
  -- the whole of each made definition that is used, and the origin of each other one
  abbrev terms : Made → (ℕ → TermTree) → ℕ → TermTree
  terms it wholes n = used_or (names_made it.body n) (wholes n) (origin_at (origins_in p state) n)

  term_chain : (it : Made) (wholes : ℕ → TermTree) → ((n : ℕ) → names_made it.body n ≡ true → (jt : Made) → slice_get state n ≡ Some jt → TypedChain p jt.ty (wholes n) jt.origin) → (n : ℕ) (u : TypeTree) → slice_get (setting_at (origins_in p state)).made n ≡ Some u → TypedChain p u (terms it wholes n) (origin_at (origins_in p state) n)
  term_chain it wholes chains n u at = by (names_made it.body n) refl
    where
      of : OriginOf (origins_in p state) n u
      of = origin_found (origins_in p state) n u at

      by : (b : Bool) → names_made it.body n ≡ b → TypedChain p u (used_or b (wholes n) (origin_at (origins_in p state) n)) (origin_at (origins_in p state) n)
      by true used =
          let found = found_before_map made_of state n of.it of.held in
          let type : found.0.ty ≡ u = ap (λ (m : MadeOf). m.ty) found.2 ∙ of.type in
          let origin : found.0.origin ≡ origin_at (origins_in p state) n = ap (λ (m : MadeOf). m.origin) found.2 ∙ sym of.is in
          subst (TypedChain p u (wholes n)) origin (subst (λ t. TypedChain p t (wholes n) found.0.origin) type (chains n used found.0 found.1))
      by false unused = typed_end ((state_has_origins law alone p state h).have_types n u at)

  body_chain : (m : ℕ) (it : Made) → slice_get state m ≡ Some it → (wholes : ℕ → TermTree) → ((n : ℕ) → names_made it.body n ≡ true → (jt : Made) → slice_get state n ≡ Some jt → TypedChain p jt.ty (wholes n) jt.origin) → TypedChain p it.ty (with_origins wholes it.body) it.origin
  body_chain m it is wholes chains =
      let origins = state_has_origins law alone p state h in
      let body = (h.each m it is).body_typed in
      let inside = mixed_chain p (law p h.tidy h.typed) h.typed (setting_at (origins_in p state)).made origins.closed it.body it.ty body.type body.has body.same (declared_type law alone p state h m it is)
      (terms it wholes) (origin_at (origins_in p state)) (term_chain it wholes chains) in
      let own = put_where it.body (terms it wholes) wholes (λ n used. ap (λ b. used_or b (wholes n) (origin_at (origins_in p state) n)) used) in
      subst (λ e. TypedChain p it.ty e it.origin) own (chain_joined inside (bodies m it is))

  pub whole_chain : {m : ℕ} {e : TermTree} → WholeOf state m e → (it : Made) → slice_get state m ≡ Some it → TypedChain p it.ty e it.origin
  whole_chain (whole_of {m = m} {it = jt} wholes is each) it at =
      let one : jt ≡ it = cc in
      subst (λ (it : Made). TypedChain p it.ty (with_origins wholes jt.body) it.origin) one
      (body_chain m jt is wholes (λ n used kt there. whole_chain (each n (jt, is, used)) kt there))

pub wholes_act : TypedIsSound → NoMadeKeepsType → WholesAct
wholes_act law alone p state m it e h bodies is whole = whole_chain law alone p state h bodies whole it is
