-- Other terms for the made definitions of a closed term, of which each acts by a chain as the first.
use Rattle.std.specs.Prelude.{slice_get}
use Rattle.std.proofs.Common.{◌==◌, ◌≡◌, ◌≤◌, ◌<◌, ◌⊎◌, inl, inr, ℕ, zero, suc, Bool, true, false, List, [], length, Some, refl, sym, ap, ◌∙◌, subst, arith}
use Rattle.std.proofs.lemmas.Bool.{eq-eqb, eqb-true, true≢false}
use Rattle.chw_types.specs.SameTypes.{SameTypes}
use Rattle.chw_types.specs.TypeTree.{TypeTree}
use Rattle.chw_types.proofs.SameLaws.{same_through, same_turned}
use Rattle.chw_terms.specs.declared.program.Program.{Program}
use Rattle.chw_terms.specs.TermTree.{TermTree}
use Rattle.chw_typing.specs.Programs.{AreClosed, IsSound, IsTyped, setting_of}
use Rattle.chw_typing.specs.Scopes.{IsTermType}
use Rattle.chw_typing.specs.Typing.{HasType, HasTypeUpTo}
use Rattle.chw_typing.proofs.Kinded.{type_kinded}
use Rattle.rewriting.specs.Origins.{with_origins}
use Rattle.rewriting.proofs.PutMade.{made_put}
use Rattle.acts.specs.Terms.{ActsAs, OriginsAct, OriginsTyped, setting_with}
use Rattle.acts.proofs.Globals.{sound_with}
use Rattle.act_rules.proofs.RuleMoves.{origins_act}
use Rattle.act_runs.specs.States.{TypedChain, typed_end, typed_and}
use Rattle.act_runs.proofs.Agree.{origins_agree}
use Rattle.act_runs.proofs.Chains.{chain_joined, chain_first, chain_last}
use Rattle.act_runs.proofs.States.{acts_at, made_acts}
use Rattle.act_runs.proofs.Lists.{item_there, item_within}

abbrev chosen : Bool → TermTree → TermTree → TermTree
chosen true a e = a
chosen false a e = e

-- another term for the made definition of this number
abbrev changed : (ℕ → TermTree) → ℕ → TermTree → ℕ → TermTree
changed o m a k = chosen (k == m) a (o k)

changed_there : (o : ℕ → TermTree) (m : ℕ) (a : TermTree) → changed o m a m ≡ a
changed_there o m a = ap (λ b. chosen b a (o m)) (eq-eqb m m refl)

module _ (p : Program) (sound : IsSound (setting_of p)) (typed : IsTyped p) (types : List TypeTree) (closed : AreClosed (setting_of p) types) where
  -- what holds of the changed term, and of the others as they were
  one_property : (P : TypeTree → TermTree → Type 0) (o : ℕ → TermTree) (m : ℕ) (u : TypeTree) (a : TermTree) → slice_get types m ≡ Some u → P u a → ((k : ℕ) (t : TypeTree) → slice_get types k ≡ Some t → P t (o k)) → (k : ℕ) (t : TypeTree) → slice_get types k ≡ Some t → P t (changed o m a k)
  one_property P o m u a at own others k t e = by (k == m) refl
    where
      by : (b : Bool) → (k == m) ≡ b → P t (chosen b a (o k))
      by true same =
          let is : k ≡ m = eqb-true k m same in
          let one : Some u ≡ Some t = sym at ∙ ap (slice_get types) (sym is) ∙ e in
          let type : u ≡ t = cc in
          subst (λ t. P t a) type own
      by false other = others k t e

  changed_typed : (o : ℕ → TermTree) → OriginsTyped p types o → (m : ℕ) (u : TypeTree) (a : TermTree) → slice_get types m ≡ Some u → HasTypeUpTo (setting_of p) [] [] a u → OriginsTyped p types (changed o m a)
  changed_typed o have m u a at d = one_property (λ t e. HasTypeUpTo (setting_of p) [] [] e t) o m u a at d have

  changed_act : (o : ℕ → TermTree) → OriginsTyped p types o → (m : ℕ) (u : TypeTree) (a b : TermTree) → slice_get types m ≡ Some u → ActsAs p u a b → OriginsAct p types (changed o m a) (changed o m b)
  changed_act o have m u a b at acts k t e = by (k == m) refl
    where
      by : (c : Bool) → (k == m) ≡ c → ActsAs p t (chosen c a (o k)) (chosen c b (o k))
      by true same =
          let is : k ≡ m = eqb-true k m same in
          let one : Some u ≡ Some t = sym at ∙ ap (slice_get types) (sym is) ∙ e in
          let type : u ≡ t = cc in
          subst (λ t. ActsAs p t a b) type acts
      by false other = origins_act p sound typed types o closed have k t e

  module _ (e : TermTree) (ty t : TypeTree) (d : HasType (setting_with p types) [] [] e t) (same : SameTypes ty t) (declared : IsTermType (setting_of p) [] ty) where
    full : IsSound (setting_with p types)
    full = sound_with p types sound closed

    term_type : IsTermType (setting_of p) [] t
    term_type = let k = type_kinded d full tt in record { kind = k.kind; has = k.has; of_terms = k.of_terms }

    put_typed : (o : ℕ → TermTree) → OriginsTyped p types o → HasTypeUpTo (setting_of p) [] [] (with_origins o e) ty
    put_typed o have =
        let put = made_put d full [] sound o have tt in
        record { type = put.type; has = put.has; same = same_through same put.same }

    put_acts : (o' o : ℕ → TermTree) → OriginsAct p types o' o → ActsAs p ty (with_origins o' e) (with_origins o e)
    put_acts o' o acts = acts_at p sound term_type declared (same_turned same) (with_origins o' e) (with_origins o e) (made_acts p sound typed types o' o closed acts e t d)

    -- one made definition after the other
    one_chain : (o : ℕ → TermTree) → OriginsTyped p types o → (m : ℕ) (u : TypeTree) → slice_get types m ≡ Some u → {a b : TermTree} → TypedChain p u a b → TypedChain p ty (with_origins (changed o m a) e) (with_origins (changed o m b) e)
    one_chain o have m u at {a} (typed_end has) = typed_end (put_typed (changed o m a) (changed_typed o have m u a at has))
    one_chain o have m u at {a} {b} (typed_and {b = c} has acts rest) =
        typed_and (put_typed (changed o m a) (changed_typed o have m u a at has)) (put_acts (changed o m a) (changed o m c) (changed_act o have m u a c at acts)) (one_chain o have m u at rest)

    module _ (first second : ℕ → TermTree) (chains : (k : ℕ) (u : TypeTree) → slice_get types k ≡ Some u → TypedChain p u (first k) (second k)) where
      -- terms of which those of lesser numbers are the second ones
      record Stage (j : ℕ) : Type 0 where
        terms : ℕ → TermTree
        have : OriginsTyped p types terms
        either : (k : ℕ) → (terms k ≡ first k) ⊎ (terms k ≡ second k)
        done : (k : ℕ) → k < j → terms k ≡ second k
        chain : TypedChain p ty (with_origins first e) (with_origins terms e)

      first_typed : OriginsTyped p types first
      first_typed k u at = chain_first (chains k u at)

      same_there : (o : ℕ → TermTree) (m k : ℕ) → changed o m (o m) k ≡ o k
      same_there o m k = by (k == m) refl
        where
          by : (b : Bool) → (k == m) ≡ b → chosen b (o m) (o k) ≡ o k
          by true same = ap o (sym (eqb-true k m same))
          by false other = refl

      at_start : Stage 0
      at_start =
          record {
            terms = first;
            have = first_typed;
            either = λ k. inl refl;
            done = λ k l. absurd (omega (arith, l));
            chain = typed_end (put_typed first first_typed);
          }

      next_stage : (j : ℕ) (u : TypeTree) → slice_get types j ≡ Some u → Stage j → Stage (suc j)
      next_stage j u at s =
          record {
            terms = changed s.terms j (second j);
            have = changed_typed s.terms s.have j u (second j) at (chain_last (chains j u at));
            either = either;
            done = done;
            chain = chain_joined s.chain (subst (λ f. TypedChain p ty f (with_origins (changed s.terms j (second j)) e)) before (one_chain s.terms s.have j u at own));
          }
        where
          own : TypedChain p u (s.terms j) (second j)
          own = by (s.either j)
            where
              by : (s.terms j ≡ first j) ⊎ (s.terms j ≡ second j) → TypedChain p u (s.terms j) (second j)
              by (inl is) = subst (λ f. TypedChain p u f (second j)) (sym is) (chains j u at)
              by (inr is) = subst (λ f. TypedChain p u f (second j)) (sym is) (typed_end (chain_last (chains j u at)))

          before : with_origins (changed s.terms j (s.terms j)) e ≡ with_origins s.terms e
          before = origins_agree d (changed s.terms j (s.terms j)) s.terms (λ k t q. same_there s.terms j k)

          either : (k : ℕ) → (changed s.terms j (second j) k ≡ first k) ⊎ (changed s.terms j (second j) k ≡ second k)
          either k = by (k == j) refl
            where
              by : (b : Bool) → (k == j) ≡ b → (chosen b (second j) (s.terms k) ≡ first k) ⊎ (chosen b (second j) (s.terms k) ≡ second k)
              by true same = inr (ap second (sym (eqb-true k j same)))
              by false other = s.either k

          done : (k : ℕ) → k < suc j → changed s.terms j (second j) k ≡ second k
          done k l = by (k == j) refl
            where
              by : (b : Bool) → (k == j) ≡ b → chosen b (second j) (s.terms k) ≡ second k
              by true same = ap second (sym (eqb-true k j same))
              by false other = s.done k (omega (arith, l, differ))
                where
                  differ : k ≡ j → ⊥
                  differ equal = true≢false (sym (eq-eqb k j equal) ∙ other)

      stage : (j : ℕ) → j ≤ length types → Stage j
      stage zero l = at_start
      stage (suc j) l =
          let at = item_there types j (omega (arith, l)) in
          next_stage j at.0 at.1 (stage j (omega (arith, l)))

      pub mixed_chain : TypedChain p ty (with_origins first e) (with_origins second e)
      mixed_chain =
          let s = stage (length types) (omega arith) in
          subst (TypedChain p ty (with_origins first e)) (origins_agree d s.terms second (λ k t q. s.done k (item_within types k t q))) s.chain
