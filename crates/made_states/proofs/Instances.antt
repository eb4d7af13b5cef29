-- The instances of rules where there was one made definition less.
use Rattle.std.proofs.Common.{◌≡◌, ◌∙◌, ◌<◌, ◌≤◌, ◌⊎◌, ℕ, refl, sym, ap, subst, arith, inl, inr, lt_of_lt_of_le}
use Rattle.std.proofs.Common.{List, [], ◌∷◌, ◌++◌, length, length-append}
use Rattle.std.proofs.lemmas.Bool.{cases_lt}
use Rattle.std.proofs.lemmas.Option.{slice_get_within}
use Rattle.std.specs.Prelude.{option_map, unwrap_or}
use Rattle.chw_types.specs.TypeTree.{TypeTree}
use Rattle.chw_terms.specs.FreeVariables.{free_in}
use Rattle.chw_terms.specs.TermMoves.{rename}
use Rattle.chw_terms.specs.TermTree.{TermTree, made}
use Rattle.chw_terms.specs.declared.program.Program.{Program}
use Rattle.chw_terms.specs.declared.rule.Rule.{Rule}
use Rattle.chw_terms.specs.declared.rule.Rule.TheVariants.{Anf, ApPure, AppCase, AppLet, Beta, CaseCase, CaseCon, CaseLet, Dead, Delta, Elem, Eta, Flat, Inline, PrimCase, PrimLet, Proj, Spec, TyBeta, Unfold, Unroll}
use Rattle.rewriting.specs.Origins.{MadeOf, origin_at, origin_of, under_each}
use Rattle.rewriting.specs.Spots.{Spot}
use Rattle.rewriting.specs.Calls.{OfWhole, anf_call, anf_result, call_origin, spec_call, to_lambdas}
use Rattle.rewriting.specs.Instances.{HasInstance, Makes, on_core, on_whole}
use Rattle.rewriting.specs.Numbers.{HasOrigin, IsNumberOf}
use Rattle.rewriting.specs.Signals.{OfSignals, eta, join, spec_function}
use Rattle.made_states.proofs.Names.{Alike, NamesOnly, core_names, put_alike, renamed_names, under_each_names}
use Rattle.made_states.proofs.Places.{found_seen, seen, typed_seen}
use Rattle.made_states.proofs.Rules.{call_seen, cases_seen, demanded_seen, first_of_call_seen, functions_seen, joins_seen, lets_seen, lifted_seen, names_seen, none_seen, operands_seen, primitives_seen, stands_in_call_names}

-- the number that is taken for an origin, where there was one made definition less
module _ (p : Program) (xs : List MadeOf) (y : MadeOf) (same : Alike (λ m. m < length xs) xs (xs ++ y ∷ [])) where
  origin_more : (e : TermTree) (j : ℕ) → HasOrigin (seen p xs) e j → HasOrigin (seen p (xs ++ y ∷ [])) e j
  origin_more e j h = (h.0, sym (same j (slice_get_within xs j h.0 h.1)) ∙ h.1, h.2)

  pub number_fewer : (e : TermTree) (m : ℕ) → IsNumberOf (seen p (xs ++ y ∷ [])) e m → (n : ℕ) × IsNumberOf (seen p xs) e n
  number_fewer e m (is, first) = by is (cases_lt m (length xs))
    where
      by : HasOrigin (seen p (xs ++ y ∷ [])) e m ⊎ (m ≡ length (xs ++ y ∷ [])) → (m < length xs) ⊎ (length xs ≤ m) → (n : ℕ) × IsNumberOf (seen p xs) e n
      by (inl h) (inl l) = (m, (inl (h.0, same m l ∙ h.1, h.2), λ j k of. first j k (origin_more e j of)))
      by (inr q) (inl l) = absurd (omega (arith, q, l, length-append xs (y ∷ [])))
      by _ (inr l) = (length xs, (inr refl, λ j k of. first j (lt_of_lt_of_le k l) (origin_more e j of)))

-- terms that name made definitions that were there before
module _ (p : Program) (xs : List MadeOf) (y : MadeOf) (same : Alike (λ m. m < length xs) xs (xs ++ y ∷ [])) (P : ℕ → Type 0) (alike : Alike P (xs ++ y ∷ []) xs) where
  origin_same : (e : TermTree) → NamesOnly P e → origin_of (seen p (xs ++ y ∷ [])) e ≡ origin_of (seen p xs) e
  origin_same e h =
      put_alike (origin_at (seen p (xs ++ y ∷ []))) (origin_at (seen p xs)) P
      (λ m k. ap (λ it. unwrap_or (option_map (λ (it : MadeOf). it.origin) it) (made m)) (alike m k)) e h

  call_origin_same : (ts : List TypeTree) (e : TermTree) → NamesOnly P e → call_origin (seen p (xs ++ y ∷ [])) ts e ≡ call_origin (seen p xs) ts e
  call_origin_same ts e h =
      let inner = rename e (to_lambdas (free_in e)) in
      origin_same (under_each ts inner) (under_each_names P ts inner (renamed_names P e (to_lambdas (free_in e)) h))

  signals_fewer : {at : Spot} {r : Rule} {e e' : TermTree} → OfSignals (seen p (xs ++ y ∷ [])) at r e e' → NamesOnly P e → (new : TermTree) × OfSignals (seen p xs) at r e new
  signals_fewer (join c j) h = (_, join c (joins_seen p (xs ++ y ∷ []) xs P alike j h))
  signals_fewer (eta c l n) h = (_, eta c (lifted_seen p (xs ++ y ∷ []) xs P alike h.0.1 l) n)
  signals_fewer (spec_function {g = g} {m = m} c l n number) h =
      let fewer = number_fewer p xs y same (origin_of (seen p xs) g) m (subst (λ e. IsNumberOf (seen p (xs ++ y ∷ [])) e m) (origin_same g h.0.1) number) in
      (_, spec_function c (lifted_seen p (xs ++ y ∷ []) xs P alike h.0.1 l) n fewer.1)

  whole_fewer : {at : Spot} {r : Rule} {e e' : TermTree} → OfWhole (seen p (xs ++ y ∷ [])) at r e e' → NamesOnly P e → (new : TermTree) × OfWhole (seen p xs) at r e new
  whole_fewer (spec_call {e = e} {ts = ts} {m = m} lets call number) h =
      let fewer = number_fewer p xs y same (call_origin (seen p xs) ts e) m (subst (λ e. IsNumberOf (seen p (xs ++ y ∷ [])) e m) (call_origin_same ts e h) number) in
      (_, spec_call lets (call_seen p (xs ++ y ∷ []) xs P alike h call) fewer.1)
  whole_fewer (anf_call first f) h =
      (_, anf_call (first_of_call_seen p (xs ++ y ∷ []) xs P alike h first) (found_seen p (xs ++ y ∷ []) xs P alike (stands_in_call_names P first.is.0 h) f))
  whole_fewer (anf_result lets result not_variable not_let none f) h =
      (_, anf_result lets result not_variable not_let (none_seen p (xs ++ y ∷ []) xs P alike h none) (found_seen p (xs ++ y ∷ []) xs P alike h f))

  makes_fewer : (at : Spot) (r : Rule) (e e' : TermTree) → Makes (seen p (xs ++ y ∷ [])) at r e e' → NamesOnly P e → (new : TermTree) × Makes (seen p xs) at r e new
  makes_fewer at TyBeta e e' m h = (_, functions_seen p (xs ++ y ∷ []) xs P alike m h)
  makes_fewer at Beta e e' m h = (_, functions_seen p (xs ++ y ∷ []) xs P alike m h)
  makes_fewer at AppLet e e' m h = (_, functions_seen p (xs ++ y ∷ []) xs P alike m h)
  makes_fewer at AppCase e e' m h = (_, functions_seen p (xs ++ y ∷ []) xs P alike m h)
  makes_fewer at CaseCon e e' m h = (_, cases_seen p (xs ++ y ∷ []) xs P alike m h)
  makes_fewer at CaseLet e e' m h = (_, cases_seen p (xs ++ y ∷ []) xs P alike m h)
  makes_fewer at CaseCase e e' m h = (_, cases_seen p (xs ++ y ∷ []) xs P alike m h)
  makes_fewer at Proj e e' m h = (_, cases_seen p (xs ++ y ∷ []) xs P alike m h)
  makes_fewer at PrimLet e e' m h = (_, demanded_seen p (xs ++ y ∷ []) xs P alike m h)
  makes_fewer at PrimCase e e' m h = (_, demanded_seen p (xs ++ y ∷ []) xs P alike m h)
  makes_fewer at Flat e e' m h = (_, lets_seen p (xs ++ y ∷ []) xs P alike m)
  makes_fewer at Dead e e' m h = (_, lets_seen p (xs ++ y ∷ []) xs P alike m)
  makes_fewer at Inline e e' m h = (_, lets_seen p (xs ++ y ∷ []) xs P alike m)
  makes_fewer at Unfold e e' m h = (_, names_seen p (xs ++ y ∷ []) xs P alike m h)
  makes_fewer at Unroll e e' m h = (_, primitives_seen p (xs ++ y ∷ []) xs P alike m h)
  makes_fewer at Elem e e' m h = (_, primitives_seen p (xs ++ y ∷ []) xs P alike m h)
  makes_fewer at Delta e e' m h = (_, primitives_seen p (xs ++ y ∷ []) xs P alike m h)
  makes_fewer at ApPure e e' m h = signals_fewer m h
  makes_fewer at Eta e e' m h = signals_fewer m h
  makes_fewer at Spec e e' m h = signals_fewer m h
  makes_fewer at Anf e e' m h = (_, operands_seen p (xs ++ y ∷ []) xs P alike m h)

  -- a rule that has an instance had one
  pub instance_fewer : {at : Spot} {r : Rule} {e e' : TermTree} → HasInstance (seen p (xs ++ y ∷ [])) at r e e' → NamesOnly P e → (new : TermTree) × HasInstance (seen p xs) at r e new
  instance_fewer {at} {r} (on_core core core' rest makes d) h =
      let fewer = makes_fewer at r core core' makes (core_names P core rest h) in
      (_, on_core core fewer.0 rest fewer.1 (typed_seen p (xs ++ y ∷ []) xs P alike h d))
  instance_fewer (on_whole whole d) h =
      let fewer = whole_fewer whole h in
      (_, on_whole fewer.1 (typed_seen p (xs ++ y ∷ []) xs P alike h d))
