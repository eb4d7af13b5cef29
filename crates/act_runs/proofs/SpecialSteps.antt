-- A step by SPEC: a call, or a lifted function, becomes a made definition.
use Rattle.std.specs.Prelude.{slice_get}
use Rattle.std.proofs.Common.{◌≡◌, ◌≤◌, ℕ, zero, suc, List, [], ◌∷◌, ◌++◌, length, map, Some, sym, ap, ◌∙◌, subst}
use Rattle.std.proofs.lemmas.List.{length-map}
use Rattle.chw_types.specs.TypeTree.{TypeTree}
use Rattle.chw_types.proofs.SameLaws.{same_self}
use Rattle.chw_terms.specs.declared.program.Program.{Program}
use Rattle.chw_terms.specs.declared.rule.Rule.{Rule}
use Rattle.chw_terms.specs.declared.rule.Rule.TheVariants.{Spec}
use Rattle.chw_terms.specs.declared.scene.Made.{Made}
use Rattle.chw_terms.specs.declared.scene.Sort.TheVariants.{Value}
use Rattle.chw_terms.specs.declared.term.Arg.{Arg}
use Rattle.chw_terms.specs.FreeVariables.{free_in}
use Rattle.chw_terms.specs.TermMoves.{rename}
use Rattle.chw_terms.specs.TermTree.{TermTree, made}
use Rattle.chw_terms.specs.TermView.{applied}
use Rattle.chw_terms.specs.Evaluated.{evaluated_in}
use Rattle.chw_typing.specs.HeadTypes.{from_each}
use Rattle.chw_typing.specs.Laws.{TypedIsSound}
use Rattle.chw_typing.specs.Programs.{IsSound, setting_of}
use Rattle.chw_typing.specs.Scopes.{Setting}
use Rattle.chw_typing.specs.Typing.{HasType, HasTypeUpTo, h_made}
use Rattle.chw_typing.proofs.Kinded.{type_kinded}
use Rattle.chw_typing.proofs.Lists.{found_in_map, found_before_map}
use Rattle.chw_typing.proofs.OneType.{one_type}
use Rattle.chw_typing.proofs.SameScopes.{are_same_self}
use Rattle.chw_typing.proofs.FoundTyped.{found_is_type}
use Rattle.chw_typing.specs.TypedPartLaws.{with_made}
use Rattle.chw_typing.proofs.Lowered.{moved_typed}
use Rattle.chw_typing.proofs.MoreMade.{typed_with_made, term_types_with_made}
use Rattle.chw_typing.specs.Paths.{with_part}
use Rattle.chw_typing.proofs.PathParts.{with_part_behind}
use Rattle.chw_typing.specs.Around.{Around, here, in_function, in_argument}
use Rattle.chw_typing.proofs.ContextPlaces.{around_is_part, around_behind}
use Rattle.rewriting.specs.SceneLaws.{NamedIsTermKind, NoMadeKeepsType}
use Rattle.rewriting.specs.Origins.{MadeOf, Origins, made_of, origin_at, origin_of, setting_at, under_each}
use Rattle.rewriting.proofs.Around.{place_around}
use Rattle.rewriting.specs.Spots.{Spot}
use Rattle.rewriting.specs.Calls.{IsCall, call_origin, spec_call, to_lambdas}
use Rattle.rewriting.specs.Instances.{HasInstance, on_core, on_whole}
use Rattle.rewriting.specs.RuleLaws.{NumberIsThere}
use Rattle.rewriting.specs.Numbers.{HasOrigin, IsNumberOf}
use Rattle.rewriting.specs.Runs.{After, no_call, known, one_more, of_call, of_lifted, opened, sort_at}
use Rattle.rewriting.specs.Shapes.{fmap_of, leading_lambdas}
use Rattle.rewriting.specs.Signals.{IsLifted, OfSignals, spec_function}
use Rattle.rewriting.specs.Steps.{origins_in}
use Rattle.rule_types.specs.Laws.{AreTypedOrigins, IsTypedPlace}
use Rattle.rule_types.specs.States.{IsTypedState}
use Rattle.rule_types.proofs.Calls.{call_closed}
use Rattle.rule_types.proofs.States.{state_origins, place_typed}
use Rattle.act_rules.specs.RuleLaws.{KeepsMeaning}
use Rattle.act_rules.proofs.RuleMoves.{same_term_acts}
use Rattle.act_rules.specs.ContextLaws.{PlugActs}
use Rattle.acts.proofs.Levels.{from_turns}
use Rattle.acts.specs.Acts.{acts_from}
use Rattle.act_runs.specs.States.{AbstractedActs, TypedChain, SpecialActs}
use Rattle.act_runs.proofs.Abstracted.{variables}
use Rattle.act_runs.proofs.Special.{special_body, variables_typed, last_there, wider_sound}
use Rattle.act_runs.proofs.Spines.{behind, around_core, core_with_part}
use Rattle.act_runs.proofs.States.{over_program, origin_there, origin_found, state_has_origins, declared_type}

-- the made definitions that there were stay
stays : {A : Type 0} (xs ys : List A) (k : ℕ) (x : A) → slice_get xs k ≡ Some x → slice_get (xs ++ ys) k ≡ Some x
stays [] ys k x e = absurd cc
stays (z ∷ xs) ys zero x e = e
stays (z ∷ xs) ys (suc k) x e = stays xs ys k x e

pub after_stays : {p : Program} {state with_new : List Made} {at : Spot} {e : TermTree} {r : Rule} → After p state at e r with_new → (k : ℕ) (it : Made) → slice_get state k ≡ Some it → slice_get with_new k ≡ Some it
after_stays (no_call n) k it e = e
after_stays (known m b h) k it e = e
after_stays {p} {state} (one_more {it = new} b h) k it e = stays state (opened p new ∷ []) k it e

pub after_keeps_origins : {p : Program} {state with_new : List Made} {at : Spot} {e : TermTree} {r : Rule} → After p state at e r with_new → (k : ℕ) (t : TypeTree) → slice_get (setting_at (origins_in p state)).made k ≡ Some t → origin_at (origins_in p with_new) k ≡ origin_at (origins_in p state) k
after_keeps_origins {p} {state} {with_new} after k t e =
    let of = origin_found (origins_in p state) k t e in
    let old = found_before_map made_of state k of.it of.held in
    let new = found_in_map made_of with_new k old.0 (after_stays after k old.0 old.1) in
    origin_there (origins_in p with_new) k (made_of old.0) new ∙ ap (λ (m : MadeOf). m.origin) old.2 ∙ sym of.is

-- as many types as variables
as_many : (vars : List TypeTree) (xs : List ℕ) (ts : List TypeTree) → map (slice_get vars) xs ≡ map (λ t. Some t) ts → length ts ≡ length xs
as_many vars xs ts e = sym (length-map ts (λ t. Some t)) ∙ sym (ap length e) ∙ length-map xs (slice_get vars)

-- a term keeps its own meaning
itself_keeps : TypedIsSound → (e : TermTree) → KeepsMeaning e e
itself_keeps law e p types o kinds vars t h g d n δ γ' γ kinded names =
    same_term_acts p (law p h.tidy h.typed) h.typed types o h.closed h.have_types g d (acts_from p n) (from_turns p n) δ γ' γ kinded names

-- the laws on which this stands
pub record SpecialLaws : Type 0 where
  pub sound : TypedIsSound
  pub alone : NoMadeKeepsType
  pub kinds_of : NamedIsTermKind
  pub there : NumberIsThere
  pub plug : PlugActs
  pub abstracted : AbstractedActs

module _ (l : SpecialLaws) (p : Program) (state with_new : List Made) (h : IsTypedState p state) (next : IsTypedState p with_new) (number : ℕ) (it : Made) (is : slice_get state number ≡ Some it) (at : Spot) (place : IsTypedPlace (origins_in p state) at) where
  abbrev o : Origins
  o = origins_in p state

  abbrev s : Setting
  s = setting_at (origins_in p state)

  over : AreTypedOrigins o
  over = state_origins l.sound p state h

  -- the origin of the number that is written
  record Written (e : TermTree) (m : ℕ) : Type 0 where
    type : TypeTree
    has : HasTypeUpTo (setting_of p) [] [] (origin_at (origins_in p with_new) m) type
    same : evaluated_in (origin_at (origins_in p with_new) m) ≡ evaluated_in e

  written : (e : TermTree) (m : ℕ) → HasOrigin (origins_in p with_new) e m → Written e m
  written e m of =
      let at = origin_there (origins_in p with_new) m of.0 of.1 in
      let origins = state_has_origins l.sound l.alone p with_new next in
      record {
        type = of.0.ty;
        has = origins.have_types m of.0.ty (found_in_map (λ (m : MadeOf). m.ty) (map made_of with_new) m of.0 of.1);
        same = ap evaluated_in at ∙ of.2;
      }

  -- one made definition more
  abbrev wider : TypeTree → Setting
  wider u = with_made s (u ∷ [])

  abbrev last : ℕ
  last = length s.made

  wide : (u : TypeTree) (c0 : TermTree) → HasType s [] [] c0 u → IsSound (wider u)
  wide u c0 d = wider_sound o over.sound u (over_program o (type_kinded d over.sound tt))

  -- a part of the body that becomes a made definition
  part_chain : {e : TermTree} → After p state at e Spec with_new → (path : List ℕ) (x : TermTree) → Around s [] [] it.body path [] at.vars x → (xs : List ℕ) (c0 : TermTree) (u : TypeTree) → HasType s [] [] c0 u → KeepsMeaning (applied c0 (variables xs)) x → ((t : TypeTree) → HasType (wider u) [] at.vars x t → HasTypeUpTo (wider u) [] at.vars (applied (made last) (variables xs)) t) → (m : ℕ) → HasOrigin (origins_in p with_new) (origin_of o c0) m → TypedChain p it.ty (origin_of (origins_in p with_new) (with_part it.body path (applied (made m) (variables xs)))) (origin_of o it.body)
  part_chain after path x around xs c0 u c_typed keeps fits m of =
      let w = written (origin_of o c0) m of in
      special_body l.plug o (l.sound p h.tidy h.typed) (state_has_origins l.sound l.alone p state h) over.sound u (over_program o (type_kinded c_typed over.sound tt))
      it.body it.ty (h.each number it is).body_typed (declared_type l.sound l.alone p state h number it is) path at.vars x around xs fits c0 u c_typed (same_self u) keeps
      (origin_at (origins_in p with_new)) m w.type w.has w.same (λ k t e. after_keeps_origins after k t e)

  -- a call
  call_chain : (e : TermTree) (path : List ℕ) → Around s [] [] it.body path [] at.vars e → After p state at e Spec with_new → (ts : List TypeTree) (t : TypeTree) (m : ℕ) → IsCall o at e ts t → IsNumberOf o (call_origin o ts e) m → TypedChain p it.ty (origin_of (origins_in p with_new) (with_part it.body path (applied (made m) (variables (free_in e))))) (origin_of o it.body)
  call_chain e path around after ts t m call number_of =
      let made_of_call : MadeOf = record { origin = call_origin o ts e; ty = from_each ts t; sort = sort_at at.mode } in
      part_chain after path e around (free_in e) c0 (from_each ts t) c_typed (l.abstracted e ts (as_many at.vars (free_in e) ts call.free))
      fits m (l.there p state with_new at e made_of_call m (of_call call) number_of after)
    where
      c0 : TermTree
      c0 = under_each ts (rename e (to_lambdas (free_in e)))

      c_typed : HasType s [] [] (under_each ts (rename e (to_lambdas (free_in e)))) (from_each ts t)
      c_typed = call_closed l.kinds_of o at e ts t place call

      fits : (v : TypeTree) → HasType (wider (from_each ts t)) [] at.vars e v → HasTypeUpTo (wider (from_each ts t)) [] at.vars (applied (made last) (variables (free_in e))) v
      fits v d =
          let scope = term_types_with_made s (from_each ts t ∷ []) [] at.vars place.vars in
          record {
            type = t;
            has = variables_typed (wider (from_each ts t)) [] at.vars (free_in e) ts t (made last) call.free (h_made (last_there s.made (from_each ts t)));
            same = one_type d (typed_with_made (found_is_type call.has) (from_each ts t ∷ [])) (wide (from_each ts t) (under_each ts (rename e (to_lambdas (free_in e)))) c_typed) scope scope (are_same_self at.vars);
          }

  -- a lifted function
  lifted_chain : (d a b t r : TypeTree) (ts : List TypeTree) (g x : TermTree) (rest : List Arg) (path : List ℕ) → Around s [] [] it.body path [] at.vars (applied (fmap_of d a b g x) rest) → After p state at (applied (fmap_of d a b g x) rest) Spec with_new → (m : ℕ) → IsLifted o at g t ts r → length (t ∷ ts) ≤ leading_lambdas g → IsNumberOf o (origin_of o g) m → TypedChain p it.ty (origin_of (origins_in p with_new) (with_part it.body path (applied (fmap_of d a b (made m) x) rest))) (origin_of o it.body)
  lifted_chain d a b t r ts g x rest path around after m lifted many number_of =
      subst (λ e. TypedChain p it.ty (origin_of (origins_in p with_new) e) (origin_of o it.body)) same
      (part_chain after (path ++ behind rest (0 ∷ 1 ∷ [])) g (around_behind around (around_core rest (in_function (in_argument here)))) [] g u c_typed (itself_keeps l.sound g)
      fits m (l.there p state with_new at (applied (fmap_of d a b g x) rest) made_of_function m (of_lifted d a b g x rest lifted many) number_of after))
    where
      u : TypeTree
      u = from_each (t ∷ ts) r

      made_of_function : MadeOf
      made_of_function = record { origin = origin_of o g; ty = from_each (t ∷ ts) r; sort = Value }

      c_typed : HasType s [] [] g (from_each (t ∷ ts) r)
      c_typed = moved_typed s [] at.vars [] g (from_each (t ∷ ts) r) lifted.closed (found_is_type lifted.has)

      fits : (v : TypeTree) → HasType (wider (from_each (t ∷ ts) r)) [] at.vars g v → HasTypeUpTo (wider (from_each (t ∷ ts) r)) [] at.vars (made last) v
      fits v e =
          let scope = term_types_with_made s (from_each (t ∷ ts) r ∷ []) [] at.vars place.vars in
          record {
            type = from_each (t ∷ ts) r;
            has = h_made (last_there s.made (from_each (t ∷ ts) r));
            same = one_type e (typed_with_made (found_is_type lifted.has) (from_each (t ∷ ts) r ∷ [])) (wide (from_each (t ∷ ts) r) g c_typed) scope scope (are_same_self at.vars);
          }

      same : with_part it.body (path ++ behind rest (0 ∷ 1 ∷ [])) (made m) ≡ with_part it.body path (applied (fmap_of d a b (made m) x) rest)
      same =
          with_part_behind path it.body (applied (fmap_of d a b g x) rest) (made m) (behind rest (0 ∷ 1 ∷ [])) (around_is_part around)
          ∙ ap (with_part it.body path) (core_with_part rest (fmap_of d a b g x) (made m) (0 ∷ 1 ∷ []))

  pub instance_chain : {e f : TermTree} → HasInstance o at Spec e f → (path : List ℕ) → Around s [] [] it.body path [] at.vars e → After p state at e Spec with_new → TypedChain p it.ty (origin_of (origins_in p with_new) (with_part it.body path f)) (origin_of o it.body)
  instance_chain (on_core core core' rest m typed) path around after = by m around after
    where
      by : {f f' : TermTree} → OfSignals o at Spec f f' → Around s [] [] it.body path [] at.vars (applied f rest) → After p state at (applied f rest) Spec with_new → TypedChain p it.ty (origin_of (origins_in p with_new) (with_part it.body path (applied f' rest))) (origin_of o it.body)
      by (spec_function {d = d} {a = a} {b = b} {t = t} {r = r} {ts = ts} {g = g} {s = x} {m = k} circuit lifted many number_of) around after = lifted_chain d a b t r ts g x rest path around after k lifted many number_of
  instance_chain {e} (on_whole (spec_call {ts = ts} {t = t} {m = m} lets call number_of) typed) path around after = call_chain e path around after ts t m call number_of

pub special_acts : SpecialLaws → SpecialActs
special_acts l p state with_new w new h next rule step after =
    let o = origins_in p state in
    let over = state_origins l.sound p state h in
    let each = h.each w.number step.it step.is in
    let around = place_around o (made_of step.it) step.it.body step.term w.path step.at over.sound each.body_typed step.place in
    let place = place_typed o (made_of step.it) step.it.body step.term w.path step.at over.sound each step.place in
    instance_chain l p state with_new h next w.number step.it step.is step.at place (subst (λ r. HasInstance o step.at r step.term new) rule step.made_new) w.path around after
