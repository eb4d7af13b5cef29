-- A typed state with one more made definition, of a call or of a lifted function, is typed.
use Rattle.std.proofs.Common.{◌++◌, ◌∙◌, ◌∷◌, ◌≡◌, ◌⊎◌, List, Some, [], ap, inl, inr, map, refl, subst, suc, sym, zero, ℕ}
use Rattle.std.specs.List.{slice_get}
use Rattle.chw_types.specs.TypeTree.{TypeTree}
use Rattle.chw_prims.specs.declared.prim.Primitive.TheVariants.{Fmap}
use Rattle.chw_terms.specs.TermTree.{TermTree, global, prim}
use Rattle.chw_terms.specs.TermView.{applied}
use Rattle.chw_terms.specs.declared.program.Program.{Program}
use Rattle.chw_terms.specs.declared.rule.Rule.{Rule}
use Rattle.chw_terms.specs.declared.rule.Rule.TheVariants.{Spec}
use Rattle.chw_terms.specs.declared.scene.Made.{Made}
use Rattle.chw_terms.specs.declared.term.Arg.{Arg}
use Rattle.chw_typing.proofs.Lists.{found_before_map}
use Rattle.chw_typing.specs.Laws.{TypedIsSound}
use Rattle.chw_typing.specs.Programs.{IsComplete}
use Rattle.chw_typing.specs.Typing.{HasTypeUpTo}
use Rattle.chw_typing.proofs.MoreMade.{typed_with_made}
use Rattle.rewriting.specs.SceneLaws.{NamedIsTermKind}
use Rattle.rewriting.specs.Origins.{HoldsNoMade, MadeOf, Origins, made_of, setting_at}
use Rattle.rewriting.specs.Typed.{IsTypedMade}
use Rattle.rewriting.specs.Spots.{HasLets, Spot}
use Rattle.rewriting.proofs.Spines.{head_applied, head_of}
use Rattle.rewriting.specs.Calls.{spec_call}
use Rattle.rewriting.specs.Instances.{HasInstance, Makes, on_core, on_whole}
use Rattle.rewriting.specs.Runs.{After, BecomesMade, first_body, known, no_call, of_call, of_lifted, one_more, opened}
use Rattle.rewriting.specs.Shapes.{fmap_of}
use Rattle.rewriting.specs.Signals.{OfSignals, spec_function}
use Rattle.rewriting.specs.Steps.{origins_in}
use Rattle.rule_types.proofs.Called.{call_made_typed, lifted_typed}
use Rattle.rule_types.proofs.Complete.{spine_complete}
use Rattle.rule_types.proofs.States.{state_origins}
use Rattle.rule_types.specs.Laws.{AreTypedOrigins, IsTypedPlace}
use Rattle.rule_types.specs.States.{IsTypedState}

-- the types of made definitions with one more
types_more : (made : List Made) (y : Made) → map (λ (m : MadeOf). m.ty) (map made_of (made ++ y ∷ [])) ≡ map (λ (m : MadeOf). m.ty) (map made_of made) ++ y.ty ∷ []
types_more [] y = refl
types_more (x ∷ xs) y = ap (λ ts. x.ty ∷ ts) (types_more xs y)

typed_more : (p : Program) (made : List Made) (y : Made) (e : TermTree) (t : TypeTree) → HasTypeUpTo (setting_at (origins_in p made)) [] [] e t → HasTypeUpTo (setting_at (origins_in p (made ++ y ∷ []))) [] [] e t
typed_more p made y e t d =
    subst (λ ts. HasTypeUpTo (record (setting_at (origins_in p made)) { made = ts }) [] [] e t) (sym (types_more made y))
    (record { type = d.type; has = typed_with_made d.has (y.ty ∷ []); same = d.same })

made_more : (p : Program) (made : List Made) (y : Made) (it : MadeOf) (body : TermTree) → IsTypedMade (origins_in p made) it body → IsTypedMade (origins_in p (made ++ y ∷ [])) it body
made_more p made y it body h =
    record {
      closed = record { kind = h.closed.kind; has = h.closed.has; of_terms = h.closed.of_terms };
      named = h.named;
      origin_typed = typed_more p made y it.origin it.ty h.origin_typed;
      body_typed = typed_more p made y body it.ty h.body_typed;
      origin_complete = h.origin_complete;
      body_complete = h.body_complete;
      no_made = h.no_made;
      origin_leads = h.origin_leads;
      body_leads = h.body_leads;
    }

-- one of them is an older one, or the one at the end
either : (xs : List Made) (y : Made) (m : ℕ) (x : Made) → slice_get (xs ++ y ∷ []) m ≡ Some x → (slice_get xs m ≡ Some x) ⊎ (y ≡ x)
either [] y zero x e = inr cc
either [] y (suc m) x e = absurd cc
either (z ∷ xs) y zero x e = inl e
either (z ∷ xs) y (suc m) x e = either xs y m x e

state_more : (p : Program) (made : List Made) (it : MadeOf) → IsTypedState p made → IsTypedMade (origins_in p made) it (first_body p it.origin) → IsTypedState p (made ++ opened p it ∷ [])
state_more p made it h new = record { tidy = h.tidy; typed = h.typed; each = each }
  where
    y : Made
    y = opened p it

    by : (m : ℕ) (x : Made) → (slice_get made m ≡ Some x) ⊎ (y ≡ x) → IsTypedMade (origins_in p (made ++ y ∷ [])) (made_of x) x.body
    by m x (inl e) = made_more p made y (made_of x) x.body (h.each m x e)
    by m x (inr e) = subst (λ (x : Made). IsTypedMade (origins_in p (made ++ y ∷ [])) (made_of x) x.body) e (made_more p made y it (first_body p it.origin) new)

    each : (m : ℕ) (x : Made) → slice_get (made ++ y ∷ []) m ≡ Some x → IsTypedMade (origins_in p (made ++ y ∷ [])) (made_of x) x.body
    each m x e = by m x (either made y m x e)

-- the origins of a typed state hold no made definitions
pub origins_hold_no_made : (p : Program) (made : List Made) → IsTypedState p made → (m : ℕ) (it : MadeOf) → slice_get (map made_of made) m ≡ Some it → HoldsNoMade it.origin
origins_hold_no_made p made h m it e =
    let at = found_before_map made_of made m it e in
    subst (λ (it : MadeOf). HoldsNoMade it.origin) at.2 (h.each m at.0 at.1).no_made

no_lifted_call : (c : ℕ) (args rest : List Arg) (d a b : TypeTree) (g s : TermTree) → applied (global c) args ≡ applied (fmap_of d a b g s) rest → ⊥
no_lifted_call c args rest d a b g s q =
    let heads : global c ≡ prim Fmap = sym (head_applied args (global c)) ∙ ap head_of q ∙ head_applied rest (fmap_of d a b g s) in
    absurd cc

-- calls become made definitions where a value or a circuit is built
call_there : {o : Origins} {at : Spot} {r : Rule} {e new : TermTree} → HasInstance o at r e new → r ≡ Spec → (c : ℕ) (args : List Arg) → e ≡ applied (global c) args → HasLets at.mode
call_there (on_whole (spec_call lets call number) d) is c args q = lets
call_there (on_whole _ d) is c args q = absurd cc
call_there {o} {at} {r} (on_core core core' rest makes d) is c args q = by (subst (λ r. Makes o at r core core') is makes) q
  where
    by : {f f' : TermTree} → OfSignals o at Spec f f' → applied f rest ≡ applied (global c) args → HasLets at.mode
    by (spec_function {d = d} {a = a} {b = b} {g = g} {s = s} circuit lifted many number) q = absurd (no_lifted_call c args rest d a b g s (sym q))

becomes_typed : NamedIsTermKind → (o : Origins) (at : Spot) {e new : TermTree} {it : MadeOf} → AreTypedOrigins o → ((m : ℕ) (it : MadeOf) → slice_get o.made m ≡ Some it → HoldsNoMade it.origin) → IsTypedPlace o at → HasInstance o at Spec e new → IsComplete o.program.datas e → BecomesMade o at e it → IsTypedMade o it (first_body o.program it.origin)
becomes_typed law o at {e} w none place instance complete (of_call {ts = ts} {t = t} call) =
    call_made_typed law o at e ts t w none place (call_there instance refl call.of call.args call.is) call complete
becomes_typed law o at w none place instance complete (of_lifted d a b {t = t} {r = r} {ts = ts} g s rest lifted many) =
    lifted_typed o at w none g t ts r lifted many (spine_complete o.program.datas (fmap_of d a b g s) rest complete).0.0.1

pub after_typed : TypedIsSound → NamedIsTermKind → (p : Program) (made with_new : List Made) (at : Spot) (e new : TermTree) (r : Rule) → IsTypedState p made → IsTypedPlace (origins_in p made) at → HasInstance (origins_in p made) at r e new → IsComplete p.datas e → After p made at e r with_new → IsTypedState p with_new
after_typed sound law p made with_new at e new r h place instance complete (no_call n) = h
after_typed sound law p made with_new at e new r h place instance complete (known m b k) = h
after_typed sound law p made with_new at e new r h place instance complete (one_more {it = it} b k) =
    state_more p made it h (becomes_typed law (origins_in p made) at (state_origins sound p made h) (origins_hold_no_made p made h) place instance complete b)
