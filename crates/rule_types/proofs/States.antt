-- A step of rewriting leads from a typed state to a typed one.
use Rattle.std.proofs.Common.{◌∙◌, ◌∷◌, ◌≡◌, List, Some, [], ap, map, refl, set, subst, suc, sym, zero, ℕ}
use Rattle.std.specs.List.{slice_get}
use Rattle.chw_types.proofs.SameLaws.{same_through}
use Rattle.chw_types.specs.TypeTree.{TypeTree}
use Rattle.chw_terms.specs.TermTree.{TermTree}
use Rattle.chw_terms.specs.declared.program.Def.{Def}
use Rattle.chw_terms.specs.declared.program.Program.{Program}
use Rattle.chw_terms.specs.declared.rule.Rule.{Rule}
use Rattle.chw_terms.specs.declared.rule.Rule.TheVariants.{Spec}
use Rattle.chw_terms.specs.declared.scene.Made.{Made}
use Rattle.chw_typing.proofs.Lists.{found_before_map}
use Rattle.chw_typing.specs.Laws.{TypedIsSound}
use Rattle.chw_typing.specs.Programs.{AreClosed, IsComplete, IsSound, setting_of}
use Rattle.chw_typing.specs.Scopes.{IsTermType}
use Rattle.chw_typing.specs.Typing.{HasTypeUpTo}
use Rattle.chw_typing.proofs.PathParts.{with_part_behind}
use Rattle.chw_typing.specs.Paths.{part_at, with_part}
use Rattle.chw_typing.proofs.Complete.{part_complete, plug_complete}
use Rattle.chw_typing.proofs.ContextPlaces.{around_is_part}
use Rattle.chw_typing.proofs.Plugged.{plugged}
use Rattle.chw_typing.proofs.Typed.{part_typed}
use Rattle.chw_typing.specs.Around.{Around}
use Rattle.chw_typing.proofs.MoreMade.{sound_with_made, typed_with_made}
use Rattle.rewriting.specs.Named.{HasLeadingLambdas, UnderLambdas, under_none, under_one}
use Rattle.rewriting.specs.Origins.{MadeOf, Origins, made_of, setting_at}
use Rattle.rewriting.specs.Typed.{IsTypedMade}
use Rattle.rewriting.proofs.Around.{place_around}
use Rattle.rewriting.specs.Active.{IsPlaceOf}
use Rattle.rewriting.specs.Spots.{Spot}
use Rattle.rewriting.specs.Runs.{After, Step, StepsTo, known, no_call, one_more}
use Rattle.rewriting.specs.Steps.{origins_in}
use Rattle.rule_types.proofs.Instances.{instances_keep, instances_keep_complete}
use Rattle.rule_types.specs.Laws.{AreTypedOrigins, IsTypedPlace, KeepsType}
use Rattle.rule_types.specs.States.{IsTypedState}

-- what terms are typed over in a typed state
state_sound : TypedIsSound → (p : Program) (made : List Made) → IsTypedState p made → IsSound (setting_at (origins_in p made))
state_sound law p made h = sound_with_made (setting_of p) (map (λ (m : MadeOf). m.ty) (map made_of made)) (law p h.tidy h.typed) closed
  where
    closed : AreClosed (setting_of p) (map (λ (m : MadeOf). m.ty) (map made_of made))
    closed m t e =
        let outer = found_before_map (λ (m : MadeOf). m.ty) (map made_of made) m t e in
        let at = found_before_map made_of made m outer.0 outer.1 in
        let of = (h.each m at.0 at.1).closed in
        let same : at.0.ty ≡ t = ap (λ (x : MadeOf). x.ty) at.2 ∙ outer.2 in
        subst (IsTermType (setting_of p) []) same (record { kind = of.kind; has = of.has; of_terms = of.of_terms })

pub state_origins : TypedIsSound → (p : Program) (made : List Made) → IsTypedState p made → AreTypedOrigins (origins_in p made)
state_origins law p made h = record { sound = state_sound law p made h; bodies = bodies; origins = origins }
  where
    o : Origins
    o = origins_in p made

    bodies : (d : ℕ) (it : Def) → slice_get p.defs d ≡ Some it → HasTypeUpTo (setting_at o) [] [] it.body it.ty × IsComplete p.datas it.body
    bodies d it is =
        let body = h.typed.bodies d it is in
        (record { type = body.type; has = typed_with_made body.has (map (λ (m : MadeOf). m.ty) o.made); same = body.same }, h.typed.complete d it is)

    origins : (m : ℕ) (it : MadeOf) → slice_get o.made m ≡ Some it → HasTypeUpTo (setting_at o) [] [] it.origin it.ty × IsComplete p.datas it.origin
    origins m it is =
        let at = found_before_map made_of made m it is in
        let of = h.each m at.0 at.1 in
        subst (λ (it : MadeOf). HasTypeUpTo (setting_at o) [] [] it.origin it.ty × IsComplete p.datas it.origin) at.2 (of.origin_typed, of.origin_complete)

-- below leading lambdas another term may stand
under_is_part : {vars vs : List TypeTree} {e x : TermTree} {t : TypeTree} {path : List ℕ} → UnderLambdas vars e t path vs x → part_at e path ≡ Some x
under_is_part (under_none a) = refl
under_is_part (under_one s r) = under_is_part r

under_put : {vars vs : List TypeTree} {e x : TermTree} {t : TypeTree} {path : List ℕ} → UnderLambdas vars e t path vs x → (y : TermTree) → UnderLambdas vars (with_part e path y) t path vs y
under_put (under_none a) y = under_none a
under_put (under_one s r) y = under_one s (under_put r y)

-- a place of a typed body
pub place_typed : (o : Origins) (it : MadeOf) (body x : TermTree) (path : List ℕ) (at : Spot) → IsSound (setting_at o) → IsTypedMade o it body → IsPlaceOf o it body path at x → IsTypedPlace o at
place_typed o it body x path at h made place =
    let around = place_around o it body x path at h made.body_typed place in
    record { sound = h; vars = (part_typed around h tt made.body_typed.type made.body_typed.has).0 }

-- a typed body with another part in a place
pub body_changed : (o : Origins) (it : MadeOf) (body x y : TermTree) (path : List ℕ) (at : Spot) → IsSound (setting_at o) → IsTypedMade o it body → IsPlaceOf o it body path at x → KeepsType o at x y → (IsComplete o.program.datas x → IsComplete o.program.datas y) → IsTypedMade o it (with_part body path y)
body_changed o it body x y path at h made place keeps keeps_complete =
    record {
      closed = made.closed;
      named = made.named;
      origin_typed = made.origin_typed;
      body_typed = record { type = new.type; has = new.has; same = same_through made.body_typed.same new.same };
      origin_complete = made.origin_complete;
      body_complete = plug_complete path o.program.datas body x y made.body_complete part (keeps_complete (part_complete path o.program.datas body x made.body_complete part));
      no_made = made.no_made;
      origin_leads = made.origin_leads;
      body_leads = leads;
    }
  where
    around : Around (setting_at o) [] [] body path [] at.vars x
    around = place_around o it body x path at h made.body_typed place

    part : part_at body path ≡ Some x
    part = around_is_part around

    new : HasTypeUpTo (setting_at o) [] [] (with_part body path y) made.body_typed.type
    new = plugged around h y keeps tt made.body_typed.type made.body_typed.has

    leads : HasLeadingLambdas (with_part body path y) it.ty
    leads =
        let inside = with_part place.term place.rest y in
        let same : with_part body path y ≡ with_part body place.root inside = ap (λ q. with_part body q y) place.is ∙ with_part_behind place.root body place.term y place.rest (under_is_part place.under) in
        record { path = place.root; vars = place.vars; body = inside; under = subst (λ e. UnderLambdas [] e it.ty place.root place.vars inside) (sym same) (under_put place.under inside) }

-- one made definition with another body
set_found : {A : Type 0} (P : ℕ → A → Type 0) (xs : List A) (n : ℕ) (y : A) → ((m : ℕ) (x : A) → slice_get xs m ≡ Some x → P m x) → P n y → (m : ℕ) (x : A) → slice_get (set xs n y) m ≡ Some x → P m x
set_found P [] zero y h k m x e = absurd cc
set_found P [] (suc n) y h k m x e = absurd cc
set_found P (z ∷ xs) zero y h k zero x e = let is : y ≡ x = cc in subst (P 0) is k
set_found P (z ∷ xs) zero y h k (suc m) x e = h (suc m) x e
set_found P (z ∷ xs) (suc n) y h k zero x e = h 0 x e
set_found P (z ∷ xs) (suc n) y h k (suc m) x e = set_found (λ i. P (suc i)) xs n y (λ i. h (suc i)) k m x e

same_made : (xs : List Made) (n : ℕ) (it y : Made) → slice_get xs n ≡ Some it → made_of y ≡ made_of it → map made_of (set xs n y) ≡ map made_of xs
same_made [] n it y e is = absurd cc
same_made (x ∷ xs) zero it y e is = let same : it ≡ x = cc in ap (λ m. m ∷ map made_of xs) (is ∙ ap made_of same)
same_made (x ∷ xs) (suc n) it y e is = ap (λ ms. made_of x ∷ ms) (same_made xs n it y e is)

pub state_changed : (p : Program) (made : List Made) (n : ℕ) (it : Made) (body : TermTree) → IsTypedState p made → slice_get made n ≡ Some it → IsTypedMade (origins_in p made) (made_of it) body → IsTypedState p (set made n (record it { body = body }))
state_changed p made n it body h is typed =
    record {
      tidy = h.tidy;
      typed = h.typed;
      each = subst (λ ms. (m : ℕ) (x : Made) → slice_get (set made n y) m ≡ Some x → IsTypedMade (record { program = p; made = ms }) (made_of x) x.body) (sym (same_made made n it y is refl))
          (set_found (λ m (x : Made). IsTypedMade (origins_in p made) (made_of x) x.body) made n y h.each typed);
    }
  where
    y : Made
    y = record it { body = body }

-- the made definitions where none is added
none_added : {p : Program} {made with_new : List Made} {at : Spot} {e : TermTree} {r : Rule} → After p made at e r with_new → (r ≡ Spec → ⊥) → with_new ≡ made
none_added (no_call n) other = refl
none_added (known m b h) other = absurd (other refl)
none_added (one_more b h) other = absurd (other refl)

pub steps_keep : TypedIsSound → (rules : List Rule) (p : Program) (made made' : List Made) (s : Step) → IsTypedState p made → (s.place.rule ≡ Spec → ⊥) → StepsTo rules p made s made' → IsTypedState p made'
steps_keep law rules p made made' s h other steps =
    let step = steps.is_first.step.1 in
    let o = origins_in p made in
    let w = state_origins law p made h in
    let typed = h.each s.place.number step.it step.is in
    let place = place_typed o (made_of step.it) step.it.body step.term s.place.path step.at w.sound typed step.place in
    let body = with_part step.it.body s.place.path s.new in
    let changed = body_changed o (made_of step.it) step.it.body step.term s.new s.place.path step.at w.sound typed step.place
    (instances_keep o step.at w place step.made_new other) (instances_keep_complete o step.at w place step.made_new) in
    let same : set made s.place.number (record step.it { body = body }) ≡ made' = ap (λ ms. set ms s.place.number (record step.it { body = body })) (sym (none_added steps.after other)) ∙ sym steps.is in
    subst (IsTypedState p) same (state_changed p made s.place.number step.it body h step.is changed)
