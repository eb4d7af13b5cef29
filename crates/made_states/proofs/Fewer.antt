-- Steps where there was one made definition less.
use Rattle.std.proofs.Common.{◌≡◌, ◌<◌, subst}
use Rattle.std.proofs.Common.{List, [], ◌∷◌, ◌++◌, length, map, Some}
use Rattle.std.proofs.lemmas.List.{length-map, map-append}
use Rattle.std.specs.List.{slice_get}
use Rattle.chw_terms.specs.TermTree.{TermTree}
use Rattle.chw_terms.specs.declared.program.Program.{Program}
use Rattle.chw_terms.specs.declared.scene.Made.{Made}
use Rattle.rewriting.specs.Origins.{made_of}
use Rattle.rewriting.specs.Active.{IsPlaceOf}
use Rattle.rewriting.specs.Spots.{Spot}
use Rattle.rewriting.specs.Instances.{HasInstance}
use Rattle.rewriting.specs.Steps.{HasStep, Where, origins_in}
use Rattle.rule_types.specs.States.{IsTypedState}
use Rattle.made_states.proofs.Instances.{instance_fewer}
use Rattle.made_states.proofs.Made.{IsThere, body_named, origins_alike}
use Rattle.made_states.proofs.Names.{Alike, turned}
use Rattle.made_states.proofs.Places.{place_names, place_seen, seen}

-- what rules see with one more
more_seen : (made : List Made) (y : Made) → map made_of (made ++ y ∷ []) ≡ map made_of made ++ made_of y ∷ []
more_seen made y = map-append made_of made (y ∷ [])

more_alike : (made : List Made) (y : Made) → Alike (IsThere made) (map made_of made) (map made_of made ++ made_of y ∷ [])
more_alike made y = subst (Alike (IsThere made) (map made_of made)) (more_seen made y) (origins_alike made (y ∷ []))

all_alike : (made : List Made) (y : Made) → Alike (λ m. m < length (map made_of made)) (map made_of made) (map made_of made ++ made_of y ∷ [])
all_alike made y m l = more_alike made y m (subst (λ n. m < n) (length-map made made_of) l)

-- a step on an older made definition of a typed state could be made before
pub step_fewer : (p : Program) (made : List Made) (y it : Made) (v : Where) (at : Spot) (x new : TermTree)
    → IsTypedState p made → slice_get made v.number ≡ Some it
    → IsPlaceOf (origins_in p (made ++ y ∷ [])) (made_of it) it.body v.path at x
    → HasInstance (origins_in p (made ++ y ∷ [])) at v.rule x new
    → (old : TermTree) × HasStep p made v old
step_fewer p made y it v at x new h is place instance =
    let old = map made_of made in
    let all = map made_of (made ++ y ∷ []) in
    let named = body_named p made h v.number it is in
    let before = turned (IsThere made) old all (origins_alike made (y ∷ [])) in
    let there = place_names p all old (IsThere made) before (made_of it) it.body x v.path at named place in
    let given = subst (λ ms. HasInstance (seen p ms) at v.rule x new) (more_seen made y) instance in
    let fewer = instance_fewer p old (made_of y) (all_alike made y) (IsThere made) (turned (IsThere made) old (old ++ made_of y ∷ []) (more_alike made y)) given there in (
      fewer.0,
      record {
        it = it;
        is = is;
        at = at;
        term = x;
        place = place_seen p all old (IsThere made) before (made_of it) it.body x v.path at named place;
        made_new = fewer.1;
      },
    )
