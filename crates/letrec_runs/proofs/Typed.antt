-- Letrecs stay typed where steps are made.
use Rattle.std.proofs.Common.{◌≡◌, ℕ, [], ◌∷◌, Some}
use Rattle.chw_types.specs.TypeTree.{TypeTree}
use Rattle.chw_terms.specs.declared.rule.Rule.{Rule}
use Rattle.chw_terms.specs.declared.rule.Rule.TheVariants.{Spec}
use Rattle.chw_terms.specs.TermTree.{TermTree, letrec, Group}
use Rattle.chw_typing.proofs.Plugged.{plugged}
use Rattle.chw_typing.specs.Groups.{binding_at}
use Rattle.chw_typing.specs.Paths.{with_part}
use Rattle.rewriting.proofs.Around.{active_around, active_typed}
use Rattle.rewriting.specs.Active.{IsActive, right_side, at_it, below}
use Rattle.rewriting.specs.Instances.{HasInstance}
use Rattle.rewriting.specs.Named.{IsNamed}
use Rattle.rewriting.specs.Origins.{Origins}
use Rattle.rewriting.specs.Spots.{Spot, HasLets}
use Rattle.rule_types.proofs.Instances.{instances_keep}
use Rattle.rule_types.specs.Laws.{AreTypedOrigins, IsTypedPlace}
use Rattle.letrec_steps.specs.Local.{side_spot, IsTypedHere}

pub place_typed : {o : Origins} {at : Spot} {e : TermTree} → IsTypedHere o at e → IsTypedPlace o at
place_typed h = record { sound = h.sound; vars = h.vars }

-- a right side of a named type is an active place
pub side_active : (o : Origins) (at : Spot) (g : Group) (e : TermTree) (k : ℕ) (b : TypeTree × TermTree)
    → HasLets at.mode → binding_at g k ≡ Some b → IsNamed o.program.datas at.mode b.0
    → IsActive o at (letrec g e) (k ∷ []) (side_spot at g) b.1
side_active o at g e k b lets is named = below (right_side lets is named) at_it

-- so it is typed
pub side_typed : (o : Origins) (at : Spot) (g : Group) (e : TermTree) (k : ℕ) (b : TypeTree × TermTree)
    → HasLets at.mode → IsTypedHere o at (letrec g e) → binding_at g k ≡ Some b → IsNamed o.program.datas at.mode b.0
    → IsTypedHere o (side_spot at g) b.1
side_typed o at g e k b lets h is named =
    let of = active_typed (side_active o at g e k b lets is named) h.sound h.vars h.type h.has in
    record { sound = h.sound; vars = of.0; type = of.1.0; has = of.1.1 }

-- an instance on it keeps the letrec typed
pub typed_after_side : (o : Origins) (at : Spot) (g : Group) (e : TermTree) (k : ℕ) (b : TypeTree × TermTree) (r : Rule) (new : TermTree)
    → AreTypedOrigins o → HasLets at.mode → IsTypedHere o at (letrec g e) → binding_at g k ≡ Some b → IsNamed o.program.datas at.mode b.0
    → HasInstance o (side_spot at g) r b.1 new → (r ≡ Spec → ⊥)
    → IsTypedHere o at (with_part (letrec g e) (k ∷ []) new)
typed_after_side o at g e k b r new origins lets h is named instance other =
    let around = active_around (side_active o at g e k b lets is named) h.sound h.vars h.type h.has in
    let place = place_typed (side_typed o at g e k b lets h is named) in
    let kept = plugged around h.sound new (instances_keep o (side_spot at g) origins place instance other) h.vars h.type h.has in
    record { sound = h.sound; vars = h.vars; type = kept.type; has = kept.has }

-- and so does one on the letrec
pub typed_after : (o : Origins) (at : Spot) (e new : TermTree) (r : Rule)
    → AreTypedOrigins o → IsTypedHere o at e → HasInstance o at r e new → (r ≡ Spec → ⊥) → IsTypedHere o at new
typed_after o at e new r origins h instance other =
    let kept = instances_keep o at origins (place_typed h) instance other h.type h.has in
    record { sound = h.sound; vars = h.vars; type = kept.type; has = kept.has }
