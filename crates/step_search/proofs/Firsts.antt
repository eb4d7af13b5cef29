-- The first step among places, by the first steps among parts of them.
use Rattle.std.proofs.Common.{◌≡◌, ◌⊎◌, inl, inr, ℕ, sym, subst, List, ◌++◌, reverse, Option, Some, None}
use Rattle.chw_terms.specs.declared.rule.Rule.{Rule}
use Rattle.chw_terms.specs.declared.scene.Made.{Made}
use Rattle.chw_terms.specs.TermTree.{TermTree}
use Rattle.trials.specs.declared.trial.Change.{Change}
use Rattle.chw_typing.specs.Paths.{IsEarlier}
use Rattle.chw_typing.proofs.Order.{never_earlier, earlier_through}
use Rattle.rewriting.specs.Origins.{Origins}
use Rattle.rewriting.specs.Spots.{Spot}
use Rattle.active_parts.proofs.Ways.{AreInOrder}
use Rattle.step_search.specs.First.{Additions, Places, From, IsStepAt, IsBeforeThere, HasNoStepAt, IsFirstAt, FindsFirst}
use Rattle.step_search.specs.declared.trail.Trail.{Trail}

-- this place
abbrev pub Only : List ℕ → Spot → TermTree → Places
Only path at e path' at' e' = (path' ≡ path) × (at' ≡ at) × (e' ≡ e)

-- places of one sort or of another
abbrev pub Either : Places → Places → Places
Either s t path at e = s path at e ⊎ t path at e

-- places of one sort are among those of another
abbrev pub Among : Places → Places → Type 0
Among s t = (path : List ℕ) (at : Spot) (e : TermTree) → s path at e → t path at e

pub from_among : (o : Origins) (s t : Places) → Among s t → Among (From o s) (From o t)
from_among o s t h path at e r =
    record { first = r.first; spot = r.spot; term = r.term; place = h r.first r.spot r.term r.place; rest = r.rest; active = r.active; is = r.is }

pub step_among : (rules : List Rule) (o : Origins) (s t : Places) (from path : List ℕ) (rule : Rule) (new : TermTree) → Among s t → IsStepAt rules o s from path rule new → IsStepAt rules o t from path rule new
step_among rules o s t from path rule new h x =
    record { at = x.at; term = x.term; place = h path x.at x.term x.place; sought = x.sought; is_rule = x.is_rule; made = x.made }

-- the first among some is the first among more, where what is before it is among those
pub first_among : (rules : List Rule) (o : Origins) (adds : Additions) (s t : Places) (from path : List ℕ) (rule : Rule) (change : Change) (d : Option Made) → Among s t → ((q : List ℕ) (r : Rule) (e : TermTree) → IsStepAt rules o t from q r e → IsBeforeThere q r path rule → IsStepAt rules o s from q r e) → IsFirstAt rules o adds s from path rule change d → IsFirstAt rules o adds t from path rule change d
unfolding step_among
first_among rules o adds s t from path rule change d h back f =
    record { new = f.new; changes = f.changes; it = step_among rules o s t from path rule f.new h f.it; added = f.added; first = λ q r e x b. f.first q r e (back q r e x b) b }

-- places that are the same
pub finds_same : (rules : List Rule) (o : Origins) (adds : Additions) (s t : Places) (from : List ℕ) (answer : Option Trail) → Among s t → Among t s → FindsFirst rules o adds s from answer → FindsFirst rules o adds t from answer
finds_same rules o adds s t from None h k none = λ p r e x. none p r e (step_among rules o t s from p r e k x)
finds_same rules o adds s t from (Some f) h k is =
    first_among rules o adds s t from (reverse f.back.items) f.trial.rule f.trial.change f.trial.definition h (λ q r e x b. step_among rules o t s from q r e k x) is

-- where there are no places there is no step
pub no_places : (rules : List Rule) (o : Origins) (s : Places) (from : List ℕ) → ((path : List ℕ) (at : Spot) (e : TermTree) → s path at e → ⊥) → HasNoStepAt rules o (From o s) from
no_places rules o s from none p r e x = none x.place.first x.place.spot x.place.term x.place.place

-- a step of either
part_step : (rules : List Rule) (o : Origins) (s t : Places) (from path : List ℕ) (rule : Rule) (new : TermTree) → IsStepAt rules o (Either s t) from path rule new → IsStepAt rules o s from path rule new ⊎ IsStepAt rules o t from path rule new
part_step rules o s t from path rule new x = of x.place
  where
    of : Either s t path x.at x.term → IsStepAt rules o s from path rule new ⊎ IsStepAt rules o t from path rule new
    of (inl p) = inl (record { at = x.at; term = x.term; place = p; sought = x.sought; is_rule = x.is_rule; made = x.made })
    of (inr p) = inr (record { at = x.at; term = x.term; place = p; sought = x.sought; is_rule = x.is_rule; made = x.made })

-- where one sort of places has no step, the first step is that of the other
pub second_first : (rules : List Rule) (o : Origins) (adds : Additions) (s t : Places) (from : List ℕ) (answer : Option Trail) → HasNoStepAt rules o s from → FindsFirst rules o adds t from answer → FindsFirst rules o adds (Either s t) from answer
second_first rules o adds s t from None none more = λ p r e x. of p r e (part_step rules o s t from p r e x)
  where
    of : (p : List ℕ) (r : Rule) (e : TermTree) → IsStepAt rules o s from p r e ⊎ IsStepAt rules o t from p r e → ⊥
    of p r e (inl x) = none p r e x
    of p r e (inr x) = more p r e x
second_first rules o adds s t from (Some f) none is =
    first_among rules o adds t (Either s t) from (reverse f.back.items) f.trial.rule f.trial.change f.trial.definition (λ p at e h. inr h) (λ q r e x b. of q r e (part_step rules o s t from q r e x)) is
  where
    of : (p : List ℕ) (r : Rule) (e : TermTree) → IsStepAt rules o s from p r e ⊎ IsStepAt rules o t from p r e → IsStepAt rules o t from p r e
    of p r e (inl x) = absurd (none p r e x)
    of p r e (inr x) = x

-- all places of one sort are earlier than all of another
abbrev pub AllEarlier : Places → Places → Type 0
AllEarlier s t = (p q : List ℕ) (at at' : Spot) (e e' : TermTree) → s p at e → t q at' e' → IsEarlier p q

not_after : (p q : List ℕ) (r s : Rule) → IsEarlier p q → IsBeforeThere q s p r → ⊥
not_after p q r s l (inl b) = never_earlier p (earlier_through p q p l b)
not_after p q r s l (inr b) = never_earlier p (subst (λ z. IsEarlier p z) b.0 l)

-- what is first among earlier places is first among all
pub first_first : (rules : List Rule) (o : Origins) (adds : Additions) (s t : Places) (from path : List ℕ) (rule : Rule) (change : Change) (d : Option Made) → AllEarlier s t → IsFirstAt rules o adds s from path rule change d → IsFirstAt rules o adds (Either s t) from path rule change d
first_first rules o adds s t from path rule change d earlier is =
    first_among rules o adds s (Either s t) from path rule change d (λ p at e h. inl h) (λ q r e x b. of q r e b (part_step rules o s t from q r e x)) is
  where
    of : (q : List ℕ) (r : Rule) (e : TermTree) → IsBeforeThere q r path rule → IsStepAt rules o s from q r e ⊎ IsStepAt rules o t from q r e → IsStepAt rules o s from q r e
    of q r e b (inl x) = x
    of q r e b (inr x) = absurd (not_after path q rule r (earlier path q is.it.at x.at is.it.term x.term is.it.place x.place) b)

-- places of one sort, and those on from them, are earlier than places on from those of another
abbrev pub AllInOrder : Places → Places → Type 0
AllInOrder s t = (p q : List ℕ) (at at' : Spot) (e e' : TermTree) → s p at e → t q at' e' → AreInOrder p q

pub from_in_order : (o : Origins) (s t : Places) → AllInOrder s t → AllEarlier (From o s) (From o t)
from_in_order o s t h p q at at' e e' a b =
    subst (λ z. IsEarlier z q) (sym a.is) (subst (λ z. IsEarlier (a.first ++ a.rest) z) (sym b.is)
    (h a.first b.first a.spot b.spot a.term b.term a.place b.place a.rest b.rest))

-- the places from those of one sort or of another on
pub from_either : (o : Origins) (s t : Places) → Among (From o (Either s t)) (Either (From o s) (From o t))
from_either o s t path at e r = of r.place
  where
    of : Either s t r.first r.spot r.term → Either (From o s) (From o t) path at e
    of (inl p) = inl (record { first = r.first; spot = r.spot; term = r.term; place = p; rest = r.rest; active = r.active; is = r.is })
    of (inr p) = inr (record { first = r.first; spot = r.spot; term = r.term; place = p; rest = r.rest; active = r.active; is = r.is })

pub either_from : (o : Origins) (s t : Places) → Among (Either (From o s) (From o t)) (From o (Either s t))
either_from o s t path at e (inl r) = from_among o s (Either s t) (λ p at e h. inl h) path at e r
either_from o s t path at e (inr r) = from_among o t (Either s t) (λ p at e h. inr h) path at e r

-- what is found from the places of one sort on, or else from those of another
pub found_in_first : (rules : List Rule) (o : Origins) (adds : Additions) (s t : Places) (from : List ℕ) (f : Trail) → AllInOrder s t → FindsFirst rules o adds (From o s) from (Some f) → FindsFirst rules o adds (From o (Either s t)) from (Some f)
found_in_first rules o adds s t from f h is =
    finds_same rules o adds (Either (From o s) (From o t)) (From o (Either s t)) from (Some f) (either_from o s t) (from_either o s t)
    (first_first rules o adds (From o s) (From o t) from (reverse f.back.items) f.trial.rule f.trial.change f.trial.definition (from_in_order o s t h) is)

pub found_in_second : (rules : List Rule) (o : Origins) (adds : Additions) (s t : Places) (from : List ℕ) (answer : Option Trail) → FindsFirst rules o adds (From o s) from None → FindsFirst rules o adds (From o t) from answer → FindsFirst rules o adds (From o (Either s t)) from answer
found_in_second rules o adds s t from answer none is =
    finds_same rules o adds (Either (From o s) (From o t)) (From o (Either s t)) from answer (either_from o s t) (from_either o s t)
    (second_first rules o adds (From o s) (From o t) from answer none is)
