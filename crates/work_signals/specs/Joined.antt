-- What is made of functions on signals, as the code sees them.
use Rattle.std.specs.Prelude.{Option, MatchOption}
use Rattle.chw_types.specs.TypeTree.{TypeTree, fun, signal}
use Rattle.chw_terms.specs.TermTree.{TermTree}
use Rattle.rewriting.specs.Origins.{Origins}
use Rattle.rewriting.specs.Spots.{Spot}
use Rattle.rewriting.specs.Lifted.{Joins, FindsAt}
use Rattle.rewriting.specs.Shapes.{fmap_of, ap_of}
use Rattle.work_signals.specs.declared.views.Lifted.{Lifted}

-- `fmap` and `ap` on what is seen
abbrev pub fmap_seen : Lifted → TermTree
fmap_seen l = fmap_of l.dom.now l.from.now l.to.now l.function.now l.signal.now

abbrev pub ap_seen : Lifted → TermTree
ap_seen l = ap_of l.dom.now l.from.now l.to.now l.function.now l.signal.now

-- the answer is what the term becomes, or nothing where it stays
abbrev pub AnswersJoin : Origins → Spot → TermTree → Option TermTree → Type 0
AnswersJoin o at e answer =
    MatchOption answer ((e' : TermTree) → Joins o at e e' → ⊥) (λ e'. Joins o at e e')

-- the type that is found for the term, or nothing where none is
abbrev pub AnswersType : Origins → Spot → TermTree → Option TypeTree → Type 0
AnswersType o at e answer =
    MatchOption answer ((t : TypeTree) → FindsAt o at e t → ⊥) (λ t. FindsAt o at e t)

-- the parameter and the result of the function type that is found for the term, or nothing where
-- none is found
abbrev pub AnswersFunction : Origins → Spot → TermTree → Option (TypeTree × TypeTree) → Type 0
AnswersFunction o at e answer =
    MatchOption answer
    ((t u : TypeTree) → FindsAt o at e (fun t u) → ⊥)
    (λ p. FindsAt o at e (fun p.0 p.1))

-- the payload of the signal type that is found for the term
abbrev pub AnswersPayload : Origins → Spot → TermTree → Option TypeTree → Type 0
AnswersPayload o at e answer =
    MatchOption answer
    ((i t : TypeTree) → FindsAt o at e (signal i t) → ⊥)
    (λ t. (i : TypeTree) × FindsAt o at e (signal i t))

-- the parameter and the result, where functions are the payload
abbrev pub AnswersLifted : Origins → Spot → TermTree → Option (TypeTree × TypeTree) → Type 0
AnswersLifted o at e answer =
    MatchOption answer
    ((i t u : TypeTree) → FindsAt o at e (signal i (fun t u)) → ⊥)
    (λ p. (i : TypeTree) × FindsAt o at e (signal i (fun p.0 p.1)))

-- `ap (fmap f u) v`, of an `ap u (ap v w)`
abbrev pub both_mapped : Lifted → Lifted → TermTree → TermTree
both_mapped outer inner f =
    let d = outer.dom.now in
    let gets = fun inner.from.now outer.to.now in
    let of_inner = fun inner.from.now outer.from.now in
    ap_of d of_inner gets
    (fmap_of d (fun outer.from.now outer.to.now) (fun of_inner gets) f outer.function.now)
    inner.function.now
