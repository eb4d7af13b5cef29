-- What is promised of rules on functions on signals: what they make of a typed term acts as the
-- term. The types of the new lambdas don't matter.
use Rattle.chw_types.specs.TypeTree.{TypeTree, fun}
use Rattle.chw_terms.specs.TermTree.{TermTree, app}
use Rattle.rewriting.specs.Shapes.{fmap_of, ap_of, pure_of}
use Rattle.rewriting.specs.Spots.{Spot}
use Rattle.rewriting.specs.Lifted.{Joins, composed, before_each, on_value}
use Rattle.rewriting.specs.Lifted.{behind_each, each_composed}
use Rattle.rewriting.specs.Origins.{Origins}
use Rattle.act_rules.specs.RuleLaws.{KeepsMeaning}

-- `ap (pure f) s` becomes `fmap f s`
abbrev pub ApPureActs : Type 0
ApPureActs =
    (d a b d' a' : TypeTree) (f s : TermTree)
    → KeepsMeaning (fmap_of d a b f s) (ap_of d a b (pure_of d' a' f) s)

-- `fmap f (pure v)` becomes `pure (f v)`
abbrev pub FmapPureActs : Type 0
FmapPureActs =
    (d a b d' a' : TypeTree) (f v : TermTree)
    → KeepsMeaning (pure_of d b (app f v)) (fmap_of d a b f (pure_of d' a' v))

-- `fmap f (fmap g s)` becomes `fmap (\x . f (g x)) s`
abbrev pub FmapFmapActs : Type 0
FmapFmapActs =
    (d a b c d' b' t : TypeTree) (f g s : TermTree)
    → KeepsMeaning
    (fmap_of d a c (composed t f g) s) (fmap_of d b c f (fmap_of d' a b' g s))

-- `fmap f (ap u v)` becomes `ap (fmap (\h x . f (h x)) u) v`
abbrev pub FmapApActs : Type 0
FmapApActs =
    (d a b c d' b' th tx : TypeTree) (f u v : TermTree)
    → KeepsMeaning
    (ap_of d a c (fmap_of d (fun a b) (fun a c) (before_each th tx f) u) v)
    (fmap_of d b c f (ap_of d' a b' u v))

-- `ap u (pure v)` becomes `fmap (\h . h v) u`
abbrev pub ApValueActs : Type 0
ApValueActs =
    (d a b d' a' th : TypeTree) (u v : TermTree)
    → KeepsMeaning
    (fmap_of d (fun a b) b (on_value th v) u) (ap_of d a b u (pure_of d' a' v))

-- `ap u (fmap g w)` becomes `ap (fmap (\h x . h (g x)) u) w`
abbrev pub ApFmapActs : Type 0
ApFmapActs =
    (d a b c d' b' th tx : TypeTree) (u g w : TermTree)
    → KeepsMeaning
    (ap_of d a c (fmap_of d (fun b c) (fun a c) (behind_each th tx g) u) w)
    (ap_of d b c u (fmap_of d' a b' g w))

-- `ap u (ap v w)` becomes `ap (ap (fmap (\h k x . h (k x)) u) v) w`
abbrev pub ApApActs : Type 0
ApApActs =
    (d a b c d' b' th tk tx : TypeTree) (u v w : TermTree)
    → KeepsMeaning
    (ap_of d a c
    (ap_of d (fun a b) (fun a c)
    (fmap_of d (fun b c) (fun (fun a b) (fun a c)) (each_composed th tk tx) u) v)
    w)
    (ap_of d b c u (ap_of d' a b' v w))

-- where the rule joins functions on signals, at any place of a scene
abbrev pub JoinsAct : Type 0
JoinsAct = (o : Origins) (at : Spot) (e e' : TermTree) → Joins o at e e' → KeepsMeaning e' e
