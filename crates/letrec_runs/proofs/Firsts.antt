-- What is first on a letrec that joins, and that nothing is on one at rest.
use Rattle.std.proofs.Common.{◌≡◌, ◌<◌, [], refl, arith, Contains}
use Rattle.chw_types.specs.TypeTree.{TypeTree}
use Rattle.chw_terms.specs.declared.rule.Rule.{Rule}
use Rattle.chw_terms.specs.declared.rule.Rule.TheVariants.{Flat, Dead, Inline}
use Rattle.chw_terms.specs.TermTree.{TermTree, letrec, Group, no_bindings, bind}
use Rattle.chw_typing.specs.Groups.{joined}
use Rattle.rewriting.specs.Instances.{HasInstance}
use Rattle.rewriting.specs.Origins.{Origins}
use Rattle.rewriting.specs.Spots.{Spot}
use Rattle.rewriting.specs.Steps.{number_of}
use Rattle.kept_letrecs.proofs.Bare.{bare_instance}
use Rattle.kept_letrecs.proofs.Resting.{resting}
use Rattle.kept_letrecs.specs.Resting.{IsOnLetrecs, IsAtRest}
use Rattle.letrec_steps.proofs.Below.{first_on_is_first}
use Rattle.letrec_steps.specs.Local.{IsFirstBelow, HasNoInstance}
use Rattle.trials.specs.Trials.{built}

-- of the rules on letrecs the one that joins them has the smallest number
none_before_flat : (s : Rule) → IsOnLetrecs s → number_of s < number_of Flat → ⊥
none_before_flat Flat k l = absurd (omega (arith, l))
none_before_flat Dead k l = absurd (omega (arith, l))
none_before_flat Inline k l = absurd (omega (arith, l))
none_before_flat _ k l = k

flat_is_built : Contains built Flat
flat_is_built = (10, omega arith, refl)

pub flat_is_first : (o : Origins) (at : Spot) (g : Group) (e new : TermTree) → HasInstance o at Flat (letrec g e) new → IsFirstBelow built o at (letrec g e) [] Flat new
flat_is_first o at g e new h =
    first_on_is_first built o at (letrec g e) new Flat
    (record {
      is_rule = flat_is_built;
      made_new = h;
      first = λ s other c l i. none_before_flat s (bare_instance i g e refl).0 l;
    })

-- no rule has an instance on a letrec at rest
some_bound : (front back : Group) (t : TypeTree) (x : TermTree) → joined front (bind t x back) ≡ no_bindings → ⊥
some_bound no_bindings back t x q = absurd cc
some_bound (bind u y front) back t x q = absurd cc

pub rests_idle : (o : Origins) (at : Spot) (front back : Group) (t : TypeTree) (x e : TermTree)
    → IsAtRest o.program.datas at.mode (joined front (bind t x back)) e
    → HasNoInstance built o at (letrec (joined front (bind t x back)) e)
rests_idle o at front back t x e h r new c i = resting o at r (joined front (bind t x back)) e new (some_bound front back t x) h i
