use Rattle.std.proofs.Common.{length, sym, subst, false, MatchOption}
use Rattle.chw_terms.specs.declared.scene.Mode.{Mode}
use Rattle.chw_terms.specs.TermTree.{prim}
use Rattle.chw_terms.specs.TermView.{applied}
use Rattle.chw_typing.specs.Scopes.{with_more}
use Rattle.chw_typing.specs.Paths.{argument_path}
use Rattle.rewriting.specs.Origins.{origins_of}
use Rattle.rewriting.specs.Active.{Below}
use Rattle.rewriting.specs.Spots.{spot, spot_of}
use Rattle.active_parts.specs.Below.{WhyActive}
use Rattle.active_parts.proofs.Spines.{no_argument, active_argument}
use Rattle.active_parts.proofs.arguments.primitive_argument.Goals as goal

pub returns-in_default : goal.returns-in_default
returns-in_default c at' x b =
    let o = origins_of c.args.ground.now.scene.now in
    let at = spot_of c.args.place.now in
    let args = c.args.args.now in
    let i = c.args.number in
    let a = c.args.at.now in
    let none = subst (λ r. MatchOption r ((m : Mode) → WhyActive o at c.args.which args i a m → ⊥) (WhyActive o at c.args.which args i a)) c.in_default.is c.in_ok-mode.ensures in
    no_argument o at c.args.which args i a c.requires.is none at' x b

pub returns : goal.returns
returns c =
    let o = origins_of c.args.ground.now.scene.now in
    let at = spot_of c.args.place.now in
    let args = c.args.args.now in
    let i = c.args.number in
    let a = c.args.at.now in
    let mode = c.in-Some.mode in
    let why = subst (λ r. MatchOption r ((m : Mode) → WhyActive o at c.args.which args i a m → ⊥) (WhyActive o at c.args.which args i a)) c.in-Some.is c.in_ok-mode.ensures in
    subst (λ ts. Below o at (applied (prim c.args.which) args) (argument_path i (length args)) (spot mode false (with_more ts at.vars)) a)
    (sym c.new-more.ensures.items)
    (active_argument o at c.args.which args i a mode why c.requires.is)
