use Rattle.std.proofs.Common.{◌≡◌, ◌∙◌, ap, length, drop, sym, subst, true}
use Rattle.std.specs.List.{AllByRecursion}
use Rattle.flow_cases.specs.Given.{IsTerm, IsType}
use Rattle.flow_cases.proofs.Just.{just_of_parts, parts_of_just}
use Rattle.flow_cases.proofs.given.are_just.Goals as goal
use Rattle.flow_cases.proofs.given.are_just.Goals.{then-back-terms-via-then-back-terms, then-back-terms-via-else-back-terms+then-not-are_types}

pub returns : goal.returns
returns c =
    let types : AllByRecursion IsType c.split_at.result.0.now = c.are_types.ensures.0 c.if-not-are_types.false in
    let count : length (drop c.args.types c.args.args.now) ≡ c.args.terms = sym (ap length c.split_at.ensures.back) ∙ c.if-back-terms.false in (
      λ q. just_of_parts c.args.types c.args.terms c.args.args.now c.if-args-types.false count
          (subst (AllByRecursion IsType) c.split_at.ensures.front types)
          (subst (AllByRecursion IsTerm) c.split_at.ensures.back (c.are_terms.ensures.0 q)),
      λ h. c.are_terms.ensures.1 (subst (AllByRecursion IsTerm) (sym c.split_at.ensures.back) (parts_of_just c.args.types c.args.terms c.args.args.now h).back),
    )

pub returns-then-back-terms : goal.returns-then-back-terms
returns-then-back-terms c = (
  λ q. absurd cc,
  λ h.
      let p = parts_of_just c.args.types c.args.terms c.args.args.now h in
      elim c.then-back-terms.branch [
        | then-back-terms-via-then-back-terms w ↦ absurd (w.if-back-terms.true (ap length c.split_at.ensures.back ∙ p.count))
        | then-back-terms-via-else-back-terms+then-not-are_types w ↦
            let t : w.are_types.result ≡ true = w.are_types.ensures.1 (subst (AllByRecursion IsType) (sym c.split_at.ensures.front) p.front) in
            sym w.if-not-are_types.true ∙ t
      ],
)
