-- Whether the rule makes something of a term.
use Rattle.std.proofs.Common.{refl, List, None, Some, IsTrue, true, false}
use Rattle.std.specs.Prelude.{Bool, ◌↔◌}
use Rattle.std.proofs.lemmas.Bool.{false≢true}
use Rattle.chw_terms.specs.declared.rule.Rule.TheVariants.{Flat}
use Rattle.chw_terms.specs.declared.term.Arg.{Arg}
use Rattle.chw_terms.specs.TermTree.{TermTree, letrec, Group}
use Rattle.chw_terms.specs.TermView.{applied}
use Rattle.rewriting.specs.Origins.{Origins}
use Rattle.rewriting.specs.Spots.{Spot}
use Rattle.rule_parts.specs.Cores.{Answers, AnswersCore, of_core}
use Rattle.rule_parts.proofs.Heads.{of_head}
use Rattle.flow_lets.specs.Flat.{JoinsAt, JoinsCore}
use Rattle.flow_lets.proofs.Flat.{bare_lets}

-- of a letrec of which something is made, and of one of which nothing is
pub core_joins : (o : Origins) (at : Spot) (e new : TermTree) → AnswersCore o at Flat e (Some new)
    → IsTrue true ↔ JoinsCore o at e
core_joins o at e new made = ((λ i. (new, made)), λ j. refl)

pub core_stays : (o : Origins) (at : Spot) (e : TermTree) → AnswersCore o at Flat e None
    → IsTrue false ↔ JoinsCore o at e
core_stays o at e none = ((λ i. absurd (false≢true i)), λ j. absurd (none j.0 j.1))

-- the same of a term
pub joins_nothing : (o : Origins) (at : Spot) (e : TermTree) → Answers o at Flat e None
    → IsTrue false ↔ JoinsAt o at e
joins_nothing o at e none = ((λ i. absurd (false≢true i)), λ j. absurd (none j.0 j.1))

-- a letrec with arguments joins where it joins alone
pub with_arguments : (o : Origins) (at : Spot) (g : Group) (e : TermTree) (args : List Arg)
    (b : Bool) → IsTrue b ↔ JoinsCore o at (letrec g e)
    → IsTrue b ↔ JoinsAt o at (applied (letrec g e) args)
with_arguments o at g e args true h =
    let core = h.0 refl in
    ((λ i. (applied core.0 args, of_core (letrec g e) core.0 args core.1)), λ j. refl)
with_arguments o at g e args false h =
    joins_nothing o at (applied (letrec g e) args)
    (of_head o at Flat (letrec g e) args None bare_lets
    (record { itself = refl; alone = refl }) (λ new m. false≢true (h.1 (new, m))))
