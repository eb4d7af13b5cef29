use Rattle.std.proofs.Common.{◌≡◌, ℕ, List, Bool, ◌++◌, sym, ◌∙◌, subst}
use Rattle.std.specs.Prelude.{IfOk, IsTrue, ◌↔◌}
use Rattle.std.proofs.lemmas.Bool.{false≢true}
use Rattle.std.proofs.lemmas.Result.{IfOk-weaker}
use Rattle.name_tables.specs.Names.{AreDistinct}
use Rattle.stimulus.specs.Texts.{texts}
use Rattle.blif_text.specs.BlifText.{given_by}
use Rattle.blif_read.specs.Naming.{AreKnown, KeepsNames}
use Rattle.blif_read.specs.Shown.{statement_of}
use Rattle.blif_read.proofs.names.keeps_names.Goals as goal

pub returns-then-not-are_known-clause-keeps : goal.returns-then-not-are_known-clause-keeps
returns-then-not-are_known-clause-keeps c = (
  λ e. absurd (false≢true e),
  λ keeps.
      absurd (false≢true (sym c.if-not-are_known.true ∙ c.are_known.ensures.1 (subst (AreKnown c.args.names.now.given) (sym c.read_by.ensures) keeps.known))),
)

pub returns-then-not-has_clock-clause-keeps : goal.returns-then-not-has_clock-clause-keeps
returns-then-not-has_clock-clause-keeps c = (
  λ e. absurd (false≢true e),
  λ keeps. absurd (false≢true (sym c.if-not-has_clock.true ∙ c.has_clock.ensures.1 keeps.clocked)),
)

pub returns-clause-names : goal.returns-clause-names
returns-clause-names c =
    subst (λ (more : List (List ℕ)). IfOk c.declare_all.result (λ is_true. IsTrue is_true → c.declare_all.new.driven ≡ c.args.driven.now ++ more)) c.given_by.ensures
    c.declare_all.ensures.names

pub returns-clause-keeps : goal.returns-clause-keeps
returns-clause-keeps c =
    let it = statement_of c.args.says.now in
    let old = c.args.driven.now in
    let once : IfOk c.declare_all.result (λ is_true. IsTrue is_true ↔ AreDistinct (old ++ given_by it)) =
    subst (λ (more : List (List ℕ)). IfOk c.declare_all.result (λ is_true. IsTrue is_true ↔ AreDistinct (old ++ more))) c.given_by.ensures c.declare_all.ensures.once in
    let known : AreKnown c.args.names.now.given (texts c.read_by.result.now) = c.are_known.ensures.0 c.if-not-are_known.false in
    IfOk-weaker c.declare_all.result (λ (is_true : Bool). IsTrue is_true ↔ AreDistinct (old ++ given_by it)) (λ (is_true : Bool). IsTrue is_true ↔ KeepsNames c.args.names.now old it)
    (λ is_true distinct. (
      λ is. record {
        known = subst (AreKnown c.args.names.now.given) c.read_by.ensures known;
        clocked = c.has_clock.ensures.0 c.if-not-has_clock.false;
        once = distinct.0 is;
      },
      λ keeps. distinct.1 keeps.once,
    )) once
