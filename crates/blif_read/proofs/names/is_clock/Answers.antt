use Rattle.std.proofs.Common.{◌≡◌, ℕ, List, true, sym, ◌∙◌, subst}
use Rattle.std.specs.Prelude.{◌↔◌}
use Rattle.std.proofs.lemmas.List.{take_rest}
use Rattle.chw_base.specs.Names.{IsUpper}
use Rattle.std.proofs.lemmas.Bool.{false≢true}
use Rattle.blif_read.proofs.Clocks.{clock_begins, clock_where}
use Rattle.blif_read.proofs.names.is_clock.Goals as goal

pub returns-then-not-starts_with : goal.returns-then-not-starts_with
returns-then-not-starts_with c = (
  λ e. absurd (false≢true e),
  λ clock. absurd (false≢true (sym c.if-not-starts_with.true ∙ clock_begins c.args.name.now c.starts_with.result c.starts_with.ensures.value clock)),
)

pub returns : goal.returns
returns c = clock_where c.args.name.now c.starts_with.result c.is_upper.result c.starts_with.ensures.value c.if-not-starts_with.false
    (subst (λ (t : List ℕ). (c.is_upper.result ≡ true) ↔ IsUpper t) (take_rest c.args.name.now 4) c.is_upper.ensures)
