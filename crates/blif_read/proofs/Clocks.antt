-- Names of clocks.
use Rattle.std.proofs.Common.{◌≡◌, ℕ, Bool, true, eqb, List, codes, drop, sym, ap, subst}
use Rattle.std.specs.Prelude.{◌↔◌}
use Rattle.std.specs.List.{starts_with}
use Rattle.std.proofs.lemmas.Bool.Decides.{Decides-eqb}
use Rattle.std.proofs.lemmas.Slice.Eq.{starts_is}
use Rattle.chw_base.specs.Names.{IsUpper}
use Rattle.blif_text.specs.BlifText.{IsClock}

-- a clock begins with `clk_`
pub clock_begins : (name : List ℕ) (r : Bool) → r ≡ starts_with eqb name (codes "clk_") → IsClock name → r ≡ true
clock_begins name r is clock = (starts_is Decides-eqb name (codes "clk_") r is).1 clock.0 clock.1.1

-- what begins so is a clock where a domain stands behind it
pub clock_where : (name : List ℕ) (r u : Bool) → r ≡ starts_with eqb name (codes "clk_") → r ≡ true → ((u ≡ true) ↔ IsUpper (drop 4 name))
    → ((u ≡ true) ↔ IsClock name)
clock_where name r u is on upper = (
  λ is_true. (drop 4 name, (upper.0 is_true, (starts_is Decides-eqb name (codes "clk_") r is).0 on)),
  λ clock. upper.1 (subst IsUpper (sym (ap (drop 4) clock.1.1)) clock.1.0),
)
