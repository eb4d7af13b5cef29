-- What is said of the heights that an action makes.
use Rattle.std.specs.Prelude.{◌≡◌, ℕ, Some, List, ◌∷◌}
use Rattle.std.proofs.Common.{ap, ◌∙◌}
use Rattle.std.proofs.lemmas.Option.{same_Some}
use Rattle.parser_parts.specs.declared.action.Action.{Action}
use Rattle.parser_parts.specs.declared.heights.Measure.{Measure}
use Rattle.parser_parts.specs.declared.value.Value.{Value}
use Rattle.parser_parts.specs.Actions.{made}
use Rattle.parser_parts.specs.Heights.{measures, raised, shape_of}

-- where the action makes parts of parts, it makes their heights of the heights
abbrev pub Raised : Action → Type 0
Raised x = (vs us : List Value) → made x vs ≡ Some us → raised (shape_of x) (measures vs) ≡ measures us

pub of_made : {ms : List Measure} {vs us : List Value} → Some vs ≡ Some us → ms ≡ measures vs → ms ≡ measures us
of_made h e = e ∙ ap measures (same_Some _ _ h)

pub pushed : {h k c d : ℕ} {ms : List Measure} → h ≡ k → c ≡ d
    → record { height = h; count = c } ∷ ms ≡ record { height = k; count = d } ∷ ms
pushed {ms = ms} e f = λ i. record { height = e i; count = f i } ∷ ms
