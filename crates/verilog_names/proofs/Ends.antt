-- Ports and connections of which one list ends before the other.
use Rattle.std.proofs.Common.{◌≡◌, ℕ, ◌<◌, false, List, [], ◌∷◌, length, drop, refl, ap, ◌∙◌, arith}
use Rattle.std.specs.Prelude.{min}
use Rattle.std.proofs.lemmas.List.{drop_all, length-drop}
use Rattle.verilog_rules.specs.Checks.{check}
use Rattle.verilog_rules.specs.NameRules.{connection_checks}
use Rattle.verilog_tree.specs.declared.item.Connection.{Connection}
use Rattle.verilog_tree.specs.declared.module.Port.{Port}

closes : (close : ℕ) (ports : List Port) → 0 < length ports → connection_checks [] close ports [] ≡ check close false ∷ []
closes close [] lt = absurd (omega arith)
closes close (p ∷ ports) lt = refl

-- there are too few connections
pub ends_short : (close count : ℕ) (ports : List Port) (connections : List Connection) → count ≡ min (length ports) (length connections) → count < length ports
    → connection_checks [] close (drop count ports) (drop count connections) ≡ check close false ∷ []
ends_short close count ports connections is lt =
    ap (λ cs. connection_checks [] close (drop count ports) cs) (drop_all count connections (omega arith))
    ∙ closes close (drop count ports) (omega (arith, length-drop count ports))
