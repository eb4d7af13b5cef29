-- What the rules before say of a text, as the next ones require it.
use Rattle.std.proofs.Common.{ℕ, List, []}
use Rattle.verilog_checks.specs.Narrow.{AreNarrow}
use Rattle.verilog_judge.specs.Meant.{AreMeant}
use Rattle.verilog_judge.specs.Read.{AreRead}
use Rattle.verilog_judge.proofs.Limited.{last_limits, modules_read, narrow_inputs, narrow_outputs}
use Rattle.verilog_judge.proofs.Meaning.{modules_meant}
use Rattle.verilog_judge.proofs.Ordered.{tree_ordered}
use Rattle.verilog_rules.specs.Checks.{Hold}
use Rattle.verilog_rules.specs.Declarations.{inputs_of, modules_of, outputs_of, ports_in, ports_of}
use Rattle.verilog_rules.specs.Faults.{AllHold, IsTreeIn}
use Rattle.verilog_rules.specs.Limits.{limit_checks}
use Rattle.verilog_rules.specs.Resolving.{resolved}
use Rattle.verilog_rules.proofs.Formed.{tree_formed}
use Rattle.verilog_rules.proofs.Holding.{all_true}
use Rattle.verilog_rules.proofs.Texts.{text_checked}
use Rattle.verilog_tree.specs.declared.module.Tree.{Tree}

-- the ports of the last module
pub last_inputs : (tree : Tree) → Hold (limit_checks tree) → AreNarrow (inputs_of (ports_in tree.last))
last_inputs tree held = narrow_inputs (ports_in tree.last) (last_limits 0 tree.earlier tree.last (all_true (limit_checks tree) held))

pub last_outputs : (tree : Tree) → Hold (limit_checks tree) → AreNarrow (outputs_of (ports_in tree.last))
last_outputs tree held = narrow_outputs (ports_in tree.last) (last_limits 0 tree.earlier tree.last (all_true (limit_checks tree) held))

-- what the rules on widths require
pub are_read : (text : List ℕ) (tree : Tree) → IsTreeIn text tree → Hold (limit_checks tree) → AreRead (resolved tree).modules
are_read text tree read held =
    modules_read (ports_of tree) [] 0 (modules_of tree) (tree_formed text read.tokens tree read.splits read.reads)
    (tree_ordered text read.tokens tree read.splits read.reads) (all_true (limit_checks tree) held)

-- what the net requires
pub are_meant : (text : List ℕ) (tree : Tree) → IsTreeIn text tree → AllHold tree → AreMeant (resolved tree).modules
are_meant text tree read holds =
    modules_meant (ports_of tree) [] [] (modules_of tree) (text_checked tree (tree_formed text read.tokens tree read.splits read.reads) holds).modules
