-- What is wrong with a text that denotes no net: the first rule that it breaks, at its least place.
use Rattle.std.specs.Prelude.{◌≡◌, ℕ, List, length, Some}
use Rattle.verilog_rules.specs.Checks.{Hold, least_broken}
use Rattle.verilog_rules.specs.DriverRules.{driver_checks}
use Rattle.verilog_rules.specs.Limits.{limit_checks}
use Rattle.verilog_rules.specs.NameRules.{name_checks}
use Rattle.verilog_rules.specs.Resolving.{resolved}
use Rattle.verilog_rules.specs.WidthRules.{width_checks}
use Rattle.verilog_rules.specs.declared.fault.VCode.{VCode}
use Rattle.verilog_rules.specs.declared.fault.VCode.TheVariants.{V01, V02, V03, V04, V05, V06}
use Rattle.verilog_rules.specs.declared.fault.VFault.{VFault}
use Rattle.verilog_text.specs.VTokens.{NoVToken, Placed, VTokens}
use Rattle.verilog_tree.specs.Marks.{IsTreeOf}
use Rattle.verilog_tree.specs.Syntax.{IsSyntaxFault}
use Rattle.verilog_tree.specs.declared.module.Tree.{Tree}

abbrev pub fault_at : VCode → ℕ → VFault
fault_at code at = record { code = code; at = at }

-- the text splits into tokens, from which the tree was read
pub record IsTreeIn (text : List ℕ) (tree : Tree) : Type 0 where
  pub tokens : List Placed
  pub splits : VTokens text tokens
  pub reads : IsTreeOf tokens tree

-- the rules on the names hold, and those before them
pub record AreNamed (tree : Tree) : Type 0 where
  pub limits : Hold (limit_checks tree)
  pub names : Hold (name_checks tree)

-- the rules on widths hold too
pub record AreWide (tree : Tree) : Type 0 where
  pub named : AreNamed tree
  pub widths : Hold (width_checks (resolved tree))

-- all rules hold
pub record AllHold (tree : Tree) : Type 0 where
  pub are_wide : AreWide tree
  pub drivers : Hold (driver_checks (resolved tree))

-- the first rule that the text breaks, and the least place where it does
pub data IsVFault (text : List ℕ) : VFault → Type 0 where
  -- no token begins there
  no_token : (at : ℕ) → NoVToken text at → IsVFault text (fault_at V01 at)
  -- the tokens up to there begin no text
  no_syntax : (tokens : List Placed) (at : ℕ) → VTokens text tokens
      → IsSyntaxFault (length text) tokens at → IsVFault text (fault_at V02 at)
  no_limit : (tree : Tree) (at : ℕ) → IsTreeIn text tree
      → least_broken (limit_checks tree) ≡ Some at → IsVFault text (fault_at V06 at)
  no_name : (tree : Tree) (at : ℕ) → IsTreeIn text tree → Hold (limit_checks tree)
      → least_broken (name_checks tree) ≡ Some at → IsVFault text (fault_at V03 at)
  no_width : (tree : Tree) (at : ℕ) → IsTreeIn text tree → AreNamed tree
      → least_broken (width_checks (resolved tree)) ≡ Some at → IsVFault text (fault_at V04 at)
  no_driver : (tree : Tree) (at : ℕ) → IsTreeIn text tree → AreWide tree
      → least_broken (driver_checks (resolved tree)) ≡ Some at → IsVFault text (fault_at V05 at)
