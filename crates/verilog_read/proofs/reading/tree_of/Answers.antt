use Rattle.std.proofs.Common.{length, sym, subst}
use Rattle.verilog_lex.specs.declared.token.NoToken.{NoToken}
use Rattle.verilog_lex.specs.Shown.{placed}
use Rattle.verilog_parse.specs.declared.cursor.SyntaxFault.{SyntaxFault}
use Rattle.verilog_rules.specs.Faults.{IsVFault, fault_at}
use Rattle.verilog_rules.specs.Faults.IsVFault.{no_syntax, no_token}
use Rattle.verilog_rules.specs.declared.fault.VCode.TheVariants.{V01}
use Rattle.verilog_text.specs.VTokens.{NoVToken, VTokens}
use Rattle.verilog_tree.specs.Syntax.{IsSyntaxFault}
use Rattle.verilog_read.proofs.Told.{of_fault, told}
use Rattle.verilog_read.proofs.reading.tree_of.Goals as goal

-- src/reading.rt:37:34
pub returns-in-Err-Fault-clause-fault : goal.returns-in-Err-Fault-clause-fault
returns-in-Err-Fault-clause-fault c =
    told _ _ _ _ c.broken.ensures
    (subst (λ (f : NoToken). IsVFault c.args.text.now (fault_at V01 f.at)) (sym c.in-Err-Fault.fault-is)
    (no_token c.in-Err-Fault.fault.at
    (of_fault (λ (f : NoToken). NoVToken c.args.text.now f.at) c.in-Err-Fault.field-0 c.in-Err-Fault.fault c.in-Err-Fault.field-0-is
    c.in-Err-Fault.ensures.fault)))

-- src/reading.rt:34:1
pub returns-in-Err-Fault-parse-clause-fault : goal.returns-in-Err-Fault-parse-clause-fault
returns-in-Err-Fault-parse-clause-fault c =
    told _ _ _ _ c.broken-in-Err-Fault-parse.ensures
    (no_syntax (placed c.deref.result.now) c.in-Err-Fault-parse.fault.at
    (subst (λ ts. VTokens c.args.text.now (placed ts)) (sym c.deref.ensures.value) c.in-Ok.ensures.tokens)
    (of_fault (λ (f : SyntaxFault). IsSyntaxFault (length c.args.text.now) (placed c.deref.result.now) f.at)
    c.in-Err-Fault-parse.field-0 c.in-Err-Fault-parse.fault c.in-Err-Fault-parse.field-0-is c.in-Err-Fault-parse.ensures.fault))
