use Rattle.std.proofs.Common.{sym, subst, ◌∙◌}
use Rattle.verilog_checks.specs.Narrow.{AreNarrow}
use Rattle.verilog_names.proofs.modules.clocks_of.Goals as goal

pub of-requires-clause-inputs : goal.of-requires-clause-inputs
of-requires-clause-inputs c = subst AreNarrow (sym (c.deref.ensures.value ∙ c.in_ok-inputs.ensures)) c.requires.inputs

pub of-requires-clause-outputs : goal.of-requires-clause-outputs
of-requires-clause-outputs c = subst AreNarrow (sym (c.deref-2.ensures.value ∙ c.in_ok-outputs.ensures)) c.requires.outputs
