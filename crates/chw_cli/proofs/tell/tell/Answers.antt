use Rattle.std.proofs.Common.{refl, ap, sym}
use Rattle.chw_cli.specs.Telling.{place_line}
use Rattle.chw_cli.proofs.Limits.{bits_line, deep_body_line, depth_line, long_text_line, too_large_line, full_table_line}
use Rattle.chw_cli.proofs.Telling.{told_by}
use Rattle.chw_cli.proofs.tell.tell.Goals as goal

pub returns-in-Words : goal.returns-in-Words
returns-in-Words g c =
    told_by g.E.Sink.put_gives g.E.Sink.written g.E.Sink.faults c.args.refusal.now _ c.in-Words.is _ ⊥ _ _ _ _ refl refl (λ no. absurd no) c.put_line.ensures

pub returns-in-LongText : goal.returns-in-LongText
returns-in-LongText g c =
    told_by g.E.Sink.put_gives g.E.Sink.written g.E.Sink.faults c.args.refusal.now _ c.in-LongText.is _ ⊥ _ _ _ _ (sym long_text_line) refl (λ no. absurd no) c.put_line-in-LongText.ensures

pub returns-in-TooLarge : goal.returns-in-TooLarge
returns-in-TooLarge g c =
    told_by g.E.Sink.put_gives g.E.Sink.written g.E.Sink.faults c.args.refusal.now _ c.in-TooLarge.is _ ⊥ _ _ _ _ (sym too_large_line) refl (λ no. absurd no) c.put_line-in-TooLarge.ensures

pub returns-in-Bits : goal.returns-in-Bits
returns-in-Bits g c =
    told_by g.E.Sink.put_gives g.E.Sink.written g.E.Sink.faults c.args.refusal.now _ c.in-Bits.is _ ⊥ _ _ _ _ (sym bits_line) refl (λ no. absurd no) c.put_line-in-Bits.ensures

pub returns-in-Write : goal.returns-in-Write
returns-in-Write g c =
    told_by g.E.Sink.put_gives g.E.Sink.written g.E.Sink.faults c.args.refusal.now _ c.in-Write.is _ ⊥ _ _ _ _ refl refl (λ no. absurd no) c.put_line-in-Write.ensures

pub returns-in-Memory : goal.returns-in-Memory
returns-in-Memory g c =
    told_by g.E.Sink.put_gives g.E.Sink.written g.E.Sink.faults c.args.refusal.now _ c.in-Memory.is _ ⊥ _ _ _ _ refl refl (λ no. absurd no) c.put_line-in-Memory.ensures

pub returns-in-Lex : goal.returns-in-Lex
returns-in-Lex g c =
    told_by g.E.Sink.put_gives g.E.Sink.written g.E.Sink.faults c.args.refusal.now _ c.in-Lex.is _ (Unit {0}) _ _ _ _ refl refl (λ _. tt) c.tell_place.ensures

pub returns-in-Syntax : goal.returns-in-Syntax
returns-in-Syntax g c =
    told_by g.E.Sink.put_gives g.E.Sink.written g.E.Sink.faults c.args.refusal.now _ c.in-Syntax.is _ (Unit {0}) _ _ _ _ refl refl (λ _. tt) c.tell_place-in-Syntax.ensures

pub returns-in-Depth : goal.returns-in-Depth
returns-in-Depth g c =
    told_by g.E.Sink.put_gives g.E.Sink.written g.E.Sink.faults c.args.refusal.now _ c.in-Depth.is _ ⊥ _ _ _ _ (sym depth_line) refl (λ no. absurd no) c.put_line-in-Depth.ensures

pub returns-in-DeepBody : goal.returns-in-DeepBody
returns-in-DeepBody g c =
    told_by g.E.Sink.put_gives g.E.Sink.written g.E.Sink.faults c.args.refusal.now _ c.in-DeepBody.is _ ⊥ _ _ _ _ (sym deep_body_line) refl (λ no. absurd no) c.put_line-in-DeepBody.ensures

pub returns-in-FullTable : goal.returns-in-FullTable
returns-in-FullTable g c =
    told_by g.E.Sink.put_gives g.E.Sink.written g.E.Sink.faults c.args.refusal.now _ c.in-FullTable.is _ ⊥ _ _ _ _ (sym full_table_line) refl (λ no. absurd no) c.put_line-in-FullTable.ensures

pub returns-in-Spent : goal.returns-in-Spent
returns-in-Spent g c =
    told_by g.E.Sink.put_gives g.E.Sink.written g.E.Sink.faults c.args.refusal.now _ c.in-Spent.is _ (Unit {0}) _ _ _ _ refl refl (λ _. tt) c.tell_place-in-Spent.ensures

pub returns-in-Verilog : goal.returns-in-Verilog
returns-in-Verilog g c =
    told_by g.E.Sink.put_gives g.E.Sink.written g.E.Sink.faults c.args.refusal.now _ c.in-Verilog.is _ (Unit {0}) _ _ _ _
    (ap (λ words. place_line words c.in-Verilog.fault.at) c.rule_words.ensures) refl (λ _. tt) c.tell_place-in-Verilog.ensures

pub returns-in-Stimulus : goal.returns-in-Stimulus
returns-in-Stimulus g c =
    told_by g.E.Sink.put_gives g.E.Sink.written g.E.Sink.faults c.args.refusal.now _ c.in-Stimulus.is _ (Unit {0}) _ _ _ _
    (ap (λ words. place_line words c.in-Stimulus.fault.line) c.stim_words.ensures) refl (λ _. tt) c.tell_place-in-Stimulus.ensures

pub returns-in-Value : goal.returns-in-Value
returns-in-Value g c =
    told_by g.E.Sink.put_gives g.E.Sink.written g.E.Sink.faults c.args.refusal.now _ c.in-Value.is _ (Unit {0}) _ _ _ _ refl refl (λ _. tt) c.tell_place-in-Value.ensures

pub returns-in-State : goal.returns-in-State
returns-in-State g c =
    told_by g.E.Sink.put_gives g.E.Sink.written g.E.Sink.faults c.args.refusal.now _ c.in-State.is _ ⊥ _ _ _ _ c.as_slice.ensures refl (λ no. absurd no) c.put_bytes.ensures
