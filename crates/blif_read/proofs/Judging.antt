-- The outcome of a text by that of its statements.
use Rattle.std.proofs.Common.{◌≡◌, ℕ, List, [], Ok, Err, Result}
use Rattle.std.specs.Prelude.{IfOk}
use Rattle.chw_base.specs.Outcome.{IfFault}
use Rattle.chw_base.specs.declared.outcome.Or.{Or}
use Rattle.chw_base.specs.declared.outcome.Or.TheVariants.{Fault, Memory}
use Rattle.blif_text.specs.BlifText.{BlifText, EachIs, HasLength, HasNames, Said, TextSays, net_said}
use Rattle.blif_text.specs.Faults.{HasFault, IsBlifFault}
use Rattle.blif_text.specs.declared.fault.BlifCode.{BlifCode}
use Rattle.blif_text.specs.declared.fault.BlifCode.TheVariants.{B01, B02, B03}
use Rattle.blif_text.specs.declared.fault.BlifFault.{BlifFault}
use Rattle.blif_read.specs.Nets.{IsRuleFault, bitnet_of}
use Rattle.blif_read.specs.declared.bitnet.Bitnet.{Bitnet}

-- statements that keep the rules are those of a net
pub text_is : (text : List ℕ) (all : List Said) (r : Result Bitnet (Or BlifFault)) → TextSays text all
    → IfOk r (λ (b : Bitnet). EachIs (HasNames all) [] all) → IfOk r (λ (b : Bitnet). EachIs HasLength [] all)
    → IfOk r (λ (b : Bitnet). bitnet_of b ≡ net_said all) → IfOk r (λ (b : Bitnet). BlifText text (bitnet_of b))
text_is text all (Ok b) says names lengths net = record { all = all; says = says; names = names; lengths = lengths; net_is = net }
text_is text all (Err e) says names lengths net = tt

-- a rule that statements break is a fault of the text
has_fault : (text : List ℕ) (all : List Said) (code : BlifCode) (line : ℕ) → TextSays text all → IsRuleFault all code line → HasFault text code line
has_fault text all B01 line says broken = absurd broken
has_fault text all B02 line says broken = (all, (says, broken))
has_fault text all B03 line says broken = (all, (says, broken.0, broken.1))

pub rule_fault : (text : List ℕ) (all : List Said) (r : Result Bitnet (Or BlifFault)) → TextSays text all
    → IfFault r (λ fault. IsRuleFault all fault.code fault.line) → IfFault r (IsBlifFault text)
rule_fault text all (Ok b) says broken = tt
rule_fault text all (Err Memory) says broken = tt
rule_fault text all (Err (Fault fault)) says broken = has_fault text all fault.code fault.line says broken
