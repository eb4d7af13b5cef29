-- The lines of refusals that show a limit, as the texts that the code puts.
use Rattle.std.proofs.Common.{◌≡◌, [], ◌∷◌, ◌++◌, codes, ap, ◌∙◌, arith}
use Rattle.std.specs.Prelude.{decimal}
use Rattle.std.proofs.lemmas.Fmt.{decimal_digit, decimal_step}
use Rattle.chw_cli.specs.Lines.{line_of}
use Rattle.chw_cli.specs.declared.refusal.Refusal.TheVariants.{Bits, DeepBody, Depth, FullTable, LongText, TooLarge}

text_limit : decimal 4194304 ≡ codes "4194304"
text_limit =
    decimal_step 4194304 (omega arith) (omega arith)
    ∙ ap (λ ds. ds ++ 52 ∷ []) (decimal_step 419430 (omega arith) (omega arith)
    ∙ ap (λ ds. ds ++ 48 ∷ []) (decimal_step 41943 (omega arith) (omega arith)
    ∙ ap (λ ds. ds ++ 51 ∷ []) (decimal_step 4194 (omega arith) (omega arith)
    ∙ ap (λ ds. ds ++ 52 ∷ []) (decimal_step 419 (omega arith) (omega arith)
    ∙ ap (λ ds. ds ++ 57 ∷ []) (decimal_step 41 (omega arith) (omega arith)
    ∙ ap (λ ds. ds ++ 49 ∷ []) (decimal_digit 4 (omega arith)))))))

nesting : decimal 200 ≡ codes "200"
nesting =
    decimal_step 200 (omega arith) (omega arith)
    ∙ ap (λ ds. ds ++ 48 ∷ []) (decimal_step 20 (omega arith) (omega arith)
    ∙ ap (λ ds. ds ++ 48 ∷ []) (decimal_digit 2 (omega arith)))

wires : decimal 200000 ≡ codes "200000"
wires =
    decimal_step 200000 (omega arith) (omega arith)
    ∙ ap (λ ds. ds ++ 48 ∷ []) (decimal_step 20000 (omega arith) (omega arith)
    ∙ ap (λ ds. ds ++ 48 ∷ []) (decimal_step 2000 (omega arith) (omega arith)
    ∙ ap (λ ds. ds ++ 48 ∷ []) (decimal_step 200 (omega arith) (omega arith)
    ∙ ap (λ ds. ds ++ 48 ∷ []) (decimal_step 20 (omega arith) (omega arith)
    ∙ ap (λ ds. ds ++ 48 ∷ []) (decimal_digit 2 (omega arith))))))

bit_nodes : decimal 500000 ≡ codes "500000"
bit_nodes =
    decimal_step 500000 (omega arith) (omega arith)
    ∙ ap (λ ds. ds ++ 48 ∷ []) (decimal_step 50000 (omega arith) (omega arith)
    ∙ ap (λ ds. ds ++ 48 ∷ []) (decimal_step 5000 (omega arith) (omega arith)
    ∙ ap (λ ds. ds ++ 48 ∷ []) (decimal_step 500 (omega arith) (omega arith)
    ∙ ap (λ ds. ds ++ 48 ∷ []) (decimal_step 50 (omega arith) (omega arith)
    ∙ ap (λ ds. ds ++ 48 ∷ []) (decimal_digit 5 (omega arith))))))

made_depth : decimal 2000 ≡ codes "2000"
made_depth =
    decimal_step 2000 (omega arith) (omega arith)
    ∙ ap (λ ds. ds ++ 48 ∷ []) (decimal_step 200 (omega arith) (omega arith)
    ∙ ap (λ ds. ds ++ 48 ∷ []) (decimal_step 20 (omega arith) (omega arith)
    ∙ ap (λ ds. ds ++ 48 ∷ []) (decimal_digit 2 (omega arith))))

made_definitions : decimal 4096 ≡ codes "4096"
made_definitions =
    decimal_step 4096 (omega arith) (omega arith)
    ∙ ap (λ ds. ds ++ 54 ∷ []) (decimal_step 409 (omega arith) (omega arith)
    ∙ ap (λ ds. ds ++ 57 ∷ []) (decimal_step 40 (omega arith) (omega arith)
    ∙ ap (λ ds. ds ++ 48 ∷ []) (decimal_digit 4 (omega arith))))

pub long_text_line : line_of LongText ≡ codes "chw: E03 limit text 4194304\n"
long_text_line = ap (λ ds. codes "chw: E03 limit text " ++ ds ++ codes "\n") text_limit

pub depth_line : line_of Depth ≡ codes "chw: E03 limit depth 200\n"
depth_line = ap (λ ds. codes "chw: E03 limit depth " ++ ds ++ codes "\n") nesting

pub too_large_line : line_of TooLarge ≡ codes "chw: E17 size wires 200000\n"
too_large_line = ap (λ ds. codes "chw: E17 size wires " ++ ds ++ codes "\n") wires

pub deep_body_line : line_of DeepBody ≡ codes "chw: E12 depth 2000\n"
deep_body_line = ap (λ ds. codes "chw: E12 depth " ++ ds ++ codes "\n") made_depth

pub full_table_line : line_of FullTable ≡ codes "chw: E17 size made 4096\n"
full_table_line = ap (λ ds. codes "chw: E17 size made " ++ ds ++ codes "\n") made_definitions

pub bits_line : line_of Bits ≡ codes "chw: E21 bits 500000\n"
bits_line = ap (λ ds. codes "chw: E21 bits " ++ ds ++ codes "\n") bit_nodes
