use Rattle.std.proofs.Common.{◌+◌, ◌/◌, ◌%◌, ◌++◌, [], ◌∷◌, sym, ap, ◌∙◌, append_assoc}
use Rattle.waves.specs.Vcd.{code_of}
use Rattle.waves.proofs.CodeDigits.{code_few, code_more, on_ok}
use Rattle.waves.proofs.codes.+put_code.Goals as goal

pub returns-then-number-lt-BASE : goal.returns-then-number-lt-BASE
returns-then-number-lt-BASE t c =
    on_ok c.put_digit.result _ _ (λ written. written ∙ ap (λ code. c.args.out.now.items ++ code) (sym (code_few c.args.number c.if-number-lt-BASE.true))) c.put_digit.ensures

pub returns : goal.returns
returns t c =
    let n = c.args.number in
    let out = c.args.out.now.items in
    on_ok c.put_digit-2.result _ _
    (λ written. written ∙ ap (λ l. l ++ (33 + n % 94) ∷ []) c.in_ok-put_code.ensures ∙ append_assoc out (code_of (n / 94)) ((33 + n % 94) ∷ [])
    ∙ ap (λ code. out ++ code) (sym (code_more n c.if-number-lt-BASE.false)))
    c.put_digit-2.ensures
