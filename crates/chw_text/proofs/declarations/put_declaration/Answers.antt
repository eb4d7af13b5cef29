use Rattle.std.proofs.Common.{◌++◌, sym, ap, ◌∙◌}
use Rattle.chw_grammar.specs.Text.{declaration_text}
use Rattle.chw_text.proofs.DeclarationForms.{domain_puts, data_puts, def_puts}
use Rattle.chw_text.proofs.declarations.put_declaration.Goals as goal

pub returns-in_ok-put_end-in-Domain : goal.returns-in_ok-put_end-in-Domain
returns-in_ok-put_end-in-Domain c =
    domain_puts c.in-Domain.has_reset c.in_ok-put_sign-in-Domain.ensures c.in_ok-put_word-in-Domain.ensures c.in_ok-put_reset-in-Domain.ensures c.in_ok-put_end-in-Domain.ensures
    ∙ ap (λ d. c.args.out.now.items ++ declaration_text d) (sym c.in-Domain.is)

pub returns-in_ok-put_end-in-Data : goal.returns-in_ok-put_end-in-Data
returns-in_ok-put_end-in-Data c =
    data_puts c.in-Data.parameters c.as_slice.result.now c.in-Data.constructors c.as_slice-in-Data.result.now c.as_slice.ensures c.as_slice-in-Data.ensures c.in_ok-put_sign-in-Data.ensures c.in_ok-put_word-in-Data.ensures c.in_ok-put_parameters-in-Data.ensures c.in_ok-put_sign-in-Data-2.ensures c.in_ok-put_constructors-in-Data.ensures c.in_ok-put_end-in-Data.ensures
    ∙ ap (λ d. c.args.out.now.items ++ declaration_text d) (sym c.in-Data.is)

pub returns-in_ok-put_end-in-Def : goal.returns-in_ok-put_end-in-Def
returns-in_ok-put_end-in-Def c =
    def_puts c.in-Def.ty c.in-Def.term c.in_ok-put_sign-in-Def.ensures c.in_ok-put_typed_name-in-Def.ensures c.in_ok-put_term-in-Def.ensures c.in_ok-put_end-in-Def.ensures
    ∙ ap (λ d. c.args.out.now.items ++ declaration_text d) (sym c.in-Def.is)
