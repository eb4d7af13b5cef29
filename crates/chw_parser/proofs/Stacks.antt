-- Going on by a production keeps a stack fine, and makes it lighter.
use Rattle.std.specs.Prelude.{◌≡◌, ◌<◌, false, List, ◌∷◌, ◌++◌, refl}
use Rattle.std.proofs.Common.{arith}
use Rattle.chw_grammar.specs.declared.terminal.Terminal.{Terminal}
use Rattle.chw_grammar.specs.declared.terminal.Terminal.TheVariants as the
use Rattle.chw_parser.specs.declared.symbol.Symbol.{Symbol}
use Rattle.chw_parser.specs.declared.symbol.Symbol.TheVariants.{Part}
use Rattle.chw_parser.specs.declared.symbol.Rule.{Rule}
use Rattle.chw_parser.specs.declared.symbol.Rule.TheVariants as rule
use Rattle.chw_parser.specs.Ending.{goes_on, first, Fine, weight}
use Rattle.chw_parser.proofs.Produces.{Produces, of_program, of_domain, of_definition, of_data, of_top, of_reset, of_no_reset, of_parameter, of_no_parameter, of_constructor, of_one_more, of_no_constructor, of_atoms, of_no_atom, of_no_input, of_inputs, of_port, of_no_port, of_field, of_no_field, of_forall, of_sum, of_arrow, of_no_arrow, of_plus, of_no_plus, of_more_plus, of_no_more_plus, of_product, of_star, of_no_star, of_more_star, of_no_more_star, of_named, of_atom, of_variable, of_name, of_numeral, of_bracketed, of_lambda, of_type_lambda, of_letrec, of_case, of_application, of_binding, of_no_binding, of_constructor_pattern, of_literal_pattern, of_default, of_no_alternative, of_arguments, of_no_arguments, of_more_arguments, of_no_more_arguments, of_type_argument, of_term_argument, of_name_term, of_constructor_term, of_literal_term, of_vec, of_bracketed_term, of_no_element, of_elements, of_element, of_no_more_element}

ends_Constructor_Atoms : (x : Terminal) → goes_on rule.Constructor x ≡ false → goes_on rule.Atoms x ≡ false
ends_Constructor_Atoms the.Domain h = cc
ends_Constructor_Atoms _ h = cc

ends_Constructors_Constructor : (x : Terminal) → goes_on rule.Constructors x ≡ false → goes_on rule.Constructor x ≡ false
ends_Constructors_Constructor the.Domain h = cc
ends_Constructors_Constructor _ h = cc

ends_Inputs_Ports : (x : Terminal) → goes_on rule.Inputs x ≡ false → goes_on rule.Ports x ≡ false
ends_Inputs_Ports the.Domain h = cc
ends_Inputs_Ports _ h = cc

ends_Type_Product : (x : Terminal) → goes_on rule.Type x ≡ false → goes_on rule.Product x ≡ false
ends_Type_Product the.Domain h = cc
ends_Type_Product _ h = cc

ends_Type_SumTail : (x : Terminal) → goes_on rule.Type x ≡ false → goes_on rule.SumTail x ≡ false
ends_Type_SumTail the.Domain h = cc
ends_Type_SumTail _ h = cc

ends_Type_ArrowTail : (x : Terminal) → goes_on rule.Type x ≡ false → goes_on rule.ArrowTail x ≡ false
ends_Type_ArrowTail the.Domain h = cc
ends_Type_ArrowTail _ h = cc

ends_ArrowTail_Type : (x : Terminal) → goes_on rule.ArrowTail x ≡ false → goes_on rule.Type x ≡ false
ends_ArrowTail_Type the.Domain h = cc
ends_ArrowTail_Type _ h = cc

ends_SumTail_Product : (x : Terminal) → goes_on rule.SumTail x ≡ false → goes_on rule.Product x ≡ false
ends_SumTail_Product the.Domain h = cc
ends_SumTail_Product _ h = cc

ends_SumTail_SumMore : (x : Terminal) → goes_on rule.SumTail x ≡ false → goes_on rule.SumMore x ≡ false
ends_SumTail_SumMore the.Domain h = cc
ends_SumTail_SumMore _ h = cc

ends_SumMore_Product : (x : Terminal) → goes_on rule.SumMore x ≡ false → goes_on rule.Product x ≡ false
ends_SumMore_Product the.Domain h = cc
ends_SumMore_Product _ h = cc

ends_Product_Applied : (x : Terminal) → goes_on rule.Product x ≡ false → goes_on rule.Applied x ≡ false
ends_Product_Applied the.Domain h = cc
ends_Product_Applied _ h = cc

ends_Product_ProductTail : (x : Terminal) → goes_on rule.Product x ≡ false → goes_on rule.ProductTail x ≡ false
ends_Product_ProductTail the.Domain h = cc
ends_Product_ProductTail _ h = cc

ends_ProductTail_Applied : (x : Terminal) → goes_on rule.ProductTail x ≡ false → goes_on rule.Applied x ≡ false
ends_ProductTail_Applied the.Domain h = cc
ends_ProductTail_Applied _ h = cc

ends_ProductTail_ProductMore : (x : Terminal) → goes_on rule.ProductTail x ≡ false → goes_on rule.ProductMore x ≡ false
ends_ProductTail_ProductMore the.Domain h = cc
ends_ProductTail_ProductMore _ h = cc

ends_ProductMore_Applied : (x : Terminal) → goes_on rule.ProductMore x ≡ false → goes_on rule.Applied x ≡ false
ends_ProductMore_Applied the.Domain h = cc
ends_ProductMore_Applied _ h = cc

ends_Applied_Atoms : (x : Terminal) → goes_on rule.Applied x ≡ false → goes_on rule.Atoms x ≡ false
ends_Applied_Atoms the.Domain h = cc
ends_Applied_Atoms _ h = cc

ends_Term_ApplyTail : (x : Terminal) → goes_on rule.Term x ≡ false → goes_on rule.ApplyTail x ≡ false
ends_Term_ApplyTail the.Domain h = cc
ends_Term_ApplyTail _ h = cc

ends_ApplyTail_Arguments : (x : Terminal) → goes_on rule.ApplyTail x ≡ false → goes_on rule.Arguments x ≡ false
ends_ApplyTail_Arguments the.Domain h = cc
ends_ApplyTail_Arguments _ h = cc

ends_Elements_Term : (x : Terminal) → goes_on rule.Elements x ≡ false → goes_on rule.Term x ≡ false
ends_Elements_Term the.Domain h = cc
ends_Elements_Term _ h = cc

ends_Elements_MoreElements : (x : Terminal) → goes_on rule.Elements x ≡ false → goes_on rule.MoreElements x ≡ false
ends_Elements_MoreElements the.Domain h = cc
ends_Elements_MoreElements _ h = cc

ends_MoreElements_Term : (x : Terminal) → goes_on rule.MoreElements x ≡ false → goes_on rule.Term x ≡ false
ends_MoreElements_Term the.Domain h = cc
ends_MoreElements_Term _ h = cc

pub still_fine : {x : Rule} {p : List Symbol} → Produces x p → (s : List Symbol) → goes_on x (first s) ≡ false → Fine s → Fine (p ++ s)
still_fine of_program s h f = (refl, f)
still_fine of_domain s h f = (refl, (refl, (refl, f)))
still_fine of_definition s h f = (refl, (refl, (refl, (refl, (refl, (refl, (refl, f)))))))
still_fine of_data s h f = (refl, (refl, (refl, (refl, (refl, (refl, (refl, f)))))))
still_fine of_top s h f = (refl, (refl, (refl, (refl, (refl, (refl, (refl, (refl, f))))))))
still_fine of_reset s h f = (refl, f)
still_fine of_no_reset s h f = (refl, f)
still_fine of_parameter s h f = (refl, (refl, (refl, (h, f))))
still_fine of_no_parameter s h f = f
still_fine of_constructor s h f = (ends_Constructor_Atoms (first s) h, f)
still_fine of_one_more s h f = (refl, (ends_Constructors_Constructor (first s) h, (h, f)))
still_fine of_no_constructor s h f = f
still_fine of_atoms s h f = (refl, (h, f))
still_fine of_no_atom s h f = f
still_fine of_no_input s h f = f
still_fine of_inputs s h f = (ends_Inputs_Ports (first s) h, f)
still_fine of_port s h f = (refl, (h, f))
still_fine of_no_port s h f = f
still_fine of_field s h f = (h, f)
still_fine of_no_field s h f = f
still_fine of_forall s h f = (refl, (refl, (refl, (refl, (refl, (h, f))))))
still_fine of_sum s h f = (ends_Type_Product (first s) h, (ends_Type_SumTail (first s) h, (ends_Type_ArrowTail (first s) h, f)))
still_fine of_arrow s h f = (refl, (ends_ArrowTail_Type (first s) h, f))
still_fine of_no_arrow s h f = f
still_fine of_plus s h f = (refl, (ends_SumTail_Product (first s) h, (ends_SumTail_SumMore (first s) h, f)))
still_fine of_no_plus s h f = f
still_fine of_more_plus s h f = (refl, (ends_SumMore_Product (first s) h, (h, f)))
still_fine of_no_more_plus s h f = f
still_fine of_product s h f = (ends_Product_Applied (first s) h, (ends_Product_ProductTail (first s) h, f))
still_fine of_star s h f = (refl, (ends_ProductTail_Applied (first s) h, (ends_ProductTail_ProductMore (first s) h, f)))
still_fine of_no_star s h f = f
still_fine of_more_star s h f = (refl, (ends_ProductMore_Applied (first s) h, (h, f)))
still_fine of_no_more_star s h f = f
still_fine of_named s h f = (ends_Applied_Atoms (first s) h, f)
still_fine of_atom s h f = (refl, f)
still_fine of_variable s h f = f
still_fine of_name s h f = f
still_fine of_numeral s h f = f
still_fine of_bracketed s h f = (refl, (refl, (refl, f)))
still_fine of_lambda s h f = (refl, (refl, (refl, (refl, (refl, (refl, (h, f)))))))
still_fine of_type_lambda s h f = (refl, (refl, (refl, (refl, (refl, (h, f))))))
still_fine of_letrec s h f = (refl, (refl, (refl, (refl, (refl, (h, f))))))
still_fine of_case s h f = (refl, (refl, (refl, (refl, (refl, (refl, f))))))
still_fine of_application s h f = (refl, (ends_Term_ApplyTail (first s) h, f))
still_fine of_binding s h f = (refl, (refl, (refl, (refl, (refl, (h, f))))))
still_fine of_no_binding s h f = f
still_fine of_constructor_pattern s h f = (refl, (refl, (refl, (refl, (h, f)))))
still_fine of_literal_pattern s h f = (refl, (refl, (refl, (h, f))))
still_fine of_default s h f = (refl, (refl, (refl, (refl, f))))
still_fine of_no_alternative s h f = f
still_fine of_arguments s h f = (refl, (ends_ApplyTail_Arguments (first s) h, f))
still_fine of_no_arguments s h f = f
still_fine of_more_arguments s h f = (refl, (h, f))
still_fine of_no_more_arguments s h f = f
still_fine of_type_argument s h f = (refl, (refl, f))
still_fine of_term_argument s h f = (refl, f)
still_fine of_name_term s h f = f
still_fine of_constructor_term s h f = f
still_fine of_literal_term s h f = f
still_fine of_vec s h f = (refl, (refl, (refl, (refl, (refl, (refl, f))))))
still_fine of_bracketed_term s h f = (refl, (refl, (refl, f)))
still_fine of_no_element s h f = f
still_fine of_elements s h f = (ends_Elements_Term (first s) h, (ends_Elements_MoreElements (first s) h, f))
still_fine of_element s h f = (refl, (ends_MoreElements_Term (first s) h, (h, f)))
still_fine of_no_more_element s h f = f

pub lighter : {x : Rule} {p : List Symbol} → Produces x p → (s : List Symbol) → weight (p ++ s) < weight (Part x ∷ s)
lighter of_program s = omega arith
lighter of_domain s = omega arith
lighter of_definition s = omega arith
lighter of_data s = omega arith
lighter of_top s = omega arith
lighter of_reset s = omega arith
lighter of_no_reset s = omega arith
lighter of_parameter s = omega arith
lighter of_no_parameter s = omega arith
lighter of_constructor s = omega arith
lighter of_one_more s = omega arith
lighter of_no_constructor s = omega arith
lighter of_atoms s = omega arith
lighter of_no_atom s = omega arith
lighter of_no_input s = omega arith
lighter of_inputs s = omega arith
lighter of_port s = omega arith
lighter of_no_port s = omega arith
lighter of_field s = omega arith
lighter of_no_field s = omega arith
lighter of_forall s = omega arith
lighter of_sum s = omega arith
lighter of_arrow s = omega arith
lighter of_no_arrow s = omega arith
lighter of_plus s = omega arith
lighter of_no_plus s = omega arith
lighter of_more_plus s = omega arith
lighter of_no_more_plus s = omega arith
lighter of_product s = omega arith
lighter of_star s = omega arith
lighter of_no_star s = omega arith
lighter of_more_star s = omega arith
lighter of_no_more_star s = omega arith
lighter of_named s = omega arith
lighter of_atom s = omega arith
lighter of_variable s = omega arith
lighter of_name s = omega arith
lighter of_numeral s = omega arith
lighter of_bracketed s = omega arith
lighter of_lambda s = omega arith
lighter of_type_lambda s = omega arith
lighter of_letrec s = omega arith
lighter of_case s = omega arith
lighter of_application s = omega arith
lighter of_binding s = omega arith
lighter of_no_binding s = omega arith
lighter of_constructor_pattern s = omega arith
lighter of_literal_pattern s = omega arith
lighter of_default s = omega arith
lighter of_no_alternative s = omega arith
lighter of_arguments s = omega arith
lighter of_no_arguments s = omega arith
lighter of_more_arguments s = omega arith
lighter of_no_more_arguments s = omega arith
lighter of_type_argument s = omega arith
lighter of_term_argument s = omega arith
lighter of_name_term s = omega arith
lighter of_constructor_term s = omega arith
lighter of_literal_term s = omega arith
lighter of_vec s = omega arith
lighter of_bracketed_term s = omega arith
lighter of_no_element s = omega arith
lighter of_elements s = omega arith
lighter of_element s = omega arith
lighter of_no_more_element s = omega arith
