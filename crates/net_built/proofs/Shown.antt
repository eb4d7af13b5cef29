-- The worked examples.
use Rattle.std.proofs.Common.{ℕ, true, false, refl, arith, List, [], ◌∷◌}
use Rattle.chw_types.specs.BuiltIn.{built_in}
use Rattle.chw_types.specs.declared.declarations.Data.{Data}
use Rattle.type_ports.specs.Ports.{one_leaf, leaves_of_fields, no_leaves, leaves_and}
use Rattle.type_ports.specs.Representable.{Representable, representable_scalar, representable_data, none_to_represent, represent_and}
use Rattle.chw_types.specs.SamePromises.{natural_value}
use Rattle.chw_types.specs.TypeMoves.{rename, up, sub}
use Rattle.chw_types.specs.TypeTree.{TypeTree, nat_lit, scalar, data_of, no_types}
use Rattle.chw_types.specs.declared.kind.Scalar.TheVariants.{B}
use Rattle.chw_types.proofs.SameLaws.{same_self}
use Rattle.chw_terms.specs.TermTree.{TermTree}
use Rattle.chw_terms.specs.declared.scene.Sort.TheVariants.{Circuit}
use Rattle.chw_prims.specs.Schemas.{maybe}
use Rattle.chw_typing.specs.HeadTypes.{of_con, of_lit, of_any}
use Rattle.chw_layout.specs.Datum.{word as Word, built, datum_and, no_data}
use Rattle.chw_layout.specs.Encodes.{Encodes, scalar_bits, data_bits, field_bits, no_field_bits}
use Rattle.chw_layout.specs.Measured.{HasWidth, measured_scalar, measured_data, no_cons_measured, con_measured, no_fields_measured, field_measured}
use Rattle.net_built.specs.Bodies.{value_literal, value_constructor, block_variable, block_letrec, group_none, group_and, side_of_value, side_of_circuit, side_of_case, alts_none, alts_and, body_lambda, body_block}
use Rattle.net_built.specs.Circuits.{of_variable, of_register, of_product, of_projection}
use Rattle.net_built.specs.Data.{HasParts, value_part, port_parts}
use Rattle.net_built.specs.Examples.{word, stream, some_datas, product_type, using, CopyIsBuilt, RegisterIsBuilt, CaseOnDataIsBuilt, CaseOnWordsIsBuilt, CaseOnNothingIsBuilt, ChoiceOfNothingIsBuilt, ConstructorIsBuilt, ProductIsBuilt, SignedProductIsBuilt, ElementByNothingIsBuilt, AddressesAreBuilt, MemoryIsBuilt, PostorderIsBuilt}
use Rattle.net_built.specs.Memories.{denotes_word, denotes_built, denote_none, denote_and}
use Rattle.net_built.specs.Terms.{variable}
use Rattle.net_built.specs.Wires.{wire}
use Rattle.net_built.specs.Modules.{already, without_outputs, behind_its_uses, none_visited, visited_and, HasOutputs}

pub signed_product : SignedProductIsBuilt
signed_product = refl

pub element_by_nothing : ElementByNothingIsBuilt
element_by_nothing = refl

pub addresses : AddressesAreBuilt
addresses = (refl, refl, refl, refl)

pub memory_built : MemoryIsBuilt
memory_built = refl

-- a signal of values has one part
stream_part : {datas : List Data} {t : TypeTree} {w : ℕ} → Representable datas t → HasWidth datas t w → HasParts datas Circuit (stream t) (w ∷ [])
stream_part r w = port_parts (one_leaf {dom = record { number = 0 }} r) (w, tt)

byte_part : HasParts some_datas Circuit (stream (word 8)) (8 ∷ [])
unfolding natural_value
byte_part = stream_part representable_scalar measured_scalar

pub copy_built : CopyIsBuilt
copy_built = body_lambda {widths = 8 ∷ []} byte_part (body_block (block_letrec _ (group_and (side_of_circuit {widths = 8 ∷ []} byte_part of_variable) group_none)))

maybe_width : HasWidth some_datas (maybe (word 3)) 4
unfolding natural_value sub rename up
maybe_width = measured_data refl refl (con_measured no_fields_measured (con_measured (field_measured measured_scalar no_fields_measured) no_cons_measured))

maybe_stands : Representable some_datas (maybe (word 3))
unfolding sub rename up
maybe_stands = representable_data refl refl (represent_and representable_scalar none_to_represent)

maybe_part : HasParts some_datas Circuit (stream (maybe (word 3))) (4 ∷ [])
maybe_part = stream_part maybe_stands maybe_width

just_five_bits : Encodes some_datas (maybe (word 3)) (built 3 (datum_and (Word (true ∷ false ∷ true ∷ [])) no_data)) (true ∷ true ∷ false ∷ true ∷ [])
unfolding natural_value sub rename up
just_five_bits = data_bits 1 4 _ _ (true ∷ false ∷ true ∷ []) refl refl refl (field_bits (scalar_bits refl) no_field_bits) maybe_width

pub register_built : RegisterIsBuilt
register_built =
    body_lambda {widths = 4 ∷ []} maybe_part
    (body_block (block_letrec _ (group_and
    (side_of_circuit {widths = 4 ∷ []} maybe_part (of_register (record { value = _; denotes = denotes_built {c = 3} refl (denote_and denotes_word denote_none); encodes = just_five_bits })))
    group_none)))

byte_width : HasWidth some_datas (word 8) 8
unfolding natural_value
byte_width = measured_scalar

two_width : HasWidth some_datas (word 2) 2
unfolding natural_value
two_width = measured_scalar

no_width : HasWidth some_datas (word 0) 0
unfolding natural_value
no_width = measured_scalar

maybe_byte : HasWidth some_datas (maybe (word 8)) 9
unfolding natural_value sub rename up
maybe_byte = measured_data refl refl (con_measured no_fields_measured (con_measured (field_measured measured_scalar no_fields_measured) no_cons_measured))

pub case_on_data : CaseOnDataIsBuilt
unfolding sub rename up natural_value
case_on_data =
    body_lambda {widths = 9 ∷ []} (value_part maybe_byte)
    (body_block (block_letrec _ (group_and
    (side_of_case _ refl maybe_byte byte_width refl
    (alts_and (8 ∷ []) (of_con _ refl refl refl) (byte_width, tt) refl block_variable
    (alts_and [] (of_con _ refl refl refl) tt refl (block_letrec _ (group_and (side_of_value byte_width value_literal) group_none)) alts_none)))
    group_none)))

pub case_on_words : CaseOnWordsIsBuilt
unfolding natural_value
case_on_words =
    body_lambda {widths = 2 ∷ []} (value_part two_width)
    (body_lambda {widths = 2 ∷ []} (value_part two_width)
    (body_block (block_letrec _ (group_and
    (side_of_case _ refl two_width two_width refl
    (alts_and [] (of_lit (omega arith) (same_self (nat_lit 2))) tt refl block_variable
    (alts_and [] (of_lit (omega arith) (same_self (nat_lit 2))) tt refl (block_letrec _ (group_and (side_of_value two_width value_literal) group_none))
    (alts_and [] of_any tt refl block_variable alts_none))))
    group_none))))

pub case_on_nothing : CaseOnNothingIsBuilt
unfolding natural_value
case_on_nothing =
    body_lambda {widths = 0 ∷ []} (value_part no_width)
    (body_lambda {widths = 8 ∷ []} (value_part byte_width)
    (body_block (block_letrec _ (group_and
    (side_of_case _ refl no_width byte_width refl
    (alts_and [] (of_lit (omega arith) (same_self (nat_lit 0))) tt refl block_variable
    (alts_and [] of_any tt refl
    (block_letrec (variable (word 8) (wire 0 ∷ []) ∷ []) (group_and
    (side_of_case _ refl byte_width byte_width refl (alts_and [] of_any tt refl block_variable alts_none))
    group_none))
    alts_none)))
    group_none))))

pub choice_of_nothing : ChoiceOfNothingIsBuilt
unfolding natural_value
choice_of_nothing =
    body_lambda {widths = 8 ∷ []} (value_part byte_width)
    (body_block (block_letrec _ (group_and
    (side_of_case _ refl byte_width no_width refl
    (alts_and [] (of_lit (omega arith) (same_self (nat_lit 8))) tt refl (block_letrec _ (group_and (side_of_value no_width value_literal) group_none))
    (alts_and [] of_any tt refl (block_letrec _ (group_and (side_of_value no_width value_literal) group_none))
    alts_none)))
    group_none)))

bit_width : HasWidth some_datas (scalar B (nat_lit 1)) 1
unfolding natural_value
bit_width = measured_scalar

t_width : HasWidth some_datas (data_of 4 no_types) 4
unfolding natural_value sub rename up
t_width = measured_data refl refl (con_measured (field_measured measured_scalar no_fields_measured) (con_measured no_fields_measured (con_measured (field_measured measured_scalar no_fields_measured) no_cons_measured)))

pub constructor_built : ConstructorIsBuilt
unfolding natural_value sub rename up
constructor_built =
    body_lambda {widths = 1 ∷ []} (value_part bit_width)
    (body_block (block_letrec _ (group_and (side_of_value t_width (value_constructor {fields = 1} refl (field_measured measured_scalar no_fields_measured))) group_none)))

nothing_part : HasParts some_datas Circuit (stream (word 0)) (0 ∷ [])
nothing_part = stream_part representable_scalar no_width

product_part : HasParts some_datas Circuit product_type (0 ∷ 8 ∷ [])
unfolding sub rename up natural_value
product_part =
    port_parts
    (leaves_of_fields refl refl refl refl
    (leaves_and (one_leaf {dom = record { number = 0 }} representable_scalar)
    (leaves_and (one_leaf {dom = record { number = 0 }} representable_scalar) no_leaves)))
    (no_width, (byte_width, tt))

pub product_built : ProductIsBuilt
unfolding sub rename up natural_value
product_built =
    body_lambda {widths = 8 ∷ []} byte_part
    (body_lambda {widths = 0 ∷ []} nothing_part
    (body_block (block_letrec _
    (group_and (side_of_circuit {widths = 0 ∷ 8 ∷ []} product_part of_product)
    (group_and (side_of_circuit {widths = 8 ∷ []} byte_part (of_projection ((0 ∷ []) ∷ (8 ∷ []) ∷ []) refl (of_con _ refl refl refl) (nothing_part, (byte_part, tt))))
    group_none)))))

gives_byte_by : (e : TermTree) → HasOutputs built_in (using (word 8) e) 1
unfolding natural_value
gives_byte_by e = record { widths = 8 ∷ []; parts = value_part measured_scalar; are = refl }

gives_nothing_by : (e : TermTree) → HasOutputs built_in (using (word 0) e) 0
unfolding natural_value
gives_nothing_by e = record { widths = 0 ∷ []; parts = value_part measured_scalar; are = refl }

pub postorder : PostorderIsBuilt
postorder =
    record {
      top = _;
      is_top = refl;
      below = 2 ∷ 1 ∷ [];
      visited =
          visited_and
          (behind_its_uses {count = 0} refl refl (gives_byte_by _)
          (visited_and (behind_its_uses {count = 0} refl refl (gives_byte_by _) none_visited) none_visited))
          (visited_and (without_outputs refl refl (gives_nothing_by _))
          (visited_and (already refl) none_visited));
      whole = refl;
    }
