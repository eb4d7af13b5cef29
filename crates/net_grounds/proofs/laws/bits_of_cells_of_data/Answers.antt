use Rattle.net_grounds.proofs.laws.bits_of_cells_of_data.Goals as goal

pub returns : goal.returns
returns c = record {
  constructed_bears = c.constructors_bear_encodings.ensures;
  fields_bear = c.fields_bear_values.ensures.apart;
  vector_bears = c.vectors_bear_elements.ensures;
  elements_bear = c.elements_bear_values.ensures.one;
  indexed_element_bears = c.elements_bear_values.ensures.indexed;
  case_of_bears = c.cases_bear_results.ensures.on_whole;
  address_bears = c.addresses_bear_numbers.ensures.bears;
  narrow_number = c.addresses_bear_numbers.ensures.number;
}
