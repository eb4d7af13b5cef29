use Rattle.net_grounds.proofs.laws.facts.Goals as goal

pub returns : goal.returns
returns c = record {
  same = c.types_that_are_the_same.ensures;
  scopes = c.types_of_variables.ensures;
  kinds = c.kinds_of_types.ensures;
  terms = c.types_of_terms.ensures;
  patterns = c.patterns_of_types.ensures;
  constructors = c.constructors_by_number.ensures;
  measures = c.measures_of_types.ensures;
  widths = c.widths_of_types.ensures;
  same_layout = c.layouts_of_same_types.ensures;
  ports = c.leaves_of_ports.ensures;
  encodings = c.encodings_of_values.ensures;
  words = c.values_of_words.ensures;
  shows = c.bits_that_thunks_show.ensures;
  environments = c.thunks_of_variables.ensures;
  cases = c.bits_of_cases.ensures;
  data_bits = c.bits_of_data.ensures;
  vectors = c.bits_of_vectors.ensures;
  prims = c.bits_of_primitives.ensures;
  signals = c.bits_of_signals.ensures;
  cells = c.bits_of_cells.ensures;
  data_cells = c.bits_of_cells_of_data.ensures;
  built = c.parts_of_built_nets.ensures;
  flat = c.wires_of_flat_nets.ensures;
}
