use Rattle.net_means.proofs.NetBits.Context.{Laws}
use Rattle.net_means.proofs.NetBits.Induction.{all_have, inputs_there}
use Rattle.net_means.proofs.NetBits.SomeBits.{wires_have, wires_once}
use Rattle.net_means.proofs.net_bits.laws.all_have_bits.Goals as goal

pub returns : goal.returns
returns c = λ d flat places inputs path last h b g scope γ good of sound ordered given past fits at inside.
    let laws : Laws = record {
      keep = c.fields_keep_same.ensures;
      values = c.same_values.ensures;
      measure = c.same_types_keep_layout.ensures.measure;
      prims = c.saturated_spines.ensures.prim;
      sides = c.sides_bear.ensures;
      cases = c.cases_bear.ensures;
      fields = c.variables_of_alternatives_bear.ensures;
      back = c.first_alternatives_are_taken.ensures.back;
      cell_cases = c.cases_bear_results.ensures.on_tested;
      tags = c.tags_show.ensures.there;
      fields_carry = c.fields_show.ensures.all;
      places = c.numbers_of_constructors.ensures.places;
      names = c.copies_have.ensures.name;
      crossings = c.copies_have.ensures.crossing;
      constants = c.delays_have.ensures.constant;
      registers = c.delays_have.ensures.register;
      products = c.products_have.ensures.product;
      projections = c.products_have.ensures.projection;
      parts = c.leaves_have_fields.ensures;
      empty = c.empty_leaves_have.ensures;
      followers = c.followers_have.ensures;
      calls = c.uses_have.ensures.call;
      lifts = c.uses_have.ensures.lift;
      samples = c.samples_have.ensures;
      memories = c.memories_have.ensures;
      side_order = c.sides_settle.ensures;
      looks_order = c.cases_settle.ensures.looks;
      results_order = c.cases_settle.ensures.result;
      fields_order = c.fields_settle.ensures;
      copies_order = c.copies_settle.ensures.name;
      crossings_order = c.copies_settle.ensures.crossing;
      products_order = c.copies_settle.ensures.product;
      projections_order = c.copies_settle.ensures.projection;
      uses_order = c.uses_settle.ensures.output;
      inputs_order = c.uses_settle.ensures.input;
    } in
    all_have c.facts.ensures
    (record {
      laws = laws;
      d = d;
      inputs = inputs;
      order = c.settled_in_order.ensures d.net flat places of ordered;
      good = good;
      last = last;
      given = given;
      top = inputs_there d inputs last h past fits given;
      have = λ k is. wires_have c.facts.ensures c.bits_through_uses.ensures c.an_order_excludes_loops.ensures c.every_wire_has_a_value.ensures c.a_wire_has_one_value.ensures d.net flat places good of sound ordered k is;
      once = λ k is. wires_once c.facts.ensures c.bits_through_uses.ensures c.an_order_excludes_loops.ensures c.every_wire_has_a_value.ensures c.a_wire_has_one_value.ensures d.net flat places good of sound ordered k is;
    })
    h past fits path b g scope γ at inside
