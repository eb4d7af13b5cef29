-- The whole programs show what they should, by computation.
use Rattle.std.proofs.Common.{ℕ, refl}
use Rattle.chw_types.specs.TypeMoves.{rename, up, sub}
use Rattle.chw_types.specs.SamePromises.{natural_value}
use Rattle.chw_terms.specs.Evaluated.{evaluated}
use Rattle.chw_meaning.specs.Laws.{GivenIsSo, PortsAreSo, FitIsSo, MeantIsSo}
use Rattle.chw_meaning.specs.Layouts.{measured_by, encoded_by, guessed_by}
use Rattle.chw_meaning.specs.Meant.{yields_by, port_given_by, on_inputs_by, port_leaves_by, type_leaves_by}
use Rattle.chw_meaning.specs.Run.{zero_by, eval}
use Rattle.chw_meaning.specs.TopsShown.{PairInShown, WithoutWidthShown, EndlessPartShown, TwoInputsShown, OtherTickShown, BothTickShown, PairOutShown, ProductOutShown, RecursiveOutShown, ProductInShown, VectorOutShown, NestedVectorShown, ValueInShown, ResetShown}

-- how deep the examples are evaluated
abbrev deep : ℕ
deep = 1000

module _ (given : GivenIsSo) (ports : PortsAreSo) (fit : FitIsSo) (meaning : MeantIsSo) where
  pub pair_in_shown : PairInShown
  unfolding eval zero_by sub rename up natural_value evaluated measured_by encoded_by guessed_by yields_by port_given_by on_inputs_by port_leaves_by type_leaves_by
  pair_in_shown = (ports deep _ _ refl, fit deep _ _ _ refl, meaning deep _ _ _ _ refl, meaning deep _ _ _ _ refl, meaning deep _ _ _ _ refl, meaning deep _ _ _ _ refl)

  pub without_width_shown : WithoutWidthShown
  unfolding eval zero_by sub rename up natural_value evaluated measured_by encoded_by guessed_by yields_by port_given_by on_inputs_by port_leaves_by type_leaves_by
  without_width_shown = (ports deep _ _ refl, fit deep _ _ _ refl, meaning deep _ _ _ _ refl)

  pub endless_part_shown : EndlessPartShown
  unfolding eval zero_by sub rename up natural_value evaluated measured_by encoded_by guessed_by yields_by port_given_by on_inputs_by port_leaves_by type_leaves_by
  endless_part_shown = (ports deep _ _ refl, fit deep _ _ _ refl, meaning deep _ _ _ _ refl, given deep _ _ _ _ _ _ _ refl)

  pub two_inputs_shown : TwoInputsShown
  unfolding eval zero_by sub rename up natural_value evaluated measured_by encoded_by guessed_by yields_by port_given_by on_inputs_by port_leaves_by type_leaves_by
  two_inputs_shown = (ports deep _ _ refl, fit deep _ _ _ refl, meaning deep _ _ _ _ refl, meaning deep _ _ _ _ refl, meaning deep _ _ _ _ refl, meaning deep _ _ _ _ refl, meaning deep _ _ _ _ refl, meaning deep _ _ _ _ refl, meaning deep _ _ _ _ refl)

  pub other_tick_shown : OtherTickShown
  unfolding eval zero_by sub rename up natural_value evaluated measured_by encoded_by guessed_by yields_by port_given_by on_inputs_by port_leaves_by type_leaves_by
  other_tick_shown = (fit deep _ _ _ refl, meaning deep _ _ _ _ refl, meaning deep _ _ _ _ refl, meaning deep _ _ _ _ refl, meaning deep _ _ _ _ refl)

  pub both_tick_shown : BothTickShown
  unfolding eval zero_by sub rename up natural_value evaluated measured_by encoded_by guessed_by yields_by port_given_by on_inputs_by port_leaves_by type_leaves_by
  both_tick_shown = (fit deep _ _ _ refl, meaning deep _ _ _ _ refl, meaning deep _ _ _ _ refl, meaning deep _ _ _ _ refl, meaning deep _ _ _ _ refl)

  pub pair_out_shown : PairOutShown
  unfolding eval zero_by sub rename up natural_value evaluated measured_by encoded_by guessed_by yields_by port_given_by on_inputs_by port_leaves_by type_leaves_by
  pair_out_shown = (ports deep _ _ refl, fit deep _ _ _ refl, meaning deep _ _ _ _ refl, meaning deep _ _ _ _ refl, meaning deep _ _ _ _ refl, meaning deep _ _ _ _ refl, meaning deep _ _ _ _ refl)

  pub product_out_shown : ProductOutShown
  unfolding eval zero_by sub rename up natural_value evaluated measured_by encoded_by guessed_by yields_by port_given_by on_inputs_by port_leaves_by type_leaves_by
  product_out_shown = (ports deep _ _ refl, fit deep _ _ _ refl, meaning deep _ _ _ _ refl, meaning deep _ _ _ _ refl, meaning deep _ _ _ _ refl, meaning deep _ _ _ _ refl, meaning deep _ _ _ _ refl, meaning deep _ _ _ _ refl)

  pub recursive_out_shown : RecursiveOutShown
  unfolding eval zero_by sub rename up natural_value evaluated measured_by encoded_by guessed_by yields_by port_given_by on_inputs_by port_leaves_by type_leaves_by
  recursive_out_shown = (meaning deep _ _ _ _ refl, meaning deep _ _ _ _ refl)

  pub product_in_shown : ProductInShown
  unfolding eval zero_by sub rename up natural_value evaluated measured_by encoded_by guessed_by yields_by port_given_by on_inputs_by port_leaves_by type_leaves_by
  product_in_shown =
      (ports deep _ _ refl, fit deep _ _ _ refl, (meaning deep _ _ _ _ refl, meaning deep _ _ _ _ refl, meaning deep _ _ _ _ refl), (meaning deep _ _ _ _ refl, meaning deep _ _ _ _ refl, meaning deep _ _ _ _ refl), (meaning deep _ _ _ _ refl, meaning deep _ _ _ _ refl, meaning deep _ _ _ _ refl), (meaning deep _ _ _ _ refl, meaning deep _ _ _ _ refl, meaning deep _ _ _ _ refl), (meaning deep _ _ _ _ refl, meaning deep _ _ _ _ refl, meaning deep _ _ _ _ refl), (meaning deep _ _ _ _ refl, meaning deep _ _ _ _ refl, meaning deep _ _ _ _ refl), meaning deep _ _ _ _ refl, (meaning deep _ _ _ _ refl, meaning deep _ _ _ _ refl, meaning deep _ _ _ _ refl), meaning deep _ _ _ _ refl)

  pub vector_out_shown : VectorOutShown
  unfolding eval zero_by sub rename up natural_value evaluated measured_by encoded_by guessed_by yields_by port_given_by on_inputs_by port_leaves_by type_leaves_by
  vector_out_shown = (ports deep _ _ refl, fit deep _ _ _ refl, meaning deep _ _ _ _ refl, meaning deep _ _ _ _ refl, meaning deep _ _ _ _ refl)

  pub nested_vector_shown : NestedVectorShown
  unfolding eval zero_by sub rename up natural_value evaluated measured_by encoded_by guessed_by yields_by port_given_by on_inputs_by port_leaves_by type_leaves_by
  nested_vector_shown = (fit deep _ _ _ refl, meaning deep _ _ _ _ refl)

  pub value_in_shown : ValueInShown
  unfolding eval zero_by sub rename up natural_value evaluated measured_by encoded_by guessed_by yields_by port_given_by on_inputs_by port_leaves_by type_leaves_by
  value_in_shown = given deep _ _ _ _ _ _ _ refl

  pub reset_shown : ResetShown
  unfolding eval zero_by sub rename up natural_value evaluated measured_by encoded_by guessed_by yields_by port_given_by on_inputs_by port_leaves_by type_leaves_by
  reset_shown = (ports deep _ _ refl, fit deep _ _ _ refl, meaning deep _ _ _ _ refl, meaning deep _ _ _ _ refl, meaning deep _ _ _ _ refl, meaning deep _ _ _ _ refl)
