-- What is promised of the bits of cells of data.
use Rattle.cell_bits.specs.AddressLaws.{AddressesBear, NarrowNumbers}
use Rattle.cell_bits.specs.ChoiceLaws.{CasesOfBear}
use Rattle.cell_bits.specs.DataLaws.{ConstructorsBear, FieldsBear}
use Rattle.cell_bits.specs.ElementLaws.{ElementsBear, IndexedBear, VectorsBear}

-- facts on the bits of cells of data
pub record DataCellFacts : Type 0 where
  -- the cells of a constructor give the tag, the bits of its fields, and zeros
  pub constructed_bears : ConstructorsBear
  -- the cuts of fields give the bits of each
  pub fields_bear : FieldsBear
  -- the join of elements gives their bits in order
  pub vector_bears : VectorsBear
  -- the cut of an element gives its bits
  pub elements_bear : ElementsBear
  -- the cells of an indexed element give the bits of the element of that number, or of the last
  pub indexed_element_bears : IndexedBear
  -- the cells of a case give the result of the alternative that is taken
  pub case_of_bears : CasesOfBear
  -- the cells of an address give it at 12 bits
  pub address_bears : AddressesBear
  -- its number is that of the address, or one that no memory reaches
  pub narrow_number : NarrowNumbers
