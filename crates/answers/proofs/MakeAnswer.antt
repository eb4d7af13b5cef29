pub mod Digits
pub mod EventLines
pub mod OneTally
pub mod Stimuli
pub mod StimulusValues
pub mod Totals
pub mod WholeSums
