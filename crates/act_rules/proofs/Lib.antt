mod Called
mod Computed
mod Folds
mod Given
mod Joins
mod Lines
mod Maps
mod Names
mod Parameters
mod PrimElements
mod PrimIndexed
mod PrimPlaces
mod PrimRules
mod Replaces
mod Shapes
mod Unrolled
mod Words
pub mod AppCase
pub mod Arguments
pub mod Beta
pub mod CaseCase
pub mod CaseMoves
pub mod CaseNamed
pub mod CasePlaces
pub mod CaseSpines
pub mod Choices
pub mod Constructed
pub mod Dead
pub mod Expanded
pub mod Flat
pub mod Frames
pub mod Groups
pub mod Inline
pub mod Instances
pub mod Joined
pub mod Known
pub mod Lets
pub mod Literals
pub mod Made
pub mod Marks
pub mod NameElements
pub mod NameIndexed
pub mod NamedCalls
pub mod Opened
pub mod Opening
pub mod Operands
pub mod Parts
pub mod Payloads
pub mod Plugged
pub mod PrimCase
pub mod PrimLet
pub mod Projected
pub mod Rights
pub mod RuleMoves
pub mod Rules
pub mod Scrutinees
pub mod Sides
pub mod StepSpines
pub mod Steps
pub mod Taken
pub mod Turns
pub mod Unfolded
pub mod Variables
pub mod Wholes
