pub mod DegreesFit
pub mod KindsKept
pub mod SameForms
pub mod SameKept
pub mod Standing
pub mod StepByStep
