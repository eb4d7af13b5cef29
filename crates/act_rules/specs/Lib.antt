pub mod CaseLaws
pub mod ContextLaws
pub mod LetLaws
pub mod NameLaws
pub mod PrimLaws
pub mod RuleLaws
pub mod SignalLaws
pub mod StepLaws
