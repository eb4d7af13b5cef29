pub mod MakeTyped
